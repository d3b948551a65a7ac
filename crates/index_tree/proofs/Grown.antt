-- A tree in which a key was put is a tree.
use Rattle.std.proofs.Common.{◌≡◌, ℕ, zero, suc, ◌+◌, ◌≤◌, List, [], ◌∷◌, ◌++◌, take, drop, Some, None, refl, sym, ap, subst, ◌∙◌, arith}
use Rattle.std.proofs.lemmas.List.{take-append-drop}
use Rattle.regions.specs.declared.place.Place.{Place}
use Rattle.tree_nodes.specs.Nodes.{TreeNode, no_place}
use Rattle.index_tree.specs.Inserts.{AreChained, Plants, times}
use Rattle.index_tree.specs.Links.{Nodes}
use Rattle.index_tree.specs.Trees.{AreLinked, IsSpare, IsSubtree, IsTree, TreeState, leaves_below, nodes_below}
use Rattle.index_tree.proofs.InsertRows.{all_by_times, times_append, times_of_all}
use Rattle.index_tree.proofs.Once.{apart_of_once, once_of_apart, stands_at, times_at}
use Rattle.place_lemmas.proofs.Places.{some_is}

-- ---- leaves in order

pub linked_chained : (nodes : Nodes) (ps : List Place) → AreLinked nodes ps → AreChained nodes ps no_place
linked_chained nodes [] l = tt
linked_chained nodes (p ∷ []) l = (l, tt)
linked_chained nodes (p ∷ q ∷ ps) l = (l.0, linked_chained nodes (q ∷ ps) l.1)

pub chained_linked : (nodes : Nodes) (ps : List Place) → AreChained nodes ps no_place → AreLinked nodes ps
chained_linked nodes [] c = tt
chained_linked nodes (p ∷ []) c = c.0
chained_linked nodes (p ∷ q ∷ ps) c = (c.0, chained_linked nodes (q ∷ ps) c.1)

pub spare_same : (nodes new : Nodes) (q : Place) → new q ≡ nodes q → IsSpare nodes q → IsSpare new q
spare_same nodes new q same s = record { node = s.node; is = same ∙ s.is; room = s.room; parent = s.parent; next = s.next; children = s.children }

module _ (nodes new : Nodes) (t : TreeState) (tree : IsTree nodes t) (n grown : ℕ) (p : Place) (key : List ℕ) (number : ℕ)
    (r : Plants nodes new t.level t.root grown p key number (drop n t.spares)) where
  abbrev kept : List Place
  kept = take n t.spares

  abbrev used : List Place
  used = drop n t.spares

  abbrev before : List Place
  before = nodes_below nodes t.level t.root

  abbrev now : List Place
  now = nodes_below new grown (Some p)

  -- how often a place is in the spares and the nodes, before and now
  counted : (q : Place) → times q (t.spares ++ before) ≡ times q kept + times q used + times q before
  counted q =
      let split = ap (times q) (take-append-drop n t.spares) in
      let two = times_append q kept used in
      let all = times_append q t.spares before in
      omega (arith, split, two, all)

  counted_now : (q : Place) → times q (kept ++ now) ≡ times q kept + times q used + times q before
  counted_now q = let all = times_append q kept now in let more = r.places q in omega (arith, all, more)

  once : (q : Place) → times q (t.spares ++ before) ≤ 1
  once q = once_of_apart (t.spares ++ before) tree.apart q

  same_kept : (q : Place) → 1 ≤ times q kept → new q ≡ nodes q
  same_kept q some =
      r.others q (let low = once q in let all = counted q in let two = times_append q before used in omega (arith, some, low, all, two))

  stands_now : (q : Place) (node : TreeNode) → new q ≡ Some node → (m : ℕ) → times q (before ++ used) ≡ m → 1 ≤ times q (kept ++ now)
  stands_now q node is zero none =
      let there = tree.every q node (sym (r.others q none) ∙ is) in
      let some = times_at q (t.spares ++ before) there.0 there.1 in
      let all = counted q in let after = counted_now q in
      omega (arith, some, all, after)
  stands_now q node is (suc m) many =
      let two = times_append q before used in let after = counted_now q in
      omega (arith, many, two, after)

  pub regrown : IsTree new (record { root = Some p; level = grown; spares = take n t.spares })
  regrown = record {
    rooted = λ q is. subst (λ x. IsSubtree new grown None None None x) (some_is is) r.rooted;
    linked = chained_linked new (leaves_below new grown (Some p)) (r.chained (linked_chained nodes (leaves_below nodes t.level t.root) tree.linked));
    idle = all_by_times (IsSpare new) kept (λ q some. spare_same nodes new q (same_kept q some)
        (times_of_all (IsSpare nodes) t.spares q tree.idle (let split = ap (times q) (take-append-drop n t.spares) in let two = times_append q kept used in omega (arith, some, split, two))));
    apart = apart_of_once (kept ++ now) (λ q. (let low = once q in let all = counted q in let after = counted_now q in omega (arith, low, all, after)));
    every = λ q node is. stands_at q (kept ++ now) (stands_now q node is (times q (before ++ used)) refl);
  }
