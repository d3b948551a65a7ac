-- Two leaves below a node, mended.
use Rattle.std.proofs.Common.{◌≡◌, ℕ, zero, suc, ◌<◌, ◌≤◌, ◌⊎◌, inl, inr, Bool, false, cond, List, [], ◌∷◌, ◌++◌, length, map, Option, Some, sym, ap, subst, ◌∙◌, arith}
use Rattle.regions.specs.Segments.{RegionState}
use Rattle.regions.specs.Contents.{live_at}
use Rattle.regions.specs.declared.place.Place.{Place}
use Rattle.tree_nodes.specs.Nodes.{Entry, TreeNode}
use Rattle.index_tree.specs.Links.{Nodes}
use Rattle.index_tree.specs.Store.{nodes_of}
use Rattle.index_tree.specs.Trees.{IsFrom, IsUpTo, entries_of, nodes_below}
use Rattle.index_tree.specs.Ways.{LeadsTo}
use Rattle.index_tree.specs.Inserts.{entry_of, of_row, times}
use Rattle.index_tree.specs.Mended.{IsMendedAt, OnlyThree}
use Rattle.index_tree.specs.Removes.{Loses}
use Rattle.place_lemmas.proofs.Places.{some_same}
use Rattle.index_tree.proofs.FrameRows.{Opened, left_in, right_in}
use Rattle.index_tree.proofs.InsertRows.{child_in, keyed, times_append}
use Rattle.index_tree.proofs.RemovePair.{PairIn}
use Rattle.index_tree.proofs.RemoveMend.{Outcome, leaf_outcome}
use Rattle.index_tree.proofs.RemoveMended.{mended_loses}
use Rattle.index_tree.proofs.RemoveSteps.{parent_now, times_root, two}
use Rattle.index_tree.proofs.Touches.{live_same}

-- the node that is free once two were joined
abbrev pub freed_by : Bool → Place → List Place
freed_by joined right = cond joined (right ∷ []) []

pub freed_is : (mid new : Nodes) (level : ℕ) (at : Place) (low high : Option (List ℕ)) (left right : Place) (s : Entry) (joined : Bool) (j : ℕ) (p p2 r2 : TreeNode)
    (out : Outcome mid new level at low high left right s joined j p p2 r2) → out.freed ≡ freed_by joined right
freed_is mid new level at low high left right s joined j p p2 r2 out = elim out.parent [
  | inl t ↦ t.1.2 ∙ sym (ap (λ b. cond {A = List Place} b (right ∷ []) []) t.1.0)
  | inr g ↦ g.2 ∙ sym (ap (λ b. cond {A = List Place} b (right ∷ []) []) g.0)
]

-- two leaves
module _ (nodes : Nodes) (r1 : RegionState) (parent : Option Place) (low high : Option (List ℕ)) (p : Place) (key : List ℕ) (i j : ℕ) (freed : List Place)
    (o : Opened nodes zero parent low high p) (leads : LeadsTo o.node key i) (from : IsFrom low (keyed key 0)) (up : IsUpTo high (keyed key 0))
    (once : (r : Place) → times r (nodes_below nodes (suc zero) (Some p)) ≤ 1) (within : j < length o.branches) (near : ((i ≡ 0) × (j ≡ 0)) ⊎ (i ≡ suc j))
    (pr : PairIn nodes zero p low high o.first o.branches j)
    (lost : Loses nodes (nodes_of (live_at r1)) zero (Some p) (left_in low (map entry_of o.branches) i) (right_in (map entry_of o.branches) high i) (child_in o.first o.branches i) key freed)
    (seven : length (entries_of (nodes_of (live_at r1) (child_in o.first o.branches i))) ≡ 7) where
  pub leaves_mended : (r2 : RegionState) (joined : Bool) → IsMendedAt false joined j p (child_in o.first o.branches j) pr.b.place (nodes_of (live_at r1)) (nodes_of (live_at r2))
      → OnlyThree p (child_in o.first o.branches j) pr.b.place r1 r2 → Loses nodes (nodes_of (live_at r2)) (suc zero) parent low high p key (freed_by joined pr.b.place ++ freed)
  leaves_mended r2 joined m three =
      let mid = nodes_of (live_at r1) in
      let new = nodes_of (live_at r2) in
      let left : Place = child_in o.first o.branches j in
      let right : Place = pr.b.place in
      let lo = left_in low (map entry_of o.branches) j in
      let hi = right_in (map entry_of o.branches) high (suc j) in
      let pair = two nodes mid zero parent low high p key i j freed o leads from up once within near pr lost seven in
      let size_l : length (entries_of (mid left)) ≡ length m.left_node.entries = ap (λ (x : Option TreeNode). length (entries_of x)) m.left_was in
      let size_r : length (entries_of (mid right)) ≡ length m.right_node.entries = ap (λ (x : Option TreeNode). length (entries_of x)) m.right_was in
      let a = pair.some_left in let b = pair.some_right in
      let same : m.parent_node ≡ o.node = some_same m.parent_was (parent_now nodes mid zero parent low high p key i j freed o leads from up once within near pr lost seven) in
      let out : Outcome mid new zero p lo hi left right pr.b.entry joined j o.node m.new_parent m.new_right =
      subst (λ (x : TreeNode). Outcome mid new zero p lo hi left right pr.b.entry joined j x m.new_parent m.new_right) same
      (leaf_outcome mid new p lo hi left right pr.b.entry joined j m.parent_node m.new_parent m.left_node m.right_node m.new_left m.new_right
      (elim pair.one_seven [ inl x ↦ inl (sym size_l ∙ x) | inr y ↦ inr (sym size_r ∙ y) ]) (omega (arith, size_l, a)) (omega (arith, size_r, b))
      m.left_was m.right_was m.left_is m.right_is pair.left_trunk pair.right_trunk m.mended) in
      subst (λ (ps : List Place). Loses nodes new (suc zero) parent low high p key (ps ++ freed)) (freed_is mid new zero p lo hi left right pr.b.entry joined j o.node m.new_parent m.new_right out)
      (mended_loses nodes mid new zero parent low high p key i j freed o leads from up once within near pr lost.alters lost.others lost.idle joined m.new_parent m.new_right out m.parent_is m.right_is
      (λ r far none.
      live_same r1 r2 r (three.others r far
      (λ e. (let c = times_append r (nodes_below mid zero (Some left)) (of_row (nodes_below mid zero) right []) in let d = times_root mid zero left in
      let f : times r (nodes_below mid zero (Some left)) ≡ times left (nodes_below mid zero (Some left)) = ap (λ (x : Place). times x (nodes_below mid zero (Some left))) e in omega (arith, none, c, d, f)))
      (λ e. (let c = times_append r (nodes_below mid zero (Some left)) (of_row (nodes_below mid zero) right []) in let d = times_root mid zero right in
      let g = times_append r (nodes_below mid zero (Some right)) [] in
      let f : times r (nodes_below mid zero (Some right)) ≡ times right (nodes_below mid zero (Some right)) = ap (λ (x : Place). times x (nodes_below mid zero (Some right))) e in omega (arith, none, c, d, f, g))))))
