-- What is known of the nodes after a key was taken out, where they stand.
use Rattle.std.proofs.Common.{◌≡◌, ℕ, zero, suc, ◌+◌, ◌≤◌, List, ◌++◌, Option, Some, None, refl, sym, ap, subst, ◌∙◌, arith}
use Rattle.std.proofs.lemmas.List.Elements.{All-append}
use Rattle.regions.specs.Segments.{RegionState}
use Rattle.regions.specs.Contents.{live_at}
use Rattle.regions.specs.Stores.{SameBut}
use Rattle.regions.specs.declared.place.Place.{Place}
use Rattle.tree_nodes.specs.Nodes.{TreeNode, started}
use Rattle.index_tree.specs.Inserts.{times}
use Rattle.index_tree.specs.Links.{Nodes}
use Rattle.index_tree.specs.Prunes.{Prunes}
use Rattle.index_tree.specs.Store.{nodes_of}
use Rattle.index_tree.specs.Trees.{AreLinked, IsSpare, IsTree, TreeState, leaves_below, nodes_below}
use Rattle.index_tree.specs.Writes.{blank}
use Rattle.index_tree.specs.inside.Climbs.{HoldNodes}
use Rattle.index_tree.specs.inside.Rosters.{IsRosterOf, RosterState, released}
use Rattle.index_tree.proofs.Grown.{chained_linked, linked_chained, spare_same}
use Rattle.index_tree.proofs.InsertRows.{all_by_times, times_append, times_of_all}
use Rattle.index_tree.proofs.Once.{apart_of_once, once_of_apart, stands_at, times_at}
use Rattle.index_tree.proofs.Placed.{none_started}
use Rattle.index_tree.proofs.Unmoved.{still_kinds, still_listed}
use Rattle.index_tree.proofs.Whole.{Stands, nodes_stand}

module _ (nodes new : Nodes) (t : TreeState) (tree : IsTree nodes t) (root : Place) (is_root : t.root ≡ Some root) (lower : ℕ) (top : Option Place) (key : List ℕ) (freed : List Place)
    (r : Prunes nodes new t.level root lower top key freed) where
  abbrev before : List Place
  before = nodes_below nodes t.level t.root

  abbrev now : List Place
  now = nodes_below new lower top

  -- how often a place is in the spares and the nodes, before and now
  counted : (q : Place) → times q now + times q freed ≡ times q before
  counted q = r.places q ∙ ap (λ (o : Option Place). times q (nodes_below nodes t.level o)) (sym is_root)

  once : (q : Place) → times q t.spares + times q before ≤ 1
  once q = let low = once_of_apart (t.spares ++ before) tree.apart q in let both = times_append q t.spares before in omega (arith, low, both)

  whole : (q : Place) → times q (t.spares ++ freed ++ now) ≡ times q t.spares + times q before
  whole q =
      let all = times_append q (t.spares ++ freed) now in let both = times_append q t.spares freed in let count = counted q in
      omega (arith, all, both, count)

  other : (q : Place) → times q before ≡ 0 → new q ≡ nodes q
  other q none = r.others q (ap (λ (o : Option Place). times q (nodes_below nodes t.level o)) (sym is_root) ∙ none)

  same_spare : (q : Place) → 1 ≤ times q t.spares → new q ≡ nodes q
  same_spare q some = other q (let low = once q in omega (arith, some, low))

  roomy : (q : Place) → 1 ≤ times q freed → Stands nodes q
  roomy q some =
      times_of_all (Stands nodes) (nodes_below nodes t.level (Some root)) q (nodes_stand nodes t.level None None None root (tree.rooted root is_root))
      (let count = r.places q in omega (arith, some, count))

  spare_now : (q : Place) → 1 ≤ times q freed → IsSpare new q
  spare_now q some = record {
    node = started 0;
    is = times_of_all (λ p. new p ≡ Some (started 0)) freed q r.idle some;
    room = (roomy q some).0;
    parent = refl;
    next = refl;
    children = none_started 17;
  }

  stands_now : (q : Place) (node : TreeNode) → new q ≡ Some node → (m : ℕ) → times q before ≡ m → 1 ≤ times q (t.spares ++ freed ++ now)
  stands_now q node is zero none =
      let there = tree.every q node (sym (other q none) ∙ is) in
      let some = times_at q (t.spares ++ before) there.0 there.1 in
      let both = times_append q t.spares before in let all = whole q in
      omega (arith, some, both, all)
  stands_now q node is (suc m) many = let all = whole q in omega (arith, many, all)

  pub pruned : IsTree new (record { root = top; level = lower; spares = t.spares ++ freed })
  pruned = record {
    rooted = r.rooted;
    linked = chained_linked new (leaves_below new lower top)
        (r.chained (linked_chained nodes (leaves_below nodes t.level (Some root)) (subst (λ (o : Option Place). AreLinked nodes (leaves_below nodes t.level o)) is_root tree.linked)));
    idle = All-append (IsSpare new) t.spares freed
        (all_by_times (IsSpare new) t.spares (λ q some. spare_same nodes new q (same_spare q some) (times_of_all (IsSpare nodes) t.spares q tree.idle some)))
        (all_by_times (IsSpare new) freed spare_now);
    apart = apart_of_once (t.spares ++ freed ++ now) (λ q. (let all = whole q in let low = once q in omega (arith, all, low)));
    every = λ q node is. stands_at q (t.spares ++ freed ++ now) (stands_now q node is (times q before) refl);
  }

pub pruned_roster : (old new : RegionState) (same : SameBut blank old new) (holds : HoldNodes (live_at new)) (r : RosterState) → IsRosterOf r (live_at old) → (root : Place) → r.tree.root ≡ Some root
    → (lower : ℕ) (top : Option Place) (key : List ℕ) (freed : List Place) → Prunes (nodes_of (live_at old)) (nodes_of (live_at new)) r.tree.level root lower top key freed
    → IsRosterOf (released (nodes_of (live_at new)) top lower freed r) (live_at new)
pruned_roster old new same holds r is root is_root lower top key freed p = record {
  holds = holds;
  kinds = still_kinds old new same is.kinds;
  tree = pruned (nodes_of (live_at old)) (nodes_of (live_at new)) r.tree is.tree root is_root lower top key freed p;
  index = refl;
  listed = still_listed old new same r.known.places is.listed;
}
