-- What is known of the nodes after a key was put in, where they stand.
use Rattle.std.proofs.Common.{◌≡◌, ℕ, zero, suc, List, drop, Some, refl, subst, ◌∙◌, arith}
use Rattle.std.specs.Prelude.{IsSome}
use Rattle.regions.specs.Segments.{RegionState}
use Rattle.regions.specs.Contents.{Item, live_at}
use Rattle.regions.specs.declared.place.Place.{Place}
use Rattle.index_tree.specs.Inserts.{Plants, Touched, times}
use Rattle.index_tree.specs.Store.{HoldsNode, nodes_of}
use Rattle.index_tree.specs.inside.Climbs.{HoldNodes}
use Rattle.index_tree.specs.inside.Rosters.{IsRosterOf, RosterState, settled}
use Rattle.index_tree.proofs.Grown.{regrown}
use Rattle.index_tree.proofs.InsertRows.{times_of_all}
use Rattle.index_tree.proofs.Unmoved.{still_kinds, still_listed}
use Rattle.index_tree.proofs.References.{some_of}

module _ (ps : List Place) (old new : RegionState) (touched : Touched ps old new) where
  still_hold : HoldNodes (live_at old) → HoldNodes (live_at new)
  still_hold holds p some = go (times p ps) refl
    where
      there : (item : Item) × (live_at new p ≡ Some item)
      there = some_of (live_at new p) some

      go : (n : ℕ) → times p ps ≡ n → HoldsNode (live_at new) p
      go zero none =
          let same = touched.others p none in
          let held = holds p (subst (λ o. IsSome o) same some) in
          (held.0, same ∙ held.1, held.2)
      go (suc n) many = times_of_all (HoldsNode (live_at new)) ps p touched.holds (omega (arith, many))

  -- a key more is in the tree
  pub grown_roster : (r : RosterState) → IsRosterOf r (live_at old) → (n grown : ℕ) (p : Place) (key : List ℕ) (number : ℕ)
      → Plants (nodes_of (live_at old)) (nodes_of (live_at new)) r.tree.level r.tree.root grown p key number (drop n r.tree.spares)
      → IsRosterOf (settled (nodes_of (live_at new)) (Some p) grown n r) (live_at new)
  grown_roster r is n grown p key number more = record {
    holds = still_hold is.holds;
    kinds = still_kinds old new touched.same is.kinds;
    tree = regrown (nodes_of (live_at old)) (nodes_of (live_at new)) r.tree is.tree n grown p key number more;
    index = refl;
    listed = still_listed old new touched.same r.known.places is.listed;
  }
