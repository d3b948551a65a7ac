-- What holds of the parts of an index.
use Rattle.std.specs.Prelude.{◌≡◌, ◌⊎◌, ℕ, ◌*◌, ◌≤◌, length, Some, IsSome}
use Rattle.regions.specs.Segments.{RegionState}
use Rattle.regions.specs.Shapes.{shape, active_of, group_count, held_count, free_count}
use Rattle.regions.specs.Counts.{live_total}
use Rattle.regions.specs.Contents.{live_at}
use Rattle.regions.specs.declared.place.Place.{Place}
use Rattle.index_tree.specs.Indexes.{IsIndex}
use Rattle.index_tree.specs.Sizes.{most, node_object}
use Rattle.index_tree.specs.Limits.{most_segments, most_spares}
use Rattle.index_tree.specs.inside.Rosters.{IsRosterOf, RosterState}

-- a segment is free, but where none is held, or only the active one
abbrev pub HasFree : RegionState → Type 0
HasFree r = (1 ≤ free_count r) ⊎ ((held_count r ≡ 0) ⊎ ((held_count r ≤ 1) × IsSome (active_of r 0)))

-- the region has one group, whose live objects are the nodes of the tree, and these hold no more keys than there is surely room for
pub record IsConsistent (r : RosterState) (region : RegionState) (keys segments : ℕ) : Type 0 where
  pub one : group_count region ≡ 1
  pub roster : IsRosterOf r (live_at region)
  pub rising : IsIndex r.known.index
  pub spare : length r.tree.spares ≤ most_spares
  pub some : (p : Place) → r.tree.root ≡ Some p → 1 ≤ length r.known.index
  pub len : keys ≡ length r.known.index
  pub held : segments ≡ held_count region
  pub few : held_count region ≤ most_segments
  pub numbers : (shape region).most ≤ most_segments
  pub free : HasFree region
  pub counted : live_total region ≡ node_object * length r.known.places
  pub room : length r.known.index ≤ most (held_count region)
