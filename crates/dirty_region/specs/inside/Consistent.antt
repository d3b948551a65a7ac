-- What holds of the parts of a dirty region.
use Rattle.std.specs.Prelude.{◌≡◌, ℕ, ◌≤◌, None}
use Rattle.layout.specs.Sizes.{most_segments}
use Rattle.rows.specs.Row.{live}
use Rattle.regions.specs.Segments.{RegionState}
use Rattle.regions.specs.Shapes.{shape, group_count, active_of, guards_of, held_count, free_count}
use Rattle.regions.specs.Counts.{live_total}
use Rattle.regions.specs.Contents.{live_at}
use Rattle.dirty_region.specs.inside.PutRows.{PutRows}
use Rattle.dirty_region.specs.Queues.{IsOut}
use Rattle.dirty_region.specs.inside.Rings.{RingState, IsRingOf, puts_in}
use Rattle.dirty_region.specs.inside.Indexed.{IsIndexOf}

-- the region has at most as many segments as a shard can, one group and no guard, and where two segments are held one is free
pub record HasSpare (r : RegionState) : Type 0 where
  pub most : (shape r).most ≤ most_segments
  pub one : group_count r ≡ 1
  pub guards : guards_of r 0 ≡ 0
  pub begun : active_of r 0 ≡ None → held_count r ≤ free_count r
  pub free : 2 ≤ held_count r → 1 ≤ free_count r

-- the ring is the one of the live objects, and the index the one of the ring
pub record IsStored (ring : RingState) (index : PutRows) (r : RegionState) : Type 0 where
  pub ring_of : IsRingOf ring (live_at r)
  pub index_of : IsIndexOf ring (live_at r) index
  pub sizes : live (puts_in ring (live_at r)) ≡ live_total r
  pub spare : HasSpare r

pub record IsConsistent (ring : RingState) (index : PutRows) (r : RegionState) (out : ℕ) : Type 0 where
  pub stored : IsStored ring index r
  pub out_is : IsOut out (puts_in ring (live_at r))
