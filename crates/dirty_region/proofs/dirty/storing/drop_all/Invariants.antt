use Rattle.std.proofs.Common.{◌≡◌, ◌+◌, ◌%◌, ◌^◌}
use Rattle.regions.specs.Shapes.{shape}
use Rattle.dirty_region.specs.inside.Consistent.{IsStored}
use Rattle.dirty_region.proofs.dirty.storing.drop_all.Given as goal

abbrev pub invariant-loop-region : goal.invariant-loop-region
invariant-loop-region l = record {
  stored : IsStored l.ring l.index l.region;
  next : (l.ring.first + l.ring.count) % 2 ^ 32 ≡ (l.fn.ring.first + l.fn.ring.count) % 2 ^ 32;
  room : l.ring.room ≡ l.fn.ring.room;
  shape : shape l.region ≡ shape l.fn.region;
}

abbrev pub decreases-loop-region : goal.decreases-loop-region
decreases-loop-region l = l.ring.count
