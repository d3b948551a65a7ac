use Rattle.std.proofs.Common.{◌≡◌, replicate}
use Rattle.dirty_region.specs.inside.Rings.{nowhere}
use Rattle.dirty_region.proofs.ring.new_places.Given as goal

abbrev pub invariant-loop-slot : goal.invariant-loop-slot
invariant-loop-slot l = l.places.items ≡ replicate l._slot nowhere
