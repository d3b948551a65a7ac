use Rattle.std.proofs.Common.{◌≡◌, None, replicate}
use Rattle.regions.proofs.region.Region.new.Given as goal

abbrev pub invariant-loop-number : goal.invariant-loop-number
invariant-loop-number l = l.slots.items ≡ replicate l._number None
