-- After each round the same objects are allocated.
use Rattle.std.proofs.Common.{◌≡◌}
use Rattle.small_pools.specs.Objects.{AreHeldIn}
use Rattle.timed.proofs.pools.rounds.play.Given as goal

abbrev pub invariant-loop : goal.invariant-loop
invariant-loop l = (l.pools.allocated ≡ l.fn.pools.allocated) × AreHeldIn l.pools l.spans
