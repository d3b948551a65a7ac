use Rattle.std.proofs.Common.{◌≡◌, length}
use Rattle.small_pools.specs.Objects.{AreHeldIn}
use Rattle.timed.specs.Live.{AreLive}
use Rattle.timed.proofs.pools.live.replace_many.Given as goal

abbrev pub invariant-loop : goal.invariant-loop
invariant-loop l = AreHeldIn l.pools l.spans × AreLive l.pools.allocated l.live.items × (length l.live.items ≡ l.len)
