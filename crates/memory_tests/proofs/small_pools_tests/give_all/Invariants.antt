use Rattle.std.proofs.Common.{length}
use Rattle.small_pools.specs.Objects.{AreHeldIn}
use Rattle.memory_tests.specs.Given.{AreAllocated}
use Rattle.memory_tests.proofs.small_pools_tests.give_all.Given as goal

abbrev pub invariant-loop-place : goal.invariant-loop-place
invariant-loop-place l = AreHeldIn l.pools l.spans × AreAllocated l.pools.allocated l.taken.items

abbrev pub decreases-loop-place : goal.decreases-loop-place
decreases-loop-place l = length l.taken.items
