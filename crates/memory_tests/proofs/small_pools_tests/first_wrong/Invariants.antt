use Rattle.small_pools.specs.Objects.{AreHeldIn}
use Rattle.memory_tests.specs.Given.{AreAllocated}
use Rattle.memory_tests.proofs.small_pools_tests.first_wrong.Given as goal

abbrev pub invariant-loop-order : goal.invariant-loop-order
invariant-loop-order l = AreHeldIn l.pools l.spans × AreAllocated l.pools.allocated l.taken.items
