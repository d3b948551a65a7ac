use Rattle.small_pools.specs.Objects.{AreHeldIn}
use Rattle.memory_tests.specs.Given.{AreAllocated}
use Rattle.memory_tests.proofs.small_pools_tests.first_left.Given as goal

abbrev pub invariant-loop-class : goal.invariant-loop-class
invariant-loop-class l = AreHeldIn l.pools l.spans × AreAllocated l.pools.allocated l.taken.items
