use Rattle.small_pools.specs.Objects.{AreHeldIn}
use Rattle.memory_tests.specs.Given.{AreAllocated}
use Rattle.memory_tests.proofs.small_pools_tests.take_many.Given as goal

abbrev pub invariant-loop-count : goal.invariant-loop-count
invariant-loop-count l = AreHeldIn l.pools l.spans × AreAllocated l.pools.allocated l.taken.items
