use Rattle.std.proofs.Common.{◌≡◌}
use Rattle.memory_tests.proofs.shard_memory_tests.lend_all.Given as goal

abbrev pub invariant-loop-n : goal.invariant-loop-n
invariant-loop-n l = (l.memory.blocks ≡ l.fn.memory.blocks) × (l.memory.segments ≡ l.fn.memory.segments) × (l.memory.list ≡ l.fn.memory.list)
