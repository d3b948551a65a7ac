use Rattle.std.proofs.Common.{◌≡◌, length}
use Rattle.memory_tests.proofs.number_set_tests.insert_all.Given as goal

abbrev pub invariant-loop-number : goal.invariant-loop-number
invariant-loop-number l = length l.set ≡ 130
