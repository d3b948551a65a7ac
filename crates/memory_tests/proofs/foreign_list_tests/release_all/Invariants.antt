use Rattle.std.proofs.Common.{vec_len}
use Rattle.memory_tests.proofs.foreign_list_tests.release_all.Given as goal

abbrev pub decreases-loop-block : goal.decreases-loop-block
decreases-loop-block g l = vec_len l.blocks
