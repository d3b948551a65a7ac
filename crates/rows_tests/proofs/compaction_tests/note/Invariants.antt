use Rattle.std.proofs.Common.{◌+◌, ◌-◌, vec_len}
use Rattle.rows_tests.proofs.compaction_tests.note.Given as goal

abbrev pub decreases-loop-held : goal.decreases-loop-held
decreases-loop-held l = (l.name + 1) - vec_len l.held
