use Rattle.std.proofs.Common.{◌+◌, ◌-◌, vec_len}
use Rattle.rows_tests.proofs.compaction_tests.two_groups.note_group.Given as goal

abbrev pub decreases-loop-groups : goal.decreases-loop-groups
decreases-loop-groups l = (l.name + 1) - vec_len l.groups
