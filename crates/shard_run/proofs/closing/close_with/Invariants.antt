-- So many ends are left.
use Rattle.std.proofs.Common.{vec_len}
use Rattle.shard_run.proofs.Partings.{IsParted}
use Rattle.shard_run.proofs.closing.close_with.Given as goal

abbrev pub invariant-loop-end : goal.invariant-loop-end
invariant-loop-end l = IsParted l.initial.links l.links l.initial.own.items l.own.items

abbrev pub decreases-loop-end : goal.decreases-loop-end
decreases-loop-end l = vec_len l.own
