-- So many shards are left.
use Rattle.std.proofs.Common.{vec_len}
use Rattle.shard_run.proofs.Partings.{IsClosedTo}
use Rattle.shard_run.proofs.closing.close_links.Given as goal

abbrev pub invariant-loop-own : goal.invariant-loop-own
invariant-loop-own l = IsClosedTo l.initial.links.items l.links.items

abbrev pub decreases-loop-own : goal.decreases-loop-own
decreases-loop-own l = vec_len l.links
