use Rattle.std.specs.Prelude.{length, vec_len}
use Rattle.shard_run.specs.Opening.{AreAtRest}
use Rattle.shard_run.proofs.lists.close_lists.Given as goal

abbrev pub invariant-loop-home : goal.invariant-loop-home
invariant-loop-home l = AreAtRest (length l.homes.items) l.homes.items l.seats.items

abbrev pub decreases-loop-home : goal.decreases-loop-home
decreases-loop-home l = vec_len l.homes
