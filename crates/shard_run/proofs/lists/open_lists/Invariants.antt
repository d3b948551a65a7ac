use Rattle.std.specs.Prelude.{◌-◌, ◌≤◌, length, vec_capacity, vec_len}
use Rattle.shard_run.specs.Opening.{AreAtRest}
use Rattle.shard_run.proofs.lists.open_lists.Given as goal

abbrev pub invariant-loop-alloc : goal.invariant-loop-alloc
invariant-loop-alloc l =
    AreAtRest (length l.homes.items) l.homes.items l.seats.items
    × (length l.homes.items ≤ l.fn.shards) × (l.fn.shards ≤ vec_capacity l.homes) × (l.fn.shards ≤ vec_capacity l.seats)

abbrev pub decreases-loop-alloc : goal.decreases-loop-alloc
decreases-loop-alloc l = l.fn.shards - vec_len l.homes
