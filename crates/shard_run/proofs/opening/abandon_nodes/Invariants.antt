-- So many nodes are left.
use Rattle.std.specs.Prelude.{◌≡◌, ◌+◌, ◌≤◌, length, vec_capacity}
use Rattle.std.specs.Vec.Iter.{into_iter_items, into_iter_len}
use Rattle.shard_run.proofs.Openings.{AreAbandoned}
use Rattle.shard_run.proofs.opening.abandon_nodes.Given as goal

abbrev pub invariant-loop-node : goal.invariant-loop-node
invariant-loop-node g l =
    AreAbandoned l.fn.nodes.items (into_iter_items l.node-iterator) l.fn.seats.items l.seats.items
    × (into_iter_len l.node-iterator ≡ length (into_iter_items l.node-iterator))
    × (length l.seats.items + into_iter_len l.node-iterator ≤ vec_capacity l.seats)
