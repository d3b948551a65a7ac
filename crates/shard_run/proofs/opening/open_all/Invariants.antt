-- The nodes of the last shards are open.
use Rattle.std.specs.Prelude.{◌≤◌, vec_capacity, vec_len}
use Rattle.trace_text.specs.Parsed.{trace_in}
use Rattle.shard_run.proofs.Openings.{AreOpenedFrom}
use Rattle.shard_run.proofs.opening.open_all.Given as goal

abbrev pub invariant-loop-own : goal.invariant-loop-own
invariant-loop-own g l =
    AreOpenedFrom (trace_in l.trace) l.trace.shards l.pages l.homes l.initial.links.items l.links.items l.seats.items l.nodes.items
    × (l.trace.shards ≤ vec_capacity l.seats) × (l.trace.shards ≤ vec_capacity l.nodes)

abbrev pub decreases-loop-own : goal.decreases-loop-own
decreases-loop-own g l = vec_len l.links
