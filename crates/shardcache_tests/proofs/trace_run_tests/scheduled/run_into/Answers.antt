use Rattle.std.proofs.Common.{subst, sym}
use Rattle.std.specs.List.{All}
use Rattle.trace_text.specs.Parsed.{trace_in}
use Rattle.shard_rings.specs.Links.{traffic_of}
use Rattle.shard_node.specs.Standing.{InStanding}
use Rattle.shard_run.specs.Remaining.{IsRoomFor}
use Rattle.shardcache_tests.proofs.Scheduled.{all-standing, driven-after}
use Rattle.shardcache_tests.proofs.trace_run_tests.scheduled.run_into.Goals as goal

pub follow-requires-clause-standing : goal.follow-requires-clause-standing
follow-requires-clause-standing c =
    subst (All (InStanding traffic_of)) (sym c.as_mut_slice.ensures.value)
    (all-standing (trace_in c.args.trace.now) c.args.trace.now.shards 1536 c.args.homes.now c.in-Ok.nodes.items c.in-Ok.ensures.opened)

pub finish_run-requires-clause-driven : goal.finish_run-requires-clause-driven
finish_run-requires-clause-driven c = (
  c.args.homes.now,
  rw c.requires.room.run.of_pages
      (driven-after _ _ _ _ _ _ _ _ _ c.in-Ok.ensures.opened c.as_mut_slice.ensures.value c.in-Ok.nodes.ok.0 c.follow.auto.nodes c.follow.ensures.same c.follow.ensures.standing (c.follow.ensures.done c.if-not-follow.false)),
)

pub finish_run-requires-clause-room : goal.finish_run-requires-clause-room
finish_run-requires-clause-room c =
    subst (λ p. IsRoomFor (trace_in c.args.trace.now) c.args.trace.now.shards p c.args.remains) (sym c.requires.room.run.of_pages) c.requires.room
