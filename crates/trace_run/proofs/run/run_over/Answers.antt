-- From the nodes that were opened to what they left.
use Rattle.std.proofs.Common.{sym, subst}
use Rattle.std.specs.List.{All}
use Rattle.trace_text.specs.Parsed.{trace_in}
use Rattle.shard_rings.specs.Links.{traffic_of}
use Rattle.shard_node.specs.Standing.{InStanding}
use Rattle.run_log.specs.Runs.{IsFinished}
use Rattle.trace_run.proofs.Runs.{all-standing, driven-after}
use Rattle.trace_run.proofs.run.run_over.Goals as goal

pub drive-requires-clause-standing : goal.drive-requires-clause-standing
drive-requires-clause-standing g c κs within =
    subst (All (InStanding traffic_of)) (sym c.as_mut_slice.ensures.value)
    (all-standing (trace_in c.args.trace.now) c.args.trace.now.shards c.args.pages c.args.homes.now c.in_ok-nodes.nodes.items c.in_ok-nodes.ensures.opened)

pub finish_run-requires-clause-driven : goal.finish_run-requires-clause-driven
finish_run-requires-clause-driven g c = (
  c.args.homes.now,
  rw c.in-Ok.ensures.run.of_pages
      (driven-after _ _ _ _ _ _ _ _ _ c.in_ok-nodes.ensures.opened c.as_mut_slice.ensures.value c.in_ok-nodes.nodes.ok.0 c.drive.auto.nodes c.drive.ensures.same c.drive.ensures.standing c.drive.ensures.done),
)

pub returns-clause-run : goal.returns-clause-run
returns-clause-run g c =
    subst (λ p. IsFinished (trace_in c.args.trace.now) c.args.trace.now.shards p c.finish_run.result.ran) c.in-Ok.ensures.run.of_pages c.finish_run.ensures.run

pub returns-clause-seats : goal.returns-clause-seats
returns-clause-seats g c =
    let driven = driven-after _ _ _ _ _ _ _ _ _ c.in_ok-nodes.ensures.opened c.as_mut_slice.ensures.value c.in_ok-nodes.nodes.ok.0 c.drive.auto.nodes c.drive.ensures.same c.drive.ensures.standing c.drive.ensures.done in
    c.finish_run.ensures.seats c.args.homes.now (rw c.in-Ok.ensures.run.of_pages driven)
