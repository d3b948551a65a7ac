-- One event more, which was possible.
use Rattle.std.proofs.Common.{◌+◌, ◌∙◌, sym, drop, get_or}
use Rattle.std.proofs.lemmas.List.{at_drop_more}
use Rattle.foreign_core.specs.Histories.{run}
use Rattle.foreign_core.specs.declared.event.Event.TheVariants.{Lend}
use Rattle.foreign_core.proofs.RunLemmas.{run_more}
use Rattle.foreign_core.proofs.history.replay.Goals as goal

pub loop-event-preserved : goal.loop-event-preserved
loop-event-preserved c = record {
  rest =
      let i = c.loop-event.event-index in
      let rest = at_drop_more (run c.loop-event.core) c.args.events.now i (Lend 0) c.loop-event-test.true in
      let one_more = run_more c.loop-event.core (get_or c.args.events.now i (Lend 0)) (drop (i + 1) c.args.events.now) (c.step.ensures.possible.0 c.if-not-step.false) in
      rw (c.step.ensures.after) (one_more ∙ (sym rest ∙ c.loop-event.invariant.rest));
  tickets = c.step.ensures.tickets ∙ c.loop-event.invariant.tickets;
}
