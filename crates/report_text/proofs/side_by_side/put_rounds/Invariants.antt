-- The lines of the answers so far were added, and the places are those of the next round.
use Rattle.std.proofs.Common.{ℕ, ◌-◌, ◌<◌, ◌≤◌, List, length}
use Rattle.rows.specs.Apply.{Reply}
use Rattle.cache_model.specs.Logged.{AreLogged}
use Rattle.trace_text.specs.Parsed.{trace_in}
use Rattle.report_text.specs.Views.{replies_in}
use Rattle.report_text.specs.inside.Places.{ArePlaces}
use Rattle.report_text.specs.inside.Stretches.{answer_lines}
use Rattle.report_text.proofs.Outputs.{Added}
use Rattle.report_text.proofs.side_by_side.put_rounds.Given as goal

abbrev pub invariant-loop-from : goal.invariant-loop-from
invariant-loop-from g l = record {
  pieces : 0 < length l.pieces;
  within : l.from ≤ length l.run.trace.now.commands;
  places : ArePlaces (trace_in l.run.trace.now) l.run.trace.now.shards l.from l.places;
  added : (answers : List (ℕ × Reply)) → AreLogged (trace_in l.run.trace.now) l.run.shards (replies_in l.run.logs.now) answers →
      Added l.fn.writer l.writer (answer_lines answers 0 l.from);
}

abbrev pub decreases-loop-from : goal.decreases-loop-from
decreases-loop-from g l = length l.run.trace.now.commands - l.from
