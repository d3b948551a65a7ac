-- The lines of the answers so far were added, and the places are those of the next command.
use Rattle.std.proofs.Common.{ℕ, ◌≤◌, List}
use Rattle.rows.specs.Apply.{Reply}
use Rattle.cache_model.specs.Logged.{AreLogged}
use Rattle.trace_text.specs.Parsed.{trace_in}
use Rattle.report_text.specs.Views.{replies_in}
use Rattle.report_text.specs.inside.Places.{ArePlaces}
use Rattle.report_text.specs.inside.Stretches.{answer_lines}
use Rattle.report_text.proofs.Outputs.{Added}
use Rattle.report_text.proofs.stretch.put_stretch.Given as goal

abbrev pub invariant-loop-index : goal.invariant-loop-index
invariant-loop-index g l = record {
  from : l.stretch.from ≤ l.index;
  to : l.index ≤ l.stretch.to;
  places : ArePlaces (trace_in l.run.trace.now) l.run.trace.now.shards l.index l.places;
  added : (answers : List (ℕ × Reply)) → AreLogged (trace_in l.run.trace.now) l.run.shards (replies_in l.run.logs.now) answers →
      Added l.fn.writer l.writer (answer_lines answers l.stretch.from l.index);
}
