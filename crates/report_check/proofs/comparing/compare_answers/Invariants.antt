-- The report has the lines of the answers so far.
use Rattle.std.proofs.Common.{◌≡◌, ◌-◌, ℕ, List, length, map, take, Some}
use Rattle.std.specs.List.{All}
use Rattle.rows.specs.Apply.{Reply}
use Rattle.trace_text.specs.Parsed.{trace_in}
use Rattle.cache_model.specs.Logged.{AreLogged}
use Rattle.cache_model.specs.Report.{answer_text}
use Rattle.cache_model.specs.Unbroken.{IsUnbroken}
use Rattle.run_log.specs.Runs.{replies_in}
use Rattle.report_check.specs.inside.Compared.{IsBehind}
use Rattle.report_check.specs.Lines.{Line}
use Rattle.report_check.proofs.comparing.compare_answers.Given as goal

abbrev pub invariant-loop-lines : goal.invariant-loop-lines
invariant-loop-lines l = record {
  trace : l.lines.trace ≡ l.trace;
  shards : l.lines.shards ≡ l.trace.shards;
  logs : l.lines.logs ≡ l.logs;
  so_far : (answers : List (ℕ × Reply)) → AreLogged (trace_in l.trace) l.trace.shards (replies_in l.logs) answers → All (λ answer. IsUnbroken answer.1) answers
      → IsBehind l.report 1 (map {B = Line} (λ answer. Some (answer_text answer)) (take l.lines.given answers)) l.left;
}

abbrev pub decreases-loop-lines : goal.decreases-loop-lines
decreases-loop-lines l = length l.trace.commands - l.lines.given
