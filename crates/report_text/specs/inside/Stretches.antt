-- Commands one behind another.
use Rattle.std.specs.Prelude.{◌≤◌, length}
use Rattle.trace_text.specs.Parsed.{Parsed, trace_in}
pub use Rattle.report_text.specs.AnswerLines.{answer_lines}
use Rattle.report_text.specs.declared.stretch.Stretch.{Stretch}
use Rattle.report_text.specs.inside.Places.{ArePlaces}

-- commands of the trace, with the places of the first of them
pub record IsStretch (trace : Parsed) (stretch : Stretch) : Type 0 where
  pub order : stretch.from ≤ stretch.to
  pub within : stretch.to ≤ length trace.commands
  pub places : ArePlaces (trace_in trace) trace.shards stretch.from stretch.places
