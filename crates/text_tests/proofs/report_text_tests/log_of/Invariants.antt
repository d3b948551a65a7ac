-- So many parts were answered, and there is room for the other bodies.
use Rattle.std.proofs.Common.{◌+◌, ◌-◌, ◌*◌, ◌≤◌, length, map}
use Rattle.trace_text.specs.Operation.{operation}
use Rattle.trace_text.specs.Parsed.{trace_in}
use Rattle.trace_text.specs.Parts.{longest_value}
use Rattle.text_tests.proofs.Logs.{IsFilled}
use Rattle.text_tests.proofs.report_text_tests.log_of.Given as goal

abbrev pub invariant-loop-part : goal.invariant-loop-part
invariant-loop-part g l = record {
  filled : IsFilled (longest_value (trace_in l.trace)) (map (operation l.trace.bytes) l.commands) l.log.replies l.part (length l.replies - l.part);
  room : 2000000 ≤ l.log.room + 100 * l.part;
}
