-- So many lines were passed.
use Rattle.std.proofs.Common.{◌≡◌, ◌≤◌, drop, length}
use Rattle.report_check.specs.Lines.{lines_of}
use Rattle.report_check.proofs.line.skip_lines.Given as goal

abbrev pub invariant-loop : goal.invariant-loop
invariant-loop l = record {
  behind : lines_of l.rest ≡ drop l.counter (lines_of l.bytes);
  shorter : length l.rest ≤ length l.bytes;
}
