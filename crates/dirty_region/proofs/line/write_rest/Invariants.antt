-- What was left of the line was appended up to `out`.
use Rattle.std.proofs.Common.{◌-◌, ◌≤◌, length, take, drop}
use Rattle.std.specs.Io.KnownBytes.{Appends}
use Rattle.dirty_region.proofs.line.write_rest.Given as goal

abbrev pub invariant-loop-out : goal.invariant-loop-out
invariant-loop-out g l = record {
  more : l.fn.out ≤ l.out;
  within : l.out ≤ length l.line;
  appended : Appends (g.K.Sink.written l.fn.sink) (g.K.Sink.written l.sink) (take (l.out - l.fn.out) (drop l.fn.out l.line));
  later : g.K.Sink.faults l.fn.sink ≤ g.K.Sink.faults l.sink;
}

abbrev pub decreases-loop-out : goal.decreases-loop-out
decreases-loop-out g l = length l.line - l.out
