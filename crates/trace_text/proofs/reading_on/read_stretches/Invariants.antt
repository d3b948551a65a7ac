-- The commands so far, the lines that are cut, and the lines that are left are those of the trace.
use Rattle.std.proofs.Common.{length}
use Rattle.trace_text.proofs.Stretches.{Cutting}
use Rattle.trace_text.proofs.reading_on.read_stretches.Given as goal

abbrev pub invariant-loop-rest : goal.invariant-loop-rest
invariant-loop-rest g l = Cutting l.version l.bytes l.commands l.lines.items l.rest l.line

abbrev pub decreases-loop-rest : goal.decreases-loop-rest
decreases-loop-rest g l = length l.rest
