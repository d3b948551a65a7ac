-- The commands so far, with their routes, and the lines that are left are those of the trace.
use Rattle.std.proofs.Common.{◌≡◌, length}
use Rattle.trace_text.specs.Operation.{operations}
use Rattle.trace_text.specs.inside.Routes.{routes}
use Rattle.trace_text.proofs.LinesRead.{Reads}
use Rattle.trace_text.proofs.reading.commands_of.Given as goal

abbrev pub invariant-loop-rest : goal.invariant-loop-rest
invariant-loop-rest l = record {
  reads : Reads l.version l.bytes l.commands l.rest l.line;
  routes : l.routes.items ≡ routes l.shards (operations l.bytes l.commands);
}

abbrev pub decreases-loop-rest : goal.decreases-loop-rest
decreases-loop-rest l = length l.rest
