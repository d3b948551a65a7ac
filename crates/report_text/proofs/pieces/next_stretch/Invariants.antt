-- The places are those of the next command.
use Rattle.std.proofs.Common.{◌≤◌}
use Rattle.trace_text.specs.Parsed.{trace_in}
use Rattle.report_text.specs.inside.Places.{ArePlaces}
use Rattle.report_text.proofs.pieces.next_stretch.Given as goal

abbrev pub invariant-loop-index : goal.invariant-loop-index
invariant-loop-index l = record {
  to : l.index ≤ l.to;
  places : ArePlaces (trace_in l.trace) l.trace.shards l.index l.places;
}
