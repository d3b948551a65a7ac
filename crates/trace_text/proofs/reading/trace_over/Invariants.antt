-- The commands so far are counted, and the origin is that of the next one.
use Rattle.std.proofs.Common.{◌≡◌, ◌%◌, take}
use Rattle.trace_text.specs.Operation.{operations}
use Rattle.trace_text.specs.inside.Routes.{AreIssued, AreOwned}
use Rattle.trace_text.proofs.reading.trace_over.Given as goal

abbrev pub invariant-loop-route : goal.invariant-loop-route
invariant-loop-route l = record {
  origin : l.origin ≡ l.route-index % l.shards;
  owned : AreOwned l.shards (take l.route-index (operations l.fn.bytes l.fn.commands)) l.owned.counts;
  issued : AreIssued l.shards (take l.route-index (operations l.fn.bytes l.fn.commands)) l.issued.counts;
}
