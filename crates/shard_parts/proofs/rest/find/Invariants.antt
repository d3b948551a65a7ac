use Rattle.std.proofs.Common.{length, ◌-◌, ◌≡◌, ◌%◌}
use Rattle.trace_text.specs.Parsed.{trace_in}
use Rattle.cache_model.specs.OwnParts.{parts_before}
use Rattle.part_lemmas.specs.Rest.{left_from}
use Rattle.shard_parts.proofs.rest.find.Given as goal

abbrev pub invariant-loop-next : goal.invariant-loop-next
invariant-loop-next l = record {
  left : left_from l.trace l.trace.shards l.origin l.shard l.next.at ≡ left_from l.trace l.trace.shards l.origin l.shard l.fn.from.at;
  origin : l.next.at % l.trace.shards ≡ l.origin;
  before : l.next.before ≡ parts_before (trace_in l.trace) l.trace.shards l.origin l.next.at;
}

abbrev pub decreases-loop-next : goal.decreases-loop-next
decreases-loop-next l = length l.commands - l.next.at
