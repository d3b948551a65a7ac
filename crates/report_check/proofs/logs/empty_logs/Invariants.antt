-- The logs so far hold no reply.
use Rattle.std.proofs.Common.{◌≡◌, ℕ, ◌<◌, [], length}
use Rattle.std.specs.List.{slice_index_or}
use Rattle.trace_text.specs.Parsed.{trace_in}
use Rattle.cache_model.specs.OwnParts.{HoldsReplies, part_reply}
use Rattle.run_log.specs.Replies.{Replies}
use Rattle.report_check.proofs.logs.empty_logs.Given as goal

abbrev pub invariant-loop-shard : goal.invariant-loop-shard
invariant-loop-shard l = record {
  many : length l.logs.items ≡ l.shard;
  each : (pages o : ℕ) (d : Replies) → o < l.shard
      → HoldsReplies (trace_in l.trace) l.trace.shards o (part_reply (trace_in l.trace) pages []) (slice_index_or l.logs.items o d).replies;
}
