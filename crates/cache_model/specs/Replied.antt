-- What the law of logs asks.
use Rattle.std.specs.Prelude.{◌≡◌, ℕ, ◌<◌, List, length, All, Some, IsSome}
use Rattle.std.specs.List.{slice_index_or}
use Rattle.trace_text.specs.Trace.{Trace}
use Rattle.cache_model.specs.declared.entry.Entry.{Entry}
use Rattle.cache_model.specs.Bodies.{HasKeys}
use Rattle.cache_model.specs.Legal.{command_of}
use Rattle.cache_model.specs.OwnParts.{HoldsReplies, Log, part_reply, parts_of}

-- The journals of n shards reply to each part of each command, and the logs hold these replies.
pub record HoldTheReplies (trace : Trace) (n pages : ℕ) (journals : List (List Entry)) (logs : List Log) : Type 0 where
  pub one_journal_each : length journals ≡ n
  pub keys : HasKeys trace
  pub commands : All (λ operation. command_of trace operation.number ≡ Some operation) trace.operations
  pub replied : All (λ operation. All (λ part. IsSome (part_reply trace pages journals part)) (parts_of n operation)) trace.operations
  pub logged : (o : ℕ) (d : Log) → o < n → HoldsReplies trace n o (part_reply trace pages journals) (slice_index_or logs o d)
