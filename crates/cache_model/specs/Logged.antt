-- What the logs of all shards hold, and the answers that are read from them.
use Rattle.std.specs.Prelude.{◌≡◌, ℕ, ◌<◌, List, map, All, Option, Some}
use Rattle.std.specs.List.{range_with_len, slice_index_or}
use Rattle.trace_text.specs.Parts.{longest_value}
use Rattle.trace_text.specs.Trace.{Trace}
use Rattle.cache_model.specs.Answer.{answer_from}
use Rattle.rows.specs.Apply.{Reply}
use Rattle.rows.specs.Fits.{HasFitting}
use Rattle.cache_model.specs.OwnParts.{HoldsReplies, Log, parts_of}

-- The logs of n shards hold the replies to the parts that they issued, and these are the answers. `replies` has the
-- reply to each part.
pub record AreLogged (trace : Trace) (n : ℕ) (logs : List Log) (answers : List (ℕ × Reply)) : Type 0 where
  pub replies : ℕ × ℕ → Option Reply
  pub logged : (o : ℕ) (d : Log) → o < n → HoldsReplies trace n o replies (slice_index_or logs o d)
  pub fit : All (λ operation. All (λ part. HasFitting (longest_value trace) operation (replies part)) (parts_of n operation)) trace.operations
  pub answered : map {B = ℕ × Option Reply} (λ answer. (answer.0, Some answer.1)) answers
      ≡ map {B = ℕ × Option Reply} (λ operation. (operation.number, answer_from n operation (map (λ s. replies (operation.number, s)) (range_with_len 0 n)))) trace.operations
