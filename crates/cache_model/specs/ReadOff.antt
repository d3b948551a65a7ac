-- One answer, as it is read off the logs.
use Rattle.std.specs.Prelude.{◌≡◌, ℕ, ◌+◌, ◌<◌, Bool, true, false, List, [], ◌∷◌, length, map, All, Some}
use Rattle.std.specs.List.{slice_get, slice_index_or}
use Rattle.rows.specs.Operation.{Operation, is_scan}
use Rattle.trace_text.specs.Parts.{longest_value, origin}
use Rattle.trace_text.specs.Trace.{Trace}
use Rattle.cache_model.specs.Answer.{join, keys_in}
use Rattle.rows.specs.Apply.{Reply, Keys}
use Rattle.rows.specs.Fits.{Fits}
use Rattle.cache_model.specs.OwnParts.{Log, parts_before}
use Rattle.rows.specs.Spelled.{spelled}

-- from part `first` on the log has these replies
abbrev pub HasReplies : Log → ℕ → List Reply → Type 0
HasReplies log first replies =
    (k : ℕ) (d : Reply) → k < length replies → slice_get log (first + k) ≡ Some (Some (spelled (slice_index_or replies k d)))

-- what the replies to a command's parts say together: the one reply, or of a scan the keys of n replies, joined
abbrev pub AreJoined : Bool → ℕ → ℕ → List Reply → Reply → Type 0
AreJoined false n count replies answer = replies ≡ answer ∷ []
AreJoined true n count replies answer =
    (length replies ≡ n) × (answer ≡ Keys (join count (map (λ reply. keys_in (Some reply)) replies)))

-- from part `first` on the log has the replies to the parts of a command. They fit it, and this is its answer.
pub record IsRead (longest n : ℕ) (operation : Operation) (log : Log) (first : ℕ) (answer : ℕ × Reply) : Type 0 where
  pub replies : List Reply
  pub logged : HasReplies log first replies
  pub fit : All (Fits longest operation) replies
  pub number : answer.0 ≡ operation.number
  pub joined : AreJoined (is_scan operation.kind) n operation.count replies answer.1

-- the same of the i-th command, and the log of its origin, behind the parts that were issued before
abbrev pub IsReadInLogs : Trace → ℕ → ℕ → Operation → List Log → Log → ℕ × Reply → Type 0
IsReadInLogs trace n i operation logs d answer =
    IsRead (longest_value trace) n operation (slice_index_or logs (origin operation.number n) d) (parts_before trace n (origin operation.number n) i) answer
