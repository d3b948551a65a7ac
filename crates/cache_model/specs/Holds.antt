-- What holds of the keys and the values of a trace's puts, and of the replies.
use Rattle.std.specs.Prelude.{Bool, ℕ, List, All}
use Rattle.rows.specs.Apply.{Reply}
use Rattle.rows.specs.Holds.{PutHolds, ReplyHolds}
use Rattle.rows.specs.Key.{Key}
use Rattle.trace_text.specs.Trace.{Trace}

abbrev pub PutsHold : (Key → Bool) → (List ℕ → Bool) → Trace → Type 0
PutsHold on_key on_value trace = All (PutHolds on_key on_value) trace.operations

-- a test of the bytes of keys, whatever their tables

abbrev pub PutBytesHold : (List ℕ → Bool) → (List ℕ → Bool) → Trace → Type 0
PutBytesHold on_bytes on_value trace = PutsHold (λ key. on_bytes key.bytes) on_value trace

abbrev pub ReplyBytesHold : (List ℕ → Bool) → (List ℕ → Bool) → Reply → Type 0
ReplyBytesHold on_bytes on_value reply = ReplyHolds (λ key. on_bytes key.bytes) on_value 0 reply
