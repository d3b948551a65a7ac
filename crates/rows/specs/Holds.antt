-- What holds of the key and the value of a put, and then of rows and replies. A fact about keys is a test of them, and so
-- is one about values.
use Rattle.std.specs.Prelude.{◌≡◌, Bool, true, ℕ, List, All}
use Rattle.rows.specs.Key.{Key, in_table}
use Rattle.rows.specs.Operation.{Operation, is_put}
use Rattle.rows.specs.Apply.{Reply, Stored, Replaced, Value, Missing, Erased, Keys}
use Rattle.rows.specs.Row.{Row}

-- of the key and the value, where the operation is a put
abbrev pub PutHolds : (Key → Bool) → (List ℕ → Bool) → Operation → Type 0
PutHolds on_key on_value operation =
    is_put operation.kind ≡ true → (on_key operation.key ≡ true) × (on_value operation.value ≡ true)

abbrev pub RowHolds : (Key → Bool) → (List ℕ → Bool) → Row → Type 0
RowHolds on_key on_value row = (on_key row.key ≡ true) × (on_value row.value ≡ true)

abbrev pub RowsHold : (Key → Bool) → (List ℕ → Bool) → List Row → Type 0
RowsHold on_key on_value cache = All (RowHolds on_key on_value) cache

-- of the value or the keys in a reply to an operation on a table
abbrev pub ReplyHolds : (Key → Bool) → (List ℕ → Bool) → ℕ → Reply → Type 0
ReplyHolds on_key on_value table (Value value) = on_value value ≡ true
ReplyHolds on_key on_value table (Keys keys) = All (λ bytes. on_key (in_table table bytes) ≡ true) keys
ReplyHolds on_key on_value table Stored = Unit {0}
ReplyHolds on_key on_value table Replaced = Unit {0}
ReplyHolds on_key on_value table Missing = Unit {0}
ReplyHolds on_key on_value table Erased = Unit {0}
