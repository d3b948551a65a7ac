-- A reply that fits a command in its body, where its kind is one that the command can be answered.
use Rattle.std.specs.Prelude.{◌≡◌, ℕ, ◌≤◌, true, List, length}
use Rattle.rows.specs.Apply.{Reply, Value, Keys}
use Rattle.shard_parts.specs.inside.Rising.{rise}

-- a value is not too long; keys are not too many, and rise from the scan's key on
abbrev pub BodyFits : ℕ → List ℕ → ℕ → Reply → Type 0
BodyFits longest key count (Value value) = length value ≤ longest
BodyFits longest key count (Keys keys) = (length keys ≤ count) × (rise true key keys ≡ true)
BodyFits longest key count reply = Unit {0}
