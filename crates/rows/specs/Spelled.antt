-- A reply as a log keeps it and as a message carries it: its kind and its body.
use Rattle.std.specs.Prelude.{ℕ, ◌≤◌, List, [], ◌++◌, length, flat_map}
use Rattle.layout.specs.Sizes as sizes
use Rattle.std.specs.Int.{w16, to_le_bytes}
use Rattle.rows.specs.declared.reply_kind.ReplyKind.{ReplyKind}
use Rattle.rows.specs.declared.reply_kind.ReplyKind.TheVariants as kinds
use Rattle.rows.specs.Apply.{Reply, Stored, Replaced, Value, Missing, Erased, Keys}

-- a key in a body of keys: its length in two bytes, low byte first, and its bytes
abbrev pub key_field : List ℕ → List ℕ
key_field key = to_le_bytes w16 (length key) ++ key

abbrev pub spelled : Reply → ReplyKind × List ℕ
spelled Stored = (kinds.Stored, [])
spelled Replaced = (kinds.Replaced, [])
spelled (Value value) = (kinds.Value, value)
spelled Missing = (kinds.Missing, [])
spelled Erased = (kinds.Erased, [])
spelled (Keys keys) = (kinds.Keys, flat_map key_field keys)

-- a reply whose body is put behind these bytes
abbrev pub with_body : List ℕ → ReplyKind × List ℕ → ReplyKind × List ℕ
with_body front (kind, body) = (kind, front ++ body)

-- a key is as long as a trace's keys are
pub record IsKey (key : List ℕ) : Type 0 where
  pub some : 1 ≤ length key
  pub short : length key ≤ sizes.greatest_key
