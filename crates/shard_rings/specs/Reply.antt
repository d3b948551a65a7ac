-- The bytes of a reply: a header of 16 bytes and a body. Numbers are little endian.
use Rattle.std.specs.Prelude.{ℕ, ◌<◌, ◌≤◌, ◌^◌, List, ◌∷◌, ◌++◌, length, replicate, All}
use Rattle.std.specs.Int.{w16, w32, to_le_bytes}
use Rattle.std.specs.Io.{StartsWith}
use Rattle.layout.specs.Sizes.{greatest_value}
use Rattle.rows.specs.Spelled.{IsKey, spelled}
use Rattle.rows.specs.declared.reply_kind.ReplyKind.{ReplyKind}
use Rattle.rows.specs.declared.reply_kind.ReplyKind.TheVariants as kinds
use Rattle.rows.specs.Apply.{Reply, Stored, Replaced, Value, Missing, Erased, Keys}
use Rattle.rows.specs.Row.{Row}
use Rattle.rows.specs.Shown.{key_count}

abbrev pub reply_byte : ReplyKind → ℕ
reply_byte kinds.Stored = 17
reply_byte kinds.Replaced = 18
reply_byte kinds.Value = 19
reply_byte kinds.Missing = 20
reply_byte kinds.Erased = 21
reply_byte kinds.Keys = 22

-- what a message can carry: a value of at most 12,000 bytes, and keys of 1 to 256 bytes
abbrev pub IsSendable : Reply → Type 0
IsSendable (Keys keys) = (length keys < 2 ^ 16) × All IsKey keys
IsSendable (Value value) = length value ≤ greatest_value
IsSendable Stored = Unit {0}
IsSendable Replaced = Unit {0}
IsSendable Missing = Unit {0}
IsSendable Erased = Unit {0}

-- a row whose key and value a message can carry
pub record IsSendableRow (row : Row) : Type 0 where
  pub key : IsKey row.key.bytes
  pub value : length row.value ≤ greatest_value

-- the kind, a zero, how many keys, the command's number, the body's length, and four zeros
abbrev pub reply_header : ReplyKind → ℕ → ℕ → ℕ → List ℕ
reply_header kind keys number len =
    reply_byte kind ∷ 0 ∷ to_le_bytes w16 keys ++ to_le_bytes w32 number ++ to_le_bytes w32 len ++ replicate 4 0

-- the reply to the command of that number, as a message
abbrev pub reply_message : ℕ → Reply → List ℕ
reply_message number reply =
    reply_header (spelled reply).0 (key_count reply) number (length (spelled reply).1) ++ (spelled reply).1

-- The bytes begin with the reply to the command of that number. Bytes behind its body have no meaning.
pub record HoldsReply (bytes : List ℕ) (number : ℕ) (reply : Reply) : Type 0 where
  pub numbered : number < 2 ^ 32
  pub sendable : IsSendable reply
  pub begins : StartsWith bytes (reply_message number reply)
