-- Replies of the code, and what they mean.
use Rattle.std.specs.Prelude.{◌≡◌, ℕ, List, [], length}
use Rattle.rows.specs.declared.reply.Reply.{Reply as Shown}
use Rattle.rows.specs.declared.reply.Reply.TheVariants as shown
use Rattle.rows.specs.declared.reply_kind.ReplyKind.{ReplyKind}
use Rattle.rows.specs.declared.reply_kind.ReplyKind.TheVariants as kinds
use Rattle.rows.specs.Apply.{Reply, Stored, Replaced, Value, Missing, Erased, Keys}
use Rattle.rows.specs.Spelled.{spelled}

-- how many keys a reply has
abbrev pub key_count : Reply → ℕ
key_count (Keys keys) = length keys
key_count Stored = 0
key_count Replaced = 0
key_count (Value value) = 0
key_count Missing = 0
key_count Erased = 0

abbrev pub kind_shown : Shown → ReplyKind
kind_shown shown.Stored = kinds.Stored
kind_shown shown.Replaced = kinds.Replaced
kind_shown (shown.Value value) = kinds.Value
kind_shown shown.Missing = kinds.Missing
kind_shown shown.Erased = kinds.Erased
kind_shown (shown.Keys count bytes) = kinds.Keys

-- the value, or the bytes of the keys; else none
abbrev pub body_shown : Shown → List ℕ
body_shown shown.Stored = []
body_shown shown.Replaced = []
body_shown (shown.Value value) = value.now
body_shown shown.Missing = []
body_shown shown.Erased = []
body_shown (shown.Keys count bytes) = bytes.now

-- how many keys there are
abbrev pub keys_shown : Shown → ℕ
keys_shown shown.Stored = 0
keys_shown shown.Replaced = 0
keys_shown (shown.Value value) = 0
keys_shown shown.Missing = 0
keys_shown shown.Erased = 0
keys_shown (shown.Keys count bytes) = count

-- the reply of the code has the kind and the body of a reply, and so many keys
pub record IsViewOf (view : Shown) (reply : Reply) : Type 0 where
  pub spelled : spelled reply ≡ (kind_shown view, body_shown view)
  pub keys : keys_shown view ≡ key_count reply
