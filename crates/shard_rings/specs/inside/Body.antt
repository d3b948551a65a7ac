-- The body of a reply, as it is read.
use Rattle.std.specs.Prelude.{◌≡◌, ℕ, List, [], length}
use Rattle.rows.specs.declared.reply_kind.ReplyKind.{ReplyKind}
use Rattle.rows.specs.declared.reply_kind.ReplyKind.TheVariants as kinds
use Rattle.rows.specs.Apply.{Reply}
use Rattle.rows.specs.KeyBody.{AreKeys}
use Rattle.rows.specs.Spelled.{spelled}
use Rattle.rows.specs.Shown.{key_count}
use Rattle.shard_rings.specs.Reply.{IsSendable}

-- the body is so many keys, each behind its length
pub record HasKeys (body : List ℕ) (count : ℕ) : Type 0 where
  pub keys : List (List ℕ)
  pub counted : length keys ≡ count
  pub are_keys : AreKeys body keys

-- the body is that of a reply of this kind, with so many keys
pub record IsBody (kind : ReplyKind) (count : ℕ) (body : List ℕ) : Type 0 where
  pub reply : Reply
  pub sendable : IsSendable reply
  pub spelled : spelled reply ≡ (kind, body)
  pub keys : key_count reply ≡ count

-- only a value and keys have a body, and only keys are counted
abbrev pub HasItsBody : ReplyKind → ℕ → List ℕ → Type 0
HasItsBody kinds.Stored count body = (body ≡ []) × (count ≡ 0)
HasItsBody kinds.Replaced count body = (body ≡ []) × (count ≡ 0)
HasItsBody kinds.Value count body = count ≡ 0
HasItsBody kinds.Missing count body = (body ≡ []) × (count ≡ 0)
HasItsBody kinds.Erased count body = (body ≡ []) × (count ≡ 0)
HasItsBody kinds.Keys count body = Unit {0}
