-- How a kind and a body spell a reply.
use Rattle.std.specs.Prelude.{◌≡◌, ℕ, List, All}
use Rattle.rows.specs.declared.reply_kind.ReplyKind.{ReplyKind}
use Rattle.rows.specs.Apply.{Reply, Stored, Replaced, Value, Missing, Erased, Keys}
use Rattle.rows.specs.Spelled.{IsKey, spelled}

-- any keys are as long as a trace's are
abbrev pub HasLegalKeys : Reply → Type 0
HasLegalKeys (Keys keys) = All IsKey keys
HasLegalKeys Stored = Unit {0}
HasLegalKeys Replaced = Unit {0}
HasLegalKeys (Value value) = Unit {0}
HasLegalKeys Missing = Unit {0}
HasLegalKeys Erased = Unit {0}

-- a part's kind and body spell this reply
pub record Spells (kind : ReplyKind) (body : List ℕ) (reply : Reply) : Type 0 where
  pub spelled : (kind, body) ≡ spelled reply
  pub legal : HasLegalKeys reply
