-- Which kinds of replies an operation of a kind can have.
use Rattle.std.specs.Prelude.{Bool, true, false}
use Rattle.rows.specs.declared.kind.Kind.{Kind}
use Rattle.rows.specs.declared.kind.Kind.TheVariants as kinds
use Rattle.rows.specs.declared.reply_kind.ReplyKind.{ReplyKind}
use Rattle.rows.specs.declared.reply_kind.ReplyKind.TheVariants as answered

-- whether an operation of a kind can be answered so
abbrev pub can_answer : Kind → ReplyKind → Bool
can_answer kinds.Put answered.Stored = true
can_answer kinds.Put answered.Replaced = true
can_answer kinds.Get answered.Value = true
can_answer kinds.Get answered.Missing = true
can_answer kinds.Erase answered.Erased = true
can_answer kinds.Erase answered.Missing = true
can_answer kinds.Scan answered.Keys = true
can_answer kind reply = false
