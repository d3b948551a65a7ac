-- How a report says a reply: a word, and the reply's body behind it.
use Rattle.std.specs.Prelude.{ℕ, List, codes}
use Rattle.rows.specs.declared.reply_kind.ReplyKind.{ReplyKind}
use Rattle.rows.specs.declared.reply_kind.ReplyKind.TheVariants as kinds

abbrev pub word : ReplyKind → List ℕ
word kinds.Stored = codes "stored"
word kinds.Replaced = codes "replaced"
word kinds.Value = codes "value "
word kinds.Missing = codes "missing"
word kinds.Erased = codes "erased"
word kinds.Keys = codes "keys"
