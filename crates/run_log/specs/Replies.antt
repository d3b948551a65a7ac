-- What contracts see of the replies that a log has.
use Rattle.std.specs.Prelude.{ℕ, List, Option}
use Rattle.rows.specs.declared.reply_kind.ReplyKind.{ReplyKind}

pub record Replies : Type 0 where
  -- by the number of the part, from 0: the reply and its body, where one was recorded
  pub replies : List (Option (ReplyKind × List ℕ))
  -- how many bytes of bodies may be recorded still
  pub room : ℕ
