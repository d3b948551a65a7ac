-- The header of a reply, as it is read.
use Rattle.std.specs.Prelude.{ℕ, ◌<◌, ◌^◌, List}
use Rattle.std.specs.Io.{StartsWith}
use Rattle.shard_rings.specs.declared.head.Head.{Head}
use Rattle.shard_rings.specs.Reply.{reply_header}

-- the bytes begin with this header
pub record IsHeadOf (head : Head) (bytes : List ℕ) : Type 0 where
  pub keys : head.keys < 2 ^ 16
  pub number : head.number < 2 ^ 32
  pub len : head.len < 2 ^ 32
  pub begins : StartsWith bytes (reply_header head.kind head.keys head.number head.len)
