-- The header of a request, as it is read.
use Rattle.std.specs.Prelude.{ℕ, ◌<◌, ◌^◌, List, ◌∷◌, ◌++◌, replicate}
use Rattle.std.specs.Int.{w16, w32, to_le_bytes}
use Rattle.std.specs.Io.{StartsWith}
use Rattle.shard_rings.specs.declared.request_head.RequestHead.{RequestHead}

-- the bytes of a header: its fields in their order, with four zeros at the end
abbrev pub head_bytes : RequestHead → List ℕ
head_bytes head =
    head.kind ∷ head.table ∷ to_le_bytes w16 head.key_len ++ to_le_bytes w32 head.number
    ++ to_le_bytes w16 head.value_len ++ to_le_bytes w16 head.count ++ replicate 4 0

-- the bytes begin with this header
pub record IsRequestHeadOf (head : RequestHead) (bytes : List ℕ) : Type 0 where
  pub key_len : head.key_len < 2 ^ 16
  pub number : head.number < 2 ^ 32
  pub value_len : head.value_len < 2 ^ 16
  pub count : head.count < 2 ^ 16
  pub begins : StartsWith bytes (head_bytes head)
