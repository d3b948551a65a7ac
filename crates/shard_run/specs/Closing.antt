-- The pairs of all shards, and what had gone over them as they ended.
use Rattle.std.specs.Prelude.{◌≡◌, ℕ, ◌+◌, ◌≤◌, Vec, length, Some, slice_get}
use Rattle.std.specs.declared.alloc.Global.{Global}
use Rattle.shard_rings.specs.Lanes.{ArePair, ArePrefixes}
use Rattle.shard_rings.specs.Links.{LinkState, end_of}
use Rattle.shard_rings.specs.Mesh.{Ends, IsEnd}

-- Each shard has an end toward each other one, in rising order, and the two ends between two shards are a pair.
pub record ArePaired (ends : Ends) : Type 0 where
  pub lengths : (a : ℕ) (own : Vec LinkState Global) → slice_get ends a ≡ Some own → length own.items + 1 ≡ length ends
  pub pairs : (a c : ℕ) (x y : LinkState) → a ≤ c → IsEnd ends a c x → IsEnd ends (c + 1) a y → ArePair (end_of x) (end_of y)

-- what each of two ends received is a prefix of what the other sent, on both lanes
abbrev pub Exchanged : LinkState → LinkState → Type 0
Exchanged x y = ArePrefixes x.into.received y.out.sent × ArePrefixes y.into.received x.out.sent

-- so it is between each two shards
abbrev pub WereExchanged : Ends → Type 0
WereExchanged ends = (a c : ℕ) (x y : LinkState) → a ≤ c → IsEnd ends a c x → IsEnd ends (c + 1) a y → Exchanged x y
