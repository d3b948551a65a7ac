-- The ends of shards toward each other.
use Rattle.std.specs.Prelude.{◌≡◌, ℕ, ◌+◌, ◌≤◌, List, Vec, length, Some, slice_get}
use Rattle.std.specs.declared.alloc.Global.{Global}
use Rattle.shard_rings.specs.Lanes.{ArePair}
use Rattle.shard_rings.specs.Links.{LinkState, IsUnused, end_of}

-- for each shard its ends
abbrev pub Ends : Type 0
Ends = List (Vec LinkState Global)

-- it is the k-th end of the shard a
pub record IsEnd (ends : Ends) (a k : ℕ) (x : LinkState) : Type 0 where
  pub own : Vec LinkState Global
  pub own_at : slice_get ends a ≡ Some own
  pub end_at : slice_get own.items k ≡ Some x

-- Each shard has an end toward each other one, in rising order: so that toward a greater shard c + 1 stands at c, and that toward
-- a lower shard at its own number. The two ends between two shards are a pair, and nothing was sent or received.
pub record IsMesh (ends : Ends) : Type 0 where
  pub lengths : (a : ℕ) (own : Vec LinkState Global) → slice_get ends a ≡ Some own → length own.items + 1 ≡ length ends
  pub pairs : (a c : ℕ) (x y : LinkState) → a ≤ c → IsEnd ends a c x → IsEnd ends (c + 1) a y → ArePair (end_of x) (end_of y)
  pub unused : (a k : ℕ) (x : LinkState) → IsEnd ends a k x → IsUnused x
