-- A shard parts from the others.
use Rattle.std.specs.Prelude.{◌≡◌, ℕ, ◌-◌, ◌<◌, List, [], ◌∷◌, ◌++◌, Vec, length, Some, slice_get}
use Rattle.std.specs.declared.alloc.Global.{Global}
use Rattle.shard_rings.specs.Lanes.{ArePair}
use Rattle.shard_rings.specs.Links.{LinkState, end_of}
use Rattle.shard_rings.specs.Mesh.{Ends}
use Rattle.shard_run.specs.Closing.{Exchanged}

-- the last of these ends and the other are a pair
pub record EndsWithPairOf (ends : List LinkState) (other : LinkState) : Type 0 where
  pub some : 0 < length ends
  pub pair : (end : LinkState) → slice_get ends (length ends - 1) ≡ Some end → ArePair (end_of end) (end_of other)

-- the last end is gone, and its pair was ended
pub record Parts (old new : List LinkState) (other : LinkState) : Type 0 where
  pub end : LinkState
  pub fewer : old ≡ new ++ end ∷ []
  pub exchanged : Exchanged end other

-- so for each shard, with the end that leads to it
abbrev pub AllPaired : Ends → List LinkState → Type 0
AllPaired shards others = (a : ℕ) (shard : Vec LinkState Global) (other : LinkState) → slice_get shards a ≡ Some shard → slice_get others a ≡ Some other
    → EndsWithPairOf shard.items other

abbrev pub AllPart : Ends → Ends → List LinkState → Type 0
AllPart olds news others = (a : ℕ) (old new : Vec LinkState Global) (other : LinkState) → slice_get olds a ≡ Some old → slice_get news a ≡ Some new
    → slice_get others a ≡ Some other → Parts old.items new.items other
