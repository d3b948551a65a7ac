-- A shard more meets the others.
use Rattle.std.specs.Prelude.{◌≡◌, List, [], ◌∷◌, ◌++◌, Vec}
use Rattle.std.specs.declared.alloc.Global.{Global}
use Rattle.shard_rings.specs.Lanes.{ArePair}
use Rattle.shard_rings.specs.Links.{LinkState, IsUnused, end_of}
use Rattle.shard_rings.specs.Mesh.{Ends}

-- the shard has one end more, and this is the other end of its pair
pub record Meets (old new : Vec LinkState Global) (other : LinkState) : Type 0 where
  pub end : LinkState
  pub more : new.items ≡ old.items ++ end ∷ []
  pub pair : ArePair (end_of end) (end_of other)
  pub unused : IsUnused end
  pub other_unused : IsUnused other

-- each shard has one end more, and these are the other ends of their pairs
abbrev pub AllMeet : Ends → Ends → List LinkState → Type 0
AllMeet [] [] [] = Unit {0}
AllMeet (old ∷ olds) (new ∷ news) (other ∷ others) = Meets old new other × AllMeet olds news others
AllMeet [] [] (other ∷ others) = ⊥
AllMeet [] (new ∷ news) others = ⊥
AllMeet (old ∷ olds) [] others = ⊥
AllMeet (old ∷ olds) (new ∷ news) [] = ⊥
