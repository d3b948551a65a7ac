-- What becomes of the segments of a store, and of their pieces.
use Rattle.std.specs.Prelude.{◌≡◌, ◌↔◌, ℕ, ◌+◌, Option, None, Some, IfSome, IsNone, IsSome, slice_get, slice_set}
use Rattle.raw_range.specs.Memory.{Lent}
use Rattle.regions.specs.Segments.{RegionState}
use Rattle.regions.specs.Shapes.{shape, group_count, guards_of, held_count, identity, pieces, IsGreatestHeld, IsLeastUnused}

-- the segments are those that were there, and the guards
pub record HoldsSegments (old new : RegionState) : Type 0 where
  pub most : (shape new).most ≡ (shape old).most
  pub groups : group_count new ≡ group_count old
  pub pieces : pieces new ≡ pieces old
  pub held : held_count new ≡ held_count old
  pub guards : (g : ℕ) → guards_of new g ≡ guards_of old g

-- a segment more is held, on the piece, with the least number that no segment had
pub record AddsSegment (old new : RegionState) (piece : Lent) : Type 0 where
  pub added : (n : ℕ) × IsLeastUnused old n × (pieces new ≡ slice_set (pieces old) n (Some (identity piece)))
  pub held : held_count new ≡ held_count old + 1
  pub most : (shape new).most ≡ (shape old).most
  pub guards : guards_of new 0 ≡ guards_of old 0

-- a segment fewer is held, and its piece is given: the one with the greatest number, if there is one
pub record GivesUp (old new : RegionState) (result : Option Lent) : Type 0 where
  pub none : IsNone result ↔ (held_count old ≡ 0)
  pub given : IfSome result (λ piece. (n : ℕ) × IsGreatestHeld old n × (slice_get (pieces old) n ≡ Some (Some (identity piece)))
      × (pieces new ≡ slice_set (pieces old) n None))
  pub held : IsSome result → held_count new + 1 ≡ held_count old
  pub most : (shape new).most ≡ (shape old).most
  pub guards : guards_of new 0 ≡ guards_of old 0
