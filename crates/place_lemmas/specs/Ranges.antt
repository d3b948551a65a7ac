-- A store whose segments are the front of a range.
use Rattle.std.specs.Prelude.{◌≡◌, ℕ, zero, suc, ◌*◌, ◌≤◌, nat_lt, cond, List, [], ◌∷◌, length, None, Some, slice_index_or}
use Rattle.layout.specs.Extents.{Extent, extent}
use Rattle.layout.specs.Sizes.{segment, page}
use Rattle.raw_range.specs.Memory.{Memory}
use Rattle.regions.specs.Segments.{RegionState}
use Rattle.regions.specs.Shapes.{Identity, shape, pieces, held_count}

-- the first n segments of a range, the last one in front
abbrev pub extents : ℕ → List Extent
extents zero = []
extents (suc n) = extent (n * segment) segment ∷ extents n

abbrev pub nth_piece : Memory → ℕ → Identity
nth_piece range n = record { home = range.home; owner = range.owner; at = n * segment; length = segment }

-- the region holds the first n segments of the range, each with its own number, and nothing else of the range is out
pub record HoldsFirst (range : Memory) (region : RegionState) (n : ℕ) : Type 0 where
  pub held : held_count region ≡ n
  pub long : length (pieces region) ≡ (shape region).most
  pub pieces_are : (k : ℕ) → slice_index_or (pieces region) k None ≡ cond (nat_lt k n) (Some (nth_piece range k)) None
  pub allocated : range.allocated ≡ extents n
  pub inside : n * segment ≤ page * range.pages
