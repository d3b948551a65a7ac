-- A store whose segments are all those of a range.
use Rattle.std.specs.Prelude.{◌≡◌, ℕ, ◌/◌}
use Rattle.layout.specs.Sizes.{segment_pages, ArePages}
use Rattle.raw_range.specs.Memory.{Memory}
use Rattle.regions.specs.Segments.{RegionState}
use Rattle.regions.specs.Shapes.{guards_of}
use Rattle.place_lemmas.specs.Ranges.{HoldsFirst}

-- the store, and the pages of the range
pub record InRange (S : Type 0) : Type 0 where
  pub store : S
  pub pages : ℕ

-- every segment of the range is the store's, and none of them is guarded
pub record IsInRange {S : Type 0} (region : S → RegionState) (store : S) (range : Memory) (pages : ℕ) : Type 0 where
  pub are : ArePages pages
  pub first : HoldsFirst range (region store) (pages / segment_pages)
  pub unguarded : guards_of (region store) 0 ≡ 0
