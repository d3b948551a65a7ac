-- The sparsest segment of some groups.
use Rattle.std.specs.Prelude.{◌≡◌, ℕ, ◌<◌, ◌⊎◌, Option, None, Some}
use Rattle.regions.specs.Segments.{RegionState}
use Rattle.regions.specs.Shapes.{group_of}
use Rattle.regions.specs.Counts.{live_bytes_at}
use Rattle.compaction.specs.Sparse.{IsDense, IsMovable, IsSparsest}

-- the one has fewer live bytes than the other, or as many and a lower number
abbrev pub IsBefore : RegionState → ℕ → ℕ → Type 0
IsBefore r m n = (live_bytes_at r m < live_bytes_at r n) ⊎ ((live_bytes_at r m ≡ live_bytes_at r n) × (m < n))

-- of two segments it is the one that is before the other
abbrev pub IsSparser : RegionState → ℕ → ℕ → ℕ → Type 0
IsSparser r m n chosen = ((chosen ≡ m) × IsBefore r m n) ⊎ ((chosen ≡ n) × ¬ IsBefore r m n)

-- the segment is closed in one of so many groups, which has no guard
abbrev pub IsMovableBelow : RegionState → ℕ → ℕ → Type 0
IsMovableBelow r count n = IsMovable r n × (g : ℕ) × (group_of r n ≡ Some g) × (g < count)

-- it is the sparsest of these, or none where each of them is dense
abbrev pub IsSparsestSoFar : RegionState → ℕ → Option ℕ → Type 0
IsSparsestSoFar r count None = (n : ℕ) → IsMovableBelow r count n → IsDense r n
IsSparsestSoFar r count (Some n) = IsSparsest (IsMovableBelow r count) r n
