-- Which segments are sparse, which of them is emptied first, and when nothing is left to compact.
use Rattle.std.specs.Prelude.{◌≡◌, ℕ, ◌<◌, ◌≤◌, ◌⊎◌, Some}
use Rattle.layout.specs.Sizes.{dense, greatest_object}
use Rattle.regions.specs.Segments.{RegionState}
use Rattle.regions.specs.Shapes.{active_of, guards_at, free_count, IsClosed, IsClosedIn}
use Rattle.regions.specs.Counts.{live_bytes_at, left}

-- more bytes of the segment are live than a whole object of the greatest size leaves of it; else it is sparse
abbrev pub IsDense : RegionState → ℕ → Type 0
IsDense r n = dense < live_bytes_at r n

abbrev pub IsSparse : RegionState → ℕ → Type 0
IsSparse r n = live_bytes_at r n ≤ dense

-- every closed segment is dense, or every one of the group
abbrev pub AreDense : RegionState → Type 0
AreDense r = (n : ℕ) → IsClosed r n → IsDense r n

abbrev pub AreDenseIn : RegionState → ℕ → Type 0
AreDenseIn r g = (n : ℕ) → IsClosedIn r g n → IsDense r n

-- the segment is closed, and its group has no guard
abbrev pub IsMovable : RegionState → ℕ → Type 0
IsMovable r n = IsClosed r n × (guards_at r n ≡ 0)

-- some closed segment is sparse, and each such one is of a group with a guard
abbrev pub AreHeldBack : RegionState → Type 0
AreHeldBack r = ((n : ℕ) × IsClosed r n × IsSparse r n) × ((n : ℕ) → IsClosed r n → IsSparse r n → 1 ≤ guards_at r n)

-- of the segments of which this holds the one is sparse, none has fewer live bytes, and each one of a smaller number has more
pub record IsSparsest (Holds : ℕ → Type 0) (r : RegionState) (n : ℕ) : Type 0 where
  pub holds : Holds n
  pub sparse : IsSparse r n
  pub fewest : (m : ℕ) → Holds m → live_bytes_at r n ≤ live_bytes_at r m
  pub least : (m : ℕ) → Holds m → m < n → live_bytes_at r n < live_bytes_at r m

-- whatever a sparse segment of the group holds has room: a segment is free, or the group's active one has so many bytes left
abbrev pub HasRoom : RegionState → ℕ → Type 0
HasRoom r g = (1 ≤ free_count r) ⊎ (dense ≤ left r g)

-- the active segment of the group is sparse and full
abbrev pub IsSpent : RegionState → ℕ → Type 0
IsSpent r g = (n : ℕ) × (active_of r g ≡ Some n) × IsSparse r n × (left r g < greatest_object)

-- nothing is left to compact: every closed segment is dense, each active one is dense or has room for an object of any
-- size, and at most one is free
pub record IsCompacted (r : RegionState) : Type 0 where
  pub closed : AreDense r
  pub active : (g n : ℕ) → active_of r g ≡ Some n → IsDense r n ⊎ (greatest_object ≤ left r g)
  pub free : free_count r ≤ 1
