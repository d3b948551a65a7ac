-- Some live objects of a closed segment were moved out of it.
use Rattle.std.specs.Prelude.{◌≡◌, ◌≢◌, ℕ, ◌+◌, ◌<◌, ◌≤◌, ◌⊎◌, IsSome}
use Rattle.layout.specs.Sizes.{segment}
use Rattle.regions.specs.Segments.{RegionState}
use Rattle.regions.specs.Shapes.{shape, activated, free_count, IsClosed, IsClosedIn, IsLeastFree}
use Rattle.regions.specs.Counts.{used_at, live_bytes_at, used_total, left}
use Rattle.regions.specs.Contents.{standing_at}
use Rattle.regions.specs.Stores.{Bare}
use Rattle.regions.specs.declared.place.Place.{Place}
use Rattle.compaction.specs.Emptied.{IsSameAt, HoldsTheSame}

pub record IsDrained (bare : Bare) (n : ℕ) (old new : RegionState) : Type 0 where
  pub holds : HoldsTheSame old new
  pub closed : (h m : ℕ) → IsClosedIn old h m → IsClosedIn new h m
  pub same : (p : Place) → p.segment ≢ n → IsClosed old p.segment → IsSameAt bare old new p
  pub kept : (p : Place) → p.segment ≢ n → IsSome (standing_at old p) → IsSameAt bare old new p
  pub live : (m : ℕ) → m ≢ n → IsClosed old m → live_bytes_at new m ≡ live_bytes_at old m
  pub end : used_at new n ≡ used_at old n
  pub used : used_total new + live_bytes_at new n ≡ used_total old + live_bytes_at old n

-- what is live in the segment of the group has room
abbrev pub HasRoomFor : ℕ → ℕ → RegionState → Type 0
HasRoomFor g n r = (1 ≤ free_count r) ⊎ (live_bytes_at r n ≤ left r g)

-- the free segment with the least number is the active one of the group from now on
pub record BeginsNext (g : ℕ) (old new : RegionState) : Type 0 where
  pub number : ℕ
  pub least : IsLeastFree old number
  pub shape : shape new ≡ activated g number (shape old)
  pub free : free_count new + 1 ≡ free_count old

-- what moved out of the segment went into the active one of its group; or that had too little left for all of it, and the next
-- segment was begun, which has room for what is still live
abbrev pub Took : ℕ → ℕ → RegionState → RegionState → Type 0
Took g n old new =
    ((shape new ≡ shape old) × (left new g + live_bytes_at old n ≡ left old g + live_bytes_at new n)) ⊎ ((left old g < live_bytes_at old n) × BeginsNext g old new × (live_bytes_at new n ≤ left new g))

-- the same of one object of the size
abbrev pub TookOne : ℕ → ℕ → RegionState → RegionState → Type 0
TookOne g size old new = ((shape new ≡ shape old) × (left new g + size ≡ left old g)) ⊎ ((left old g < size) × BeginsNext g old new × (left new g + size ≡ segment))
