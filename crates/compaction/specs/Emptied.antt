-- What becomes of a segment that is emptied, and of the others.
use Rattle.std.specs.Prelude.{◌≡◌, ◌≢◌, ℕ, ◌+◌, ◌<◌, ◌≤◌, Some, IsSome, option_map}
use Rattle.regions.specs.Segments.{RegionState}
use Rattle.regions.specs.Shapes.{shape, group_count, group_of, active_of, activated, freed, guards_of, guards_at, pieces, held_count, free_count, IsClosed, IsClosedIn, IsLeastFree}
use Rattle.regions.specs.Counts.{used_at, live_bytes_at, used_total, live_total, left}
use Rattle.regions.specs.Contents.{standing_at}
use Rattle.regions.specs.Stores.{Bare, without_references}
use Rattle.regions.specs.declared.place.Place.{Place}
use Rattle.compaction.specs.Sparse.{IsSparsest}

-- what stands at the place, live or dead, is as it was, reference fields apart
abbrev pub IsSameAt : Bare → RegionState → RegionState → Place → Type 0
IsSameAt bare old new p = option_map (without_references bare) (standing_at new p) ≡ option_map (without_references bare) (standing_at old p)

-- The segment of the group is free. The next one was begun in the group exactly where the live bytes were more than its active
-- segment had left; else no other one is free, closed or active that was not before. What stands in the other closed segments
-- is as it was, and each object of any other segment is where it was. Of the bytes that were used, the live ones are used
-- elsewhere now, and no more.
pub record IsEmptied (bare : Bare) (g n : ℕ) (old new : RegionState) : Type 0 where
  pub of : group_of old n ≡ Some g
  pub within : live_bytes_at old n ≤ left old g → shape new ≡ freed n (shape old)
  pub beyond : left old g < live_bytes_at old n → (m : ℕ) × IsLeastFree old m × (shape new ≡ freed n (activated g m (shape old)))
  pub one_more : live_bytes_at old n ≤ left old g → free_count new ≡ free_count old + 1
  pub as_many : left old g < live_bytes_at old n → free_count new ≡ free_count old
  pub closed : (h m : ℕ) → m ≢ n → IsClosedIn old h m → IsClosedIn new h m
  pub same : (p : Place) → p.segment ≢ n → IsClosed old p.segment → IsSameAt bare old new p
  pub kept : (p : Place) → p.segment ≢ n → IsSome (standing_at old p) → IsSameAt bare old new p
  pub live : (m : ℕ) → m ≢ n → IsClosed old m → live_bytes_at new m ≡ live_bytes_at old m
  pub used : used_total new + used_at old n ≡ used_total old + live_bytes_at old n

-- the segment that holds least of those of which this holds was emptied within its group
abbrev pub EmptiesSparsest : Bare → (ℕ → Type 0) → RegionState → RegionState → Type 0
EmptiesSparsest bare Holds old new = (g : ℕ) × (n : ℕ) × IsSparsest Holds old n × IsEmptied bare g n old new

-- what stands in the segments of a group with a guard, live or dead, is as it was, reference fields apart
abbrev pub GuardedStay : Bare → RegionState → RegionState → Type 0
GuardedStay bare old new = (p : Place) → 1 ≤ guards_at old p.segment → IsSome (standing_at old p) → IsSameAt bare old new p

-- how many segments have room, which are held, each with its piece, how many groups there are and under how many guards, and
-- how many bytes are live; where a group had an active segment, it has one
pub record HoldsTheSame (old new : RegionState) : Type 0 where
  pub most : (shape new).most ≡ (shape old).most
  pub groups : group_count new ≡ group_count old
  pub active : (g : ℕ) → IsSome (active_of old g) → IsSome (active_of new g)
  pub pieces : pieces new ≡ pieces old
  pub held : held_count new ≡ held_count old
  pub guards : (g : ℕ) → guards_of new g ≡ guards_of old g
  pub live_total : live_total new ≡ live_total old

-- the bytes of dead objects are those used less those live
abbrev pub HasFewerDead : RegionState → RegionState → Type 0
HasFewerDead old new = used_total new + live_total old < used_total old + live_total new
