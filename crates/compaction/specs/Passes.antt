-- What a pass does, one segment after the other.
use Rattle.std.specs.Prelude.{◌≡◌, ℕ, ◌<◌, ◌⊎◌, List, [], ◌∷◌}
use Rattle.regions.specs.Segments.{RegionState}
use Rattle.regions.specs.Shapes.{shape, activated, free_count, IsClosedIn, IsLeastFree}
use Rattle.regions.specs.Contents.{Keeps}
use Rattle.regions.specs.Stores.{Bare}
use Rattle.compaction.specs.Sparse.{IsMovable, IsSpent}
use Rattle.compaction.specs.Emptied.{EmptiesSparsest}

-- The active segment of the group was sparse and full, and of no group with a smaller number. The next one was begun in the
-- group, and then the sparsest closed one of the group was emptied.
pub record ClosesAndEmpties (bare : Bare) (g : ℕ) (old new : RegionState) : Type 0 where
  pub spent : IsSpent old g
  pub first : (h : ℕ) → h < g → ¬ IsSpent old h
  pub begun : RegionState
  pub number : ℕ
  pub least : IsLeastFree old number
  pub shape : shape begun ≡ activated g number (shape old)
  pub keeps : Keeps old begun
  pub empties : EmptiesSparsest bare (IsClosedIn begun g) begun new

-- one segment more was emptied: of the lowest group whose active one was sparse and full, or, where there was none, of all
abbrev pub FreesOne : Bare → RegionState → RegionState → Type 0
FreesOne bare old new = ((g : ℕ) × ClosesAndEmpties bare g old new) ⊎ (((g : ℕ) → ¬ IsSpent old g) × EmptiesSparsest bare (IsMovable old) old new)

-- these are the regions after each of the steps, and one segment was free before each
abbrev pub Passes : Bare → RegionState → List RegionState → RegionState → Type 0
Passes bare old [] new = new ≡ old
Passes bare old (r ∷ rs) new = (free_count old ≡ 1) × FreesOne bare old r × Passes bare r rs new
