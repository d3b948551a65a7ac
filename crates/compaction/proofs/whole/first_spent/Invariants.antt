use Rattle.std.proofs.Common.{◌≡◌, ◌⊎◌, ℕ, ◌<◌, ◌≤◌, Some}
use Rattle.layout.specs.Sizes.{greatest_object}
use Rattle.regions.specs.Shapes.{active_of}
use Rattle.regions.specs.Counts.{left}
use Rattle.compaction.specs.Sparse.{IsDense}
use Rattle.compaction.proofs.whole.first_spent.Given as goal

abbrev pub invariant-loop-group : goal.invariant-loop-group
invariant-loop-group l = (g : ℕ) → g < l.group → (n : ℕ) → active_of l.region g ≡ Some n → IsDense l.region n ⊎ (greatest_object ≤ left l.region g)
