use Rattle.std.proofs.Common.{◌≡◌, ℕ, ◌<◌}
use Rattle.regions.specs.Shapes.{guards_of}
use Rattle.compaction.proofs.whole.is_guarded.Given as goal

abbrev pub invariant-loop-group : goal.invariant-loop-group
invariant-loop-group l = (g : ℕ) → g < l.group → guards_of l.region g ≡ 0
