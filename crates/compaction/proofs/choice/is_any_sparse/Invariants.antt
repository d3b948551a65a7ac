use Rattle.std.proofs.Common.{ℕ, ◌<◌}
use Rattle.compaction.specs.Sparse.{AreDenseIn}
use Rattle.compaction.proofs.choice.is_any_sparse.Given as goal

abbrev pub invariant-loop-group : goal.invariant-loop-group
invariant-loop-group l = (g : ℕ) → g < l.group → AreDenseIn l.region g
