use Rattle.compaction.specs.inside.Chosen.{IsSparsestSoFar}
use Rattle.compaction.proofs.choice.sparsest.Given as goal

abbrev pub invariant-loop-group : goal.invariant-loop-group
invariant-loop-group l = IsSparsestSoFar l.region l.group l.found
