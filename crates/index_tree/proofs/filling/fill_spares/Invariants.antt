use Rattle.std.proofs.Common.{◌-◌, length}
use Rattle.index_tree.proofs.Filled.{IsFilling}
use Rattle.index_tree.proofs.filling.fill_spares.Given as goal

abbrev pub invariant-loop-region : goal.invariant-loop-region
invariant-loop-region l = IsFilling l.initial.roots l.roots l.initial.region l.region l.wanted

abbrev pub decreases-loop-region : goal.decreases-loop-region
decreases-loop-region l = l.wanted - length l.roots.tree.spares
