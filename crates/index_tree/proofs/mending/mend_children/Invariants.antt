use Rattle.index_tree.proofs.Mended.{AreLedUp}
use Rattle.index_tree.proofs.mending.mend_children.Given as goal

abbrev pub invariant-loop-i : goal.invariant-loop-i
invariant-loop-i l = AreLedUp l.from l.to l.initial.region l.region l.i
