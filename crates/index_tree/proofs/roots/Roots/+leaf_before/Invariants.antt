use Rattle.std.proofs.Common.{◌-◌}
use Rattle.index_tree.proofs.roots.Roots.+leaf_before.Given as goal

abbrev pub decreases-leaf_before : goal.decreases-leaf_before
decreases-leaf_before l = l.self.now.tree.level - l.level
