use Rattle.index_tree.proofs.Bounds.{held_between}
use Rattle.index_tree.proofs.law.a_subtree_holds_what_lies_between.Goals as goal

pub returns : goal.returns
returns c = held_between
