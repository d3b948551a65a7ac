use Rattle.std.proofs.Common.{arith}
use Rattle.tree_nodes.specs.Nodes.{node_in}
use Rattle.tree_nodes.proofs.Nodes.{length-content}
use Rattle.tree_nodes.proofs.reading.level.Goals as goal

pub count_at-requires : goal.count_at-requires
count_at-requires c = let size = length-content c.args.node.now c.requires in omega arith

pub returns : goal.returns
unfolding node_in
returns c = c.count_at.ensures
