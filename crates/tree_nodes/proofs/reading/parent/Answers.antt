use Rattle.std.proofs.Common.{arith}
use Rattle.tree_nodes.specs.Nodes.{node_in}
use Rattle.tree_nodes.proofs.Nodes.{length-content}
use Rattle.tree_nodes.proofs.reading.parent.Goals as goal

pub place_at-requires : goal.place_at-requires
place_at-requires c = let size = length-content c.args.node.now c.requires in omega arith

pub returns : goal.returns
unfolding node_in
returns c = c.place_at.ensures
