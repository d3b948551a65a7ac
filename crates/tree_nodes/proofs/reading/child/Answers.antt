use Rattle.std.proofs.Common.{arith, sym, ◌∙◌}
use Rattle.tree_nodes.proofs.Nodes.{length-content}
use Rattle.tree_nodes.proofs.Calls.{child_stands}
use Rattle.tree_nodes.proofs.reading.child.Goals as goal

pub place_at-requires : goal.place_at-requires
place_at-requires c = let size = length-content c.args.node.now c.requires.node in omega arith

pub returns : goal.returns
returns c = c.place_at.ensures ∙ sym (child_stands c.args.node.now c.args.i c.child_start.result c.requires.i c.child_start.ensures)
