use Rattle.std.proofs.Common.{◌-◌, ◌*◌, refl, arith}
use Rattle.tree_nodes.proofs.Nodes.{length-content}
use Rattle.tree_nodes.proofs.Runs.{children_cut}
use Rattle.tree_nodes.proofs.child_places.cut_children.Goals as goal

pub close_up-requires : goal.close_up-requires
close_up-requires c =
    let size = length-content c.args.node.now c.requires.node in
    omega arith

pub returns-clause-node : goal.returns-clause-node
returns-clause-node c = (children_cut c.args.node.now c.close_up.new.content c.args.i c.args.n c.child_start.result ((17 - c.args.n - c.args.i) * 8)
    c.requires.node c.requires.run c.child_start.ensures refl c.close_up.ensures).0

pub returns-clause-holds : goal.returns-clause-holds
returns-clause-holds c = (children_cut c.args.node.now c.close_up.new.content c.args.i c.args.n c.child_start.result ((17 - c.args.n - c.args.i) * 8)
    c.requires.node c.requires.run c.child_start.ensures refl c.close_up.ensures).1
