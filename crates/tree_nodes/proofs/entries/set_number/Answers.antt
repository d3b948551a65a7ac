use Rattle.std.proofs.Common.{◌+◌, ap, arith}
use Rattle.tree_nodes.proofs.Nodes.{length-content}
use Rattle.tree_nodes.proofs.Calls.{number_set}
use Rattle.tree_nodes.proofs.entries.set_number.Goals as goal

pub write_number-requires : goal.write_number-requires
write_number-requires c =
    let size = length-content c.args.node.now c.requires.node in
    let few = c.requires.node.node.few in
    omega arith

pub returns-clause-node : goal.returns-clause-node
returns-clause-node c =
    (number_set c.args.node.now c.write_number.new.content c.args.i (c.entry_start.result + 4) c.args.number
    c.requires.node c.requires.i (ap (λ k. k + 4) c.entry_start.ensures) c.ranges.number.fits c.write_number.ensures).0

pub returns-clause-holds : goal.returns-clause-holds
returns-clause-holds c =
    (number_set c.args.node.now c.write_number.new.content c.args.i (c.entry_start.result + 4) c.args.number
    c.requires.node c.requires.i (ap (λ k. k + 4) c.entry_start.ensures) c.ranges.number.fits c.write_number.ensures).1
