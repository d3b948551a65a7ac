use Rattle.std.proofs.Common.{arith}
use Rattle.tree_nodes.proofs.Nodes.{length-content}
use Rattle.tree_nodes.proofs.Calls.{parent_set}
use Rattle.tree_nodes.proofs.links.set_parent.Goals as goal

pub write_place-requires : goal.write_place-requires
write_place-requires c = let size = length-content c.args.node.now c.requires in omega arith

pub returns-clause-node : goal.returns-clause-node
returns-clause-node c = (parent_set c.args.node.now c.write_place.new.content c.args.place c.requires c.ranges.place.fits c.write_place.ensures).0

pub returns-clause-holds : goal.returns-clause-holds
returns-clause-holds c = (parent_set c.args.node.now c.write_place.new.content c.args.place c.requires c.ranges.place.fits c.write_place.ensures).1
