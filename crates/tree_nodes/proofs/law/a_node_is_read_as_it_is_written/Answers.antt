use Rattle.tree_nodes.proofs.Nodes.{bytes_hold, length-content, node_read}
use Rattle.tree_nodes.proofs.law.a_node_is_read_as_it_is_written.Goals as goal

pub returns-clause-node : goal.returns-clause-node
returns-clause-node c = node_read

pub returns-clause-holds : goal.returns-clause-holds
returns-clause-holds c = bytes_hold

pub returns-clause-size : goal.returns-clause-size
returns-clause-size c = length-content
