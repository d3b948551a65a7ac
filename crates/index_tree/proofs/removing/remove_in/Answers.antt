use Rattle.regions.specs.Contents.{live_at}
use Rattle.tree_nodes.specs.Nodes.{node_in}
use Rattle.index_tree.specs.Store.{nodes_of}
use Rattle.index_tree.proofs.SearchNode.{no_number_if, node_there, number_here_if}
use Rattle.index_tree.proofs.removing.remove_in.Goals as goal

pub returns-then-not-has_at-clause-number : goal.returns-then-not-has_at-clause-number
returns-then-not-has_at-clause-number c =
    no_number_if (nodes_of (live_at c.args.region.now) c.args.leaf) c.args.key.now c.below_at-i.result c.has_at.result c.requires.rising c.below_at-i.ensures c.has_at.ensures c.if-not-has_at.true

pub returns-clause-number : goal.returns-clause-number
returns-clause-number c =
    let live = live_at c.args.region.now in
    number_here_if (nodes_of live c.args.leaf) c.args.key.now c.below_at-i.result c.has_at.result c.requires.rising c.below_at-i.ensures c.has_at.ensures
    (node_in c.requires.node.0.content) c.number_at-number.result (node_there live c.args.leaf c.requires.node) c.if-not-has_at.false c.number_at-number.ensures
