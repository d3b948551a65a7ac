use Rattle.regions.specs.Contents.{live_at}
use Rattle.tree_nodes.specs.Nodes.{node_in}
use Rattle.index_tree.specs.Store.{nodes_of}
use Rattle.index_tree.proofs.SearchNode.{no_number_if, node_there, number_here_if}
use Rattle.index_tree.proofs.search.number_in.Goals as goal

pub returns-then-has_at : goal.returns-then-has_at
returns-then-has_at c =
    let live = live_at c.args.region.now in
    number_here_if (nodes_of live c.args.leaf) c.args.key.now c.below_at-i.result c.has_at.result c.requires.rising c.below_at-i.ensures c.has_at.ensures
    (node_in c.requires.node.0.content) c.number_at.result (node_there live c.args.leaf c.requires.node) c.if-has_at.true c.number_at.ensures

pub returns-else-has_at : goal.returns-else-has_at
returns-else-has_at c =
    no_number_if (nodes_of (live_at c.args.region.now) c.args.leaf) c.args.key.now c.below_at-i.result c.has_at.result c.requires.rising c.below_at-i.ensures c.has_at.ensures c.if-has_at.false
