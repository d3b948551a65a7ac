use Rattle.std.proofs.Common.{Option, Some, sym, ap, ◌∙◌}
use Rattle.regions.specs.Contents.{live_at}
use Rattle.regions.specs.declared.place.Place.{Place}
use Rattle.index_tree.specs.Indexes.{number_of}
use Rattle.index_tree.specs.Store.{nodes_of}
use Rattle.index_tree.specs.Trees.{held_below}
use Rattle.index_tree.proofs.SearchLeaves.{leaf_rises, way_leaf}
use Rattle.index_tree.proofs.SearchNode.{is_live}
use Rattle.index_tree.proofs.SearchWay.{number_there}
use Rattle.index_tree.proofs.search.get.Goals as goal

pub number_in-requires-clause-node : goal.number_in-requires-clause-node
number_in-requires-clause-node c =
    let live = live_at c.args.region.now in let q = c.leaf_of-leaf.result in
    let leaf = way_leaf (nodes_of live) c.args.level c.in_ok-root.field-0 c.args.key.now q (c.requires.tree c.in_ok-root.field-0 c.in_ok-root.was) c.leaf_of-leaf.ensures in
    c.requires.nodes q (is_live live q leaf.node leaf.is)

pub number_in-requires-clause-rising : goal.number_in-requires-clause-rising
number_in-requires-clause-rising c =
    let nodes = nodes_of (live_at c.args.region.now) in let q = c.leaf_of-leaf.result in
    leaf_rises nodes q (way_leaf nodes c.args.level c.in_ok-root.field-0 c.args.key.now q (c.requires.tree c.in_ok-root.field-0 c.in_ok-root.was) c.leaf_of-leaf.ensures)

pub returns : goal.returns
returns c =
    let nodes = nodes_of (live_at c.args.region.now) in let key = c.args.key.now in
    c.number_in.ensures
    ∙ (sym (number_there nodes c.args.level (Some c.in_ok-root.field-0) key c.leaf_of-leaf.result c.leaf_of-leaf.ensures)
    ∙ sym (ap (λ (o : Option Place). number_of key (held_below nodes c.args.level o)) c.in_ok-root.was))
