use Rattle.std.proofs.Common.{◌-◌, Some, None, sym, subst, arith}
use Rattle.regions.specs.Contents.{live_at}
use Rattle.regions.specs.declared.place.Place.{Place}
use Rattle.index_tree.specs.Store.{nodes_of}
use Rattle.index_tree.specs.Trees.{leaves_below}
use Rattle.index_tree.proofs.SearchDown.{led_place}
use Rattle.index_tree.proofs.SearchNode.{is_live}
use Rattle.index_tree.proofs.SearchWay.{IsTreeOnWay, leads_within, node_of_tree, starts, steps, tree_rises}
use Rattle.index_tree.proofs.search.leaf_of.Goals as goal

pub loop-left-init : goal.loop-left-init
loop-left-init c =
    let nodes = nodes_of (live_at c.args.region.now) in
    record { parent = None; low = None; high = None; tree = c.requires.tree; way = starts nodes c.args.level c.args.root c.args.key.now }

pub way_at-requires-clause-node : goal.way_at-requires-clause-node
way_at-requires-clause-node c =
    let live = live_at c.args.region.now in let on = c.loop-left.invariant in
    let found = node_of_tree (nodes_of live) c.loop-left.left on.parent on.low on.high c.loop-left.at on.tree in
    c.requires.nodes c.loop-left.at (is_live live c.loop-left.at found.0 found.1)

pub way_at-requires-clause-rising : goal.way_at-requires-clause-rising
way_at-requires-clause-rising c =
    let on = c.loop-left.invariant in
    tree_rises (nodes_of (live_at c.args.region.now)) c.loop-left.left on.parent on.low on.high c.loop-left.at on.tree

pub child_of-requires-clause-node : goal.child_of-requires-clause-node
child_of-requires-clause-node c =
    let live = live_at c.args.region.now in let on = c.loop-left.invariant in
    let found = node_of_tree (nodes_of live) c.loop-left.left on.parent on.low on.high c.loop-left.at on.tree in
    c.requires.nodes c.loop-left.at (is_live live c.loop-left.at found.0 found.1)

pub child_of-requires-clause-i : goal.child_of-requires-clause-i
child_of-requires-clause-i c =
    let on = c.loop-left.invariant in
    let within = leads_within (nodes_of (live_at c.args.region.now)) c.loop-left.left on.parent on.low on.high c.loop-left.at c.args.key.now c.way_at.result on.tree c.way_at.ensures in
    omega (arith, within)

pub loop-left-preserved : goal.loop-left-preserved
loop-left-preserved c =
    let nodes = nodes_of (live_at c.args.region.now) in
    let leaves = leaves_below nodes c.args.level (Some c.args.root) in
    let on = steps nodes leaves c.args.key.now c.loop-left.left c.loop-left.at c.way_at.result c.child_of.result c.loop-left-test.true c.loop-left.invariant c.way_at.ensures c.child_of.ensures in
    subst (λ (p : Place). IsTreeOnWay nodes leaves c.args.key.now (c.loop-left.left - 1) p) (sym (led_place c.child_of.result c.place_of-child.result on.0 c.place_of-child.ensures on.1)) on.2
