use Rattle.std.proofs.Common.{◌-◌, List, Some, None, sym, subst, arith}
use Rattle.regions.specs.Contents.{live_at}
use Rattle.regions.specs.declared.place.Place.{Place}
use Rattle.tree_nodes.specs.Nodes.{started}
use Rattle.index_tree.specs.Links.{with_parent}
use Rattle.index_tree.specs.Prunes.{Prunes}
use Rattle.index_tree.specs.Store.{nodes_of}
use Rattle.index_tree.proofs.Pruned.{child_alone, child_held, empty_by, hold_still, leaf_goes, root_stays, some_by, started_now, trunk_held}
use Rattle.index_tree.proofs.Touches.{held_still, node_past, node_there}
use Rattle.index_tree.proofs.Writes.{eases}
use Rattle.index_tree.proofs.pruning.settle_root.Goals as goal

pub returns-then-count_at-gt0-clause-pruned : goal.returns-then-count_at-gt0-clause-pruned
returns-then-count_at-gt0-clause-pruned c nodes key lost once =
    let r = c.args.region.now in
    let there = node_there r c.args.root (trunk_held r c.args.level c.args.root c.requires.nodes lost.trunk) in
    root_stays nodes (nodes_of (live_at r)) c.args.level c.args.root key c.args.freed lost (some_by (nodes_of (live_at r) c.args.root) c.count_at.result c.count_at.ensures there (omega arith))

pub returns-then-level-eq0-clause-pruned : goal.returns-then-level-eq0-clause-pruned
returns-then-level-eq0-clause-pruned c nodes key lost once =
    let r = c.args.region.now in
    let s = c.start_at.new.region in
    let holds = trunk_held r c.args.level c.args.root c.requires.nodes lost.trunk in
    subst (λ (t : List Place). Prunes nodes (nodes_of (live_at s)) c.args.level c.args.root 0 None key t) (sym c.push.ensures)
    (leaf_goes nodes (nodes_of (live_at r)) (nodes_of (live_at s)) c.args.level c.args.root key c.args.freed (omega arith) lost
    (empty_by (nodes_of (live_at r) c.args.root) c.count_at.result c.count_at.ensures (omega arith)) (started_now r s c.args.root holds c.start_at.ensures)
    (λ q far. node_past c.args.root (λ _. started 0) r s q c.start_at.ensures far) once)

pub set_parent_at-requires : goal.set_parent_at-requires
set_parent_at-requires c =
    child_held c.args.region.now c.args.region.now c.args.region.now c.args.level c.args.root c.place_of-child.result c.requires.nodes c.child_of.result c.child_of.ensures c.place_of-child.ensures
    c.count_at.result c.count_at.ensures (omega arith) (omega arith) c.requires.lost.2.trunk

pub start_at-requires-2 : goal.start_at-requires-2
start_at-requires-2 c =
    let r = c.args.region.now in
    let s = c.set_parent_at.new.region in
    held_still c.place_of-child.result (with_parent c.link_to.result) r s c.args.root (eases c.place_of-child.result (with_parent c.link_to.result) r s c.set_parent_at.ensures)
    (trunk_held r c.args.level c.args.root c.requires.nodes c.requires.lost.2.trunk)

pub returns-clause-pruned : goal.returns-clause-pruned
returns-clause-pruned c nodes key lost once =
    let r = c.args.region.now in
    let s = c.set_parent_at.new.region in
    let t = c.start_at-2.new.region in
    let child = c.place_of-child.result in
    let w = eases child (with_parent c.link_to.result) r s c.set_parent_at.ensures in
    let holds = held_still child (with_parent c.link_to.result) r s c.args.root w (trunk_held r c.args.level c.args.root c.requires.nodes lost.trunk) in
    subst (λ (ps : List Place). Prunes nodes (nodes_of (live_at t)) c.args.level c.args.root (c.args.level - 1) (Some child) key ps) (sym c.push-2.ensures)
    (child_alone r s t c.args.level c.args.root child c.requires.nodes c.child_of.result c.child_of.ensures c.place_of-child.ensures c.count_at.result c.count_at.ensures (omega arith) (omega arith)
    nodes key c.args.freed c.link_to.result c.link_to.ensures holds c.set_parent_at.ensures c.start_at-2.ensures lost once)

pub returns-clause-nodes : goal.returns-clause-nodes
returns-clause-nodes c =
    let r = c.args.region.now in
    let s = c.set_parent_at.new.region in
    let t = c.start_at-2.new.region in
    let child = c.place_of-child.result in
    hold_still c.args.root (λ _. started 0) s t c.start_at-2.ensures
    (hold_still child (with_parent c.link_to.result) r s (eases child (with_parent c.link_to.result) r s c.set_parent_at.ensures) c.requires.nodes)
