use Rattle.std.proofs.Common.{◌≡◌, [], refl, ◌∙◌, arith}
use Rattle.regions.specs.Contents.{live_at}
use Rattle.index_tree.specs.Store.{nodes_of}
use Rattle.index_tree.proofs.Climbed.{before_top, low_stands, parent_led, read_of}
use Rattle.index_tree.proofs.Neighbors.{before_inner, node_here}
use Rattle.place_lemmas.proofs.Places.{is_none_by, is_some_by}
use Rattle.index_tree.proofs.roots.Roots.front_of.Goals as goal
use Rattle.index_tree.proofs.SearchNode.{is_live}

pub level_at-requires : goal.level_at-requires
level_at-requires c =
    let live = live_at c.args.region.now in let nodes = nodes_of live in let t = c.args.self.now.tree in let at = c.args.at in let r = c.requires in
    let n = node_here nodes t r.tree at r.there in
    r.nodes at (is_live live at n.0 n.1)

pub returns-then-level_at-gt0 : goal.returns-then-level_at-gt0
returns-then-level_at-gt0 c =
    let live = live_at c.args.region.now in let nodes = nodes_of live in let t = c.args.self.now.tree in let at = c.args.at in let r = c.requires in
    let n = node_here nodes t r.tree at r.there in
    let level : c.level_at.result ≡ n.0.level = read_of (λ node. c.level_at.result ≡ node.level) nodes at n.0 n.1 c.level_at.ensures in
    let high = c.if-level_at-gt0.true in before_inner nodes t r.tree at n.0 r.there n.1 (omega (arith, level, high))

pub parent_at-requires : goal.parent_at-requires
parent_at-requires c =
    let live = live_at c.args.region.now in let nodes = nodes_of live in let t = c.args.self.now.tree in let at = c.args.at in let r = c.requires in
    let n = node_here nodes t r.tree at r.there in
    r.nodes at (is_live live at n.0 n.1)

pub returns-then-is_none : goal.returns-then-is_none
returns-then-is_none c =
    let live = live_at c.args.region.now in let nodes = nodes_of live in let t = c.args.self.now.tree in let at = c.args.at in let r = c.requires in
    let n = node_here nodes t r.tree at r.there in
    let level : c.level_at.result ≡ n.0.level = read_of (λ node. c.level_at.result ≡ node.level) nodes at n.0 n.1 c.level_at.ensures in
    let low = c.if-level_at-gt0.false in
    before_top nodes t r.tree at n.0 r.there n.1 (omega (arith, level, low))
    (parent_led nodes at n.0 c.parent_at.result c.led_to.result n.1 c.parent_at.ensures.parent c.led_to.ensures ∙ is_none_by c.led_to.result c.if-is_none.ensures)

pub leaf_before-requires : goal.leaf_before-requires
leaf_before-requires c =
    let live = live_at c.args.region.now in let nodes = nodes_of live in let t = c.args.self.now.tree in let at = c.args.at in let r = c.requires in
    let n = node_here nodes t r.tree at r.there in
    let level : c.level_at.result ≡ n.0.level = read_of (λ node. c.level_at.result ≡ node.level) nodes at n.0 n.1 c.level_at.ensures in
    let low = c.if-level_at-gt0.false in
    let some = is_some_by c.led_to.result c.if-is_none.ensures in
    let w = low_stands nodes t r.tree at n.0 some.0 r.there n.1 (omega (arith, level, low))
    (parent_led nodes at n.0 c.parent_at.result c.led_to.result n.1 c.parent_at.ensures.parent c.led_to.ensures ∙ some.1) in
    record { holds = r.nodes; tree = r.tree; among = w.2; above = w.0; sub = w.1 }

pub returns : goal.returns
returns c = c.leaf_before.ensures c.args.at [] refl
