use Rattle.std.proofs.Common.{◌≡◌, ◌<◌, length, sym, ap, subst, ◌∙◌, arith}
use Rattle.std.proofs.Common.{refl}
use Rattle.std.specs.Prelude.{IsSome, Option}
use Rattle.tree_nodes.specs.Nodes.{TreeNode}
use Rattle.regions.specs.Contents.{live_at}
use Rattle.regions.specs.Places.{led_to}
use Rattle.index_tree.specs.Store.{nodes_of}
use Rattle.index_tree.specs.Trees.{entries_of}
use Rattle.index_tree.specs.inside.Climbs.{child_in}
use Rattle.index_tree.proofs.Climbed.{read_of}
use Rattle.index_tree.proofs.Mended.{child_holds, children_mended, children_still, led_more, led_none, node_there, read_child, still_there}
use Rattle.index_tree.proofs.mending.mend_children.Goals as goal

pub lead_up-requires : goal.lead_up-requires
lead_up-requires c =
    let old = c.args.region.now in let now = c.loop-i.region in let from = c.args.from in let to = c.args.to in let i = c.loop-i.i in
    let n = node_there (live_at old) from (c.requires.nodes from c.requires.here) in
    let m = still_there from to old now i from c.loop-i.invariant (subst (λ o. IsSome o) (sym n.1) refl) in
    let child : c.led_to-child.result ≡ led_to (child_in (nodes_of (live_at old) from) i) =
    c.led_to-child.ensures ∙ ap (λ l. led_to l) (read_child (nodes_of (live_at now) from) m.0 c.child_of.result i m.1 c.child_of.ensures ∙ children_still from to old now i i c.loop-i.invariant) in
    child_holds from to old now i i c.led_to-child.result c.requires.nodes c.requires.children c.loop-i.invariant child

pub loop-i-init : goal.loop-i-init
loop-i-init c = led_none c.args.from c.args.to c.args.region.now

pub loop-i-preserved : goal.loop-i-preserved
loop-i-preserved c =
    let old = c.args.region.now in let now = c.loop-i.region in let from = c.args.from in let to = c.args.to in let i = c.loop-i.i in
    let n = node_there (live_at old) from (c.requires.nodes from c.requires.here) in
    let m = still_there from to old now i from c.loop-i.invariant (subst (λ o. IsSome o) (sym n.1) refl) in
    let child : c.led_to-child.result ≡ led_to (child_in (nodes_of (live_at old) from) i) =
    c.led_to-child.ensures ∙ ap (λ l. led_to l) (read_child (nodes_of (live_at now) from) m.0 c.child_of.result i m.1 c.child_of.ensures ∙ children_still from to old now i i c.loop-i.invariant) in
    led_more from to old now c.lead_up.new.region i c.led_to-child.result c.requires.children c.loop-i.invariant child c.lead_up.ensures

pub returns : goal.returns
returns c =
    let old = c.args.region.now in let from = c.args.from in
    let n = node_there (live_at old) from (c.requires.nodes from c.requires.here) in
    let count : c.count_at-i-end.result ≡ length n.0.entries = read_of (λ node. c.count_at-i-end.result ≡ length node.entries) (nodes_of (live_at old)) from n.0 n.1 c.count_at-i-end.ensures in
    children_mended from c.args.to old c.loop-i.region c.loop-i.i c.requires.children
    (subst (λ (o : Option TreeNode). length (entries_of o) < c.loop-i.i) (sym n.1) (omega (arith, count))) c.loop-i.invariant
