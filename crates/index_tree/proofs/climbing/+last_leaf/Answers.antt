use Rattle.std.proofs.Common.{◌-◌, sym, subst, ◌∙◌, arith}
use Rattle.std.specs.Prelude.{Some}
use Rattle.regions.specs.Contents.{live_at}
use Rattle.regions.specs.declared.place.Place.{Place}
use Rattle.index_tree.specs.Store.{nodes_of}
use Rattle.index_tree.specs.inside.Climbs.{HasSubtree, IsLast}
use Rattle.index_tree.proofs.Climbed.{deeper, last_read}
use Rattle.place_lemmas.proofs.Places.{some_is}
use Rattle.index_tree.proofs.climbing.+last_leaf.Goals as goal

pub returns-in_default : goal.returns-in_default
returns-in_default t c =
    let nodes = nodes_of (live_at c.args.region.now) in
    let d = deeper nodes c.args.level c.args.at (omega arith) c.requires.below in
    let child = last_read nodes c.args.level c.args.at d c.count_at.result c.child_of.result c.led_to.result c.count_at.ensures c.child_of.ensures c.led_to.ensures in
    absurd (c.in_default.not-Some d.place child)

pub last_leaf-requires : goal.last_leaf-requires
last_leaf-requires t c =
    let nodes = nodes_of (live_at c.args.region.now) in
    let d = deeper nodes c.args.level c.args.at (omega arith) c.requires.below in
    let child = last_read nodes c.args.level c.args.at d c.count_at.result c.child_of.result c.led_to.result c.count_at.ensures c.child_of.ensures c.led_to.ensures in
    (omega arith, (c.requires.nodes, (Some c.args.at, subst (λ (q : Place). HasSubtree nodes (c.args.level - 1) (Some c.args.at) q) (some_is (sym child ∙ c.in-Some.is)) d.sub)))

pub returns : goal.returns
returns t c =
    let nodes = nodes_of (live_at c.args.region.now) in
    let d = deeper nodes c.args.level c.args.at (omega arith) c.requires.below in
    let child = last_read nodes c.args.level c.args.at d c.count_at.result c.child_of.result c.led_to.result c.count_at.ensures c.child_of.ensures c.led_to.ensures in
    d.last c.last_leaf.result (subst (λ (q : Place). IsLast nodes (c.args.level - 1) q c.last_leaf.result) (some_is (sym c.in-Some.is ∙ child)) c.last_leaf.ensures)
