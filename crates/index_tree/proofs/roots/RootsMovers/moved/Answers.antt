use Rattle.std.proofs.Common.{◌≡◌, Option, refl, sym, ap, subst, ◌∙◌}
use Rattle.std.specs.Prelude.{option_map}
use Rattle.regions.specs.Contents.{Item, live_at}
use Rattle.regions.specs.Stores.{less}
use Rattle.tree_nodes.specs.Nodes.{node_in}
use Rattle.regions.specs.Places.{led_to}
use Rattle.index_tree.specs.Store.{nodes_of}
use Rattle.index_tree.specs.inside.Climbs.{parent_in}
use Rattle.index_tree.specs.inside.Rosters.{IsRosterOf, RosterState, place_of, shape_of}
use Rattle.index_tree.proofs.Climbed.{parent_led}
use Rattle.index_tree.proofs.Mended.{mends_all}
use Rattle.index_tree.proofs.Moving.{children_are, from_among, front_is, front_later, holds, names_moved, parent_is, parent_later, references_moved, roster_moved, roster_stands, shape_moved, tree_in}
use Rattle.index_tree.proofs.roots.RootsMovers.moved.Goals as goal

pub front_of-front-requires-clause-nodes : goal.front_of-front-requires-clause-nodes
front_of-front-requires-clause-nodes c =
    let r = c.args.self.now in let old = c.args.store.now in let live = live_at c.args.store.now in let from = c.args.from in let to = c.args.to in
    let i = c.requires.copied in let is = c.requires.fits in let far = c.requires.apart in
    holds live from to r is far c.parent_at.ensures.room i.0 i.2 i.3

pub front_of-front-requires-clause-tree : goal.front_of-front-requires-clause-tree
front_of-front-requires-clause-tree c =
    let r = c.args.self.now in let old = c.args.store.now in let live = live_at c.args.store.now in let from = c.args.from in let to = c.args.to in
    let i = c.requires.copied in let is = c.requires.fits in let far = c.requires.apart in
    tree_in live from to r is far c.parent_at.ensures.room i.0 i.2 i.3

pub front_of-front-requires-clause-there : goal.front_of-front-requires-clause-there
front_of-front-requires-clause-there c =
    let r = c.args.self.now in let old = c.args.store.now in let live = live_at c.args.store.now in let from = c.args.from in let to = c.args.to in
    let i = c.requires.copied in let is = c.requires.fits in let far = c.requires.apart in
    from_among live from to r is far c.parent_at.ensures.room i.0 i.2 i.3

pub mend_children-requires-clause-nodes : goal.mend_children-requires-clause-nodes
mend_children-requires-clause-nodes c =
    let r = c.args.self.now in let old = c.args.store.now in let live = live_at c.args.store.now in let from = c.args.from in let to = c.args.to in
    let i = c.requires.copied in let is = c.requires.fits in let far = c.requires.apart in
    holds live from to r is far c.parent_at.ensures.room i.0 i.2 i.3

pub mend_children-requires-clause-children : goal.mend_children-requires-clause-children
mend_children-requires-clause-children c =
    let r = c.args.self.now in let old = c.args.store.now in let live = live_at c.args.store.now in let from = c.args.from in let to = c.args.to in
    let i = c.requires.copied in let is = c.requires.fits in let far = c.requires.apart in
    children_are live from to r is far c.parent_at.ensures.room i.0 i.2 i.3

pub mend_front-requires-clause-nodes : goal.mend_front-requires-clause-nodes
mend_front-requires-clause-nodes c =
    let r = c.args.self.now in let old = c.args.store.now in let live = live_at c.args.store.now in let from = c.args.from in let to = c.args.to in
    let i = c.requires.copied in let is = c.requires.fits in let far = c.requires.apart in
    c.mend_children.ensures.holds (holds live from to r is far c.parent_at.ensures.room i.0 i.2 i.3)

pub mend_front-requires-clause-front : goal.mend_front-requires-clause-front
mend_front-requires-clause-front c =
    let r = c.args.self.now in let old = c.args.store.now in let live = live_at c.args.store.now in let from = c.args.from in let to = c.args.to in
    let i = c.requires.copied in let is = c.requires.fits in let far = c.requires.apart in
    front_later from to old c.mend_children.new.region c.front_of-front.result c.mend_children.ensures (front_is live from to r is far c.parent_at.ensures.room i.0 i.2 i.3 c.front_of-front.result c.front_of-front.ensures)

pub mend_parent-requires-clause-nodes : goal.mend_parent-requires-clause-nodes
mend_parent-requires-clause-nodes c =
    let r = c.args.self.now in let old = c.args.store.now in let live = live_at c.args.store.now in let from = c.args.from in let to = c.args.to in
    let i = c.requires.copied in let is = c.requires.fits in let far = c.requires.apart in
    c.mend_front.ensures.holds (c.mend_children.ensures.holds (holds live from to r is far c.parent_at.ensures.room i.0 i.2 i.3))

pub mend_parent-requires-clause-parent : goal.mend_parent-requires-clause-parent
mend_parent-requires-clause-parent c =
    let r = c.args.self.now in let old = c.args.store.now in let live = live_at c.args.store.now in let from = c.args.from in let to = c.args.to in
    let i = c.requires.copied in let is = c.requires.fits in let far = c.requires.apart in
    let parent : c.led_to-parent.result ≡ led_to (parent_in (nodes_of live from)) =
    sym (parent_led (nodes_of live) to (node_in i.0.content) c.parent_at.result c.led_to-parent.result (ap (λ (o : Option Item). option_map (λ (x : Item). node_in x.content) o) i.3) c.parent_at.ensures.parent c.led_to-parent.ensures)
    ∙ ap (λ (o : Option Item). led_to (parent_in (option_map (λ (x : Item). node_in x.content) o))) (i.3 ∙ sym i.2) in
    parent_later from to old c.mend_children.new.region c.mend_front.new.region c.led_to-parent.result c.mend_children.ensures c.mend_front.ensures (parent_is live from to r is far c.parent_at.ensures.room i.0 i.2 i.3 c.led_to-parent.result parent)

pub returns-clause-stands : goal.returns-clause-stands
returns-clause-stands c =
    roster_stands

pub returns-clause-names : goal.returns-clause-names
returns-clause-names c =
    λ n. ap (λ (x : RosterState). place_of x n) c.rename.ensures ∙ names_moved c.args.from c.args.to c.args.self.now n

pub returns-clause-fits : goal.returns-clause-fits
returns-clause-fits c =
    let r = c.args.self.now in let old = c.args.store.now in let live = live_at c.args.store.now in let from = c.args.from in let to = c.args.to in
    let i = c.requires.copied in let is = c.requires.fits in let far = c.requires.apart in
    let m = mends_all from to old c.mend_children.new.region c.mend_front.new.region c.mend_parent.new.region c.mend_children.ensures c.mend_front.ensures c.mend_parent.ensures in
    subst (λ (x : RosterState). IsRosterOf x (less from (live_at c.mend_parent.new.region))) (sym c.rename.ensures) (roster_moved live from to r is far c.parent_at.ensures.room i.0 i.2 i.3 old c.mend_parent.new.region refl m)

pub returns-clause-references : goal.returns-clause-references
returns-clause-references c =
    let r = c.args.self.now in let old = c.args.store.now in let live = live_at c.args.store.now in let from = c.args.from in let to = c.args.to in
    let i = c.requires.copied in let is = c.requires.fits in let far = c.requires.apart in
    let m = mends_all from to old c.mend_children.new.region c.mend_front.new.region c.mend_parent.new.region c.mend_children.ensures c.mend_front.ensures c.mend_parent.ensures in
    references_moved live from to r is far c.parent_at.ensures.room i.0 i.2 i.3 old c.mend_parent.new.region refl m

pub returns-clause-rest : goal.returns-clause-rest
returns-clause-rest c = ap (λ (x : RosterState). shape_of x) c.rename.ensures ∙ shape_moved c.args.from c.args.to c.args.self.now
