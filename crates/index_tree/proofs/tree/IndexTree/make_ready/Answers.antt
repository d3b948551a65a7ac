use Rattle.std.proofs.Common.{◌+◌, ◌≤◌, sym, ap, subst, ◌∙◌, arith}
use Rattle.regions.specs.Shapes.{held_count}
use Rattle.index_tree.specs.Sizes.{most}
use Rattle.segmented_store.specs.Segments.{HoldsSegments}
use Rattle.index_tree.specs.Store.{IndexState, index_in, levels}
use Rattle.index_tree.proofs.Ready.{filled, free_there, levels_filled, room_for}
use Rattle.index_tree.proofs.States.{low_enough}
use Rattle.index_tree.proofs.tree.IndexTree.make_ready.Goals as goal

pub fill_spares-requires-clause-free : goal.fill_spares-requires-clause-free
fill_spares-requires-clause-free c =
    let f = c.self.inside in
    free_there f.roots f.region f.keys f.segments c.self.invariant (subst (λ (s : IndexState). 3 ≤ held_count s.region) (sym c.self.view_is) c.requires.held)

pub fill_spares-requires-clause-most : goal.fill_spares-requires-clause-most
fill_spares-requires-clause-most c =
    let f = c.self.inside in let low = low_enough f.roots f.region f.keys f.segments c.self.invariant in let e = c.height.ensures in omega (arith, low, e)

pub fill_spares-requires-clause-room : goal.fill_spares-requires-clause-room
fill_spares-requires-clause-room c =
    let f = c.self.inside in let i = c.self.invariant in let low = low_enough f.roots f.region f.keys f.segments i in let e = c.height.ensures in
    let some : 1 ≤ most (held_count f.region) = subst (λ (s : IndexState). 1 ≤ most (held_count s.region)) (sym c.self.view_is) c.requires.some in
    room_for f.roots f.region f.keys f.segments (c.height.result + 1) i some (omega (arith, low, e))

pub invariant_of-self : goal.invariant_of-self
invariant_of-self c =
    let f = c.self.inside in let e = c.fill_spares.ensures in
    filled f.roots c.fill_spares.new.roots f.region c.fill_spares.new.region f.keys f.segments c.self.invariant e.roster e.index e.rooted e.spares e.free e.segments e.live_total

pub returns-clause-index : goal.returns-clause-index
returns-clause-index c =
    let i = c.self.invariant in let e = c.fill_spares.ensures in
    e.roster.index ∙ (e.index ∙ (sym i.roster.index ∙ ap (λ (s : IndexState). index_in s) c.self.view_is))

pub returns-clause-levels : goal.returns-clause-levels
returns-clause-levels c =
    let f = c.self.inside in let e = c.fill_spares.ensures in
    levels_filled f.roots c.fill_spares.new.roots e.rooted e.level ∙ ap (λ (s : IndexState). levels s.tree) c.self.view_is

pub returns-clause-spares : goal.returns-clause-spares
returns-clause-spares c =
    let f = c.self.inside in let e = c.fill_spares.ensures in let same = levels_filled f.roots c.fill_spares.new.roots e.rooted e.level in
    let high = c.height.ensures in let enough = e.enough in omega (arith, same, high, enough)

pub returns-clause-segments : goal.returns-clause-segments
returns-clause-segments c = subst (λ (s : IndexState). HoldsSegments s.region c.fill_spares.new.region) c.self.view_is c.fill_spares.ensures.segments
