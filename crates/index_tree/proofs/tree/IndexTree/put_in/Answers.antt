use Rattle.std.proofs.Common.{◌≡◌, ◌+◌, ◌<◌, length, None, sym, ap, subst, ◌∙◌}
use Rattle.regions.specs.Shapes.{held_count}
use Rattle.index_tree.specs.Indexes.{Index, number_of, with_number}
use Rattle.index_tree.specs.Sizes.{most}
use Rattle.index_tree.specs.Store.{IndexState, index_in}
use Rattle.index_tree.specs.inside.Consistent.{IsConsistent}
use Rattle.index_tree.specs.inside.Rosters.{RosterState}
use Rattle.index_tree.proofs.InsertedTree.{consistent_after, counted_after}
use Rattle.index_tree.proofs.States.{low_enough}
use Rattle.index_tree.proofs.tree.IndexTree.put_in.Goals as goal

pub plant-planted-requires-clause-low : goal.plant-planted-requires-clause-low
plant-planted-requires-clause-low c = let f = c.self.inside in low_enough f.roots f.region f.keys f.segments c.self.invariant

pub invariant_of-self : goal.invariant_of-self
invariant_of-self c =
    let f = c.self.inside in let i = c.self.invariant in let p = c.plant-planted in
    let has : c.args.had ≡ number_of c.args.key.now f.roots.known.index = c.requires.had
    ∙ (ap (λ (s : IndexState). number_of c.args.key.now (index_in s)) (sym c.self.view_is) ∙ ap (λ (x : Index). number_of c.args.key.now x) i.roster.index) in
    let fewer : c.args.had ≡ None → length f.roots.known.index < most (held_count f.region) = (λ e.
    subst (λ (x : Index). length x < most (held_count f.region)) i.roster.index
    (subst (λ (s : IndexState). length (index_in s) < most (held_count s.region)) (sym c.self.view_is) (c.requires.room e))) in
    subst (λ (r : RosterState). IsConsistent r p.new.region (f.keys + c.from.result) f.segments) (sym c.settle.ensures)
    (consistent_after f.roots f.region p.new.region f.keys f.segments p.result.left p.result.level p.result.root c.args.key.now c.args.number i p.ensures.planted p.ensures.touched
    c.args.had (f.keys + c.from.result) has (counted_after c.args.had c.is_none.result c.from.result f.keys c.is_none.ensures c.from.ensures) fewer p.ensures.left)

pub returns-clause-index : goal.returns-clause-index
returns-clause-index c =
    let f = c.self.inside in let p = c.plant-planted in
    ap (λ (r : RosterState). index_in (record { tree = r.tree; region = p.new.region })) c.settle.ensures
    ∙ (p.ensures.planted.held ∙ ap (λ (s : IndexState). with_number c.args.key.now c.args.number (index_in s)) c.self.view_is)
