use Rattle.std.proofs.Common.{◌≡◌, None, sym, subst, ap, ◌∙◌, arith}
use Rattle.std.specs.FinMap as map
use Rattle.index_lists.specs.Table.{Table}
use Rattle.span_lists.specs.declared.spans.PageState.{PageState}
use Rattle.span_lists.specs.Layout.{Layout, IsFree}
use Rattle.span_lists.proofs.Consistent.{consistent_allocate}
use Rattle.span_lists.proofs.Views.{layout_of, allocated_as_it_is, divides_of, coalesced_of}
use Rattle.span_lists.proofs.spans.Spans.allocate.Goals as goal

pub overflow_sub-self : goal.overflow_sub-self
overflow_sub-self c =
    let held = subst (λ s. IsFree s c.args.first c.args.order) (sym c.self.view_is) c.requires.free in
    let after = consistent_allocate c.self.inside.pages c.self.inside.states.entries c.self.inside.lists c.self.inside.free c.args.first c.args.order c.self.invariant c.requires.order held in
    let enough = after.0 in let len = c.span_pages.ensures.value in
    omega arith

pub invariant_of-self : goal.invariant_of-self
invariant_of-self c =
    let held = subst (λ s. IsFree s c.args.first c.args.order) (sym c.self.view_is) c.requires.free in
    let after = consistent_allocate c.self.inside.pages c.self.inside.states.entries c.self.inside.lists c.self.inside.free c.args.first c.args.order c.self.invariant c.requires.order held in
    rw ((ap (λ (t : Table PageState). t.entries) c.set.ensures), c.remove.ensures, c.span_pages.ensures.value) after.1

pub returns-clause-moves : goal.returns-clause-moves
returns-clause-moves c =
    let held = subst (λ s. IsFree s c.args.first c.args.order) (sym c.self.view_is) c.requires.free in
    ap (λ s. layout_of c.self.inside.pages s c.remove.new.self) (ap (λ (t : Table PageState). t.entries) c.set.ensures)
    ∙ allocated_as_it_is c.self.inside.pages c.self.inside.states.entries c.self.inside.lists c.remove.new.self c.self.inside.free c.args.first c.args.order c.args.self.now c.self.invariant held c.remove.ensures c.self.view_is

pub returns-clause-was_free : goal.returns-clause-was_free
returns-clause-was_free c =
    let held = subst (λ s. IsFree s c.args.first c.args.order) (sym c.self.view_is) c.requires.free in
    subst (λ (s : Layout). map.get s.allocated c.args.first ≡ None) c.self.view_is ((divides_of c.self.inside.pages c.self.inside.states.entries c.self.inside.lists c.self.inside.free c.self.invariant).either c.args.first c.args.order held)

pub returns-clause-divided : goal.returns-clause-divided
returns-clause-divided c = divides_of _ _ _ _ (invariant_of-self c)

pub returns-clause-coalesced : goal.returns-clause-coalesced
returns-clause-coalesced c = coalesced_of _ _ _ _ (invariant_of-self c)
