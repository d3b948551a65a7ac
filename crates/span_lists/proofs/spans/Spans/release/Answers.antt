use Rattle.std.proofs.Common.{◌≢◌, ◌<◌, sym, subst, ap, ◌∙◌, arith}
use Rattle.index_lists.specs.Table.{Table}
use Rattle.layout.specs.Sizes.{greatest_order}
use Rattle.span_lists.specs.declared.spans.PageState.{PageState}
use Rattle.span_lists.specs.Buddies.{buddy}
use Rattle.span_lists.specs.Layout.{IsFree, IsAllocated}
use Rattle.span_lists.specs.inside.Pages.{state_at}
use Rattle.span_lists.specs.declared.spans.PageState.TheVariants.{Free}
use Rattle.span_lists.proofs.Consistent.{consistent_release}
use Rattle.span_lists.proofs.Views.{layout_of, released, divides_of, coalesced_of, state_allocated, is_free_of, none_listed, allocated_within}
use Rattle.span_lists.proofs.spans.Spans.release.Goals as goal

pub push_front-requires-clause-index : goal.push_front-requires-clause-index
push_front-requires-clause-index c =
    let allocated = subst (λ s. IsAllocated s c.args.first c.args.order) (sym c.self.view_is) c.requires.allocated in
    let w = allocated_within c.self.inside.pages c.self.inside.states.entries c.self.inside.lists c.self.inside.free c.args.first c.args.order c.self.invariant allocated in
    let p = c.self.invariant.indices in
    let l = w.1 in
    omega arith

pub push_front-requires-clause-list : goal.push_front-requires-clause-list
push_front-requires-clause-list c = (let o = c.self.invariant.orders in let small = c.requires.order in omega arith)

pub push_front-requires-clause-absent : goal.push_front-requires-clause-absent
push_front-requires-clause-absent c =
    let allocated = subst (λ s. IsAllocated s c.args.first c.args.order) (sym c.self.view_is) c.requires.allocated in
    none_listed c.self.inside.pages c.self.inside.states.entries c.self.inside.lists c.self.inside.free c.args.first c.args.order c.self.invariant allocated

pub set-requires : goal.set-requires
set-requires c =
    let allocated = subst (λ s. IsAllocated s c.args.first c.args.order) (sym c.self.view_is) c.requires.allocated in
    let w = allocated_within c.self.inside.pages c.self.inside.states.entries c.self.inside.lists c.self.inside.free c.args.first c.args.order c.self.invariant allocated in
    let n = c.self.invariant.states_len in
    let l = w.1 in
    omega arith

pub overflow_add-self : goal.overflow_add-self
overflow_add-self c =
    let allocated = subst (λ s. IsAllocated s c.args.first c.args.order) (sym c.self.view_is) c.requires.allocated in
    let was = state_allocated c.self.inside.pages c.self.inside.states.entries c.self.inside.lists c.args.first c.args.order allocated in
    let alone : c.args.order < greatest_order → state_at c.self.inside.states.entries (buddy c.args.first c.args.order) ≢ Free
    c.args.order = (λ h e. c.requires.alone h (subst (λ s. IsFree s (buddy c.args.first c.args.order) c.args.order) c.self.view_is (is_free_of c.self.inside.pages c.self.inside.states.entries c.self.inside.lists c.self.inside.free _ _ c.self.invariant c.requires.order e))) in
    let after = consistent_release c.self.inside.pages c.self.inside.states.entries c.self.inside.lists c.self.inside.free c.args.first c.args.order c.self.invariant c.requires.order was alone in
    let bound = after.0 in let small = c.self.invariant.small in let len = c.span_pages.ensures.value in
    omega arith

pub invariant_of-self : goal.invariant_of-self
invariant_of-self c =
    let allocated = subst (λ s. IsAllocated s c.args.first c.args.order) (sym c.self.view_is) c.requires.allocated in
    let was = state_allocated c.self.inside.pages c.self.inside.states.entries c.self.inside.lists c.args.first c.args.order allocated in
    let alone : c.args.order < greatest_order → state_at c.self.inside.states.entries (buddy c.args.first c.args.order) ≢ Free
    c.args.order = (λ h e. c.requires.alone h (subst (λ s. IsFree s (buddy c.args.first c.args.order) c.args.order) c.self.view_is (is_free_of c.self.inside.pages c.self.inside.states.entries c.self.inside.lists c.self.inside.free _ _ c.self.invariant c.requires.order e))) in
    let after = consistent_release c.self.inside.pages c.self.inside.states.entries c.self.inside.lists c.self.inside.free c.args.first c.args.order c.self.invariant c.requires.order was alone in
    rw ((ap (λ (t : Table PageState). t.entries) c.set.ensures), c.push_front.ensures, c.span_pages.ensures.value) after.1

pub returns-clause-moves : goal.returns-clause-moves
returns-clause-moves c =
    let allocated = subst (λ s. IsAllocated s c.args.first c.args.order) (sym c.self.view_is) c.requires.allocated in
    ap (λ s. layout_of c.self.inside.pages s c.push_front.new.self) (ap (λ (t : Table PageState). t.entries) c.set.ensures)
    ∙ released c.self.inside.pages c.self.inside.states.entries c.self.inside.lists c.push_front.new.self c.args.first c.args.order c.args.self.now allocated c.push_front.ensures c.self.view_is

pub returns-clause-divided : goal.returns-clause-divided
returns-clause-divided c = divides_of _ _ _ _ (invariant_of-self c)

pub returns-clause-coalesced : goal.returns-clause-coalesced
returns-clause-coalesced c = coalesced_of _ _ _ _ (invariant_of-self c)
