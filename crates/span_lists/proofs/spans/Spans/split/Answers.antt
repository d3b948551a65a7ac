use Rattle.std.proofs.Common.{◌≡◌, ◌+◌, length, set, ◌∷◌, sym, subst, ap, ◌∙◌, arith}
use Rattle.std.proofs.lemmas.Nat.{pow_pos}
use Rattle.std.proofs.Math.ListN.{length-set}
use Rattle.index_lists.specs.Table.{Table}
use Rattle.span_lists.specs.declared.spans.PageState.{PageState}
use Rattle.span_lists.specs.declared.spans.PageState.TheVariants.{Free}
use Rattle.std.specs.FinMap as map
use Rattle.span_lists.specs.Layout.{Layout, IsAllocated, free_at}
use Rattle.common_lemmas.proofs.Powers.{pow_twice}
use Rattle.span_lists.proofs.Consistent.{consistent_split}
use Rattle.span_lists.proofs.Views.{layout_of, split, divides_of, coalesced_of, state_allocated}
use Rattle.span_lists.proofs.spans.Spans.split.Goals as goal

pub span_pages-requires : goal.span_pages-requires
span_pages-requires c =
    let was = state_allocated c.self.inside.pages c.self.inside.states.entries c.self.inside.lists c.args.first (c.args.order + 1) (subst (λ s. IsAllocated s c.args.first (c.args.order + 1)) (sym c.self.view_is) c.requires) in
    let after = consistent_split c.self.inside.pages c.self.inside.states.entries c.self.inside.lists c.self.inside.free c.args.first c.args.order c.self.invariant was in
    let order = after.1 in
    omega arith

pub span_pages-requires-2 : goal.span_pages-requires-2
span_pages-requires-2 c =
    let was = state_allocated c.self.inside.pages c.self.inside.states.entries c.self.inside.lists c.args.first (c.args.order + 1) (subst (λ s. IsAllocated s c.args.first (c.args.order + 1)) (sym c.self.view_is) c.requires) in
    let after = consistent_split c.self.inside.pages c.self.inside.states.entries c.self.inside.lists c.self.inside.free c.args.first c.args.order c.self.invariant was in
    let order = after.1 in
    omega arith

pub overflow_add-upper : goal.overflow_add-upper
overflow_add-upper c =
    let was = state_allocated c.self.inside.pages c.self.inside.states.entries c.self.inside.lists c.args.first (c.args.order + 1) (subst (λ s. IsAllocated s c.args.first (c.args.order + 1)) (sym c.self.view_is) c.requires) in
    let after = consistent_split c.self.inside.pages c.self.inside.states.entries c.self.inside.lists c.self.inside.free c.args.first c.args.order c.self.invariant was in
    let within = after.0 in let two = pow_twice c.args.order in let small = c.self.invariant.small in let len = c.span_pages.ensures.value in
    omega arith

pub push_front-requires-clause-list : goal.push_front-requires-clause-list
push_front-requires-clause-list c =
    let was = state_allocated c.self.inside.pages c.self.inside.states.entries c.self.inside.lists c.args.first (c.args.order + 1) (subst (λ s. IsAllocated s c.args.first (c.args.order + 1)) (sym c.self.view_is) c.requires) in
    let after = consistent_split c.self.inside.pages c.self.inside.states.entries c.self.inside.lists c.self.inside.free c.args.first c.args.order c.self.invariant was in
    let order = after.1 in let o = c.self.invariant.orders in
    omega arith

pub push_front-requires-clause-index : goal.push_front-requires-clause-index
push_front-requires-clause-index c =
    let was = state_allocated c.self.inside.pages c.self.inside.states.entries c.self.inside.lists c.args.first (c.args.order + 1) (subst (λ s. IsAllocated s c.args.first (c.args.order + 1)) (sym c.self.view_is) c.requires) in
    let after = consistent_split c.self.inside.pages c.self.inside.states.entries c.self.inside.lists c.self.inside.free c.args.first c.args.order c.self.invariant was in
    let within = after.0 in let two = pow_twice c.args.order in let pos = pow_pos c.args.order in let p = c.self.invariant.indices in let len = c.span_pages.ensures.value in
    omega arith

pub push_front-requires-clause-absent : goal.push_front-requires-clause-absent
push_front-requires-clause-absent c =
    let was = state_allocated c.self.inside.pages c.self.inside.states.entries c.self.inside.lists c.args.first (c.args.order + 1) (subst (λ s. IsAllocated s c.args.first (c.args.order + 1)) (sym c.self.view_is) c.requires) in
    let after = consistent_split c.self.inside.pages c.self.inside.states.entries c.self.inside.lists c.self.inside.free c.args.first c.args.order c.self.invariant was in
    λ k h. rw c.span_pages.ensures.value (after.3 k (let o = c.self.invariant.orders in omega arith))

pub set-requires : goal.set-requires
set-requires c =
    let was = state_allocated c.self.inside.pages c.self.inside.states.entries c.self.inside.lists c.args.first (c.args.order + 1) (subst (λ s. IsAllocated s c.args.first (c.args.order + 1)) (sym c.self.view_is) c.requires) in
    let after = consistent_split c.self.inside.pages c.self.inside.states.entries c.self.inside.lists c.self.inside.free c.args.first c.args.order c.self.invariant was in
    let within = after.0 in let pos = pow_pos (c.args.order + 1) in let n = c.self.invariant.states_len in
    omega arith

pub set-requires-2 : goal.set-requires-2
set-requires-2 c =
    let was = state_allocated c.self.inside.pages c.self.inside.states.entries c.self.inside.lists c.args.first (c.args.order + 1) (subst (λ s. IsAllocated s c.args.first (c.args.order + 1)) (sym c.self.view_is) c.requires) in
    let after = consistent_split c.self.inside.pages c.self.inside.states.entries c.self.inside.lists c.self.inside.free c.args.first c.args.order c.self.invariant was in
    let within = after.0 in let two = pow_twice c.args.order in let pos = pow_pos c.args.order in let n = c.self.invariant.states_len in let len = c.span_pages.ensures.value in
    let kept : length c.set.new.self.entries ≡ length c.self.inside.states.entries = ap length (ap (λ (t : Table PageState). t.entries) c.set.ensures) ∙ length-set _ _ _ in
    omega arith

pub overflow_add-self : goal.overflow_add-self
overflow_add-self c =
    let was = state_allocated c.self.inside.pages c.self.inside.states.entries c.self.inside.lists c.args.first (c.args.order + 1) (subst (λ s. IsAllocated s c.args.first (c.args.order + 1)) (sym c.self.view_is) c.requires) in
    let after = consistent_split c.self.inside.pages c.self.inside.states.entries c.self.inside.lists c.self.inside.free c.args.first c.args.order c.self.invariant was in
    let bound = after.2 in let small = c.self.invariant.small in let len = c.span_pages-2.ensures.value in
    omega arith

pub invariant_of-self : goal.invariant_of-self
invariant_of-self c =
    let was = state_allocated c.self.inside.pages c.self.inside.states.entries c.self.inside.lists c.args.first (c.args.order + 1) (subst (λ s. IsAllocated s c.args.first (c.args.order + 1)) (sym c.self.view_is) c.requires) in
    let after = consistent_split c.self.inside.pages c.self.inside.states.entries c.self.inside.lists c.self.inside.free c.args.first c.args.order c.self.invariant was in
    rw ((ap (λ (t : Table PageState). t.entries) c.set-2.ensures), (ap (λ (t : Table PageState). t.entries) c.set.ensures), c.push_front.ensures, c.span_pages.ensures.value, c.span_pages-2.ensures.value) after.4

pub returns-clause-moves : goal.returns-clause-moves
returns-clause-moves c =
    let allocated = subst (λ s. IsAllocated s c.args.first (c.args.order + 1)) (sym c.self.view_is) c.requires in
    let upper = ap (λ n. c.args.first + n) c.span_pages.ensures.value in
    ap (λ s. layout_of c.self.inside.pages s c.push_front.new.self) ((ap (λ (t : Table PageState). t.entries) c.set-2.ensures) ∙ ap (λ s. set s (c.args.first + c.span_pages.result) (Free c.args.order)) (ap (λ (t : Table PageState). t.entries) c.set.ensures))
    ∙ split c.self.inside.pages c.self.inside.states.entries c.self.inside.lists c.push_front.new.self c.self.inside.free c.args.first c.args.order (c.args.first + c.span_pages.result) c.args.self.now c.self.invariant allocated upper c.push_front.ensures c.self.view_is
    ∙ ap (λ u. let r : Layout = record c.args.self.now { free = set c.args.self.now.free c.args.order (u ∷ free_at c.args.self.now c.args.order); allocated = map.insert c.args.self.now.allocated c.args.first c.args.order } in r) upper

pub returns-clause-divided : goal.returns-clause-divided
returns-clause-divided c = divides_of _ _ _ _ (invariant_of-self c)

pub returns-clause-coalesced : goal.returns-clause-coalesced
returns-clause-coalesced c = coalesced_of _ _ _ _ (invariant_of-self c)
