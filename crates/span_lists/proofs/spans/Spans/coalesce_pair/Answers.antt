use Rattle.std.proofs.Common.{◌≡◌, ◌+◌, length, set, ap, ◌∙◌, arith}
use Rattle.std.proofs.Math.ListN.{length-set}
use Rattle.index_lists.specs.Table.{Table}
use Rattle.span_lists.specs.declared.spans.PageState.{PageState}
use Rattle.span_lists.specs.declared.spans.PageState.TheVariants.{Allocated}
use Rattle.span_lists.proofs.Views.{layout_of, pair_coalesced, divides_of, coalesced_of}
use Rattle.span_lists.proofs.spans.Spans.coalesce_pair.Goals as goal

pub set-requires : goal.set-requires
set-requires c =
    let after = pair_coalesced c.self.invariant c.requires.order c.requires.allocated c.requires.buddy c.buddy_of-other.ensures c.min-lower.ensures c.max-upper.ensures c.self.view_is in
    let n = c.self.invariant.states_len in let u = after.upper_in in
    omega arith

pub set-requires-2 : goal.set-requires-2
set-requires-2 c =
    let after = pair_coalesced c.self.invariant c.requires.order c.requires.allocated c.requires.buddy c.buddy_of-other.ensures c.min-lower.ensures c.max-upper.ensures c.self.view_is in
    let n = c.self.invariant.states_len in let l = after.lower_in in
    let kept : length c.set.new.self.entries ≡ length c.self.inside.states.entries = ap length (ap (λ (t : Table PageState). t.entries) c.set.ensures) ∙ length-set _ _ _ in
    omega arith

pub invariant_of-self : goal.invariant_of-self
invariant_of-self c =
    let after = pair_coalesced c.self.invariant c.requires.order c.requires.allocated c.requires.buddy c.buddy_of-other.ensures c.min-lower.ensures c.max-upper.ensures c.self.view_is in
    rw ((ap (λ (t : Table PageState). t.entries) c.set-2.ensures), (ap (λ (t : Table PageState). t.entries) c.set.ensures)) after.consistent

pub returns-clause-first : goal.returns-clause-first
returns-clause-first c =
    (pair_coalesced c.self.invariant c.requires.order c.requires.allocated c.requires.buddy c.buddy_of-other.ensures c.min-lower.ensures c.max-upper.ensures c.self.view_is).first

pub returns-clause-moves : goal.returns-clause-moves
returns-clause-moves c =
    ap (λ s. layout_of c.self.inside.pages s c.self.inside.lists) ((ap (λ (t : Table PageState). t.entries) c.set-2.ensures) ∙ ap (λ s. set s c.min-lower.result (Allocated (c.args.order + 1))) (ap (λ (t : Table PageState). t.entries) c.set.ensures))
    ∙ (pair_coalesced c.self.invariant c.requires.order c.requires.allocated c.requires.buddy c.buddy_of-other.ensures c.min-lower.ensures c.max-upper.ensures c.self.view_is).view

pub returns-clause-divided : goal.returns-clause-divided
returns-clause-divided c = divides_of _ _ _ _ (invariant_of-self c)

pub returns-clause-coalesced : goal.returns-clause-coalesced
returns-clause-coalesced c = coalesced_of _ _ _ _ (invariant_of-self c)
