use Rattle.std.proofs.Common.{◌≡◌, Some, None, sym, ◌∙◌}
use Rattle.span_lists.proofs.Fresh.{begun_with_none, map_of_none}
use Rattle.span_lists.proofs.Steps.{empty_allocated}
use Rattle.span_lists.proofs.Views.{layout_of, divides_of, coalesced_of}
use Rattle.span_lists.proofs.Whole.{greatest}
use Rattle.span_lists.proofs.spans.Spans.new.Goals as goal

pub cut-requires-clause-none : goal.cut-requires-clause-none
cut-requires-clause-none c = begun_with_none c.args.pages c.in_ok-states.states.entries c.in_ok-lists.lists c.in_ok-states.ensures.entries c.in_ok-lists.ensures

pub returns-clause-none_allocated : goal.returns-clause-none_allocated
returns-clause-none_allocated c = empty_allocated (layout_of c.args.pages c.cut.new.states.entries c.cut.new.lists) (map_of_none c.cut.new.states.entries c.cut.ensures.none_allocated)

pub returns-clause-greatest : goal.returns-clause-greatest
returns-clause-greatest c =
    greatest _ (divides_of _ _ _ _ c.cut.ensures.consistent) (coalesced_of _ _ _ _ c.cut.ensures.consistent)
    (λ x k e. (let clash : None ≡ Some k = sym (map_of_none c.cut.new.states.entries c.cut.ensures.none_allocated x) ∙ e in cc))

pub returns-clause-divided : goal.returns-clause-divided
returns-clause-divided c = divides_of _ _ _ _ c.cut.ensures.consistent

pub returns-clause-coalesced : goal.returns-clause-coalesced
returns-clause-coalesced c = coalesced_of _ _ _ _ c.cut.ensures.consistent
