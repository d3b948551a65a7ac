use Rattle.std.proofs.Common.{◌≡◌, ◌⊎◌, ◌-◌}
use Rattle.layout.specs.Sizes.{greatest_order}
use Rattle.span_lists.specs.Layout.{IsAllocated}
use Rattle.span_lists.specs.inside.Steps.{IsCoalescedTo, MayBegin}
use Rattle.span_lists.proofs.spans.Spans.coalesce.Given as goal

abbrev pub invariant-loop-self : goal.invariant-loop-self
invariant-loop-self l = record {
  allocated : IsAllocated l.self l.at l.to;
  begun : (l.self ≡ l.fn.self) ⊎ MayBegin l.first l.order;
  coalesces : MayBegin l.first l.order → IsCoalescedTo l.fn.self l.self l.first l.order l.at l.to;
}

abbrev pub decreases-loop-self : goal.decreases-loop-self
decreases-loop-self l = greatest_order - l.to
