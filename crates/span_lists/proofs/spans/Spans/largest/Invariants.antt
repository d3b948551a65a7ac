use Rattle.std.proofs.Common.{◌≡◌, ℕ, ◌<◌, ◌≤◌, [], get_or}
use Rattle.layout.specs.Sizes.{span_orders}
use Rattle.span_lists.proofs.spans.Spans.largest.Given as goal

abbrev pub invariant-loop-above : goal.invariant-loop-above
invariant-loop-above l = (l.above ≤ span_orders) × ((k : ℕ) → l.above ≤ k → k < span_orders → get_or l.self-inside.lists.lists k [] ≡ [])

abbrev pub decreases-loop-above : goal.decreases-loop-above
decreases-loop-above l = l.above
