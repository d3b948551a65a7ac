use Rattle.std.proofs.Common.{◌≤◌, ◌<◌}
use Rattle.layout.specs.Sizes.{span_orders}
use Rattle.span_lists.specs.inside.Steps.{IsSplitTo}
use Rattle.span_lists.proofs.spans.Spans.split_down.Given as goal

abbrev pub invariant-loop-at : goal.invariant-loop-at
invariant-loop-at l = (l.order ≤ l.at) × (l.at ≤ l.from) × (l.from < span_orders) × IsSplitTo l.fn.self l.self l.first l.from l.at

abbrev pub decreases-loop-at : goal.decreases-loop-at
decreases-loop-at l = l.at
