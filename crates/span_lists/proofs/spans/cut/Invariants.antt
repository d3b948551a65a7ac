use Rattle.std.proofs.Common.{◌≡◌, ◌+◌, ◌%◌, ◌^◌, ◌<◌, ◌≤◌}
use Rattle.layout.specs.Sizes.{span_orders}
use Rattle.span_lists.specs.inside.Pages.{IsBegun}
use Rattle.span_lists.proofs.spans.cut.Given as goal

abbrev pub invariant-loop-least : goal.invariant-loop-least
invariant-loop-least l = IsBegun l.pages l.first l.least l.states.entries l.lists × (l.least ≤ span_orders) × (l.first ≤ l.pages) × (l.pages < l.first + 2 ^ l.least) × (l.first % 2 ^ l.least ≡ 0)

abbrev pub decreases-loop-least : goal.decreases-loop-least
decreases-loop-least l = l.least
