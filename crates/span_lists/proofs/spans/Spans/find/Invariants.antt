use Rattle.std.proofs.Common.{◌≡◌, ℕ, ◌<◌, ◌≤◌, [], get_or}
use Rattle.span_lists.proofs.spans.Spans.find.Given as goal

abbrev pub invariant-loop-from : goal.invariant-loop-from
invariant-loop-from l = (k : ℕ) → l.order ≤ k → k < l.from → get_or l.self-inside.lists.lists k [] ≡ []
