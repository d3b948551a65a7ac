use Rattle.std.proofs.Common.{subst}
use Rattle.span_lists.specs.Layout.{Divides}
use Rattle.span_lists.proofs.Views.{divides_of}
use Rattle.span_lists.proofs.spans.Spans.can_coalesce.Goals as goal

pub returns-then-order-ge-GREATEST_ORDER-clause-divided : goal.returns-then-order-ge-GREATEST_ORDER-clause-divided
returns-then-order-ge-GREATEST_ORDER-clause-divided c = subst Divides c.self.view_is (divides_of _ _ _ _ c.self.invariant)

pub returns-then-other-pages-clause-divided : goal.returns-then-other-pages-clause-divided
returns-then-other-pages-clause-divided c = subst Divides c.self.view_is (divides_of _ _ _ _ c.self.invariant)

pub returns-else-other-pages-clause-divided : goal.returns-else-other-pages-clause-divided
returns-else-other-pages-clause-divided c = subst Divides c.self.view_is (divides_of _ _ _ _ c.self.invariant)
