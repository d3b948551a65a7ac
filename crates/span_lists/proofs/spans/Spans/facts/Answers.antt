use Rattle.std.proofs.Common.{subst}
use Rattle.span_lists.specs.Layout.{Divides, IsCoalesced}
use Rattle.span_lists.proofs.Views.{divides_of, coalesced_of}
use Rattle.span_lists.proofs.spans.Spans.facts.Goals as goal

pub returns-clause-divided : goal.returns-clause-divided
returns-clause-divided c = subst Divides c.self.view_is (divides_of _ _ _ _ c.self.invariant)

pub returns-clause-coalesced : goal.returns-clause-coalesced
returns-clause-coalesced c = subst IsCoalesced c.self.view_is (coalesced_of _ _ _ _ c.self.invariant)
