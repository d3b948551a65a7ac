use Rattle.std.proofs.Common.{◌≡◌, ℕ, ◌+◌, ◌≤◌, ap, subst, ◌∙◌}
use Rattle.layout.specs.Sizes.{greatest_order}
use Rattle.span_lists.specs.Layout.{Layout, allocated_pages, HasNone, IsBlocked}
use Rattle.span_lists.proofs.Views.{layout_of, divides_of, coalesced_of, pages_of}
use Rattle.span_lists.proofs.Whole.{blocked}
use Rattle.span_lists.proofs.spans.Spans.free_pages.Goals as goal

pub returns-clause-rest : goal.returns-clause-rest
returns-clause-rest c = subst (λ (s : Layout). c.self.inside.free + allocated_pages s ≡ s.pages) c.self.view_is
    (ap (λ n. n + allocated_pages (layout_of c.self.inside.pages c.self.inside.states.entries c.self.inside.lists)) c.self.invariant.count ∙ pages_of _ _ _ _ c.self.invariant)

pub returns-clause-blocked : goal.returns-clause-blocked
returns-clause-blocked c = subst (λ s. (order : ℕ) → order ≤ greatest_order → HasNone s order → IsBlocked s order) c.self.view_is
    (λ order small none. blocked _ order (divides_of _ _ _ _ c.self.invariant) (coalesced_of _ _ _ _ c.self.invariant) small none)
