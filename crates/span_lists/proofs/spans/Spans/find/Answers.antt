use Rattle.std.proofs.Common.{◌≡◌, ℕ, List, [], ◌∷◌, Some, None, get_or, slice_get, inl, inr, refl, sym, subst, ap, ◌∙◌, arith}
use Rattle.std.proofs.lemmas.Bool.{cases_eq}
use Rattle.span_lists.specs.Layout.{IsFirstOf, HasNone, IsBlocked, Divides, IsCoalesced}
use Rattle.span_lists.proofs.Whole.{blocked}
use Rattle.span_lists.proofs.Views.{divides_of, coalesced_of}
use Rattle.span_lists.proofs.spans.Spans.find.Goals as goal

nil_of_get : (xs : List ℕ) → None ≡ slice_get xs 0 → xs ≡ []
nil_of_get [] e = refl
nil_of_get (x ∷ xs) e = absurd (let clash : None ≡ Some x = e in cc)

pub returns-in-Some-clause-found : goal.returns-in-Some-clause-found
returns-in-Some-clause-found c =
    subst (λ s. IsFirstOf s c.args.order c.in-Some.first c.loop-from.from) c.self.view_is
    (record {
      from_order = c.loop-from.auto.from;
      from_within = (let t = c.loop-from-test.true in omega arith);
      none_below = c.loop-from.invariant;
      in_front = sym c.front.ensures ∙ c.in-Some.is;
    })

pub loop-from-preserved : goal.loop-from-preserved
loop-from-preserved c = λ k low high.
    elim (cases_eq k c.loop-from.from) [
      | inl e ↦ ap (λ z. get_or c.self.inside.lists.lists z []) e ∙ nil_of_get (get_or c.self.inside.lists.lists c.loop-from.from []) (sym c.in_default.is ∙ c.front.ensures)
      | inr n ↦ c.loop-from.invariant k low (omega arith)
    ]

pub returns-clause-none : goal.returns-clause-none
returns-clause-none c = subst (λ s. HasNone s c.args.order) c.self.view_is (λ k low high. c.loop-from.invariant k low (omega arith))

pub returns-in-Some-clause-divided : goal.returns-in-Some-clause-divided
returns-in-Some-clause-divided c = subst Divides c.self.view_is (divides_of c.self.inside.pages c.self.inside.states.entries c.self.inside.lists c.self.inside.free c.self.invariant)

pub returns-in-Some-clause-coalesced : goal.returns-in-Some-clause-coalesced
returns-in-Some-clause-coalesced c = subst IsCoalesced c.self.view_is (coalesced_of c.self.inside.pages c.self.inside.states.entries c.self.inside.lists c.self.inside.free c.self.invariant)

pub returns-clause-divided : goal.returns-clause-divided
returns-clause-divided c = subst Divides c.self.view_is (divides_of c.self.inside.pages c.self.inside.states.entries c.self.inside.lists c.self.inside.free c.self.invariant)

pub returns-clause-coalesced : goal.returns-clause-coalesced
returns-clause-coalesced c = subst IsCoalesced c.self.view_is (coalesced_of c.self.inside.pages c.self.inside.states.entries c.self.inside.lists c.self.inside.free c.self.invariant)

pub returns-clause-blocked : goal.returns-clause-blocked
returns-clause-blocked c =
    subst (λ s. IsBlocked s c.args.order) c.self.view_is
    (blocked _ c.args.order (divides_of _ _ _ _ c.self.invariant) (coalesced_of _ _ _ _ c.self.invariant) c.requires (λ k low high. c.loop-from.invariant k low (omega arith)))
