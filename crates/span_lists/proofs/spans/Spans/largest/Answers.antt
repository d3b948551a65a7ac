use Rattle.std.proofs.Common.{◌≡◌, ◌≢◌, ◌-◌, ℕ, true, false, List, [], ◌∷◌, is_some, get_or, slice_get, inl, inr, refl, sym, subst, ap, ◌∙◌, arith}
use Rattle.std.proofs.lemmas.Bool.{cases_eq}
use Rattle.span_lists.specs.Layout.{HasNone, Divides, IsCoalesced, IsLargest}
use Rattle.span_lists.proofs.Views.{divides_of, coalesced_of}
use Rattle.span_lists.proofs.spans.Spans.largest.Goals as goal

nil_of_get : (xs : List ℕ) → false ≡ is_some (slice_get xs 0) → xs ≡ []
nil_of_get [] e = refl
nil_of_get (x ∷ xs) e = absurd (let clash : false ≡ true = e in cc)

full_of_get : (xs : List ℕ) → true ≡ is_some (slice_get xs 0) → xs ≢ []
full_of_get [] e = absurd (let clash : true ≡ false = e in cc)
full_of_get (x ∷ xs) e = λ n. (let clash : x ∷ xs ≡ [] = n in cc)

pub returns-then-is_some-clause-some : goal.returns-then-is_some-clause-some
returns-then-is_some-clause-some c =
    let t = c.loop-above-test.true in let i = c.loop-above.invariant.0 in
    subst (λ s. IsLargest s (c.loop-above.above - 1)) c.self.view_is
    (record {
      within = omega arith;
      some = full_of_get _ (sym c.if-is_some.true ∙ c.is_some.ensures ∙ ap is_some c.front.ensures);
      none_above = λ k low high. c.loop-above.invariant.1 k (omega arith) high;
    })

pub returns-then-is_some-clause-none : goal.returns-then-is_some-clause-none
returns-then-is_some-clause-none c =
    let t = c.loop-above-test.true in let i = c.loop-above.invariant.0 in
    let full = full_of_get _ (sym c.if-is_some.true ∙ c.is_some.ensures ∙ ap is_some c.front.ensures) in
    ((λ e. absurd (let clash : true ≡ false = e in cc)), λ none. absurd (full ((subst (λ s. HasNone s 0) (sym c.self.view_is) none) (c.loop-above.above - 1) (omega arith) (omega arith))))

pub returns-then-is_some-clause-divided : goal.returns-then-is_some-clause-divided
returns-then-is_some-clause-divided c = subst Divides c.self.view_is (divides_of _ _ _ _ c.self.invariant)

pub returns-then-is_some-clause-coalesced : goal.returns-then-is_some-clause-coalesced
returns-then-is_some-clause-coalesced c = subst IsCoalesced c.self.view_is (coalesced_of _ _ _ _ c.self.invariant)

pub loop-above-preserved : goal.loop-above-preserved
loop-above-preserved c =
    let t = c.loop-above-test.true in let i = c.loop-above.invariant.0 in (
      omega arith,
      λ k low high. elim (cases_eq k (c.loop-above.above - 1)) [
        | inl e ↦ ap (λ z. get_or c.self.inside.lists.lists z []) e ∙ nil_of_get _ (sym c.if-is_some.false ∙ c.is_some.ensures ∙ ap is_some c.front.ensures)
        | inr n ↦ c.loop-above.invariant.1 k (omega arith) high
      ],
    )

pub returns-clause-divided : goal.returns-clause-divided
returns-clause-divided c = subst Divides c.self.view_is (divides_of _ _ _ _ c.self.invariant)

pub returns-clause-coalesced : goal.returns-clause-coalesced
returns-clause-coalesced c = subst IsCoalesced c.self.view_is (coalesced_of _ _ _ _ c.self.invariant)
