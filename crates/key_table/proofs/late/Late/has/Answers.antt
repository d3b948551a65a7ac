use Rattle.std.proofs.Common.{◌≡◌, ◌≢◌, ◌≤◌, sym, subst, ◌∙◌, arith}
use Rattle.std.proofs.lemmas.Bool.Decides.{nat_tests}
use Rattle.common_lemmas.specs.Lists.{times}
use Rattle.key_table.specs.Late.{Numbers}
use Rattle.key_table.proofs.Listed.{at_listed, not_placed}
use Rattle.key_table.proofs.late.Late.has.Goals as goal

pub returns-then-number-len-clause-other : goal.returns-then-number-len-clause-other
returns-then-number-len-clause-other c _ =
    subst (λ (v : Numbers). times c.args.number v.numbers ≡ 0) c.self.view_is
    (not_placed c.self.inside.bound c.self.inside.numbers.items c.self.inside.places.items _ _ c.args.number 0 c.self.invariant.0 (λ h. absurd (omega arith)) (λ _ h. absurd (omega arith)))

pub returns-then-place-len-clause-other : goal.returns-then-place-len-clause-other
returns-then-place-len-clause-other c _ =
    subst (λ (v : Numbers). times c.args.number v.numbers ≡ 0) c.self.view_is
    (not_placed c.self.inside.bound c.self.inside.numbers.items c.self.inside.places.items _ _ c.args.number c.number_at-place.result c.self.invariant.0 (λ _. sym c.number_at-place.ensures) (λ h. absurd (omega arith)))

pub returns-clause-one : goal.returns-clause-one
returns-clause-one c h =
    let same : c.number_at.result ≡ c.args.number = grind (arith, nat_tests, h) in
    subst (λ (v : Numbers). 1 ≤ times c.args.number v.numbers) c.self.view_is
    (subst (λ n. 1 ≤ times n c.self.inside.numbers.items) (sym c.number_at.ensures ∙ same) (at_listed c.self.inside.numbers.items c.number_at-place.result (omega arith)))

pub returns-clause-other : goal.returns-clause-other
returns-clause-other c h =
    let other : c.number_at.result ≢ c.args.number = grind (arith, nat_tests, h) in
    subst (λ (v : Numbers). times c.args.number v.numbers ≡ 0) c.self.view_is
    (not_placed c.self.inside.bound c.self.inside.numbers.items c.self.inside.places.items _ _ c.args.number c.number_at-place.result c.self.invariant.0 (λ _. sym c.number_at-place.ensures) (λ _ _ e. other (c.number_at.ensures ∙ e)))
