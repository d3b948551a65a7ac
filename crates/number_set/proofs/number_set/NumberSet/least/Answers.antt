use Rattle.std.proofs.Common.{◌≡◌, ◌<◌, ◌∙◌, ap, refl, sym}
use Rattle.number_set.specs.Numbers.{size}
use Rattle.number_set.proofs.Sets.{missed, found, at-end}
use Rattle.number_set.proofs.number_set.NumberSet.least.Goals as goal

pub returns-then-self-eq0-clause-none : goal.returns-then-self-eq0-clause-none
returns-then-self-eq0-clause-none c =
    let counted : c.self.inside.count ≡ size c.args.self.now = c.self.invariant.counted ∙ ap size c.self.view_is in
    (λ _. sym counted ∙ c.if-self-eq0.true, λ _. refl)

pub returns-in_err-number-clause-none : goal.returns-in_err-number-clause-none
returns-in_err-number-clause-none c =
    let i = c.self.inside in
    missed i.bound i.count i.words.items c.self.invariant c.args.self.now c.self.view_is c.deref.result.now c.deref.ensures.value c.from_residual.result c.from_residual.ensures (c.in_err-number.ensures.none refl)

pub returns-clause-none : goal.returns-clause-none
returns-clause-none c = let i = c.self.inside in found i.bound i.count i.words.items c.self.invariant c.args.self.now c.self.view_is c.deref.result.now c.deref.ensures.value c.in_ok-number.number c.in_ok-number.number c.in_ok-number.ensures.here

pub returns-clause-least : goal.returns-clause-least
returns-clause-least c =
    let i = c.self.inside in
    at-end i.bound i.count i.words.items c.self.invariant c.args.self.now c.self.view_is c.deref.result.now c.deref.ensures.value (λ m. m < c.in_ok-number.number) c.in_ok-number.number c.in_ok-number.ensures.here c.in_ok-number.ensures.below
