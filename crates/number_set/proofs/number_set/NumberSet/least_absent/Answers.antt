use Rattle.std.proofs.Common.{◌≡◌, ℕ, ◌*◌, ◌<◌, true, false, length, refl, sym, ◌∙◌, subst, arith}
use Rattle.std.specs.Prelude.{IsNone}
use Rattle.number_set.specs.inside.Words.{bit_of}
use Rattle.number_set.proofs.Sets.{long, has-is, all-if, lacks-if, within-words}
use Rattle.number_set.proofs.number_set.NumberSet.least_absent.Goals as goal

pub returns-in_err-number-clause-none : goal.returns-in_err-number-clause-none
returns-in_err-number-clause-none c =
    let i = c.self.inside in let words = i.words.items in
    let all : (n : ℕ) → n < 64 * length words → bit_of words n ≡ true =
    subst (λ w. (n : ℕ) → n < 64 * length w → bit_of w n ≡ true) c.deref.ensures.value (c.in_err-number.ensures.none refl) in
    (λ _. all-if i.bound i.count words c.self.invariant c.args.self.now c.self.view_is (λ n low. all n (within-words i.bound i.count words c.self.invariant n low)), λ _. subst IsNone (sym c.from_residual.ensures) refl)

pub returns-then-number-self-clause-none : goal.returns-then-number-self-clause-none
returns-then-number-self-clause-none c =
    let i = c.self.inside in
    let lacks = lacks-if i.bound i.count i.words.items c.self.invariant c.args.self.now c.self.view_is c.in_ok-number.number c.if-number-self.true
    (subst (λ w. bit_of w c.in_ok-number.number ≡ false) c.deref.ensures.value c.in_ok-number.ensures.here) in
    (λ e. absurd (let clash : true ≡ false = e in cc), λ e. absurd (omega (arith, lacks, e)))

pub returns-then-number-self-clause-least : goal.returns-then-number-self-clause-least
returns-then-number-self-clause-least c =
    let i = c.self.inside in let at = has-is i.bound i.count i.words.items c.self.invariant c.args.self.now c.self.view_is in (
      omega (arith, long i.bound i.count i.words.items c.self.invariant c.args.self.now c.self.view_is, c.if-number-self.true),
      at c.in_ok-number.number ∙ subst (λ w. bit_of w c.in_ok-number.number ≡ false) c.deref.ensures.value c.in_ok-number.ensures.here,
      λ m far. at m ∙ subst (λ w. bit_of w m ≡ true) c.deref.ensures.value (c.in_ok-number.ensures.below m far),
    )

pub returns-else-number-self-clause-none : goal.returns-else-number-self-clause-none
returns-else-number-self-clause-none c =
    let i = c.self.inside in (
      λ _. all-if i.bound i.count i.words.items c.self.invariant c.args.self.now c.self.view_is
          (λ m low. subst (λ w. bit_of w m ≡ true) c.deref.ensures.value (c.in_ok-number.ensures.below m (omega (arith, low, c.if-number-self.false)))),
      λ _. refl,
    )
