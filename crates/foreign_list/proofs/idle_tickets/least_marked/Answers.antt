use Rattle.std.proofs.Common.{◌≡◌, ℕ, ◌+◌, ◌-◌, ◌/◌, ◌%◌, ◌^◌, ◌<◌, ◌≤◌, sym, ap, ◌∙◌, arith}
use mathlib.Core.Logic.{dite}
use native.Mathlib.Decide.{dec_le}
use Rattle.std.proofs.lemmas.Nat.{shr-shr}
use Rattle.std.proofs.lemmas.Nat.Bits.{bit_at-zero, bit_at_above, bit_at-trailing_zeros}
use Rattle.std.proofs.Math.Nat.{div-le_self}
use Rattle.std.specs.Int.{bit_at, w64, trailing_zeros}
use Rattle.foreign_list.proofs.idle_tickets.least_marked.Goals as goal

-- a bit of what is left of a word, and of the word
shifted : (w f t : ℕ) → f ≤ t → bit_at w t ≡ bit_at (w / 2 ^ f) (t - f)
shifted w f t from = let e : t ≡ f + (t - f) = omega (arith, from) in ap (bit_at w) e ∙ sym (ap (λ x. x % 2) (shr-shr w f (t - f)))

pub returns-then-rest-eq0-clause-none : goal.returns-then-rest-eq0-clause-none
returns-then-rest-eq0-clause-none c t from =
    let none : c.args.idle / 2 ^ c.args.first ≡ 0 = c.if-rest-eq0.true in
    shifted c.args.idle c.args.first t from ∙ ap (λ r. bit_at r (t - c.args.first)) none ∙ bit_at-zero (t - c.args.first)

-- the least bit of what is left
least : (w f : ℕ) → w < 2 ^ 64 → 0 < w / 2 ^ f
    → (bit_at w (f + trailing_zeros w64 (w / 2 ^ f)) ≡ 1) × ((t : ℕ) → f ≤ t → t < f + trailing_zeros w64 (w / 2 ^ f) → bit_at w t ≡ 0)
least w f fits some =
    let less = div-le_self w (2 ^ f) in
    let lowest = bit_at-trailing_zeros w64 (w / 2 ^ f) some (omega (arith, less, fits)) in (
      sym (ap (λ x. x % 2) (shr-shr w f (trailing_zeros w64 (w / 2 ^ f)))) ∙ lowest.1,
      λ t from under. shifted w f t from ∙ lowest.2 (t - f) (omega (arith, from, under)),
    )

pub returns-clause-here : goal.returns-clause-here
returns-clause-here c =
    let w = c.args.idle in let f = c.args.first in
    let some : 0 < w / 2 ^ f = omega (arith, c.if-rest-eq0.false) in
    let found = least w f c.ranges.idle.fits some in
    let at : ℕ = f + trailing_zeros w64 (w / 2 ^ f) in (
      omega arith,
      dite (dec_le 64 at) (λ over. absurd (let none = bit_at_above w 64 at c.ranges.idle.fits over in let one = found.0 in omega (arith, none, one))) (λ under. omega (arith, under)),
      found.0,
    )

pub returns-clause-below : goal.returns-clause-below
returns-clause-below c =
    let some : 0 < c.args.idle / 2 ^ c.args.first = omega (arith, c.if-rest-eq0.false) in
    (least c.args.idle c.args.first c.ranges.idle.fits some).1
