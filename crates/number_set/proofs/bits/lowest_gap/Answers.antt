use Rattle.std.proofs.Common.{◌≡◌, ℕ, ◌<◌, sym, subst, arith}
use Rattle.std.proofs.lemmas.Nat.Bits.{bit_at-trailing_ones}
use Rattle.std.specs.Int.{bit_at, w64}
use Rattle.number_set.proofs.bits.lowest_gap.Goals as goal

pub returns-clause-within : goal.returns-clause-within
returns-clause-within c = subst (λ r. r < 64) (sym c.trailing_ones.ensures) (bit_at-trailing_ones w64 c.args.word (omega (arith, c.requires, c.ranges.word.fits))).0

pub returns-clause-here : goal.returns-clause-here
returns-clause-here c = subst (λ r. bit_at c.args.word r ≡ 0) (sym c.trailing_ones.ensures) (bit_at-trailing_ones w64 c.args.word (omega (arith, c.requires, c.ranges.word.fits))).1

pub returns-clause-below : goal.returns-clause-below
returns-clause-below c =
    subst (λ r. (k : ℕ) → k < r → bit_at c.args.word k ≡ 1) (sym c.trailing_ones.ensures) (bit_at-trailing_ones w64 c.args.word (omega (arith, c.requires, c.ranges.word.fits))).2
