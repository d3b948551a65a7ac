use Rattle.std.proofs.Common.{◌≡◌, ℕ, ◌-◌, ◌/◌, ◌^◌, ◌≤◌, ap, ◌∙◌, arith}
use Rattle.std.proofs.lemmas.Nat.Bits.{ones_shr, bit_at_ones, bit_at_ones_above}
use Rattle.std.specs.Int.{bit_at}
use Rattle.small_pools.proofs.masks.all_free.Goals as goal

ones : (n : ℕ) → n ≤ 128 → (2 ^ 128 - 1) / 2 ^ (128 - n) ≡ 2 ^ n - 1
ones n h = ones_shr 128 (128 - n) (omega arith) ∙ (let e : 128 - (128 - n) ≡ n = omega arith in ap (λ k. 2 ^ k - 1) e)

pub returns-clause-free : goal.returns-clause-free
returns-clause-free c = λ slot h. ap (λ m. bit_at m slot) (ones c.args.count c.requires.most) ∙ bit_at_ones c.args.count slot h

pub returns-clause-none : goal.returns-clause-none
returns-clause-none c = λ slot h. ap (λ m. bit_at m slot) (ones c.args.count c.requires.most) ∙ bit_at_ones_above c.args.count slot h
