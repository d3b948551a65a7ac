-- Bits of words.
use Rattle.std.proofs.Common.{◌≡◌, ℕ, suc, ◌+◌, ◌*◌, ◌/◌, ◌%◌, ◌^◌, ◌<◌, ◌≤◌, true, false, eqb, List, length, get_or, ap, ◌∙◌, arith, pow_mono, div-lt_iff_lt-mul, le-div_iff_mul-le}
use Rattle.std.proofs.lemmas.List.{get_or_past}
use Rattle.std.proofs.Math.Nat.{two-pow-succ, div-eq_of_lt}
use Rattle.std.proofs.lemmas.Nat.{pow_pos}
use Rattle.std.proofs.lemmas.Nat.Bits.{bit_at-zero, bit_at_ones}
use Rattle.std.specs.Int.{bit_at}
use Rattle.number_set.specs.inside.Words.{bit_of}

-- the highest bit of a number, and those above it
pub bit_at_top : (m k : ℕ) → 2 ^ k ≤ m → m < 2 * 2 ^ k → bit_at m k ≡ 1
bit_at_top m k low high =
    let p = pow_pos k in
    let a : m / 2 ^ k < 2 = (div-lt_iff_lt-mul p).1 high in
    let b : 1 ≤ m / 2 ^ k = (le-div_iff_mul-le p).1 (omega arith) in
    omega arith

pub bit_at_above : (m j k : ℕ) → m < 2 * 2 ^ j → j < k → bit_at m k ≡ 0
bit_at_above m j k high over =
    let a : m < 2 ^ k = omega (arith, two-pow-succ j, pow_mono {i = suc j} {j = k} (omega arith)) in
    ap (λ x. x % 2) (div-eq_of_lt a)

-- bit k of word i
pub bit-is : (words : List ℕ) (i k w : ℕ) → k < 64 → get_or words i 0 ≡ w → bit_of words (i * 64 + k) ≡ eqb (bit_at w k) 1
bit-is words i k w low is =
    let row : (i * 64 + k) / 64 ≡ i = omega arith in let column : (i * 64 + k) % 64 ≡ k = omega arith in
    ap (λ r. eqb (bit_at (get_or words r 0) ((i * 64 + k) % 64)) 1) row ∙ ap (λ n. eqb (bit_at (get_or words i 0) n) 1) column ∙ ap (λ x. eqb (bit_at x k) 1) is

-- the bits of one word
pub bit-in : (words : List ℕ) (i m w b : ℕ) → get_or words i 0 ≡ w → m / 64 ≡ i → bit_at w (m % 64) ≡ b → bit_of words m ≡ eqb b 1
bit-in words i m w b is row has =
    ap (λ r. eqb (bit_at (get_or words r 0) (m % 64)) 1) row ∙ ap (λ x. eqb (bit_at x (m % 64)) 1) is ∙ ap (λ x. eqb x 1) has

pub zero-word : (words : List ℕ) (i m : ℕ) → get_or words i 0 ≡ 0 → m / 64 ≡ i → bit_of words m ≡ false
zero-word words i m is row = bit-in words i m 0 0 is row (bit_at-zero (m % 64))

pub full-word : (words : List ℕ) (i m : ℕ) → get_or words i 0 ≡ 18446744073709551615 → m / 64 ≡ i → bit_of words m ≡ true
full-word words i m is row = bit-in words i m 18446744073709551615 1 is row (bit_at_ones 64 (m % 64) (omega arith))

-- behind the last word no bit is set
pub bit-past : (words : List ℕ) (m : ℕ) → 64 * length words ≤ m → bit_of words m ≡ false
bit-past words m past = zero-word words (m / 64) m (get_or_past words (m / 64) 0 (omega (arith, past))) (omega arith)
