-- What one bit of a mask of 128 is, once it is set or cleared.
use Rattle.std.proofs.Common.{◌≡◌, ◌≢◌, ℕ, ◌*◌, ◌%◌, ◌^◌, ◌<◌, ◌≤◌, inl, inr, arith}
use Rattle.std.proofs.lemmas.Nat.Bits.{bit_at_clear_same, bit_at_clear_other, bit_at_set_same, bit_at_set_other, bit_at_above, bit_at_and}
use Rattle.std.specs.Int.{bit_at, bit_not, w128}
use Rattle.std.specs.Int.Bits.{bit_and, bit_or}
use Rattle.common_lemmas.proofs.Orders.{lt_or_ge}

pub set_same : (n k : ℕ) → k < 128 → bit_at (bit_or n (1 * 2 ^ k % 2 ^ 128)) k ≡ 1
set_same n k within = bit_at_set_same w128 n k within

pub set_other : (n k i : ℕ) → k < 128 → i ≢ k → bit_at (bit_or n (1 * 2 ^ k % 2 ^ 128)) i ≡ bit_at n i
set_other n k i within apart = bit_at_set_other w128 n k within i apart

pub clear_same : (n k : ℕ) → k < 128 → bit_at (bit_and n (bit_not w128 (1 * 2 ^ k % 2 ^ 128))) k ≡ 0
clear_same n k within = bit_at_clear_same w128 n k within

beyond : (n m i : ℕ) → n < 2 ^ 128 → 128 ≤ i → bit_at (bit_and n m) i ≡ bit_at n i
beyond n m i fits past =
    let none = bit_at_above n 128 i fits past in
    let low = bit_at_and n m i in
    omega (arith, none, low)

pub clear_other : (n k i : ℕ) → n < 2 ^ 128 → k < 128 → i ≢ k → bit_at (bit_and n (bit_not w128 (1 * 2 ^ k % 2 ^ 128))) i ≡ bit_at n i
clear_other n k i fits within apart = elim (lt_or_ge i 128) [
  | inl l ↦ bit_at_clear_other w128 n k within i l apart
  | inr g ↦ beyond n _ i fits g
]
