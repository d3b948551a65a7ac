-- Bits of words of 64 bits.
use Rattle.std.specs.Prelude.{◌≡◌, ℕ, ◌+◌, ◌/◌, ◌%◌, ◌≤◌, ◌==◌, Bool, false, List, length, map, slice_index}
use Rattle.std.specs.List.{range_with_len}
use Rattle.std.specs.Int.{bit_at}
use Rattle.number_set.specs.Numbers.{size}

abbrev pub bit_of : List ℕ → ℕ → Bool
bit_of words n = bit_at (slice_index words (n / 64)) (n % 64) == 1

-- the bits below the bound
unfoldable pub bits_below : ℕ → List ℕ → List Bool
bits_below bound words = map (bit_of words) (range_with_len 0 bound)

-- what holds of the fields of a set: enough words for its bound, no bit set at or above that, and the count of those below
pub record IsConsistent (bound count : ℕ) (words : List ℕ) : Type 0 where
  pub long : length words ≡ (bound + 63) / 64
  pub few : bound ≤ 4294967295
  pub above : (n : ℕ) → bound ≤ n → bit_of words n ≡ false
  pub counted : count ≡ size (bits_below bound words)
