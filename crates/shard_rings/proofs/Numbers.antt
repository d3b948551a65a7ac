-- Numbers in the bytes of a message: what is read is what was written, and the other way round.
use Rattle.std.proofs.Common.{◌≡◌, ℕ, zero, suc, ◌+◌, ◌<◌, ◌≤◌, List, [], ◌∷◌, ◌++◌, length, take, drop, get_or, sym, ap, ◌∙◌, refl, arith, get_or-drop, take-append-drop}
use Rattle.std.specs.Int.{w16, w32, to_le_bytes, from_le_bytes}
use Rattle.std.proofs.lemmas.Nat.{le_bytes_2, le_bytes_4}
use Rattle.std.proofs.Math.Seq.{drop-cons}
use Rattle.byteorder.specs.Endian.{little_number}

abbrev pub IsBytes : List ℕ → Type 0
IsBytes bytes = (i : ℕ) → get_or bytes i 0 < 256

-- n bytes from an offset on, one by one
abbrev pub cells : ℕ → ℕ → List ℕ → List ℕ
cells zero at bytes = []
cells (suc n) at bytes = get_or bytes at 0 ∷ cells n (suc at) bytes

pub take-cells : (n at : ℕ) (bytes : List ℕ) → at + n ≤ length bytes → take n (drop at bytes) ≡ cells n at bytes
take-cells zero at bytes long = refl
take-cells (suc n) at bytes long =
    ap (take (suc n)) (drop-cons bytes at 0 (omega (arith, long))) ∙ ap (λ (t : List ℕ). get_or bytes at 0 ∷ t) (take-cells n (suc at) bytes (omega (arith, long)))

-- the first n bytes one by one, and those behind them
pub split-cells : (n : ℕ) (bytes : List ℕ) → n ≤ length bytes → bytes ≡ cells n 0 bytes ++ drop n bytes
split-cells n bytes long = sym (take-append-drop n bytes) ∙ ap (λ (t : List ℕ). t ++ drop n bytes) (take-cells n 0 bytes (omega (arith, long)))

-- each of these is a byte
cells_fit : (n at : ℕ) (bytes : List ℕ) → IsBytes bytes → IsBytes (cells n at bytes)
cells_fit zero at bytes fits i = omega arith
cells_fit (suc n) at bytes fits zero = fits at
cells_fit (suc n) at bytes fits (suc i) = cells_fit n (suc at) bytes fits i

-- a byte behind an offset
cell : (at k : ℕ) (bytes : List ℕ) (i : ℕ) → at + k ≡ i → get_or (drop at bytes) k 0 ≡ get_or bytes i 0
cell at k bytes i is = get_or-drop at bytes k 0 ∙ ap (λ (n : ℕ). get_or bytes n 0) is

-- the number in two bytes, and in four

pub two_is : (at : ℕ) (bytes : List ℕ) → little_number 2 (drop at bytes) ≡ from_le_bytes w16 (cells 2 at bytes)
two_is at bytes = omega (arith, cell at 0 bytes at (omega arith), cell at 1 bytes (suc at) (omega arith))

pub four_is : (at : ℕ) (bytes : List ℕ) → little_number 4 (drop at bytes) ≡ from_le_bytes w32 (cells 4 at bytes)
four_is at bytes =
    let c = cell at 2 bytes (suc (suc at)) (omega arith) in
    let d = cell at 3 bytes (suc (suc (suc at))) (omega arith) in
    omega (arith, cell at 0 bytes at (omega arith), cell at 1 bytes (suc at) (omega arith), c, d)

-- the bytes of what was read are those that it was read from, whatever stands behind them

pub two_again : (at : ℕ) (bytes : List ℕ) (n : ℕ) → IsBytes bytes → n ≡ little_number 2 (drop at bytes) → (rest : List ℕ) → to_le_bytes w16 n ++ rest ≡ cells 2 at bytes ++ rest
two_again at bytes n fits is rest = ap (λ (t : List ℕ). t ++ rest) (le_bytes_2 (cells 2 at bytes) n refl (cells_fit 2 at bytes fits) (is ∙ two_is at bytes))

pub four_again : (at : ℕ) (bytes : List ℕ) (n : ℕ) → IsBytes bytes → n ≡ little_number 4 (drop at bytes) → (rest : List ℕ) → to_le_bytes w32 n ++ rest ≡ cells 4 at bytes ++ rest
four_again at bytes n fits is rest = ap (λ (t : List ℕ). t ++ rest) (le_bytes_4 (cells 4 at bytes) n refl (cells_fit 4 at bytes fits) (is ∙ four_is at bytes))
