-- A value grows by one letter.
use Rattle.std.proofs.Common.{◌≡◌, ℕ, ◌+◌, [], ◌∷◌, ◌++◌, map, arith}
use Rattle.std.proofs.lemmas.List.FromFn.{map-range_with_len_more}
use Rattle.std.specs.List.{range_with_len}
use Rattle.made_trace.specs.Made.{letter}

pub one_letter_more : (i j : ℕ) → map (letter i) (range_with_len 0 (j + 1)) ≡ map (letter i) (range_with_len 0 j) ++ letter i j ∷ []
one_letter_more i j = map-range_with_len_more (letter i) 0 j j (omega arith)
