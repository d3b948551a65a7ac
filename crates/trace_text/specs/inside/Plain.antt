-- Text of bytes that a value may have.
use Rattle.std.specs.Prelude.{◌≡◌, ◌==◌, ℕ, ◌+◌, ◌<◌, ◌≤◌, true, List, slice_index, if◌then◌else◌}
use Rattle.std.specs.List.{list_all}
use Rattle.std.specs.Int.{w64, trailing_zeros}
use Rattle.trace_text.specs.Line.{is_value_byte}

abbrev pub IsPlain : List ℕ → Type 0
IsPlain text = list_all is_value_byte text ≡ true

-- the bytes from the first of these places to before the second
abbrev pub ArePlain : List ℕ → ℕ → ℕ → Type 0
ArePlain text from to = (k : ℕ) → from ≤ k → k < to → is_value_byte (slice_index text k) ≡ true

-- of n bytes from a place on, so many
abbrev pub IsPlainRun : List ℕ → ℕ → ℕ → ℕ → Type 0
IsPlainRun text at n run = (run ≤ n) × ArePlain text at (at + run)

-- the place of the lowest bit that is set, or n
abbrev pub first_set : ℕ → ℕ → ℕ
first_set mask n = if mask == 0 then n else trailing_zeros w64 mask
