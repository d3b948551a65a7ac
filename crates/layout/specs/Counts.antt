-- Counts of things done, each a u64 that stands still at the greatest one.
use Rattle.std.specs.Prelude.{◌≡◌, ℕ, ◌+◌, ◌<◌, ◌⊎◌, min}

abbrev pub greatest_count : ℕ
greatest_count = 18446744073709551615

-- one more
abbrev pub counted : ℕ → ℕ
counted count = min (count + 1) greatest_count

-- so many more
abbrev pub raised : ℕ → ℕ → ℕ
raised count by = min (count + by) greatest_count

-- the count rose, or stands still
abbrev pub Rose : ℕ → ℕ → Type 0
Rose old new = (old < new) ⊎ ((old ≡ greatest_count) × (new ≡ greatest_count))
