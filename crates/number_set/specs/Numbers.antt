-- Sets of numbers below a bound, which is the length of the list: for each number, whether it is in the set.
use Rattle.std.specs.Prelude.{◌≡◌, ℕ, ◌<◌, Bool, true, false, List, length, slice_index_or}
use Rattle.std.specs.List.{count_by}

abbrev pub has : List Bool → ℕ → Bool
has set n = slice_index_or set n false

-- how many numbers are in the set
abbrev pub size : List Bool → ℕ
size set = count_by (λ b. b) set

abbrev pub IsLeast : List Bool → ℕ → Type 0
IsLeast set n = (has set n ≡ true) × ((m : ℕ) → m < n → has set m ≡ false)

abbrev pub IsGreatest : List Bool → ℕ → Type 0
IsGreatest set n = (has set n ≡ true) × ((m : ℕ) → n < m → has set m ≡ false)

-- the number is the least one below the bound that is not in the set
abbrev pub IsLeastAbsent : List Bool → ℕ → Type 0
IsLeastAbsent set n = (n < length set) × (has set n ≡ false) × ((m : ℕ) → m < n → has set m ≡ true)
