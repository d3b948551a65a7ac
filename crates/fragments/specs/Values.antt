-- A value store: a map from name to bytes.
use Rattle.std.specs.Prelude.{ℕ, ◌≤◌, List, length, Option, None, Some, slice_index_or, IfSome}
use Rattle.std.specs.List.{sum_by}
use Rattle.fragments.specs.Sizes.{greatest_value, size}

-- what each name has, by number
abbrev pub Values : Type 0
Values = List (Option (List ℕ))

-- the value of a name. None where it has none, or where there is no such name
abbrev pub value_of : Values → ℕ → Option (List ℕ)
value_of values name = slice_index_or values name None

abbrev pub size_if : Option (List ℕ) → ℕ
size_if None = 0
size_if (Some bytes) = size (length bytes)

-- the sum of the sizes of all values
abbrev pub live : Values → ℕ
live values = sum_by size_if values

abbrev pub IsShort : Option (List ℕ) → Type 0
IsShort value = IfSome value (λ bytes. length bytes ≤ greatest_value)
