-- Numbers in decimal.
use Rattle.std.specs.Prelude.{ℕ, ◌-◌, ◌+◌, ◌*◌, ◌&&◌, nat_le, List, Option, Some, None, decimal, fold, if◌then◌else◌}
use Rattle.std.specs.Str.{bytes_eq}

-- the greatest number that is read
abbrev pub greatest_read : ℕ
greatest_read = 99999999

-- what the digits of a field say
abbrev pub digits_in : List ℕ → ℕ
digits_in field = fold (λ n b. n * 10 + (b - 48)) 0 field

-- the number up to the greatest one that a field spells, without a leading zero: the field is that number in decimal
abbrev pub number_of : ℕ → List ℕ → Option ℕ
number_of greatest field =
    if nat_le (digits_in field) greatest && bytes_eq (decimal (digits_in field)) field then Some (digits_in field) else None
