-- What a command of a script asks.
use Rattle.std.specs.Prelude.{ℕ, List}

-- names are below this
abbrev pub names : ℕ
names = 1000

-- the most bytes of a value, the most of the place from which one is read, and the most bytes that are read
abbrev pub greatest_value : ℕ
greatest_value = 1048576

abbrev pub greatest_at : ℕ
greatest_at = 1048576

abbrev pub greatest_count : ℕ
greatest_count = 64

pub data Order : Type 0 where
  -- the name has this value from now on
  Set : ℕ → List ℕ → Order
  -- at most so many bytes, the second number, of the name's value, from the first number on
  Read : ℕ → ℕ → ℕ → Order
  -- the name has no value from now on
  Drop : ℕ → Order
