-- How long a line is at most.
use Rattle.std.specs.Prelude.{ℕ, ◌+◌}
use Rattle.layout.specs.Sizes.{greatest_key, greatest_value}

abbrev pub greatest_line : ℕ
greatest_line = greatest_key + greatest_value + 6
