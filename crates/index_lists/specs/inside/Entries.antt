-- What the written entries of a table stand for.
use Rattle.std.specs.Prelude.{ℕ, ◌-◌, ◌++◌, List, length, replicate}
use Rattle.index_lists.specs.Table.{Table}

-- the entries of a table: those that are written, and behind them alike ones
abbrev pub entries : {A : Type 0} → List A → ℕ → A → List A
entries written len rest = written ++ replicate (len - length written) rest

-- what callers see
abbrev pub table_of : {A : Type 0} → List A → ℕ → A → Table A
table_of written len rest = record { entries = entries written len rest; written = length written }
