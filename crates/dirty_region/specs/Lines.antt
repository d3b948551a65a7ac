-- The lines of puts, and the newest put of a key.
use Rattle.std.specs.Prelude.{ℕ, cond, List, [], ◌∷◌, ◌++◌, codes, Option, None, Some}
use Rattle.rows.specs.Key.{in_table}
use Rattle.rows.specs.Row.{Row}
use Rattle.rows.specs.Apply.{is_of}

-- the line of a put: `put`, a space, the key, a space, the value, and LF
abbrev pub line : Row → List ℕ
line put = codes "put " ++ put.key.bytes ++ codes " " ++ put.value ++ codes "\n"

-- the first value, or else the second
abbrev pub or_else : Option (List ℕ) → Option (List ℕ) → Option (List ℕ)
or_else None other = other
or_else (Some value) other = Some value

-- the value of the newest put of a key, which is of table 0 as all puts are
abbrev pub newest : List ℕ → List Row → Option (List ℕ)
newest key [] = None
newest key (put ∷ puts) = or_else (newest key puts) (cond (is_of (in_table 0 key) put) (Some put.value) None)
