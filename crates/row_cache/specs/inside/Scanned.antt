-- The keys that a scan comes upon.
use Rattle.std.specs.Prelude.{ℕ, ◌==◌, cond, List, [], ◌∷◌}
use Rattle.rows.specs.Key.{Key}

-- the bytes of the keys of the first rows, up to a row of another table
abbrev pub keys_in_front : (ℕ → Key) → ℕ → List ℕ → List (List ℕ)
keys_in_front key table [] = []
keys_in_front key table (n ∷ ns) = cond ((key n).table == table) ((key n).bytes ∷ keys_in_front key table ns) []
