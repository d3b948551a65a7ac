-- Bytes written over a part of a row's value.
use Rattle.std.specs.Prelude.{ℕ, ◌+◌, List, ◌∷◌, ◌++◌, length, take, drop, Option, None, Some}
use Rattle.rows.specs.Key.{Key}
use Rattle.rows.specs.Row.{Row}
use Rattle.rows.specs.Apply.{row_of, without}

-- the value with these bytes instead of as many from one on
abbrev pub patched : List ℕ → ℕ → List ℕ → List ℕ
patched value at bytes = take at value ++ (bytes ++ drop (at + length bytes) value)

-- the row with its value so
abbrev pub with_patch : Row → ℕ → List ℕ → Row
with_patch row at bytes = record row { value = patched row.value at bytes }

-- after a patch its row stands in front, with these bytes in its value, where there is one
abbrev pub patch_where : Option Row → Key → ℕ → List ℕ → List Row → List Row
patch_where None key at bytes cache = cache
patch_where (Some row) key at bytes cache = with_patch row at bytes ∷ without key cache

abbrev pub patch : Key → ℕ → List ℕ → List Row → List Row
patch key at bytes cache = patch_where (row_of key cache) key at bytes cache
