-- An index: keys with their numbers, in rising byte order of distinct keys.
use Rattle.std.specs.Prelude.{ℕ, List, ◌∷◌, ◌++◌, Option, filter, find, option_map}
use Rattle.std.specs.Ordering.{is_lt, is_le, is_eq}
use Rattle.tree_nodes.specs.Order.{Entry, AreRising, key_cmp}

abbrev pub Index : Type 0
Index = List Entry

abbrev pub IsIndex : Index → Type 0
IsIndex index = AreRising index

-- the entries whose keys are below a key, above it, and at or above it
abbrev pub below : List ℕ → Index → Index
below key index = filter (λ e. is_lt (key_cmp e.key key)) index

abbrev pub above : List ℕ → Index → Index
above key index = filter (λ e. is_lt (key_cmp key e.key)) index

abbrev pub from : List ℕ → Index → Index
from key index = filter (λ e. is_le (key_cmp key e.key)) index

-- the number of a key. None where the index has not the key
abbrev pub number_of : List ℕ → Index → Option ℕ
number_of key index = option_map (λ e. e.number) (find (λ e. is_eq (key_cmp e.key key)) index)

-- the index with a number for a key, in place of the one that it had
abbrev pub with_number : List ℕ → ℕ → Index → Index
with_number key number index = below key index ++ record { key = key; number = number } ∷ above key index

-- the index without a key
abbrev pub without : List ℕ → Index → Index
without key index = below key index ++ above key index
