-- An index of rows.
use Rattle.std.specs.Prelude.{◌≡◌, ℕ, zero, suc, ◌+◌, ◌<◌, ◌≤◌, List, [], ◌∷◌, ◌++◌, length, take, drop, slice_get, Some, All}
use Rattle.rows.specs.Key.{Key}
use Rattle.key_index.specs.declared.entries.Entry.{Entry}
use Rattle.key_index.specs.declared.place.Place.{Place}
use Rattle.key_index.specs.Order.{Each, AreAbove, AreBelow, AreRising}
use Rattle.key_index.specs.Lead.{rows_of, AreBytes, IsLed}

-- the rows of an index in the order of their keys, how many it has room for, and what it keeps of their keys, beside each row's number
pub record Index : Type 0 where
  pub rows : List ℕ
  pub room : ℕ
  pub kept : List (List Entry)

abbrev pub joined : List (List Entry) → List Entry
joined [] = []
joined (block ∷ blocks) = block ++ joined blocks

-- the rows stand in the order of these keys, and what the index keeps beside each is so
pub record IsOrdered (key_of : ℕ → Key) (index : Index) : Type 0 where
  pub beside : rows_of (joined index.kept) ≡ index.rows
  pub rising : AreRising key_of index.rows
  pub bytes : Each (λ row. AreBytes (key_of row).bytes) index.rows
  pub kept : All (IsLed key_of) (joined index.kept)

-- the index is one of these keys: each of its rows has one that can be read
pub record IsIndexOf (has_row : ℕ → Type 0) (key_of : ℕ → Key) (index : Index) : Type 0 where
  pub readable : All has_row index.rows
  pub ordered : IsOrdered key_of index

abbrev pub block_at : List (List Entry) → ℕ → List Entry
block_at [] k = []
block_at (block ∷ blocks) zero = block
block_at (block ∷ blocks) (suc k) = block_at blocks k

-- how many rows stand before a place
abbrev pub rank : Index → Place → ℕ
rank index place = length (joined (take place.block index.kept)) + place.at

-- the place lies in the index
pub record IsWithin (index : Index) (place : Place) : Type 0 where
  pub block : 0 < length index.kept → place.block < length index.kept
  pub at : place.at ≤ length (block_at index.kept place.block)

-- where a row of a key would stand, which the index has not: the rows before have keys below it, and those behind keys above
pub record IsPlaceFor (key_of : ℕ → Key) (key : Key) (index : Index) (place : Place) : Type 0 where
  pub within : IsWithin index place
  pub before : AreBelow key_of key (take (rank index place) index.rows)
  pub behind : AreAbove key_of key (drop (rank index place) index.rows)

-- the row that stands at a place
pub record IsRowAt (index : Index) (place : Place) (row : ℕ) : Type 0 where
  pub at : place.at < length (block_at index.kept place.block)
  pub is : Some row ≡ slice_get index.rows (rank index place)
