-- The rows of an index from key to put: those of a table, and the strays, which the table refused.
use Rattle.std.specs.Prelude.{◌≡◌, ◌↔◌, ℕ, ◌+◌, ◌^◌, ◌<◌, ◌≤◌, Bool, true, List, ◌++◌, length, Some, slice_get}
use Rattle.common_lemmas.specs.Lists.{times}
use Rattle.rows.specs.Key.{Key}
use Rattle.key_index.specs.Index.{Index, IsOrdered}
use Rattle.key_table.specs.Table.{Table, rows_of, IsTagged, IsTagOf}
use Rattle.key_table.specs.declared.entries.RowAt.{RowAt}

-- for how many rows an index has room, the table of most rows, and the strays
pub record PutRows : Type 0 where
  pub room : ℕ
  pub table : Table
  pub strays : Index

abbrev pub put_rows : Table → Index → PutRows
put_rows table strays = record { room = table.room; table = table; strays = strays }

-- the rows of an index: those of the table and the strays
abbrev pub rows_in : PutRows → List ℕ
rows_in index = rows_of index.table.kept ++ index.strays.rows

-- the index has the row
abbrev pub Has : PutRows → ℕ → Type 0
Has index n = 1 ≤ times n (rows_in index)

-- what is kept beside the rows is of these keys
pub record IsKeyed (key_of : ℕ → Key) (index : PutRows) : Type 0 where
  pub tagged : IsTagged key_of index.table
  pub ordered : IsOrdered key_of index.strays

-- the index is one of these keys: each of its rows has one that can be read
pub record IsPutIndexOf (has_row : ℕ → Type 0) (key_of : ℕ → Key) (index : PutRows) : Type 0 where
  pub readable : (n : ℕ) → Has index n → has_row n
  pub keyed : IsKeyed key_of index

-- a row of the index, with the tag that the table has beside it, if it is there
pub record IsThere (index : PutRows) (found : RowAt) : Type 0 where
  pub has : Has index found.row
  pub tag : IsTagOf index.table found

-- each row stands once, in the table or among the strays, and both have room for as many
pub record AreApart (table : Table) (strays : Index) : Type 0 where
  pub once : (n : ℕ) → times n (rows_of table.kept) + times n strays.rows ≤ 1
  pub room : strays.room ≡ table.room
  pub small : table.room < 2 ^ 32

-- of each number below the room it is marked whether the index has its row
pub record AreMarked (marks : List Bool) (index : PutRows) : Type 0 where
  pub long : length marks ≡ index.room
  pub are : (n : ℕ) → Has index n ↔ (slice_get marks n ≡ Some true)
