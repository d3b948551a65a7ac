-- An index of rows in which some rows wait for their place in the order of keys.
use Rattle.std.specs.Prelude.{◌≡◌, ℕ, ◌≤◌, List, ◌++◌, MatchOption}
use Rattle.common_lemmas.specs.Lists.{times}
use Rattle.rows.specs.Key.{Key}
use Rattle.key_index.specs.Index.{Index, IsOrdered, IsRowAt}
use Rattle.key_table.specs.Table.{Table, IsTagged, IsTagOf}
use Rattle.key_table.specs.declared.entries.RowAt.{RowAt}
use Rattle.key_table.specs.declared.standing.Standing.{Standing}

-- for how many rows an index has room, the table of most rows, the rows in order, and those that wait
pub record Lazy : Type 0 where
  pub room : ℕ
  pub table : Table
  pub order : Index
  pub late : List ℕ

-- the rows of an index: those in order and those that wait
abbrev pub rows_in : Lazy → List ℕ
rows_in lazy = lazy.order.rows ++ lazy.late

-- the index has the row
abbrev pub Has : Lazy → ℕ → Type 0
Has lazy n = 1 ≤ times n (rows_in lazy)

-- what is kept beside the rows is of these keys
pub record IsKeyed (key_of : ℕ → Key) (lazy : Lazy) : Type 0 where
  pub tagged : IsTagged key_of lazy.table
  pub ordered : IsOrdered key_of lazy.order

-- the index is one of these keys: each of its rows has one that can be read, and no other row has it
pub record IsLazyOf (has_row : ℕ → Type 0) (key_of : ℕ → Key) (lazy : Lazy) : Type 0 where
  pub readable : (n : ℕ) → Has lazy n → has_row n
  pub apart : (m n : ℕ) → Has lazy m → Has lazy n → key_of m ≡ key_of n → m ≡ n
  pub keyed : IsKeyed key_of lazy

-- a row of the index, with the tag that the table has beside it, if it is there
pub record IsThere (lazy : Lazy) (found : RowAt) : Type 0 where
  pub has : Has lazy found.row
  pub tag : IsTagOf lazy.table found

-- a row, and its place in the order if it does not wait
pub record IsStanding (lazy : Lazy) (standing : Standing) : Type 0 where
  pub there : IsThere lazy standing.found
  pub place : MatchOption standing.place (1 ≤ times standing.found.row lazy.late) (λ place. IsRowAt lazy.order place standing.found.row)

-- wherever the keys of its rows are moved, what is kept beside the rows stays that of their keys
abbrev pub StaysKeyed : Lazy → Type 0
StaysKeyed lazy = (before after : ℕ → Key) → ((n : ℕ) → Has lazy n → after n ≡ before n) → IsKeyed before lazy → IsKeyed after lazy
