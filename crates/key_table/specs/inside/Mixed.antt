-- Rows in order and rows that wait.
use Rattle.std.specs.Prelude.{◌≡◌, ℕ, ◌+◌, ◌^◌, ◌<◌, ◌≤◌, List, length}
use Rattle.common_lemmas.specs.Lists.{times}
use Rattle.rows.specs.Key.{Key}
use Rattle.key_index.specs.Index.{Index, IsIndexOf}
use Rattle.key_table.specs.Table.{Table, rows_of}
use Rattle.key_table.specs.Late.{Numbers}

-- each row is in order or waits, and not both; each is in the table or one of so many others, which are in order
pub record AreMixed (room outside : ℕ) (table : Table) (order : Index) (late : Numbers) : Type 0 where
  pub others : List ℕ
  pub counted : outside ≡ length others
  pub all : (n : ℕ) → times n (rows_of table.kept) + times n others ≡ times n order.rows + times n late.numbers
  pub in_order : (n : ℕ) → times n others ≤ times n order.rows
  pub once : (n : ℕ) → times n order.rows + times n late.numbers ≤ 1
  pub few : length order.rows + length late.numbers ≤ room
  pub small : room < 2 ^ 32
  pub table_room : table.room ≡ room
  pub order_room : order.room ≡ room
  pub late_room : late.bound ≡ room

abbrev pub both : Index → Numbers → ℕ → ℕ
both order late n = times n order.rows + times n late.numbers

-- the rows in order and those that wait have keys that can be read, each its own
pub record CanSettle (has_row : ℕ → Type 0) (key_of : ℕ → Key) (order : Index) (late : Numbers) : Type 0 where
  pub readable : (n : ℕ) → 1 ≤ both order late n → has_row n
  pub once : (n : ℕ) → both order late n ≤ 1
  pub apart : (m n : ℕ) → 1 ≤ both order late m → 1 ≤ both order late n → key_of m ≡ key_of n → m ≡ n
  pub index : IsIndexOf has_row key_of order
  pub few : length order.rows + length late.numbers ≤ order.room
