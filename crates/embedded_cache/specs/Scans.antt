-- Scans with values.
use Rattle.std.specs.Prelude.{◌≡◌, ◌≢◌, ℕ, ◌+◌, ◌<◌, ◌≤◌, List, ◌++◌, length, take, drop, map, flat_map, All, Some, slice_get}
use Rattle.std.specs.Int.{w16, w32, to_le_bytes}
use Rattle.rows.specs.Key.{in_table}
use Rattle.rows.specs.Row.{Row}
use Rattle.rows.specs.Apply.{row_of}
use Rattle.rows.specs.Spelled.{key_field}

-- A key, a tag and a value as a scan writes them: the key behind its length in two bytes, the tag in four, the length of the value in
-- two, and the value. The lowest byte of a number stands first.
abbrev pub field_of : List ℕ → ℕ → List ℕ → List ℕ
field_of key tag value = key_field key ++ (to_le_bytes w32 tag ++ (to_le_bytes w16 (length value) ++ value))

-- a row, so written
abbrev pub row_field : Row → List ℕ
row_field row = field_of row.key.bytes row.number row.value

-- the rows of these keys of a table, in their order
pub record AreRowsOf (table : ℕ) (keys : List (List ℕ)) (cache rows : List Row) : Type 0 where
  pub keys_are : map (λ (row : Row). row.key) rows ≡ map (in_table table) keys
  pub each : All (λ (row : Row). row_of row.key cache ≡ Some row) rows

-- Behind the first rows, in so many bytes, the row of the next key takes more than there are left.
pub record LacksRoom (table : ℕ) (keys : List (List ℕ)) (cache : List Row) (rows bytes wanted room : ℕ) : Type 0 where
  pub key : List ℕ
  pub row : Row
  pub next : slice_get keys rows ≡ Some key
  pub found : row_of (in_table table key) cache ≡ Some row
  pub takes : wanted ≡ length (row_field row)
  pub lacks : room < bytes + wanted

-- Of the rows of these keys as many of the first as fit stand in front, each of them whole, and the bytes behind them are as they were.
pub record WritesRows (table : ℕ) (keys : List (List ℕ)) (cache : List Row) (rows bytes wanted : ℕ) (old new : List ℕ) : Type 0 where
  pub found : List Row
  pub are : AreRowsOf table (take rows keys) cache found
  pub spelled : take bytes new ≡ flat_map row_field found
  pub within : bytes ≤ length old
  pub behind : drop bytes new ≡ drop bytes old
  pub all : wanted ≡ 0 → rows ≡ length keys
  pub short : wanted ≢ 0 → LacksRoom table keys cache rows bytes wanted (length old)
