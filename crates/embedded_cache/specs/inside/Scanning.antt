-- A row that is written behind others.
use Rattle.std.specs.Prelude.{◌≡◌, ℕ, ◌+◌, ◌<◌, ◌≤◌, List, ◌++◌, length, take, drop}
use Rattle.embedded_cache.specs.declared.scanned_rows.ScannedRows.{ScannedRows}

-- the most bytes that a row takes: those of the greatest key and the greatest value, and eight
abbrev pub row_room : ℕ
row_room = 12264

-- it stands behind what was written, whole
pub record PutsBehind (field : List ℕ) (did now : ScannedRows) (old new : List ℕ) : Type 0 where
  pub rows : now.rows ≡ did.rows + 1
  pub bytes : now.bytes ≡ did.bytes + length field
  pub wanted : now.wanted ≡ did.wanted
  pub short : length field ≤ row_room
  pub within : now.bytes ≤ length old
  pub written : new ≡ take did.bytes old ++ (field ++ drop now.bytes old)

-- there is no place for it
pub record LacksPlace (field : List ℕ) (did now : ScannedRows) (old new : List ℕ) : Type 0 where
  pub rows : now.rows ≡ did.rows
  pub bytes : now.bytes ≡ did.bytes
  pub wanted : now.wanted ≡ length field
  pub some : 1 ≤ length field
  pub lacks : length old < did.bytes + length field
  pub same : new ≡ old
