-- A row that owns its bytes, as the plain cache stores it.
use Rattle.std.specs.Prelude.{◌≡◌, ℕ, ◌==◌, ◌<◌, ◌≤◌, ◌&&◌, Bool, List, length, map, remove, slice_index_or, Some}
use Rattle.layout.specs.Sizes.{greatest_key, greatest_value}
use Rattle.plain_cache.specs.declared.plain.OwnedRow.{OwnedRow}
use Rattle.rows.specs.Apply.{is_at_most, row_of, without, HasDistinctKeys}
use Rattle.rows.specs.Key.{Key, in_table}
use Rattle.rows.specs.Row.{Row}

abbrev pub row_in : OwnedRow → Row
row_in row = record { key = in_table row.table row.key.items; value = row.value.items; number = row.number }

-- the key and the value have lengths that a trace can have
abbrev pub IsSmall : OwnedRow → Type 0
IsSmall row = (length row.key.items ≤ greatest_key) × (length row.value.items ≤ greatest_value)

-- the row is of the table of a key, and not below the key
abbrev pub is_from : Key → OwnedRow → Bool
is_from key row = (row.table == key.table) && is_at_most key.bytes row.key.items

-- the row of a key is found at this position, and where keys are distinct no other row has the key
pub record IsPositionOf (key : Key) (rows : List OwnedRow) (at : ℕ) : Type 0 where
  pub within : at < length rows
  pub row : (d : OwnedRow) → row_of key (map row_in rows) ≡ Some (row_in (slice_index_or rows at d))
  pub others : HasDistinctKeys (map row_in rows) → map row_in (remove rows at) ≡ without key (map row_in rows)
