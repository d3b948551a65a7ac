-- A row as it comes.
use Rattle.std.specs.Prelude.{◌<◌, ◌≤◌, length}
use Rattle.layout.specs.Sizes.{greatest_key, greatest_value, tables}
use Rattle.rows.specs.Key.{in_table}
use Rattle.rows.specs.Row.{Row}
use Rattle.row_bytes.specs.declared.new_row.NewRow.{NewRow}

abbrev pub row_of : NewRow → Row
row_of row = record { key = in_table row.table row.key.now; value = row.value.now; number = row.number }

-- its table, its key and its value are those of a trace
pub record CanStand (row : NewRow) : Type 0 where
  pub table : row.table < tables
  pub some_key : 1 ≤ length row.key.now
  pub short_key : length row.key.now ≤ greatest_key
  pub short_value : length row.value.now ≤ greatest_value
