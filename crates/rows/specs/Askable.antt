-- Which operations can be asked.
use Rattle.std.specs.Prelude.{◌<◌, ◌≤◌, length}
use Rattle.layout.specs.Sizes.{greatest_value, tables}
use Rattle.rows.specs.Spelled.{IsKey}
use Rattle.rows.specs.Operation.{Operation, HasItsFields}

-- a put has a value, which may be empty, and a scan has a count; the other kinds have neither
pub record IsAskable (operation : Operation) : Type 0 where
  pub table : operation.key.table < tables
  pub key : IsKey operation.key.bytes
  pub value : length operation.value ≤ greatest_value
  pub fields : HasItsFields operation.kind operation.value operation.count
