use Rattle.std.proofs.Common.{ap₂}
use Rattle.rows.specs.Key.{in_table}
use Rattle.rows_tests.proofs.key_index_tests.ShelfKeys.key.Goals as goal

pub returns-clause-key : goal.returns-clause-key
returns-clause-key c = ap₂ in_table c.table_of.ensures.is c.bytes.ensures
