use Rattle.row_bytes.proofs.Fields.{table_below}
use Rattle.row_bytes.proofs.reading.table_in.Goals as goal

pub returns-clause-table : goal.returns-clause-table
returns-clause-table c = table_below c.args.content.now c.requires
