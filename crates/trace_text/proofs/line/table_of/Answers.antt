-- A table is one digit.
use Rattle.std.proofs.Common.{sym, ◌∙◌}
use Rattle.trace_text.proofs.Tables.{table_of_is}
use Rattle.trace_text.proofs.line.table_of.Goals as goal

pub returns-clause-value : goal.returns-clause-value
returns-clause-value c = c.table_spelled.ensures.value ∙ sym (table_of_is c.args.field.now)
