-- The count that a field spells.
use Rattle.std.proofs.Common.{sym, ◌∙◌}
use Rattle.trace_text.proofs.Counts.{count_is}
use Rattle.trace_text.proofs.line.count_of.Goals as goal

pub returns-then-is_count : goal.returns-then-is_count
returns-then-is_count c = count_is c.args.field.now _ _ c.digits_in-count.ensures (sym c.if-is_count.true ∙ c.is_count.ensures)

pub returns-else-is_count : goal.returns-else-is_count
returns-else-is_count c = count_is c.args.field.now _ _ c.digits_in-count.ensures (sym c.if-is_count.false ∙ c.is_count.ensures)
