use Rattle.std.proofs.Common.{ap}
use Rattle.key_table.specs.Table.{Table}
use Rattle.key_table.proofs.Moved.{none_keyed}
use Rattle.key_table.proofs.index.LazyIndex.new.Goals as goal

pub returns-clause-moved : goal.returns-clause-moved
returns-clause-moved c = none_keyed _ (ap (λ (t : Table). t.kept) c.in_ok-table.ensures)
