use Rattle.key_table.proofs.Moved.{tagged_moved}
use Rattle.key_table.proofs.table.KeyTable.len.Goals as goal

pub returns-clause-moved : goal.returns-clause-moved
returns-clause-moved c = λ before after same is. tagged_moved before after c.args.self.now same is
