use Rattle.std.proofs.Common.{ap}
use Rattle.key_index.specs.Key.{in_table}
use Rattle.part_examples.proofs.shelf.ShelfKeys.key.Goals as goal

pub returns-clause-key : goal.returns-clause-key
returns-clause-key c = ap (in_table 0) c.bytes.ensures
