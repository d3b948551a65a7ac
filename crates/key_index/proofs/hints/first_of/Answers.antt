use Rattle.key_index.specs.declared.entries.Entry.{Entry}
use Rattle.key_index.proofs.InBlocks.{all_first, some_at}
use Rattle.key_index.proofs.hints.first_of.Goals as goal

pub first-requires-clause-some : goal.first-requires-clause-some
first-requires-clause-some g c = some_at c.args.blocks.now.contents c.args.at c.requires.full c.requires.block

pub returns-clause-readable : goal.returns-clause-readable
returns-clause-readable g c =
    all_first (λ (e : Entry). g.K.Keys.has_row c.args.keys.now e.row) c.args.blocks.now.contents c.args.at c.first.result c.requires.readable c.requires.full c.requires.block c.first.ensures
