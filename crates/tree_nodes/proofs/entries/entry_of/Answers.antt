use Rattle.std.proofs.Common.{replicate, refl}
use Rattle.tree_nodes.proofs.Written.{entry_written}
use Rattle.tree_nodes.proofs.entries.entry_of.Goals as goal

pub returns : goal.returns
returns c =
    entry_written (record { key = c.args.key.now; number = c.args.number }) (replicate 264 0) c.write_short.new.content c.write_number.new.content c.write_over.new.content c.requires refl
    c.write_short.ensures c.write_number.ensures c.write_over.ensures
