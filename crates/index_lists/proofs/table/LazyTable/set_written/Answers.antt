use Rattle.std.proofs.Common.{◌∙◌, arith}
use Rattle.index_lists.proofs.Written.{rewritten, written_same, entry_same}
use Rattle.index_lists.proofs.table.LazyTable.set_written.Goals as goal

pub returns : goal.returns
returns g c =
    let same = written_same c.self.view_is in let below = c.requires in
    rewritten c.self.inside.written.items c.self.inside.len c.args.at c.self.inside.rest c.args.value (omega (arith, same, below)) ∙ entry_same c.args.at c.args.value c.self.view_is
