use Rattle.std.proofs.Common.{sym, ◌∙◌}
use Rattle.index_lists.proofs.Written.{entries_len, length_same}
use Rattle.index_lists.proofs.table.LazyTable.len.Goals as goal

pub returns : goal.returns
returns g c = sym (entries_len c.self.inside.written.items c.self.inside.len c.self.inside.rest c.self.invariant.0) ∙ length_same c.self.view_is
