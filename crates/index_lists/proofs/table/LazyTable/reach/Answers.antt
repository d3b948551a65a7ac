use Rattle.std.proofs.Common.{ap, ◌∙◌, arith}
use Rattle.index_lists.specs.inside.Entries.{table_of}
use Rattle.index_lists.proofs.Written.{reached, entries_len, length_same, reaching_same}
use Rattle.index_lists.proofs.table.LazyTable.reach.Goals as goal

pub returns-then-len-end : goal.returns-then-len-end
returns-then-len-end g c =
    let test = c.if-len-end.true in let len = c.len.ensures in let within = c.requires in
    let long = length_same c.self.view_is in let all = entries_len c.self.inside.written.items c.self.inside.len c.self.inside.rest c.self.invariant.0 in
    ap (λ l. table_of l c.self.inside.len c.self.inside.rest) c.write_alike.ensures.items
    ∙ reached c.self.inside.written.items c.self.inside.len c.args.end c.self.inside.rest (omega (arith, test, len, c.self.inside.written.ok)) (omega (arith, within, long, all))
    ∙ reaching_same c.args.end c.self.view_is
