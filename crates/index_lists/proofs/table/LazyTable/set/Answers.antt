use Rattle.std.proofs.Common.{◌+◌, ◌<◌, ◌≤◌, length, ap, ◌∙◌, arith}
use Rattle.index_lists.specs.inside.Entries.{table_of}
use Rattle.index_lists.proofs.Written.{rewritten_reaching, written_behind, entries_len, length_same, entry_same, reaching_same}
use Rattle.index_lists.proofs.table.LazyTable.set.Goals as goal

pub returns-then-at-len : goal.returns-then-at-len
returns-then-at-len g c =
    let inside : c.args.at < length c.self.inside.written.items = (let at = c.if-at-len.true in let len = c.len.ensures in omega (arith, at, len, c.self.inside.written.ok)) in
    rewritten_reaching c.self.inside.written.items c.self.inside.len c.args.at c.self.inside.rest c.args.value inside
    ∙ entry_same c.args.at c.args.value (reaching_same (c.args.at + 1) c.self.view_is)

pub returns-else-at-len : goal.returns-else-at-len
returns-else-at-len g c =
    let behind : length c.self.inside.written.items ≤ c.args.at = (let at = c.if-at-len.false in let len = c.len.ensures in omega (arith, at, len, c.self.inside.written.ok)) in
    let within = c.requires in let long = length_same c.self.view_is in let all = entries_len c.self.inside.written.items c.self.inside.len c.self.inside.rest c.self.invariant.0 in
    ap (λ l. table_of l c.self.inside.len c.self.inside.rest) c.write_behind.ensures.items
    ∙ written_behind c.self.inside.written.items c.self.inside.len c.args.at c.self.inside.rest c.args.value behind (omega (arith, within, long, all))
    ∙ entry_same c.args.at c.args.value (reaching_same (c.args.at + 1) c.self.view_is)
