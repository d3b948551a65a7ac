use Rattle.std.proofs.Common.{◌++◌, sym, ap, subst, ◌∙◌}
use Rattle.std.proofs.lemmas.List.{append-nil}
use Rattle.common_lemmas.specs.Lists.{times}
use Rattle.key_table.specs.Lazy.{IsLazyOf}
use Rattle.key_table.proofs.Both.{order_of}
use Rattle.key_table.proofs.index.LazyIndex.rows_from.Goals as goal

pub rows_from-requires-clause-index : goal.rows_from-requires-clause-index
rows_from-requires-clause-index g c =
    let has_row = g.K.Keys.has_row c.args.keys.now in
    let key_of = g.K.Keys.key_of c.args.keys.now in
    let lazy = subst (IsLazyOf has_row key_of) (sym c.self.view_is) c.requires.lazy in
    order_of has_row key_of c.self.inside.order c.self.inside.late lazy.readable lazy.keyed.ordered

pub returns-clause-all : goal.returns-clause-all
returns-clause-all g c n =
    let rows = c.args.self.now.order.rows in
    ap (times n) (ap (λ late. rows ++ late) c.requires.settled ∙ append-nil rows)
