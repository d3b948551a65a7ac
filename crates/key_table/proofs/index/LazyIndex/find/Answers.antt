use Rattle.std.proofs.Common.{sym, subst}
use Rattle.key_table.specs.Lazy.{Lazy, IsLazyOf, IsThere}
use Rattle.key_table.proofs.Both.{has_kept, tag_kept, tag_there}
use Rattle.key_table.proofs.index.LazyIndex.find.Goals as goal

pub find-requires : goal.find-requires
find-requires g c =
    let i = c.self.inside in
    let lazy = subst (IsLazyOf (g.K.Keys.has_row c.args.keys.now) (g.K.Keys.key_of c.args.keys.now)) (sym c.self.view_is) c.requires.lazy in
    record { readable = λ n h. lazy.readable n (has_kept i.room i.outside i.table i.order i.late c.self.invariant n h); tagged = lazy.keyed.tagged }

pub returns-in-Ok : goal.returns-in-Ok
returns-in-Ok g c =
    let i = c.self.inside in
    let key_of = g.K.Keys.key_of c.args.keys.now in
    let lazy = subst (IsLazyOf (g.K.Keys.has_row c.args.keys.now) key_of) (sym c.self.view_is) c.requires.lazy in
    let found = c.in-Ok.ensures in (
      subst (λ (v : Lazy). IsThere v c.in-Ok.found) c.self.view_is (record {
        has = has_kept i.room i.outside i.table i.order i.late c.self.invariant c.in-Ok.found.row found.1;
        tag = tag_there key_of i.table c.in-Ok.found lazy.keyed.tagged (tag_kept key_of i.table c.in-Ok.found lazy.keyed.tagged found.0);
      }),
      found.2,
    )
