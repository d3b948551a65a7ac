-- The rows in the range are those of the cache.
use Rattle.std.proofs.Common.{◌≡◌, List, Result, Ok, Err, ap, subst}
use Rattle.std.specs.Result.{IfOk, OnOk}
use Rattle.rows.specs.Apply.{apply}
use Rattle.rows.specs.Row.{Row}
use Rattle.rows.specs.Spelled.{spelled, with_body}
use Rattle.trace_text.specs.Operation.{operation}
use Rattle.row_cache.specs.Rows.{rows_of}
use Rattle.plain_cache.specs.Cache.{Cache}
use Rattle.indexed_cache.proofs.indexed.Indexed.apply.Goals as goal

-- the same cache with other rows
abbrev with_rows : Cache → List Row → Cache
with_rows cache rows = record cache { rows = rows }

on-ok : {A E : Type 0} (r : Result A E) (cache : Cache) (rows left : List Row) → OnOk r (rows ≡ left) → OnOk r (with_rows cache rows ≡ with_rows cache left)
on-ok (Ok x) cache rows left is = ap (with_rows cache) is
on-ok (Err e) cache rows left is = tt

pub returns-clause-applied : goal.returns-clause-applied
returns-clause-applied c =
    let i = c.self.inside in
    let rows = rows_of i.ranged.store in
    let held : Cache = record { pages = i.pages; regions = i.regions; rows = rows } in
    let asked = operation c.args.trace.now.bytes c.args.command.now in
    subst (λ (k : Cache). OnOk c.apply_in.result (with_rows held (rows_of c.apply_in.new.ranged.store) ≡ with_rows k (apply asked k.rows).0)) c.self.view_is
    (on-ok c.apply_in.result held (rows_of c.apply_in.new.ranged.store) (apply asked rows).0 c.apply_in.ensures.applied)

pub returns-clause-replied : goal.returns-clause-replied
returns-clause-replied c =
    subst (λ (k : Cache). IfOk c.apply_in.result (λ kind. (kind, c.apply_in.new.body.items) ≡ with_body c.args.body.now.items (spelled (apply (operation c.args.trace.now.bytes c.args.command.now) k.rows).1)))
    c.self.view_is c.apply_in.ensures.replied
