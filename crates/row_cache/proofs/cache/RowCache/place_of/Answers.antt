use Rattle.std.proofs.Common.{◌≡◌, List, Some, None, sym, ap, subst, ◌∙◌}
use Rattle.std.specs.Prelude.{IsSome}
use Rattle.rows.specs.Key.{in_table}
use Rattle.rows.specs.Row.{Row}
use Rattle.rows.specs.Apply as apply
use Rattle.regions.specs.Contents.{live_at}
use Rattle.regions.specs.Shapes.{group_of}
use Rattle.row_cache.specs.Rows.{CacheState, group_for, rows_of, row_at, StandsAt}
use Rattle.row_cache.specs.inside.Consistent.{rows_in}
use Rattle.row_cache.proofs.Caches.{rows_read}
use Rattle.row_cache.proofs.Grouped.{row_grouped}
use Rattle.row_cache.proofs.Looked.{row_stands}
use Rattle.row_cache.proofs.cache.RowCache.place_of.Goals as goal

pub search-requires-clause-tables : goal.search-requires-clause-tables
search-requires-clause-tables c = c.self.invariant.counted.tables

pub returns-in_default-clause-found : goal.returns-in_default-clause-found
returns-in_default-clause-found c =
    let t = c.self.inside.tables in let r = c.self.inside.region in
    let was : rows_in t r ≡ rows_of c.args.self.now = sym (rows_read t r c.self.invariant) ∙ ap rows_of c.self.view_is in
    subst (λ (x : List Row). apply.row_of (in_table c.args.table c.args.key.now) x ≡ None) was c.in_default.ensures.row

pub returns-clause-found : goal.returns-clause-found
returns-clause-found c =
    let t = c.self.inside.tables in let r = c.self.inside.region in
    let was : rows_in t r ≡ rows_of c.args.self.now = sym (rows_read t r c.self.invariant) ∙ ap rows_of c.self.view_is in
    let n = c.in-Ok.found.row in
    let row = row_at (live_at r) t.places n in
    let v = row_stands r t.places n (c.self.invariant.counted.tables.rows n c.in-Ok.ensures.listed) c.place.result c.place.ensures in (
      row,
      subst (λ (x : List Row). apply.row_of (in_table c.args.table c.args.key.now) x ≡ Some row) was c.in-Ok.ensures.row,
      subst (λ (x : CacheState). StandsAt x.region c.place.result row) c.self.view_is v.0,
      subst (λ (x : CacheState). IsSome (live_at x.region c.place.result)) c.self.view_is v.1,
    )

pub returns-clause-group : goal.returns-clause-group
returns-clause-group c =
    let t = c.self.inside.tables in let r = c.self.inside.region in let n = c.in-Ok.found.row in let found = c.in-Ok.ensures in
    subst (λ (x : CacheState). group_of x.region c.place.result.segment ≡ Some (group_for x.region c.args.table)) c.self.view_is
    (row_grouped r t.places n (c.self.invariant.counted.tables.rows n found.listed) c.place.result (in_table c.args.table c.args.key.now) c.place.ensures found.same
    c.self.invariant.grouped c.facts.ensures.grouped)
