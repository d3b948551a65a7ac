use Rattle.std.proofs.Common.{◌≡◌, List, refl, sym, ap, subst, ◌∙◌}
use Rattle.rows.specs.Key.{in_table}
use Rattle.rows.specs.Row.{Row}
use Rattle.rows.specs.Apply as apply
use Rattle.regions.specs.Shapes.{shape}
use Rattle.row_cache.specs.Rows.{CacheState, rows_of, Stay}
use Rattle.row_cache.specs.inside.Consistent.{rows_in}
use Rattle.row_cache.proofs.Caches.{rows_read}
use Rattle.row_cache.proofs.Placed.{stays_same}
use Rattle.row_cache.proofs.cache.RowCache.erase.Goals as goal

pub search-requires-clause-tables : goal.search-requires-clause-tables
search-requires-clause-tables c = c.self.invariant.counted.tables

pub returns-in_default-clause-found : goal.returns-in_default-clause-found
returns-in_default-clause-found c =
    let t = c.self.inside.tables in let r = c.self.inside.region in
    let was : rows_in t r ≡ rows_of c.args.self.now = sym (rows_read t r c.self.invariant) ∙ ap rows_of c.self.view_is in
    sym c.in_default.ensures.has ∙ ap (apply.has (in_table c.args.table c.args.key.now)) was

pub returns-in_default-clause-rows : goal.returns-in_default-clause-rows
returns-in_default-clause-rows c =
    let t = c.self.inside.tables in let r = c.self.inside.region in
    let was : rows_in t r ≡ rows_of c.args.self.now = sym (rows_read t r c.self.invariant) ∙ ap rows_of c.self.view_is in
    subst (λ (x : List Row). x ≡ apply.without (in_table c.args.table c.args.key.now) x) was (sym c.in_default.ensures.without)

pub returns-clause-found : goal.returns-clause-found
returns-clause-found c =
    let t = c.self.inside.tables in let r = c.self.inside.region in
    let was : rows_in t r ≡ rows_of c.args.self.now = sym (rows_read t r c.self.invariant) ∙ ap rows_of c.self.view_is in
    sym c.in-Ok.ensures.has ∙ ap (apply.has (in_table c.args.table c.args.key.now)) was

pub returns-clause-rows : goal.returns-clause-rows
returns-clause-rows c =
    let t = c.self.inside.tables in let r = c.self.inside.region in
    let was : rows_in t r ≡ rows_of c.args.self.now = sym (rows_read t r c.self.invariant) ∙ ap rows_of c.self.view_is in
    rows_read c.drop_row.new.tables c.drop_row.new.region c.drop_row.ensures.consistent
    ∙ (c.drop_row.ensures.rows ∙ (sym c.in-Ok.ensures.without ∙ ap (apply.without (in_table c.args.table c.args.key.now)) was))

pub returns-in_default-clause-keeps : goal.returns-in_default-clause-keeps
returns-in_default-clause-keeps c = (let r = c.args.self.now.region in record { room = refl; stay = stays_same r r refl })

pub returns-clause-keeps : goal.returns-clause-keeps
returns-clause-keeps c =
    let s = c.drop_row.new.region in let e = c.drop_row.ensures.keeps in
    record {
      room = e.room ∙ ap (λ (x : CacheState). x.room) c.self.view_is;
      stay = subst (λ (x : CacheState). Stay x.region s) c.self.view_is e.stay;
    }

pub returns-clause-shape : goal.returns-clause-shape
returns-clause-shape c = c.drop_row.ensures.keeps.shape ∙ ap (λ (x : CacheState). shape x.region) c.self.view_is
