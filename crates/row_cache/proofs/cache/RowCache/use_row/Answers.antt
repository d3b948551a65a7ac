use Rattle.std.proofs.Common.{◌≡◌, ◌∷◌, List, Some, None, sym, ap, subst, ◌∙◌}
use Rattle.rows.specs.Key.{key_shown}
use Rattle.rows.specs.Row.{Row}
use Rattle.rows.specs.Apply as apply
use Rattle.regions.specs.Contents.{live_at}
use Rattle.row_cache.specs.Rows.{AreRelinked, CacheState, rows_of, row_at, StandsAt}
use Rattle.row_cache.specs.inside.Tables.{TableState, IsListed}
use Rattle.row_cache.specs.inside.Consistent.{IsConsistent, rows_in}
use Rattle.row_cache.proofs.Caches.{rows_read}
use Rattle.common_lemmas.specs.Lists.{delete}
use Rattle.row_cache.proofs.Listed.{listed_here}
use Rattle.row_cache.proofs.Looked.{row_stands, consistent_touched, rows_touched}
use Rattle.row_cache.proofs.Groups.{some_kept}
use Rattle.row_cache.proofs.Relinked.{relinked_grouped, relinked_lives, relinked_same, same_rows}
use Rattle.row_cache.proofs.cache.RowCache.use_row.Goals as goal

pub search-requires-clause-tables : goal.search-requires-clause-tables
search-requires-clause-tables c = c.self.invariant.counted.tables

pub touch-requires-clause-tables : goal.touch-requires-clause-tables
touch-requires-clause-tables c = c.self.invariant.counted.tables

pub returns-in_default-clause-found : goal.returns-in_default-clause-found
returns-in_default-clause-found c =
    let t = c.self.inside.tables in let r = c.self.inside.region in
    let was : rows_in t r ≡ rows_of c.args.self.now = sym (rows_read t r c.self.invariant) ∙ ap rows_of c.self.view_is in
    subst (λ (x : List Row). apply.row_of (key_shown c.args.key.now) x ≡ None) was c.in_default.ensures.row

pub returns-in_default-clause-rows : goal.returns-in_default-clause-rows
returns-in_default-clause-rows c =
    let t = c.self.inside.tables in let r = c.self.inside.region in
    let was : rows_in t r ≡ rows_of c.args.self.now = sym (rows_read t r c.self.invariant) ∙ ap rows_of c.self.view_is in
    subst (λ (x : List Row). x ≡ (apply.get (key_shown c.args.key.now) x).0) was (sym (ap (λ o. (apply.get_where o (key_shown c.args.key.now) (rows_in t r)).0) c.in_default.ensures.row))

pub returns-in_default-clause-region : goal.returns-in_default-clause-region
returns-in_default-clause-region c = relinked_same c.args.self.now.region

pub invariant_of-self : goal.invariant_of-self
invariant_of-self c =
    let t = c.self.inside.tables in let r = c.self.inside.region in let e = c.touch.ensures in let k = e.relinks in
    record {
      counted = consistent_touched t c.touch.new.self r c.touch.new.region c.in-Ok.found.row c.self.invariant.counted k.tables c.in-Ok.ensures.listed k.same
          (ap (λ (x : TableState). x.recency) e.state) (ap (λ (x : TableState). x.places) e.state);
      chain = k.linked;
      some = some_kept r c.touch.new.region k.same.shape c.self.invariant.some;
      grouped = relinked_grouped r c.touch.new.region k.same c.self.invariant.grouped;
    }

pub returns-clause-found : goal.returns-clause-found
returns-clause-found c =
    let t = c.self.inside.tables in let r = c.self.inside.region in
    let was : rows_in t r ≡ rows_of c.args.self.now = sym (rows_read t r c.self.invariant) ∙ ap rows_of c.self.view_is in
    let n = c.in-Ok.found.row in let u = c.touch.new.self in let s = c.touch.new.region in
    let row = row_at (live_at r) t.places n in
    let places = ap (λ (x : TableState). x.places) c.touch.ensures.state in
    let listed : IsListed u n = subst (λ (x : TableState). IsListed x n) (sym c.touch.ensures.state) (listed_here n (delete n t.recency)) in
    let v = row_stands s u.places n (c.touch.ensures.relinks.tables.rows n listed) c.place.result c.place.ensures in
    let same : row_at (live_at s) u.places n ≡ row = ap (λ ps. row_at (live_at s) ps n) places ∙ ap (λ f. f n) (same_rows (live_at r) (live_at s) t.places (relinked_lives r s c.touch.ensures.relinks.same)) in
    (row, subst (λ (x : List Row). apply.row_of (key_shown c.args.key.now) x ≡ Some row) was c.in-Ok.ensures.row, subst (λ (x : Row). StandsAt s c.place.result x) same v.0, v.1)

pub returns-clause-rows : goal.returns-clause-rows
returns-clause-rows c =
    let t = c.self.inside.tables in let r = c.self.inside.region in
    let was : rows_in t r ≡ rows_of c.args.self.now = sym (rows_read t r c.self.invariant) ∙ ap rows_of c.self.view_is in
    let n = c.in-Ok.found.row in let u = c.touch.new.self in let s = c.touch.new.region in let e = c.touch.ensures in let k = e.relinks in
    let row = row_at (live_at r) t.places n in
    let i : IsConsistent u s = record {
      counted = consistent_touched t u r s n c.self.invariant.counted k.tables c.in-Ok.ensures.listed k.same
          (ap (λ (x : TableState). x.recency) e.state) (ap (λ (x : TableState). x.places) e.state);
      chain = k.linked;
      some = some_kept r c.touch.new.region k.same.shape c.self.invariant.some;
      grouped = relinked_grouped r c.touch.new.region k.same c.self.invariant.grouped;
    } in
    rows_read u s i
    ∙ (rows_touched t u r s n k.same (ap (λ (x : TableState). x.recency) e.state) (ap (λ (x : TableState). x.places) e.state)
    ∙ (sym (ap (λ o. (apply.get_where o (key_shown c.args.key.now) (rows_in t r)).0) c.in-Ok.ensures.row ∙ ap (λ (rs : List Row). row ∷ rs) c.in-Ok.ensures.without)
    ∙ ap (λ (x : List Row). (apply.get (key_shown c.args.key.now) x).0) was))

pub returns-clause-region : goal.returns-clause-region
returns-clause-region c = subst (λ (x : CacheState). AreRelinked x.region c.touch.new.region) c.self.view_is c.touch.ensures.relinks.same
