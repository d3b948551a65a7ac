use Rattle.std.proofs.Common.{◌≡◌, ◌+◌, ◌-◌, ◌*◌, ◌≤◌, sym, ap, subst, ◌∙◌}
use Rattle.layout.specs.Sizes.{dense}
use Rattle.regions.specs.Shapes.{group_count, held_count}
use Rattle.regions.specs.Contents.{live_at}
use Rattle.row_cache.specs.Rows.{CacheState, rows_of}
use Rattle.row_cache.specs.inside.Consistent.{IsConsistent, rows_in}
use Rattle.row_cache.specs.inside.Tables.{TableState}
use Rattle.row_cache.proofs.Caches.{live_read, rows_read}
use Rattle.row_cache.proofs.Looked.{rows_moved, consistent_moved}
use Rattle.row_cache.proofs.Grouped.{grouped_moved}
use Rattle.row_cache.proofs.Groups.{guarded_means, some_held}
use Rattle.row_cache.proofs.cache.RowCache.compact.Goals as goal

pub pass-requires-clause-fits : goal.pass-requires-clause-fits
pass-requires-clause-fits c = (c.self.invariant.counted.tables, c.self.invariant.chain)

pub invariant_of-self : goal.invariant_of-self
invariant_of-self c =
    let t = c.self.inside.tables in let u = c.pass.new.movers in let r = c.self.inside.region in let s = c.pass.new.region in let e = c.pass.ensures in let i = c.self.invariant in
    record {
      counted = consistent_moved t u r s i.counted e.fits.0
          (rows_moved t u (live_at r) (live_at s) i.counted.tables e.fits.0 (ap (λ (x : TableState). x.recency) e.rest) e.store) e.holds.live_total;
      chain = e.fits.1;
      some = some_held r s e.holds.groups i.some;
      grouped = grouped_moved t u r s i.counted.tables e.fits.0 (ap (λ (x : TableState). x.recency) e.rest) e.store e.holds.groups i.grouped;
    }

pub returns-clause-rows : goal.returns-clause-rows
returns-clause-rows c =
    let t = c.self.inside.tables in let r = c.self.inside.region in
    let was : rows_in t r ≡ rows_of c.args.self.now = sym (rows_read t r c.self.invariant) ∙ ap rows_of c.self.view_is in
    let u = c.pass.new.movers in let s = c.pass.new.region in let e = c.pass.ensures in let i = c.self.invariant in
    let rows = rows_moved t u (live_at r) (live_at s) i.counted.tables e.fits.0 (ap (λ (x : TableState). x.recency) e.rest) e.store in
    let now : IsConsistent u s = record {
      counted = consistent_moved t u r s i.counted e.fits.0 rows e.holds.live_total;
      chain = e.fits.1;
      some = some_held r s e.holds.groups i.some;
      grouped = grouped_moved t u r s i.counted.tables e.fits.0 (ap (λ (x : TableState). x.recency) e.rest) e.store e.holds.groups i.grouped;
    } in
    rows_read u s now ∙ (rows ∙ was)

pub returns-clause-guarded : goal.returns-clause-guarded
returns-clause-guarded c =
    guarded_means _ c.self.inside.region c.args.self.now.region (ap (λ (x : CacheState). x.region) c.self.view_is) c.pass.ensures.guarded

pub returns-clause-most : goal.returns-clause-most
returns-clause-most c none =
    let s = c.pass.new.region in
    subst (λ n. (held_count s - 1 - group_count s) * (dense + 1) ≤ n) (sym (live_read c.pass.new.movers s (invariant_of-self c))) (c.pass.ensures.most none)

pub returns-clause-full : goal.returns-clause-full
returns-clause-full c none g has shut =
    let s = c.pass.new.region in
    subst (λ n. (held_count s - group_count s) * (dense + 1) ≤ n) (sym (live_read c.pass.new.movers s (invariant_of-self c))) (c.pass.ensures.full none g has shut)
