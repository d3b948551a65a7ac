use Rattle.std.proofs.Common.{◌≡◌, sym, ap, ◌∙◌}
use Rattle.rows.specs.Row.{live}
use Rattle.row_cache.specs.Rows.{rows_of}
use Rattle.row_cache.specs.inside.Consistent.{rows_in}
use Rattle.row_cache.proofs.Caches.{rows_read}
use Rattle.row_cache.proofs.cache.RowCache.live.Goals as goal

pub returns-clause-rows : goal.returns-clause-rows
returns-clause-rows c =
    let t = c.self.inside.tables in let r = c.self.inside.region in
    let was : rows_in t r ≡ rows_of c.args.self.now = sym (rows_read t r c.self.invariant) ∙ ap rows_of c.self.view_is in
    c.live.ensures ∙ (sym c.self.invariant.counted.sizes ∙ ap live was)
