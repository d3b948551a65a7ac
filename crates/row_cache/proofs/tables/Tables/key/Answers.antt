use Rattle.std.proofs.Common.{◌≡◌, sym, ap, subst, ◌∙◌}
use Rattle.rows.specs.Key.{Key, key_shown}
use Rattle.rows.specs.Spelled.{IsKey}
use Rattle.rows.specs.Row.{Row}
use Rattle.regions.specs.Contents.{live_at}
use Rattle.row_cache.specs.Rows.{key_at}
use Rattle.row_cache.specs.inside.Tables.{TableState}
use Rattle.row_cache.proofs.Written.{row_key}
use Rattle.row_cache.proofs.tables.Tables.key.Goals as goal

pub returns : goal.returns
returns c =
    let live = live_at c.args.region.now in let n = c.args.number in let places = c.args.self.now.places in
    let is : key_shown c.key_of_row.result ≡ key_at live places n =
    c.key_of_row.ensures.key ∙ ap (λ (x : Row). x.key) c.content_of.ensures.read ∙ ap (λ ps. key_at live ps n) (c.deref.ensures.value ∙ ap (λ (t : TableState). t.places) c.self.view_is) in
    record { key = is; lengths = subst (λ (k : Key). IsKey k.bytes) (sym is) (row_key live places n c.requires) }
