use Rattle.std.proofs.Common.{ap, ◌∙◌}
use Rattle.rows.specs.Key.{key_shown}
use Rattle.regions.specs.Contents.{live_at}
use Rattle.row_cache.specs.Rows.{key_at}
use Rattle.row_cache.specs.inside.Tables as tables
use Rattle.row_cache.proofs.Searched.{search_told}
use Rattle.row_cache.proofs.tables.Tables.search.Goals as goal

pub returns : goal.returns
returns c =
    let k = c.keys.result in
    search_told c.args.self.now (live_at c.args.region.now) (key_shown c.args.key.now) (key_at (live_at k.region.now) k.places.now) c.self.inside.index c.find.result c.requires.tables
    (ap (λ (t : tables.TableState). t.index) c.self.view_is)
    (ap (λ r. key_at (live_at r) k.places.now) c.keys.ensures.region ∙ ap (λ ps. key_at (live_at c.args.region.now) ps) c.keys.ensures.places)
    c.find.ensures
