use Rattle.std.proofs.Common.{ap, ◌∙◌}
use Rattle.rows.specs.Key.{key_shown}
use Rattle.regions.specs.Contents.{live_at}
use Rattle.row_cache.specs.Rows.{key_at}
use Rattle.row_cache.specs.inside.Tables as tables
use Rattle.row_cache.proofs.Ordered.{rows_told}
use Rattle.row_lemmas.proofs.Laws.{sorted_keys_are_in_order}
use Rattle.row_cache.proofs.tables.Tables.rows_from.Goals as goal

pub returns-clause-rows : goal.returns-clause-rows
returns-clause-rows c =
    let k = c.keys.result in
    let told =
    rows_told c.args.self.now (live_at c.args.region.now) (key_shown c.args.key.now) (key_at (live_at k.region.now) k.places.now) c.self.inside.index c.rows_from.result c.requires.tables
    (ap (λ (t : tables.TableState). t.index) c.self.view_is)
    (ap (λ r. key_at (live_at r) k.places.now) c.keys.ensures.region ∙ ap (λ ps. key_at (live_at c.args.region.now) ps) c.keys.ensures.places)
    sorted_keys_are_in_order c.rows_from.ensures.rows c.rows_from.ensures.rising c.rows_from.ensures.all in
    told.0

pub returns-clause-order : goal.returns-clause-order
returns-clause-order c =
    let k = c.keys.result in
    let told =
    rows_told c.args.self.now (live_at c.args.region.now) (key_shown c.args.key.now) (key_at (live_at k.region.now) k.places.now) c.self.inside.index c.rows_from.result c.requires.tables
    (ap (λ (t : tables.TableState). t.index) c.self.view_is)
    (ap (λ r. key_at (live_at r) k.places.now) c.keys.ensures.region ∙ ap (λ ps. key_at (live_at c.args.region.now) ps) c.keys.ensures.places)
    sorted_keys_are_in_order c.rows_from.ensures.rows c.rows_from.ensures.rising c.rows_from.ensures.all in
    told.1
