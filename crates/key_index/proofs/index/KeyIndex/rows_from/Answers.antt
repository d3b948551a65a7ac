use Rattle.std.proofs.Common.{ap, ◌∙◌}
use Rattle.rows.specs.Key.{key_shown}
use Rattle.key_index.specs.Order.{rows_from}
use Rattle.key_index.specs.Index.{Index}
use Rattle.key_index.proofs.Cursor.{kept_from}
use Rattle.key_index.proofs.Told.{entries_told}
use Rattle.key_index.proofs.index.KeyIndex.rows_from.Goals as goal

pub seek-place-requires-clause-entries : goal.seek-place-requires-clause-entries
seek-place-requires-clause-entries g c =
    entries_told (g.K.Keys.has_row c.args.keys.now) (g.K.Keys.key_of c.args.keys.now) c.self.inside.room c.self.inside.blocks.contents c.args.self.now c.self.view_is c.requires.index

pub returns : goal.returns
returns g c =
    c.new.ensures ∙ kept_from (g.K.Keys.key_of c.args.keys.now) (key_shown c.args.key.now) c.self.inside.blocks.contents c.seek-place.result.block c.seek-place.result.at c.seek-place.ensures.place
    ∙ ap (λ (i : Index). rows_from (g.K.Keys.key_of c.args.keys.now) (key_shown c.args.key.now) i.rows) c.self.view_is
