use Rattle.std.proofs.Common.{◌≢◌}
use Rattle.rows.specs.Key.{key_shown}
use Rattle.key_index.specs.Lead.{IsLed}
use Rattle.key_index.proofs.Found.{none_at, other_at, all_got}
use Rattle.key_index.proofs.Told.{each_all, entries_told}
use Rattle.key_index.proofs.Places.{place_told, row_told, absent_at, row_there}
use Rattle.key_index.proofs.index.KeyIndex.search.Goals as goal

pub seek-place-requires-clause-entries : goal.seek-place-requires-clause-entries
seek-place-requires-clause-entries g c =
    entries_told (g.K.Keys.has_row c.args.keys.now) (g.K.Keys.key_of c.args.keys.now) c.self.inside.room c.self.inside.blocks.contents c.args.self.now c.self.view_is c.requires.index

pub returns-in_default : goal.returns-in_default
returns-in_default g c =
    let key_of = g.K.Keys.key_of c.args.keys.now in
    let is = place_told key_of (key_shown c.args.key.now) c.self.inside.room c.self.inside.blocks.contents c.args.self.now c.seek-place.result c.self.view_is
    c.seek-place.ensures.block c.seek-place.ensures.at c.seek-place.ensures.place (none_at key_of (key_shown c.args.key.now) c.self.inside.blocks.contents c.seek-place.result.block c.seek-place.result.at c.seek-place.ensures.place c.in_default.ensures) in
    (is, each_all (λ row. key_of row ≢ (key_shown c.args.key.now)) c.args.self.now.rows (absent_at key_of (key_shown c.args.key.now) c.args.self.now c.seek-place.result is))

pub has_key-found-requires-clause-readable : goal.has_key-found-requires-clause-readable
has_key-found-requires-clause-readable g c =
    let told = entries_told (g.K.Keys.has_row c.args.keys.now) (g.K.Keys.key_of c.args.keys.now) c.self.inside.room c.self.inside.blocks.contents c.args.self.now c.self.view_is c.requires.index in
    all_got (λ e. g.K.Keys.has_row c.args.keys.now e.row) c.self.inside.blocks.contents c.seek-place.result.block c.seek-place.result.at c.in-Some.entry c.in-Some.ensures told.readable

pub has_key-found-requires-clause-led : goal.has_key-found-requires-clause-led
has_key-found-requires-clause-led g c =
    let told = entries_told (g.K.Keys.has_row c.args.keys.now) (g.K.Keys.key_of c.args.keys.now) c.self.inside.room c.self.inside.blocks.contents c.args.self.now c.self.view_is c.requires.index in
    all_got (IsLed (g.K.Keys.key_of c.args.keys.now)) c.self.inside.blocks.contents c.seek-place.result.block c.seek-place.result.at c.in-Some.entry c.in-Some.ensures told.leads

pub returns-then-not-found : goal.returns-then-not-found
returns-then-not-found g c =
    let key_of = g.K.Keys.key_of c.args.keys.now in
    let view = c.self.view_is in
    let told = entries_told (g.K.Keys.has_row c.args.keys.now) key_of c.self.inside.room c.self.inside.blocks.contents c.args.self.now view c.requires.index in
    let is = place_told key_of (key_shown c.args.key.now) c.self.inside.room c.self.inside.blocks.contents c.args.self.now c.seek-place.result view c.seek-place.ensures.block c.seek-place.ensures.at c.seek-place.ensures.place
    (other_at key_of (key_shown c.args.key.now) c.self.inside.blocks.contents c.seek-place.result.block c.seek-place.result.at c.in-Some.entry c.seek-place.ensures.place told.rising c.in-Some.ensures (c.has_key-found.ensures.other c.if-not-found.true)) in
    (is, each_all (λ row. key_of row ≢ (key_shown c.args.key.now)) c.args.self.now.rows (absent_at key_of (key_shown c.args.key.now) c.args.self.now c.seek-place.result is))

pub returns : goal.returns
returns g c =
    let is = row_told c.self.inside.room c.self.inside.blocks.contents c.args.self.now c.seek-place.result c.in-Some.entry c.self.view_is c.in-Some.ensures in
    (is, row_there c.args.self.now c.seek-place.result c.in-Some.entry.row is, c.has_key-found.ensures.same c.if-not-found.false)
