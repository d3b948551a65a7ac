use Rattle.std.proofs.Common.{◌≡◌, ◌≢◌, ℕ, sym, subst}
use Rattle.std.specs.Prelude.{MatchResult}
use Rattle.rows.specs.Key.{key_shown}
use Rattle.key_table.specs.Table.{IsSpotFor}
use Rattle.dirty_region.specs.inside.PutRows.{PutRows, put_rows, Has, IsPutIndexOf, IsThere}
use Rattle.dirty_region.proofs.PutRows.{table_of, strays_of, kept_there, stray_found}
use Rattle.dirty_region.proofs.put_index.PutIndex.find.Goals as goal

pub find-requires : goal.find-requires
find-requires g c =
    let i = c.self.inside in let has_row = g.K.Keys.has_row c.args.keys.now in let key_of = g.K.Keys.key_of c.args.keys.now in
    table_of has_row key_of (put_rows i.table i.strays) (subst (IsPutIndexOf has_row key_of) (sym c.self.view_is) c.requires.index)

pub returns-in-Ok : goal.returns-in-Ok
returns-in-Ok g c =
    let i = c.self.inside in let has_row = g.K.Keys.has_row c.args.keys.now in let key_of = g.K.Keys.key_of c.args.keys.now in let told = c.in-Ok.ensures in
    let is = subst (IsPutIndexOf has_row key_of) (sym c.self.view_is) c.requires.index in
    (subst (λ (v : PutRows). IsThere v c.in-Ok.found) c.self.view_is (kept_there key_of (put_rows i.table i.strays) c.in-Ok.found is.keyed told.0 told.1), told.2)

pub find_stray-requires-clause-index : goal.find_stray-requires-clause-index
find_stray-requires-clause-index g c =
    let i = c.self.inside in let has_row = g.K.Keys.has_row c.args.keys.now in let key_of = g.K.Keys.key_of c.args.keys.now in
    strays_of has_row key_of (put_rows i.table i.strays) (subst (IsPutIndexOf has_row key_of) (sym c.self.view_is) c.requires.index)

pub returns-in-Err : goal.returns-in-Err
returns-in-Err g c =
    let i = c.self.inside in let has_row = g.K.Keys.has_row c.args.keys.now in let key_of = g.K.Keys.key_of c.args.keys.now in let key = key_shown c.args.key.now in
    let is = subst (IsPutIndexOf has_row key_of) (sym c.self.view_is) c.requires.index in
    subst (λ (v : PutRows). MatchResult c.find_stray.result (λ found. IsThere v found × (key_of found.row ≡ key)) (λ spot. IsSpotFor key spot × ((n : ℕ) → Has v n → key_of n ≢ key))) c.self.view_is
    (stray_found key_of key (put_rows i.table i.strays) c.find_stray.result is.keyed c.in-Err.ensures.1 c.find_stray.ensures)
