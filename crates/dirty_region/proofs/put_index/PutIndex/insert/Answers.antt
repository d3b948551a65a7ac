use Rattle.std.proofs.Common.{◌≢◌, ℕ, ◌<◌, ◌∷◌, ◌++◌, length, refl, sym, ap, subst, ◌∙◌, arith}
use Rattle.key_table.specs.Table.{AreSame, rows_of}
use Rattle.dirty_region.specs.inside.PutRows.{PutRows, put_rows, rows_in, Has, IsKeyed, IsPutIndexOf}
use Rattle.dirty_region.proofs.PutRows.{sizes, strays_of, all_of, has_stray, absent_row, put_times, kept_more, stray_more, apart_more}
use Rattle.dirty_region.proofs.Marks.{marked_more}
use Rattle.dirty_region.proofs.put_index.PutIndex.insert.Goals as goal

pub insert-requires-clause-number : goal.insert-requires-clause-number
insert-requires-clause-number g c =
    let low = subst (λ (v : PutRows). c.args.row < v.room) (sym c.self.view_is) c.requires.number in let small = c.self.invariant.0.small in
    omega (arith, low, small)

pub insert-requires-clause-room : goal.insert-requires-clause-room
insert-requires-clause-room g c =
    let i = c.self.inside in let fits = subst (λ (v : PutRows). length (rows_in v) < v.room) (sym c.self.view_is) c.requires.room in
    let size = sizes (put_rows i.table i.strays) in omega (arith, fits, size)

pub invariant_of-self : goal.invariant_of-self
invariant_of-self g c =
    let i = c.self.inside in let key_of = g.K.Keys.key_of c.args.keys.now in let row = c.args.row in let new = c.insert.new.self in
    let absent = subst (λ (v : PutRows). (n : ℕ) → Has v n → key_of n ≢ key_of row) (sym c.self.view_is) c.requires.absent in
    let more = kept_more row i.table new i.strays c.in_default.ensures.rows in (
      apart_more row i.table new i.strays i.strays c.self.invariant.0 (absent_row key_of row (rows_of i.table.kept ++ i.strays.rows) absent) more c.insert.ensures.room refl,
      marked_more i.marks.items row (put_rows i.table i.strays) (put_rows new i.strays) c.self.invariant.1
          (subst (λ (v : PutRows). row < v.room) (sym c.self.view_is) c.requires.number) c.insert.ensures.room more,
    )

pub returns-in_default-clause-room : goal.returns-in_default-clause-room
returns-in_default-clause-room g c = c.insert.ensures.room ∙ ap (λ (v : PutRows). v.room) c.self.view_is

pub returns-in_default-clause-rows : goal.returns-in_default-clause-rows
returns-in_default-clause-rows g c =
    let i = c.self.inside in let row = c.args.row in let new = c.insert.new.self in
    subst (λ (v : PutRows). AreSame (row ∷ rows_in v) (rows_of new.kept ++ i.strays.rows)) c.self.view_is (kept_more row i.table new i.strays c.in_default.ensures.rows)

pub returns-in_default-clause-keyed : goal.returns-in_default-clause-keyed
returns-in_default-clause-keyed g c =
    let key_of = g.K.Keys.key_of c.args.keys.now in let keyed = subst (IsKeyed key_of) (sym c.self.view_is) c.requires.index.keyed in
    record { tagged = c.in_default.ensures.tagged key_of keyed.tagged c.requires.spot; ordered = keyed.ordered }

pub insert-requires-2-clause-index : goal.insert-requires-2-clause-index
insert-requires-2-clause-index g c =
    let i = c.self.inside in let has_row = g.K.Keys.has_row c.args.keys.now in let key_of = g.K.Keys.key_of c.args.keys.now in
    strays_of has_row key_of (put_rows i.table i.strays) (subst (IsPutIndexOf has_row key_of) (sym c.self.view_is) c.requires.index)

pub insert-requires-2-clause-absent : goal.insert-requires-2-clause-absent
insert-requires-2-clause-absent g c =
    let i = c.self.inside in let key_of = g.K.Keys.key_of c.args.keys.now in
    let absent = subst (λ (v : PutRows). (n : ℕ) → Has v n → key_of n ≢ key_of c.args.row) (sym c.self.view_is) c.requires.absent in
    all_of (λ n. key_of n ≢ key_of c.args.row) i.strays.rows (λ n h. absent n (has_stray (put_rows i.table i.strays) n h))

pub insert-requires-2-clause-room : goal.insert-requires-2-clause-room
insert-requires-2-clause-room g c =
    let i = c.self.inside in let fits = subst (λ (v : PutRows). length (rows_in v) < v.room) (sym c.self.view_is) c.requires.room in
    let size = sizes (put_rows i.table i.strays) in let room = c.self.invariant.0.room in omega (arith, fits, size, room)

pub invariant_of-self-2 : goal.invariant_of-self-2
invariant_of-self-2 g c =
    let i = c.self.inside in let key_of = g.K.Keys.key_of c.args.keys.now in let row = c.args.row in let new = c.insert.new.self in let strays = c.insert-2.new.self in
    let absent = subst (λ (v : PutRows). (n : ℕ) → Has v n → key_of n ≢ key_of row) (sym c.self.view_is) c.requires.absent in
    let more = stray_more row i.table new i.strays strays c.in-Err.ensures.rows (put_times key_of row i.strays.rows strays.rows c.insert-2.ensures.rows) in (
      apart_more row i.table new i.strays strays c.self.invariant.0 (absent_row key_of row (rows_of i.table.kept ++ i.strays.rows) absent) more c.insert.ensures.room
          c.insert-2.ensures.room,
      marked_more i.marks.items row (put_rows i.table i.strays) (put_rows new strays) c.self.invariant.1
          (subst (λ (v : PutRows). row < v.room) (sym c.self.view_is) c.requires.number) c.insert.ensures.room more,
    )

pub returns-clause-room : goal.returns-clause-room
returns-clause-room g c = c.insert.ensures.room ∙ ap (λ (v : PutRows). v.room) c.self.view_is

pub returns-clause-rows : goal.returns-clause-rows
returns-clause-rows g c =
    let i = c.self.inside in let key_of = g.K.Keys.key_of c.args.keys.now in let row = c.args.row in let new = c.insert.new.self in let strays = c.insert-2.new.self in
    subst (λ (v : PutRows). AreSame (row ∷ rows_in v) (rows_of new.kept ++ strays.rows)) c.self.view_is
    (stray_more row i.table new i.strays strays c.in-Err.ensures.rows (put_times key_of row i.strays.rows strays.rows c.insert-2.ensures.rows))

pub returns-clause-keyed : goal.returns-clause-keyed
returns-clause-keyed g c =
    let key_of = g.K.Keys.key_of c.args.keys.now in let keyed = subst (IsKeyed key_of) (sym c.self.view_is) c.requires.index.keyed in
    record { tagged = c.in-Err.ensures.tagged key_of keyed.tagged c.requires.spot; ordered = c.insert-2.ensures.index.ordered }
