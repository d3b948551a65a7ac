use Rattle.std.proofs.Common.{◌≡◌, ◌<◌, ◌∷◌, ◌++◌, refl, sym, subst, arith}
use Rattle.common_lemmas.specs.Lists.{times}
use Rattle.key_table.specs.Table.{AreSame, rows_of}
use Rattle.dirty_region.specs.inside.PutRows.{PutRows, put_rows, rows_in, IsKeyed, IsPutIndexOf}
use Rattle.dirty_region.proofs.PutRows.{strays_of, times-append, kept_less, stray_less, apart_less, apart_left}
use Rattle.dirty_region.proofs.Marks.{marked_less, marked_left}
use Rattle.dirty_region.proofs.put_index.PutIndex.remove.Goals as goal

pub invariant_of-self : goal.invariant_of-self
invariant_of-self g c =
    let i = c.self.inside in let row = c.args.found.row in let new = c.remove.new.self in
    let less = kept_less row i.table new i.strays (c.if-remove.ensures.rows refl) in (
      apart_less row i.table new i.strays i.strays c.self.invariant.0 less c.remove.ensures.room refl,
      marked_less i.marks.items row (put_rows i.table i.strays) (put_rows new i.strays) c.self.invariant.1
          (subst (λ (v : PutRows). row < v.room) (sym c.self.view_is) c.requires.number) c.remove.ensures.room
          (let o = c.self.invariant.0.once row in let t = times-append row (rows_of i.table.kept) i.strays.rows in omega (arith, o, t)) less,
    )

pub returns-then-remove-clause-rows : goal.returns-then-remove-clause-rows
returns-then-remove-clause-rows g c =
    let i = c.self.inside in let row = c.args.found.row in let new = c.remove.new.self in
    λ _. subst (λ (v : PutRows). AreSame (rows_in v) (row ∷ (rows_of new.kept ++ i.strays.rows))) c.self.view_is (kept_less row i.table new i.strays (c.if-remove.ensures.rows refl))

pub returns-then-remove-clause-keyed : goal.returns-then-remove-clause-keyed
returns-then-remove-clause-keyed g c key_of is =
    let keyed = subst (IsKeyed key_of) (sym c.self.view_is) is in record { tagged = c.remove.ensures.tagged key_of keyed.tagged; ordered = keyed.ordered }

pub take_stray-requires-clause-index : goal.take_stray-requires-clause-index
take_stray-requires-clause-index g c =
    let i = c.self.inside in let has_row = g.K.Keys.has_row c.args.keys.now in let key_of = g.K.Keys.key_of c.args.keys.now in
    strays_of has_row key_of (put_rows i.table i.strays) (subst (IsPutIndexOf has_row key_of) (sym c.self.view_is) c.requires.index)

pub invariant_of-self-2 : goal.invariant_of-self-2
invariant_of-self-2 g c =
    let i = c.self.inside in let row = c.args.found.row in let t = c.take_stray.ensures in (
      apart_left c.take_stray.result row i.table c.remove.new.self i.strays c.take_stray.new.strays c.self.invariant.0 (c.if-remove.ensures.unchanged refl) t.room t.rows t.unchanged,
      marked_left c.take_stray.result i.marks.items row i.table c.remove.new.self i.strays c.take_stray.new.strays c.self.invariant.0 c.self.invariant.1
          (subst (λ (v : PutRows). row < v.room) (sym c.self.view_is) c.requires.number) (c.if-remove.ensures.unchanged refl) (c.if-remove.ensures.absent refl) t.rows t.unchanged t.absent,
    )

pub returns-clause-rows : goal.returns-clause-rows
returns-clause-rows g c =
    let i = c.self.inside in let row = c.args.found.row in let new = c.remove.new.self in let strays = c.take_stray.new.strays in
    λ e. subst (λ (v : PutRows). AreSame (rows_in v) (row ∷ (rows_of new.kept ++ strays.rows))) c.self.view_is
    (stray_less row i.table new i.strays strays (c.if-remove.ensures.unchanged refl) (c.take_stray.ensures.rows e))

pub returns-clause-absent : goal.returns-clause-absent
returns-clause-absent g c =
    let i = c.self.inside in let row = c.args.found.row in
    λ e. subst (λ (v : PutRows). times row (rows_in v) ≡ 0) c.self.view_is
    (let t = times-append row (rows_of i.table.kept) i.strays.rows in let a = c.if-remove.ensures.absent refl in let b = c.take_stray.ensures.absent e in omega (arith, t, a, b))

pub returns-clause-keyed : goal.returns-clause-keyed
returns-clause-keyed g c key_of is =
    let keyed = subst (IsKeyed key_of) (sym c.self.view_is) is in record { tagged = c.remove.ensures.tagged key_of keyed.tagged; ordered = c.take_stray.ensures.ordered key_of keyed.ordered }
