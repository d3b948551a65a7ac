use Rattle.std.proofs.Common.{◌≡◌, ◌≢◌, sym, subst}
use Rattle.std.specs.Prelude.{All, Contains}
use Rattle.rows.specs.Key.{key_shown}
use Rattle.key_table.specs.declared.entries.RowAt.{RowAt}
use Rattle.key_table.specs.Hash.{tag_of}
use Rattle.key_table.specs.Table.{Table, IsTagged}
use Rattle.key_table.specs.inside.Slots.{held}
use Rattle.key_table.proofs.Told.{all_held, held_all, all_listed, listed_all, contains_held, contains_listed}
use Rattle.key_table.proofs.table.KeyTable.find.Goals as goal

pub seek-requires-clause-readable : goal.seek-requires-clause-readable
seek-requires-clause-readable g c =
    let has_row = g.K.Keys.has_row c.args.keys.now in
    let slots = c.self.inside.slots.items in
    held_all (λ (s : RowAt). has_row s.row) slots (subst (λ (t : Table). All (λ (s : RowAt). has_row s.row) t.kept) (sym c.self.view_is) (all_listed has_row c.args.self.now.kept c.requires.readable))

pub seek-requires-clause-tagged : goal.seek-requires-clause-tagged
seek-requires-clause-tagged g c =
    let key_of = g.K.Keys.key_of c.args.keys.now in
    held_all (λ (s : RowAt). s.tag ≡ tag_of (key_of s.row)) c.self.inside.slots.items (subst (IsTagged key_of) (sym c.self.view_is) c.requires.tagged)

pub returns-in-Some : goal.returns-in-Some
returns-in-Some g c =
    let found = c.in-Some.ensures in
    let there = subst (λ (t : Table). Contains t.kept c.in-Some.found) c.self.view_is (subst (Contains (held c.self.inside.slots.items)) found.is (contains_held c.self.inside.slots.items found.place found.here)) in
    (there, contains_listed c.args.self.now.kept c.in-Some.found there, found.same)

pub returns-in-None : goal.returns-in-None
returns-in-None g c =
    let key_of = g.K.Keys.key_of c.args.keys.now in
    let none = all_held (λ (s : RowAt). key_of s.row ≢ key_shown c.args.key.now) c.self.inside.slots.items c.in-None.ensures in
    (c.new-spot.ensures, listed_all (λ n. key_of n ≢ key_shown c.args.key.now) c.args.self.now.kept (subst (λ (t : Table). All (λ (s : RowAt). key_of s.row ≢ key_shown c.args.key.now) t.kept) c.self.view_is none))
