use Rattle.std.proofs.Common.{◌≡◌, ◌≢◌, ℕ, ◌<◌, ◌∷◌, ◌++◌, length, sym, subst, arith, length-append}
use Rattle.common_lemmas.specs.Lists.{times}
use Rattle.key_table.specs.Lazy.{Lazy, Has, IsLazyOf, rows_in}
use Rattle.key_table.proofs.Both.{absent_row, all_of, lazy_more, mixed_more, mixed_outside, mixed_size, order_of, rows_ordered, rows_waiting, times-append}
use Rattle.key_table.proofs.Moved.{stays_keyed}
use Rattle.key_table.proofs.index.LazyIndex.insert.Goals as goal

pub insert-requires-clause-room : goal.insert-requires-clause-room
insert-requires-clause-room g c =
    let i = c.self.inside in
    let fits : length (i.order.rows ++ i.late.numbers) < i.room = subst (λ (v : Lazy). length (rows_in v) < v.room) (sym c.self.view_is) c.requires.room in
    let long = length-append i.order.rows i.late.numbers in
    let size = mixed_size i.room i.outside i.table i.order i.late c.self.invariant in
    let same = c.self.invariant.table_room in
    omega (arith, fits, long, size, same)

pub add-requires-clause-absent : goal.add-requires-clause-absent
add-requires-clause-absent g c =
    let i = c.self.inside in
    let key_of = g.K.Keys.key_of c.args.keys.now in
    let none = absent_row key_of c.args.row i.order i.late (subst (λ (v : Lazy). (n : ℕ) → Has v n → key_of n ≢ key_of c.args.row) (sym c.self.view_is) c.requires.absent) in
    omega (arith, none)

pub invariant_of-self : goal.invariant_of-self
invariant_of-self g c =
    let i = c.self.inside in
    let key_of = g.K.Keys.key_of c.args.keys.now in
    let none = absent_row key_of c.args.row i.order i.late (subst (λ (v : Lazy). (n : ℕ) → Has v n → key_of n ≢ key_of c.args.row) (sym c.self.view_is) c.requires.absent) in
    let fits : length (i.order.rows ++ i.late.numbers) < i.room = subst (λ (v : Lazy). length (rows_in v) < v.room) (sym c.self.view_is) c.requires.room in
    let long = length-append i.order.rows i.late.numbers in
    mixed_more i.room i.outside c.args.row i.table c.insert.new.self i.order i.late c.add.new.self c.self.invariant c.in_default.ensures.rows c.insert.ensures.room c.add.ensures.numbers c.add.ensures.bound none (omega (arith, fits, long))

pub returns-in_default-clause-rows : goal.returns-in_default-clause-rows
returns-in_default-clause-rows g c n =
    let i = c.self.inside in
    let row = c.args.row in
    subst (λ (v : Lazy). times n (row ∷ rows_in v) ≡ times n (i.order.rows ++ c.add.new.self.numbers)) c.self.view_is (rows_waiting row n i.order i.late c.add.new.self c.add.ensures.numbers)

pub returns-in_default-clause-lazy : goal.returns-in_default-clause-lazy
returns-in_default-clause-lazy g c =
    let has_row = g.K.Keys.has_row c.args.keys.now in
    let key_of = g.K.Keys.key_of c.args.keys.now in
    let lazy = subst (IsLazyOf has_row key_of) (sym c.self.view_is) c.requires.lazy in
    lazy_more has_row key_of c.args.row c.args.self.now _ c.requires.lazy (returns-in_default-clause-rows g c) c.requires.readable c.requires.absent
    (record { tagged = c.in_default.ensures.tagged key_of lazy.keyed.tagged c.requires.spot; ordered = lazy.keyed.ordered })

pub insert-requires-2-clause-index : goal.insert-requires-2-clause-index
insert-requires-2-clause-index g c =
    let has_row = g.K.Keys.has_row c.args.keys.now in
    let key_of = g.K.Keys.key_of c.args.keys.now in
    let lazy = subst (IsLazyOf has_row key_of) (sym c.self.view_is) c.requires.lazy in
    order_of has_row key_of c.self.inside.order c.self.inside.late lazy.readable lazy.keyed.ordered

pub insert-requires-2-clause-absent : goal.insert-requires-2-clause-absent
insert-requires-2-clause-absent g c =
    let i = c.self.inside in
    let key_of = g.K.Keys.key_of c.args.keys.now in
    let absent = subst (λ (v : Lazy). (n : ℕ) → Has v n → key_of n ≢ key_of c.args.row) (sym c.self.view_is) c.requires.absent in
    all_of (λ n. key_of n ≢ key_of c.args.row) i.order.rows (λ n h. absent n (let t = times-append n i.order.rows i.late.numbers in omega (arith, t, h)))

pub overflow_add-self : goal.overflow_add-self
overflow_add-self g c =
    let i = c.self.inside in
    let fits : length (i.order.rows ++ i.late.numbers) < i.room = subst (λ (v : Lazy). length (rows_in v) < v.room) (sym c.self.view_is) c.requires.room in
    let long = length-append i.order.rows i.late.numbers in
    let size = mixed_size i.room i.outside i.table i.order i.late c.self.invariant in
    omega (arith, fits, long, size)

pub invariant_of-self-2 : goal.invariant_of-self-2
invariant_of-self-2 g c =
    let i = c.self.inside in
    let key_of = g.K.Keys.key_of c.args.keys.now in
    let none = absent_row key_of c.args.row i.order i.late (subst (λ (v : Lazy). (n : ℕ) → Has v n → key_of n ≢ key_of c.args.row) (sym c.self.view_is) c.requires.absent) in
    let fits : length (i.order.rows ++ i.late.numbers) < i.room = subst (λ (v : Lazy). length (rows_in v) < v.room) (sym c.self.view_is) c.requires.room in
    let long = length-append i.order.rows i.late.numbers in
    mixed_outside key_of i.room i.outside c.args.row i.table c.insert.new.self i.order c.insert-2.new.self i.late c.self.invariant c.in-Err.ensures.rows c.insert.ensures.room c.insert-2.ensures.rows c.insert-2.ensures.room none (omega (arith, fits, long))

pub returns-clause-rows : goal.returns-clause-rows
returns-clause-rows g c n =
    let i = c.self.inside in
    let row = c.args.row in
    let order = c.insert-2.new.self in
    subst (λ (v : Lazy). times n (row ∷ rows_in v) ≡ times n (order.rows ++ i.late.numbers)) c.self.view_is (rows_ordered (g.K.Keys.key_of c.args.keys.now) row n i.order order i.late c.insert-2.ensures.rows)

pub returns-clause-lazy : goal.returns-clause-lazy
returns-clause-lazy g c =
    let has_row = g.K.Keys.has_row c.args.keys.now in
    let key_of = g.K.Keys.key_of c.args.keys.now in
    let lazy = subst (IsLazyOf has_row key_of) (sym c.self.view_is) c.requires.lazy in
    lazy_more has_row key_of c.args.row c.args.self.now _ c.requires.lazy (returns-clause-rows g c) c.requires.readable c.requires.absent
    (record { tagged = c.in-Err.ensures.tagged key_of lazy.keyed.tagged c.requires.spot; ordered = c.insert-2.ensures.index.ordered })

pub returns-in_default-clause-moved : goal.returns-in_default-clause-moved
returns-in_default-clause-moved g c = stays_keyed _ _ _ _ _ (invariant_of-self g c)

pub returns-clause-moved : goal.returns-clause-moved
returns-clause-moved g c = stays_keyed _ _ _ _ _ (invariant_of-self-2 g c)
