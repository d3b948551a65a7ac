use Rattle.std.proofs.Common.{◌≡◌, ◌-◌, ◌≤◌, ◌∷◌, ◌++◌, refl, sym, subst, arith}
use Rattle.common_lemmas.specs.Lists.{times}
use Rattle.key_table.specs.Table.{Table}
use Rattle.key_table.specs.Lazy.{Lazy, Has, IsKeyed, rows_in}
use Rattle.key_table.specs.inside.Mixed.{AreMixed, both}
use Rattle.key_table.proofs.Both.{mixed_less, mixed_gone, rows_left, times-append}
use Rattle.key_table.proofs.Moved.{stays_keyed}
use Rattle.key_table.proofs.index.LazyIndex.remove.Goals as goal

pub overflow_sub-self : goal.overflow_sub-self
overflow_sub-self c =
    let i = c.self.inside in
    let n = c.args.standing.found.row in
    let has : 1 ≤ times n (i.order.rows ++ i.late.numbers) = subst (λ (v : Lazy). Has v n) (sym c.self.view_is) c.requires.there.has in
    let some : 1 ≤ both i.order i.late n = (let t = times-append n i.order.rows i.late.numbers in omega (arith, has, t)) in
    (mixed_gone i.room i.outside n i.table i.order c.leave.new.order i.late c.leave.new.late c.self.invariant (c.if-not-remove.ensures.absent refl) some c.leave.ensures.all c.leave.ensures.fewer c.leave.ensures.order_room c.leave.ensures.late_room).0

pub invariant_of-self : goal.invariant_of-self
invariant_of-self c =
    let i = c.self.inside in
    let n = c.args.standing.found.row in
    let has : 1 ≤ times n (i.order.rows ++ i.late.numbers) = subst (λ (v : Lazy). Has v n) (sym c.self.view_is) c.requires.there.has in
    let some : 1 ≤ both i.order i.late n = (let t = times-append n i.order.rows i.late.numbers in omega (arith, has, t)) in
    subst (λ (t : Table). AreMixed i.room (i.outside - 1) t c.leave.new.order c.leave.new.late) (sym (c.if-not-remove.ensures.unchanged refl))
    (mixed_gone i.room i.outside n i.table i.order c.leave.new.order i.late c.leave.new.late c.self.invariant (c.if-not-remove.ensures.absent refl) some c.leave.ensures.all c.leave.ensures.fewer c.leave.ensures.order_room c.leave.ensures.late_room).1

pub invariant_of-self-else-not-remove : goal.invariant_of-self-else-not-remove
invariant_of-self-else-not-remove c =
    let i = c.self.inside in
    mixed_less i.room i.outside c.args.standing.found.row i.table c.remove.new.self i.order c.leave.new.order i.late c.leave.new.late c.self.invariant
    (c.if-not-remove.ensures.rows refl) c.remove.ensures.room c.leave.ensures.all c.leave.ensures.fewer c.leave.ensures.order_room c.leave.ensures.late_room

pub returns-then-not-remove-clause-rows : goal.returns-then-not-remove-clause-rows
returns-then-not-remove-clause-rows c n =
    let i = c.self.inside in
    let j = c.leave.new in
    let row = c.args.standing.found.row in
    subst (λ (v : Lazy). times n (rows_in v) ≡ times n (row ∷ (j.order.rows ++ j.late.numbers))) c.self.view_is (rows_left row n i.order j.order i.late j.late (c.leave.ensures.all n))

pub returns-else-not-remove-clause-rows : goal.returns-else-not-remove-clause-rows
returns-else-not-remove-clause-rows c n =
    let i = c.self.inside in
    let j = c.leave.new in
    let row = c.args.standing.found.row in
    subst (λ (v : Lazy). times n (rows_in v) ≡ times n (row ∷ (j.order.rows ++ j.late.numbers))) c.self.view_is (rows_left row n i.order j.order i.late j.late (c.leave.ensures.all n))

pub returns-then-not-remove-clause-keyed : goal.returns-then-not-remove-clause-keyed
returns-then-not-remove-clause-keyed c key_of is =
    let keyed = subst (IsKeyed key_of) (sym c.self.view_is) is in
    record { tagged = c.remove.ensures.tagged key_of keyed.tagged; ordered = c.leave.ensures.ordered key_of keyed.ordered }

pub returns-else-not-remove-clause-keyed : goal.returns-else-not-remove-clause-keyed
returns-else-not-remove-clause-keyed c key_of is =
    let keyed = subst (IsKeyed key_of) (sym c.self.view_is) is in
    record { tagged = c.remove.ensures.tagged key_of keyed.tagged; ordered = c.leave.ensures.ordered key_of keyed.ordered }

pub returns-then-not-remove-clause-moved : goal.returns-then-not-remove-clause-moved
returns-then-not-remove-clause-moved c = stays_keyed _ _ _ _ _ (invariant_of-self c)

pub returns-else-not-remove-clause-moved : goal.returns-else-not-remove-clause-moved
returns-else-not-remove-clause-moved c = stays_keyed _ _ _ _ _ (invariant_of-self-else-not-remove c)
