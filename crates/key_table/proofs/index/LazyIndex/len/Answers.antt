use Rattle.std.proofs.Common.{◌≡◌, ◌+◌, ◌≤◌, length, subst, arith, length-append}
use Rattle.key_table.specs.Lazy.{Lazy, StaysKeyed, rows_in}
use Rattle.common_lemmas.specs.Lists.{times}
use Rattle.key_table.proofs.Both.{mixed_size, times-append}
use Rattle.key_table.proofs.Moved.{stays_keyed}
use Rattle.key_table.proofs.index.LazyIndex.len.Goals as goal

pub overflow_add-result : goal.overflow_add-result
overflow_add-result c =
    let i = c.self.inside in
    let size = mixed_size i.room i.outside i.table i.order i.late c.self.invariant in
    let few = c.self.invariant.few in
    omega (arith, size, few, c.self.invariant.small)

pub returns-clause-count : goal.returns-clause-count
returns-clause-count c =
    let i = c.self.inside in
    let size = mixed_size i.room i.outside i.table i.order i.late c.self.invariant in
    let long = length-append i.order.rows i.late.numbers in
    subst (λ (v : Lazy). c.len.result + i.outside ≡ length (rows_in v)) c.self.view_is (omega (arith, size, long))

pub returns-clause-once : goal.returns-clause-once
returns-clause-once c n =
    let i = c.self.inside in
    subst (λ (v : Lazy). times n (rows_in v) ≤ 1) c.self.view_is (let o = c.self.invariant.once n in let t = times-append n i.order.rows i.late.numbers in omega (arith, o, t))

pub returns-clause-moved : goal.returns-clause-moved
returns-clause-moved c = subst StaysKeyed c.self.view_is (stays_keyed _ _ _ _ _ c.self.invariant)
