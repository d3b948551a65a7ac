use Rattle.std.proofs.Common.{◌≡◌, ℕ, ◌++◌, sym, subst, arith}
use Rattle.common_lemmas.specs.Lists.{times}
use Rattle.key_table.specs.Lazy.{Lazy, IsLazyOf, rows_in}
use Rattle.key_table.proofs.Both.{can_settle, mixed_settled, rows_settled, times-append}
use Rattle.key_table.proofs.Moved.{stays_keyed}
use Rattle.key_table.proofs.index.LazyIndex.settle_one.Goals as goal

pub settle_one-requires : goal.settle_one-requires
settle_one-requires g c =
    let i = c.self.inside in
    let has_row = g.K.Keys.has_row c.args.keys.now in
    let key_of = g.K.Keys.key_of c.args.keys.now in
    let lazy = subst (IsLazyOf has_row key_of) (sym c.self.view_is) c.requires in
    can_settle has_row key_of i.room i.outside i.table i.order i.late c.self.invariant lazy.readable lazy.apart lazy.keyed.ordered

pub invariant_of-self : goal.invariant_of-self
invariant_of-self g c =
    let i = c.self.inside in
    mixed_settled i.room i.outside i.table i.order c.settle_one.new.order i.late c.settle_one.new.late c.self.invariant c.settle_one.ensures.all c.settle_one.ensures.more c.settle_one.ensures.order_room c.settle_one.ensures.late_room

pub returns-clause-rows : goal.returns-clause-rows
returns-clause-rows g c n =
    let i = c.self.inside in
    let j = c.settle_one.new in
    subst (λ (v : Lazy). times n (rows_in v) ≡ times n (j.order.rows ++ j.late.numbers)) c.self.view_is (rows_settled n i.order j.order i.late j.late (c.settle_one.ensures.all n))

pub returns-clause-moved : goal.returns-clause-moved
returns-clause-moved g c = stays_keyed _ _ _ _ _ (invariant_of-self g c)

pub returns-clause-lazy : goal.returns-clause-lazy
returns-clause-lazy g c =
    let lazy = subst (IsLazyOf (g.K.Keys.has_row c.args.keys.now) (g.K.Keys.key_of c.args.keys.now)) (sym c.self.view_is) c.requires in
    let j = c.settle_one.new in
    let settled = c.settle_one.ensures.settled in
    let all = λ (n : ℕ). times-append n j.order.rows j.late.numbers in
    record {
      readable = λ n h. settled.readable n (let a = all n in omega (arith, a, h));
      apart = λ m n h k. settled.apart m n (let a = all m in omega (arith, a, h)) (let a = all n in omega (arith, a, k));
      keyed = record { tagged = lazy.keyed.tagged; ordered = settled.index.ordered };
    }
