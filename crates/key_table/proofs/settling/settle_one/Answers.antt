use Rattle.std.proofs.Common.{◌≢◌, ◌≤◌, subst, arith}
use Rattle.common_lemmas.specs.Lists.{times}
use Rattle.key_table.proofs.Both.{all_of, moved_both, put_times, settles, waits}
use Rattle.key_table.proofs.settling.settle_one.Goals as goal

pub insert-requires-clause-readable : goal.insert-requires-clause-readable
insert-requires-clause-readable g c =
    let w = waits c.in-Some.row c.args.late.now c.pop.new.self c.in-Some.ensures.numbers in
    c.requires.readable c.in-Some.row (omega (arith, w))

pub insert-requires-clause-absent : goal.insert-requires-clause-absent
insert-requires-clause-absent g c =
    let key_of = g.K.Keys.key_of c.args.keys.now in
    let row = c.in-Some.row in
    let w = waits row c.args.late.now c.pop.new.self c.in-Some.ensures.numbers in
    all_of (λ n. key_of n ≢ key_of row) c.args.order.now.rows (λ n h e.
    (let same = c.requires.apart n row (omega (arith, h)) (omega (arith, w)) e in
    let once = c.requires.once row in
    let here = subst (λ m. 1 ≤ times m c.args.order.now.rows) same h in
    omega (arith, once, here, w)))

pub returns-clause-settled : goal.returns-clause-settled
returns-clause-settled g c = settles (g.K.Keys.has_row c.args.keys.now) (g.K.Keys.key_of c.args.keys.now) c.in-Some.row c.args.order.now c.insert.new.self c.args.late.now c.pop.new.self c.requires c.insert.ensures.rows c.in-Some.ensures.numbers c.insert.ensures.index c.insert.ensures.room

pub returns-clause-all : goal.returns-clause-all
returns-clause-all g c n = moved_both (g.K.Keys.key_of c.args.keys.now) c.in-Some.row n c.args.order.now c.insert.new.self c.args.late.now c.pop.new.self c.insert.ensures.rows c.in-Some.ensures.numbers

pub returns-clause-more : goal.returns-clause-more
returns-clause-more g c n = let p = put_times (g.K.Keys.key_of c.args.keys.now) c.in-Some.row n c.args.order.now.rows c.insert.new.self.rows c.insert.ensures.rows in omega (arith, p)
