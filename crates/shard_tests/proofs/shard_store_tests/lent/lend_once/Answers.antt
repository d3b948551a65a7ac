use Rattle.std.proofs.Common.{sym, subst}
use Rattle.shard_store.specs.Stores.{IsSameStore, RowsStay}
use Rattle.shard_tests.proofs.shard_store_tests.lent.lend_once.Goals as goal

pub returns-then-is_ok-clause-stay : goal.returns-then-is_ok-clause-stay
returns-then-is_ok-clause-stay c =
    let stay = c.give_now.ensures.stay in subst (RowsStay c.args.store.now) (sym c.take_back.ensures.same) (record { each = stay.each; guarded = stay.guarded })

pub returns-then-is_ok-clause-same : goal.returns-then-is_ok-clause-same
returns-then-is_ok-clause-same c =
    let same = c.give_now.ensures.same in
    subst (IsSameStore c.args.store.now) (sym c.take_back.ensures.same)
    (record { shard = same.shard; pages = same.pages; regions = same.regions; room = same.room; list = same.list; guards = same.guards })
