use Rattle.shard_store.specs.Stores.{IsSameStore, RowsStay}
use Rattle.shard_tests.proofs.shard_store_tests.lent.lend_often.Given as goal

abbrev pub invariant-loop : goal.invariant-loop
invariant-loop l = RowsStay l.initial.store l.store × IsSameStore l.initial.store l.store
