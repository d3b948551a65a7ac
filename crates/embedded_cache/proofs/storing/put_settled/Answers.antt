use Rattle.std.proofs.Common.{◌≡◌, ◌<◌, ◌≤◌, ◌^◌, min, sym, subst}
use Rattle.rows.specs.Apply as apply
use Rattle.rows.specs.Key.{in_table}
use Rattle.row_cache.specs.Rows.{reply_of}
use Rattle.shard_store.specs.Lending.{TakesBack}
use Rattle.shard_store.specs.Stores.{IsSameStore, IsUnguarded, StoreState}
use Rattle.shard_store.specs.Works.{pressure}
use Rattle.embedded_cache.specs.inside.Told.{WritesPut}
use Rattle.embedded_cache.proofs.storing.put_settled.Goals as goal

pub put_written-requires-clause-unguarded : goal.put_written-requires-clause-unguarded
put_written-requires-clause-unguarded c = subst (λ (s : StoreState). IsUnguarded s) (sym c.settle_above.ensures.unchanged) c.requires.unguarded

pub put_written-requires-clause-limits : goal.put_written-requires-clause-limits
put_written-requires-clause-limits c =
    subst (λ (s : StoreState). (c.args.limits.room ≡ s.room) × (1 ≤ c.args.limits.room) × (c.args.limits.room < 2 ^ 32)) (sym c.settle_above.ensures.unchanged) c.requires.limits

pub returns-clause-put : goal.returns-clause-put
returns-clause-put c =
    let key = in_table c.args.table c.args.key.now in let did = c.put_written in
    subst (λ (s : StoreState). WritesPut c.args.limits.room (min c.args.limits.bound (pressure s.pages s.lent s.regions)) key (apply.put key c.args.value.now c.args.tag) (reply_of did.result.put)
    did.result.evicted s.rows did.new.store.rows c.args.evicted.now did.new.evicted) c.settle_above.ensures.unchanged did.ensures.put

pub returns-clause-same : goal.returns-clause-same
returns-clause-same c = subst (λ (s : StoreState). IsSameStore s c.put_written.new.store) c.settle_above.ensures.unchanged c.put_written.ensures.same

pub returns-clause-taken : goal.returns-clause-taken
returns-clause-taken c = subst (λ (s : StoreState). TakesBack s c.put_written.new.store) c.settle_above.ensures.unchanged c.put_written.ensures.taken
