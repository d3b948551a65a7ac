use Rattle.std.proofs.Common.{◌≤◌, length}
use Rattle.shard_store.specs.Stores.{IsSameStore, KeepsTickets}
use Rattle.embedded_cache.specs.inside.Told.{HasShed}
use Rattle.embedded_cache.proofs.storing.shed.Given as goal

abbrev pub invariant-shedding : goal.invariant-shedding
invariant-shedding g l = record {
  shed : HasShed g.E.Evictions.tells l.bound l.fn.store.rows l.store.rows l.fn.evictions l.evictions;
  told : length l.store.rows ≤ g.E.Evictions.room l.evictions;
  same : IsSameStore l.fn.store l.store;
  tickets : KeepsTickets l.fn.store l.store;
}

abbrev pub decreases-shedding : goal.decreases-shedding
decreases-shedding g l = length l.store.rows
