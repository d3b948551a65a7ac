use Rattle.std.proofs.Common.{◌≡◌, ◌⊎◌, ◌<◌, ◌≤◌, length}
use Rattle.regions.specs.Shapes.{group_count, IsUnguarded}
use Rattle.row_cache.specs.Rows.{rows_of}
use Rattle.shard_store.specs.Works.{pressure}
use Rattle.shard_store.specs.inside.Consistent.{IsConsistent}
use Rattle.shard_store.specs.inside.Evicted.{HasEvicted}
use Rattle.shard_store.specs.inside.Homecoming.{TakesHome}
use Rattle.shard_store.proofs.evicting.make_room_evicting.Given as goal

abbrev pub invariant-loop-cache : goal.invariant-loop-cache
invariant-loop-cache g l = record {
  consistent : IsConsistent l.fn.memory.owner l.fn.memory.pages (group_count l.fn.cache.region) l.memory l.cache.region;
  unguarded : IsUnguarded l.cache.region;
  taken : TakesHome l.fn.memory l.memory;
  evicted : HasEvicted g.E.Evictions.tells (pressure l.fn.memory.pages l.fn.memory.lent (group_count l.fn.cache.region)) (rows_of l.fn.cache) (rows_of l.cache) l.fn.evictions l.evictions;
  fewer : (rows_of l.cache ≡ rows_of l.fn.cache) ⊎ (length (rows_of l.cache) < l.cache.room);
  tables : l.cache.room ≡ l.fn.cache.room;
  told : length (rows_of l.cache) ≤ g.E.Evictions.room l.evictions;
}

abbrev pub decreases-loop-cache : goal.decreases-loop-cache
decreases-loop-cache g l = length (rows_of l.cache)
