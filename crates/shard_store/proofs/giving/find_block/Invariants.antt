use Rattle.std.proofs.Common.{◌≡◌, ◌<◌, ◌≤◌, length, IfSome, IfNone}
use Rattle.rows.specs.Row.{live}
use Rattle.regions.specs.Shapes.{group_count, IsUnguarded}
use Rattle.row_cache.specs.Rows.{rows_of}
use Rattle.shard_store.specs.Works.{floor_of}
use Rattle.shard_store.specs.inside.Consistent.{IsConsistent}
use Rattle.shard_store.specs.inside.Evicted.{HasEvicted}
use Rattle.shard_store.specs.inside.Homecoming.{TakesHome, GivesAfter}
use Rattle.shard_store.proofs.giving.find_block.Given as goal

abbrev pub invariant-loop-share : goal.invariant-loop-share
invariant-loop-share g l = record {
  consistent : IsConsistent l.fn.memory.owner l.fn.memory.pages (group_count l.fn.cache.region) l.memory l.cache.region;
  unguarded : IsUnguarded l.cache.region;
  given : IfSome l.found (GivesAfter l.share l.size l.fn.memory l.memory);
  taken : IfNone l.found (TakesHome l.fn.memory l.memory);
  pressed : IfNone l.found (floor_of l.fn.memory.pages l.fn.memory.lent (group_count l.fn.cache.region) < live (rows_of l.cache));
  evicted : HasEvicted g.E.Evictions.tells (floor_of l.fn.memory.pages l.fn.memory.lent (group_count l.fn.cache.region)) (rows_of l.fn.cache) (rows_of l.cache) l.fn.evictions l.evictions;
  tables : l.cache.room ≡ l.fn.cache.room;
  told : length (rows_of l.cache) ≤ g.E.Evictions.room l.evictions;
}

abbrev pub decreases-loop-share : goal.decreases-loop-share
decreases-loop-share g l = length (rows_of l.cache)
