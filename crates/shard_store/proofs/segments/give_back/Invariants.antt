use Rattle.std.proofs.Common.{length}
use Rattle.regions.specs.Shapes.{group_count, IsUnguarded}
use Rattle.shard_store.specs.inside.Consistent.{IsMadeOf}
use Rattle.shard_store.specs.inside.Homecoming.{SameTickets}
use Rattle.shard_store.proofs.segments.give_back.Given as goal

abbrev pub invariant-loop : goal.invariant-loop
invariant-loop l = record {
  made : IsMadeOf l.memory.owner l.memory.pages (group_count l.cache.region) l.memory l.cache.region;
  unguarded : IsUnguarded l.cache.region;
  tickets : SameTickets l.fn.memory l.memory;
}

abbrev pub decreases-loop : goal.decreases-loop
decreases-loop l = length l.memory.segments
