use Rattle.std.proofs.Common.{ap}
use Rattle.regions.specs.Shapes.{group_count}
use Rattle.indexed_cache.proofs.stored.StoredRows.new.Goals as goal

pub invariant_of-result : goal.invariant_of-result
invariant_of-result c = (ap group_count c.in_ok-new.ensures.region, c.in_ok-new.ensures.room)
