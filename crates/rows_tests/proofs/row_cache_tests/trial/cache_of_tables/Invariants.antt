use Rattle.std.proofs.Common.{◌≡◌}
use Rattle.regions.specs.Shapes.{held_count, shape}
use Rattle.rows_tests.proofs.row_cache_tests.trial.cache_of_tables.Given as goal

abbrev pub invariant-loop-owner : goal.invariant-loop-owner
invariant-loop-owner l = record {
  held : held_count l.cache.region ≡ l.owner;
  most : (shape l.cache.region).most ≡ 12;
  room : l.cache.room ≡ l.rows;
}
