use Rattle.std.proofs.Common.{◌≡◌, ℕ, ◌<◌}
use Rattle.regions.specs.Shapes.{guards_of}
use Rattle.row_cache.specs.Rows.{group_for}
use Rattle.rows_tests.proofs.row_cache_tests.trial.is_guarded.Given as goal

abbrev pub invariant-loop-table : goal.invariant-loop-table
invariant-loop-table l = (t : ℕ) → t < l.table → guards_of l.cache.region (group_for l.cache.region t) ≡ 0
