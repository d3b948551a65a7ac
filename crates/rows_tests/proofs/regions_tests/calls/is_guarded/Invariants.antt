use Rattle.std.proofs.Common.{◌≡◌, ℕ, ◌<◌}
use Rattle.regions.specs.Shapes.{guards_of}
use Rattle.rows_tests.proofs.regions_tests.calls.is_guarded.Given as goal

abbrev pub invariant-loop-group : goal.invariant-loop-group
invariant-loop-group l = (g : ℕ) → g < l.group → guards_of l.region g ≡ 0
