use Rattle.std.proofs.Common.{◌≡◌}
use Rattle.regions.specs.Shapes.{guards_of, held_count, shape}
use Rattle.store_tests.proofs.index_tree_tests.trial.Trial.new.Given as goal

abbrev pub invariant-loop-number : goal.invariant-loop-number
invariant-loop-number l = (held_count l.tree.region ≡ l.number) × ((shape l.tree.region).most ≡ 64) × (guards_of l.tree.region 0 ≡ 0)
