use Rattle.std.proofs.Common.{◌≡◌, ◌/◌}
use Rattle.layout.specs.Sizes.{segment_pages, most_run_pages}
use Rattle.regions.specs.Shapes.{guards_of, held_count, shape}
use Rattle.timed.proofs.index.trees.Tree.open.Given as goal

abbrev pub invariant-loop-number : goal.invariant-loop-number
invariant-loop-number l = (held_count l.tree.region ≡ l.number) × ((shape l.tree.region).most ≡ most_run_pages / segment_pages) × (guards_of l.tree.region 0 ≡ 0)
