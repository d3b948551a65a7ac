use Rattle.row_cache.specs.Shapes.{held_count, IsUnguarded}
use Rattle.part_examples.proofs.kept_rows.give_all.Given as goal

abbrev pub invariant-loop-piece : goal.invariant-loop-piece
invariant-loop-piece l = IsUnguarded l.cache.region

abbrev pub decreases-loop-piece : goal.decreases-loop-piece
decreases-loop-piece l = held_count l.cache.region
