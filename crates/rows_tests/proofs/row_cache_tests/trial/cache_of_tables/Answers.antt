use Rattle.std.proofs.Common.{ℕ, ◌+◌, ap, ◌∙◌}
use Rattle.regions.specs.Segments.{RegionState}
use Rattle.regions.specs.Shapes.{shape}
use Rattle.rows_tests.proofs.row_cache_tests.trial.cache_of_tables.Goals as goal

pub loop-owner-preserved : goal.loop-owner-preserved
loop-owner-preserved c = record {
  held = c.add_segment.ensures.held ∙ ap (λ (n : ℕ). n + 1) c.loop-owner.invariant.held;
  most = ap (λ (r : RegionState). (shape r).most) c.add_segment.ensures.added.2 ∙ c.loop-owner.invariant.most;
  room = c.add_segment.ensures.keeps.room ∙ c.loop-owner.invariant.room;
}
