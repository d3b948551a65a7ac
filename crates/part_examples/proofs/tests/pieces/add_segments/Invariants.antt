use Rattle.std.proofs.Common.{◌≡◌, ◌+◌}
use Rattle.regions.specs.Shapes.{shape, held_count}
use Rattle.regions.specs.Contents.{Keeps}
use Rattle.part_examples.proofs.tests.pieces.add_segments.Given as goal

abbrev pub invariant-loop-owner : goal.invariant-loop-owner
invariant-loop-owner l = record {
  keeps : Keeps l.fn.region l.region;
  held : held_count l.region ≡ held_count l.fn.region + l.owner;
  most : (shape l.region).most ≡ (shape l.fn.region).most;
}
