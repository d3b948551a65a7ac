-- As many segments are held as were taken of the range, and all of it that is allocated lies in front of the next one.
use Rattle.std.proofs.Common.{◌≡◌, ◌*◌, ◌+◌, ◌≤◌, length}
use Rattle.std.specs.Prelude.{All}
use Rattle.layout.specs.Sizes as sizes
use Rattle.regions.specs.Shapes.{shape, guards_of, held_count}
use Rattle.fragments.specs.Store.{values_of}
use Rattle.timed.proofs.values.store.add_segments.Given as goal

abbrev pub invariant-loop-number : goal.invariant-loop-number
invariant-loop-number l = record {
  held : held_count l.fragments.region ≡ l.number;
  most : (shape l.fragments.region).most ≡ l.segments;
  values : values_of l.fragments ≡ values_of l.fn.fragments;
  guards : guards_of l.fragments.region 0 ≡ guards_of l.fn.fragments.region 0;
  pages : l.range.pages ≡ sizes.segment_pages * l.segments;
  allocated : length l.range.allocated ≡ l.number;
  front : All (λ a. a.start + a.len ≤ l.number * sizes.segment) l.range.allocated;
}
