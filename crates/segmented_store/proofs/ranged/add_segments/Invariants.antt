-- The first segments are held.
use Rattle.std.proofs.Common.{◌≡◌}
use Rattle.regions.specs.Shapes.{shape, guards_of}
use Rattle.place_lemmas.specs.Ranges.{HoldsFirst}
use Rattle.segmented_store.proofs.ranged.add_segments.Given as goal

abbrev pub invariant-loop-segment : goal.invariant-loop-segment
invariant-loop-segment g l = record {
  first : HoldsFirst l.range (g.S.Segmented.region l.store) l.segment;
  most : (shape (g.S.Segmented.region l.store)).most ≡ (shape (g.S.Segmented.region l.fn.store)).most;
  bytes : l.range.bytes ≡ l.fn.range.bytes;
  pages : l.range.pages ≡ l.fn.range.pages;
  content : g.S.Segmented.content l.store ≡ g.S.Segmented.content l.fn.store;
  guards : guards_of (g.S.Segmented.region l.store) 0 ≡ guards_of (g.S.Segmented.region l.fn.store) 0;
}
