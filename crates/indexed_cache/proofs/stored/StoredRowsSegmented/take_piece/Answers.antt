-- A segment more, with the rows as they were.
use Rattle.std.proofs.Common.{◌<◌, sym, ap, subst, ◌∙◌}
use Rattle.regions.specs.Segments.{RegionState}
use Rattle.regions.specs.Shapes.{group_count, guards_of, held_count, pieces, shape}
use Rattle.place_lemmas.proofs.Pieces.{added_piece}
use Rattle.row_cache.specs.Rows.{CacheState, rows_of}
use Rattle.segmented_store.specs.Segments.{AddsSegment}
use Rattle.indexed_cache.proofs.stored.StoredRowsSegmented.take_piece.Goals as goal

pub add_segment-requires-clause-room : goal.add_segment-requires-clause-room
add_segment-requires-clause-room c = subst (λ (s : CacheState). held_count s.region < (shape s.region).most) (sym c.self.view_is) c.requires.room

pub invariant_of-self : goal.invariant_of-self
invariant_of-self c =
    let e = c.add_segment.ensures in
    (ap group_count e.added.2 ∙ c.self.invariant.0, e.keeps.room ∙ c.self.invariant.1)

pub returns-clause-content : goal.returns-clause-content
returns-clause-content c = c.add_segment.ensures.rows ∙ ap rows_of c.self.view_is

pub returns-clause-adds : goal.returns-clause-adds
returns-clause-adds c =
    let e = c.add_segment.ensures in
    let r = c.self.inside.cache.region in
    let s = c.add_segment.new.self.region in
    let n = e.added.0 in
    subst (λ (k : CacheState). AddsSegment k.region s c.args.piece) c.self.view_is (record {
      added = (n, e.added.1, added_piece r s n c.args.piece (ap pieces e.added.2));
      held = e.held;
      most = ap (λ (x : RegionState). (shape x).most) e.added.2;
      guards = ap (λ (x : RegionState). guards_of x 0) e.added.2;
    })
