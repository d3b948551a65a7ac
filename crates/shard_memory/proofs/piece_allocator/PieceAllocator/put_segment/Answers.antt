use Rattle.layout.specs.Sizes.{page}
use Rattle.std.proofs.Common.{◌≡◌, ◌+◌, ◌*◌, ◌/◌, length, refl, sym, ap, subst, ◌∙◌}
use Rattle.std.specs.FinMap as map
use Rattle.layout.specs.Extents.{AreDisjoint}
use Rattle.raw_range.specs.Memory.{Memory, extent_of, remove_extent}
use Rattle.shard_memory.specs.Room.{Room, PutsSegment}
use Rattle.shard_memory.specs.Shards.{IsOneOf}
use Rattle.shard_memory.specs.inside.Pieces.{Pieces}
use Rattle.shard_memory.specs.inside.Parts.{IsConsistent, is_segment, blocks_of, segments_of}
use Rattle.shard_memory.proofs.Lists.{page_of_start, same_blocks, removed_segment, remove_one, disjoint_still}
use Rattle.shard_memory.proofs.Changes.{all_room}
use Rattle.shard_memory.proofs.PagesOut.{pages_less}
use Rattle.shard_memory.proofs.Steps.{segment_facts, segment_span, segment_returned}
use Rattle.shard_memory.proofs.piece_allocator.PieceAllocator.put_segment.Goals as goal

pub put_span-requires : goal.put_span-requires
put_span-requires c =
    (let r = subst (λ (s : Pieces). IsOneOf s.home s.segments c.args.piece) (sym c.self.view_is) c.requires in
    let f = segment_facts c.self.inside.range.allocated (extent_of c.args.piece) r.1 in
    let s = segment_span c.self.inside.range.pages c.self.inside.range.allocated c.self.inside.spans c.self.inside.pools (extent_of c.args.piece) c.self.invariant.1 f.0 f.1 in
    ap (map.get c.self.inside.spans.allocated) (ap (λ z. z / 4096) s.1 ∙ page_of_start s.0) ∙ s.2)

pub put-requires-clause-piece : goal.put-requires-clause-piece
put-requires-clause-piece c = (segment_facts c.self.inside.range.allocated (extent_of c.args.piece) (subst (λ (s : Pieces). IsOneOf s.home s.segments c.args.piece) (sym c.self.view_is) c.requires).1).0

pub invariant_of-self : goal.invariant_of-self
invariant_of-self c =
    (let r = subst (λ (s : Pieces). IsOneOf s.home s.segments c.args.piece) (sym c.self.view_is) c.requires in
    let f = segment_facts c.self.inside.range.allocated (extent_of c.args.piece) r.1 in
    let s = segment_span c.self.inside.range.pages c.self.inside.range.allocated c.self.inside.spans c.self.inside.pools (extent_of c.args.piece) c.self.invariant.1 f.0 f.1 in (
      c.self.invariant.0 ∙ sym (ap (λ (m : Memory). m.pages) c.put.ensures.back),
      subst (λ (m : Memory). IsConsistent m.pages m.allocated c.put_span.new.spans c.self.inside.pools) (sym c.put.ensures.back)
          (segment_returned c.self.inside.range.pages c.self.inside.range.allocated c.self.inside.spans c.put_span.new.spans c.self.inside.pools (extent_of c.args.piece) s.0 c.self.invariant.1 f.0 f.1 s.1 s.2
          (c.put_span.ensures.allocated ∙ ap (map.remove c.self.inside.spans.allocated) (ap (λ z. z / 4096) s.1 ∙ page_of_start s.0))
          c.put_span.ensures.pages c.put_span.ensures.divided c.put_span.ensures.coalesced
          (subst (λ (m : Memory). AreDisjoint (4096 * m.pages) m.allocated) c.put.ensures.back c.put.ensures.blocks)),
    ))

pub returns-clause-segments : goal.returns-clause-segments
returns-clause-segments c =
    ap (λ (m : Memory). segments_of m.allocated) c.put.ensures.back ∙ removed_segment (extent_of c.args.piece) c.self.inside.range.allocated
    ∙ ap (λ (s : Pieces). remove_extent (extent_of c.args.piece) s.segments) c.self.view_is

pub returns-clause-one_less : goal.returns-clause-one_less
returns-clause-one_less c =
    (let r = subst (λ (s : Pieces). IsOneOf s.home s.segments c.args.piece) (sym c.self.view_is) c.requires in
    subst (λ (s : Pieces). length (segments_of c.put.new.self.allocated) + 1 ≡ length s.segments) c.self.view_is
    (ap (λ (m : Memory). length (segments_of m.allocated) + 1) c.put.ensures.back ∙ ap (λ xs. length xs + 1) (removed_segment (extent_of c.args.piece) c.self.inside.range.allocated)
    ∙ remove_one (page * c.self.inside.range.pages) (extent_of c.args.piece) (segments_of c.self.inside.range.allocated) (disjoint_still is_segment (page * c.self.inside.range.pages) c.self.inside.range.allocated c.self.invariant.1.blocks) r.1))

pub returns-clause-blocks : goal.returns-clause-blocks
returns-clause-blocks c =
    (let f = segment_facts c.self.inside.range.allocated (extent_of c.args.piece) (subst (λ (s : Pieces). IsOneOf s.home s.segments c.args.piece) (sym c.self.view_is) c.requires).1 in (
      ap (λ (m : Memory). blocks_of m.allocated) c.put.ensures.back ∙ same_blocks (page * c.self.inside.range.pages) c.self.inside.range.allocated (extent_of c.args.piece) c.self.invariant.1.blocks f.0 f.1
          ∙ ap (λ (s : Pieces). s.blocks) c.self.view_is,
      ap (λ (s : Pieces). s.objects) c.self.view_is,
    ))

pub returns-clause-pages_out : goal.returns-clause-pages_out
returns-clause-pages_out c =
    (let r = subst (λ (s : Pieces). IsOneOf s.home s.segments c.args.piece) (sym c.self.view_is) c.requires in
    let f = segment_facts c.self.inside.range.allocated (extent_of c.args.piece) r.1 in
    let s = segment_span c.self.inside.range.pages c.self.inside.range.allocated c.self.inside.spans c.self.inside.pools (extent_of c.args.piece) c.self.invariant.1 f.0 f.1 in
    pages_less c.self.inside.spans c.put_span.new.spans s.0 5 s.2 (c.put_span.ensures.allocated ∙ ap (map.remove c.self.inside.spans.allocated) (ap (λ z. z / 4096) s.1 ∙ page_of_start s.0))
    ∙ ap (λ (t : Pieces). t.pages_out) c.self.view_is)

pub returns-clause-room : goal.returns-clause-room
returns-clause-room c = all_room (record { spans = c.put_span.new.spans; pools = c.self.inside.pools }) c.put_span.ensures.orders

pub returns-clause-freed : goal.returns-clause-freed
returns-clause-freed c =
    let old : Room = record { spans = c.self.inside.spans; pools = c.self.inside.pools } in
    let new : Room = record { spans = c.put_span.new.spans; pools = c.self.inside.pools } in
    let freed : PutsSegment old new (c.args.piece.at / page) = record { allocated = c.put_span.ensures.allocated; free = c.put_span.ensures.free; pools = refl } in
    subst (λ (s : Pieces). PutsSegment s.room new (c.args.piece.at / page)) c.self.view_is freed
