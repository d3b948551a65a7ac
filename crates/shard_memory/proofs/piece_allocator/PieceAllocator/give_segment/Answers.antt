use Rattle.std.proofs.Common.{◌≡◌, ◌+◌, ◌*◌, ◌/◌, ◌%◌, ◌∷◌, inr, length, true, false, refl, sym, ap, subst, ◌∙◌, arith}
use Rattle.std.specs.Prelude.{Contains}
use Rattle.std.specs.FinMap as map
use Rattle.common_lemmas.proofs.Maps.{get_inserted}
use Rattle.layout.specs.Sizes.{page}
use Rattle.layout.specs.Extents.{Extent, extent, Disjoint, AreDisjoint}
use Rattle.raw_range.specs.Memory.{Memory, extent_of}
use Rattle.shard_memory.specs.Shards.{FillPages}
use Rattle.shard_memory.specs.Room.{Room, LacksSegment, IsTrimmed, TakesSegment}
use Rattle.shard_memory.specs.inside.Pieces.{Pieces}
use Rattle.shard_memory.specs.inside.Parts.{IsConsistent, is_segment, blocks_of, segments_of}
use Rattle.shard_memory.proofs.Counts.{pieces_enough}
use Rattle.shard_memory.proofs.Lists.{all_of, few_pieces, has_first, kept_by, segment_is, segment_added, segment_leaves_blocks, disjoint_still, few_segments, whole_start, page_of_start}
use Rattle.shard_memory.proofs.PagesOut.{pages_more}
use Rattle.shard_memory.proofs.Steps.{inside_pages, apart_from_span, gave_segment}
use Rattle.shard_memory.proofs.piece_allocator.PieceAllocator.give_segment.Goals as goal

pub segment_at-requires-clause-inside : goal.segment_at-requires-clause-inside
segment_at-requires-clause-inside c =
    (let i = inside_pages c.self.inside.range.pages c.self.inside.range.allocated c.self.inside.spans c.take.new.self c.self.inside.pools c.in-Some.first 5 c.self.invariant.1 c.in-Some.ensures.allocated c.in-Some.ensures.pages c.in-Some.ensures.divided in
    omega (arith, i))

pub segment_at-requires-clause-disjoint : goal.segment_at-requires-clause-disjoint
segment_at-requires-clause-disjoint c =
    all_of (Disjoint (extent (4096 * c.in-Some.first) 131072)) c.self.inside.range.allocated
    (apart_from_span c.self.inside.range.pages c.self.inside.range.allocated c.self.inside.spans c.take.new.self c.self.inside.pools c.in-Some.first 5 c.self.invariant.1 c.in-Some.ensures.was_free c.in-Some.ensures.allocated c.in-Some.ensures.divided)

pub segment_at-requires-clause-few : goal.segment_at-requires-clause-few
segment_at-requires-clause-few c = few_pieces c.self.inside.range.pages c.self.inside.range.allocated c.self.invariant.1.most c.self.invariant.1.blocks c.self.invariant.1.few

pub invariant_of-self-2 : goal.invariant_of-self-2
invariant_of-self-2 c = (
  c.self.invariant.0 ∙ sym (ap (λ (m : Memory). m.pages) c.segment_at.ensures.allocated),
  subst (λ (m : Memory). IsConsistent m.pages m.allocated c.take.new.self c.self.inside.pools) (sym c.segment_at.ensures.allocated)
      (gave_segment c.self.inside.range.pages c.self.inside.range.allocated c.self.inside.spans c.take.new.self c.self.inside.pools c.in-Some.first
      c.self.invariant.1 c.in-Some.ensures.was_free c.in-Some.ensures.allocated c.in-Some.ensures.pages c.in-Some.ensures.divided c.in-Some.ensures.coalesced
      (subst (λ (m : Memory). AreDisjoint (4096 * m.pages) m.allocated) c.segment_at.ensures.allocated c.segment_at.ensures.blocks)),
)

pub returns-in_default-clause-none : goal.returns-in_default-clause-none
unfolding LacksSegment
returns-in_default-clause-none c = (λ _. subst (λ (s : Pieces). LacksSegment s.room) c.self.view_is (c.in_default.ensures.none.0 refl), λ _. refl)

pub returns-in_default-clause-crowded : goal.returns-in_default-clause-crowded
unfolding IsTrimmed
returns-in_default-clause-crowded c =
    subst (λ (s : Pieces). IsTrimmed s.room → FillPages s.pages (length s.segments) (length s.blocks)) c.self.view_is
    (λ trimmed. pieces_enough c.self.inside.range.pages c.self.inside.range.allocated c.self.inside.spans c.self.inside.pools c.self.invariant.1 c.in_default.ensures.blocked trimmed)

pub returns-clause-none : goal.returns-clause-none
unfolding LacksSegment
returns-clause-none c = (
  λ e. absurd (let clash : true ≡ false = e in cc),
  λ h. (let clash = c.in-Some.ensures.none.1 (subst (λ (s : Pieces). LacksSegment s.room) (sym c.self.view_is) h) in cc),
)

pub returns-clause-whole : goal.returns-clause-whole
returns-clause-whole c =
    (let at = ap (λ (p : Extent). p.start) c.segment_at.ensures.extent in
    let s = (c.in-Some.ensures.divided.spans c.in-Some.first 5 (inr (ap (λ m. map.get m c.in-Some.first) c.in-Some.ensures.allocated ∙ get_inserted c.self.inside.spans.allocated c.in-Some.first 5 c.in-Some.first refl))).1 in
    (ap (λ (p : Extent). p.len) c.segment_at.ensures.extent, ap (λ z. z % 131072) at ∙ whole_start c.in-Some.first s))

pub returns-clause-given : goal.returns-clause-given
returns-clause-given c =
    (let p = extent (4096 * c.in-Some.first) 131072 in
    let has = kept_by is_segment p (p ∷ c.self.inside.range.allocated) (has_first p c.self.inside.range.allocated) (segment_is p refl) in (
      c.segment_at.ensures.home ∙ sym (ap (λ (m : Memory). m.home) c.segment_at.ensures.allocated),
      subst (λ (m : Memory). Contains (segments_of m.allocated) (extent_of c.segment_at.result)) (sym c.segment_at.ensures.allocated) (subst (λ q. Contains (segments_of (p ∷ c.self.inside.range.allocated)) q) (sym c.segment_at.ensures.extent) has),
    ))

pub returns-clause-segments : goal.returns-clause-segments
returns-clause-segments c =
    ap (λ (m : Memory). segments_of m.allocated) c.segment_at.ensures.allocated ∙ segment_added c.self.inside.range.allocated (extent (4096 * c.in-Some.first) 131072) refl
    ∙ ap (λ q. q ∷ segments_of c.self.inside.range.allocated) (sym c.segment_at.ensures.extent) ∙ ap (λ (s : Pieces). extent_of c.segment_at.result ∷ s.segments) c.self.view_is

pub returns-clause-one_more : goal.returns-clause-one_more
returns-clause-one_more c = ap length (returns-clause-segments c) ∙ omega arith

pub returns-clause-disjoint : goal.returns-clause-disjoint
returns-clause-disjoint c = disjoint_still is_segment (page * c.segment_at.new.range.pages) c.segment_at.new.range.allocated c.segment_at.ensures.blocks

pub returns-clause-few : goal.returns-clause-few
returns-clause-few c =
    let range = c.segment_at.new.range in let whole = c.self.invariant.1.whole in
    let same : range.pages ≡ c.self.inside.range.pages = ap (λ (m : Memory). m.pages) c.segment_at.ensures.allocated in
    let few = few_segments (range.pages / 32) (4096 * range.pages) range.allocated c.segment_at.ensures.blocks (omega (arith, whole, same)) in
    omega (arith, few, whole, same)

pub returns-clause-blocks : goal.returns-clause-blocks
returns-clause-blocks c = (
  ap (λ (m : Memory). blocks_of m.allocated) c.segment_at.ensures.allocated ∙ segment_leaves_blocks c.self.inside.range.allocated (extent (4096 * c.in-Some.first) 131072) refl ∙ ap (λ (s : Pieces). s.blocks) c.self.view_is,
  ap (λ (s : Pieces). s.objects) c.self.view_is,
)

pub returns-clause-pages_out : goal.returns-clause-pages_out
returns-clause-pages_out c =
    pages_more c.self.inside.spans c.take.new.self c.in-Some.first 5 c.in-Some.ensures.was_free c.in-Some.ensures.allocated ∙ ap (λ (s : Pieces). s.pages_out + 32) c.self.view_is

pub returns-clause-taken : goal.returns-clause-taken
returns-clause-taken c =
    let old : Room = record { spans = c.self.inside.spans; pools = c.self.inside.pools } in
    let new : Room = record { spans = c.take.new.self; pools = c.self.inside.pools } in
    let e = c.in-Some.ensures in
    let taken : TakesSegment old new c.in-Some.first = record { was_free = e.was_free; allocated = e.allocated; free = e.free; pools = refl } in
    let at : c.segment_at.result.at / 4096 ≡ c.in-Some.first = ap (λ (p : Extent). p.start / 4096) c.segment_at.ensures.extent ∙ page_of_start c.in-Some.first in
    subst (λ (s : Pieces). TakesSegment s.room new (c.segment_at.result.at / 4096)) c.self.view_is (subst (TakesSegment old new) (sym at) taken)
