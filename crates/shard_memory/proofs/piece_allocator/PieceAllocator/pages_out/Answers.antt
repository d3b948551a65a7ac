use Rattle.std.proofs.Common.{◌≡◌, ℕ, Some, ◌+◌, ◌*◌, ◌/◌, ◌≤◌, length, refl, subst, sym, ap, ◌∙◌, arith}
use Rattle.std.specs.Prelude.{Contains}
use Rattle.std.specs.FinMap as map
use Rattle.layout.specs.Sizes.{page}
use Rattle.layout.specs.Extents.{Extent, extent, Disjoint, AreDisjoint, Blocks}
use Rattle.raw_range.specs.Memory.{Lent, extent_of}
use Rattle.shard_memory.specs.Shards.{IsOneOf, FillPages}
use Rattle.shard_memory.specs.Room.{IsRoomOf, LacksSegment, IsTrimmed}
use Rattle.shard_memory.specs.inside.Pieces.{Pieces}
use Rattle.shard_memory.specs.inside.Parts.{is_block, is_segment}
use Rattle.shard_memory.proofs.Counts.{pieces_enough}
use Rattle.span_lists.specs.Layout.{allocated_pages}
use Rattle.small_pools.specs.Classes.{size_of, IsLeastClass}
use Rattle.shard_memory.proofs.Steps.{block_facts, block_object, block_of_object}
use Rattle.shard_memory.proofs.Lists.{few_segments, disjoint_still, block_segment_apart, not_both}
use Rattle.shard_memory.proofs.PagesOut.{segments_pages, pages_at_most}
use Rattle.shard_memory.proofs.piece_allocator.PieceAllocator.pages_out.Goals as goal

pub returns-clause-blocks : goal.returns-clause-blocks
returns-clause-blocks c =
    subst (λ (s : Pieces). AreDisjoint (page * s.pages) s.blocks) c.self.view_is
    (disjoint_still is_block (page * c.self.inside.range.pages) c.self.inside.range.allocated c.self.invariant.1.blocks)

pub returns-clause-segments : goal.returns-clause-segments
returns-clause-segments c =
    subst (λ (s : Pieces). AreDisjoint (page * s.pages) s.segments) c.self.view_is
    (disjoint_still is_segment (page * c.self.inside.range.pages) c.self.inside.range.allocated c.self.invariant.1.blocks)

pub returns-clause-apart : goal.returns-clause-apart
returns-clause-apart c =
    subst (λ (s : Pieces). (p q : Extent) → Contains s.blocks p → Contains s.segments q → Disjoint p q) c.self.view_is
    (λ p q hp hq. block_segment_apart (page * c.self.inside.range.pages) c.self.inside.range.allocated p q c.self.invariant.1.blocks hp hq)

pub returns-clause-kinds : goal.returns-clause-kinds
returns-clause-kinds c =
    subst (λ (s : Pieces). (piece : Lent) → IsOneOf s.home s.segments piece → ¬ IsOneOf s.home s.blocks piece) c.self.view_is
    (λ piece segment block. not_both (page * c.self.inside.range.pages) c.self.inside.range.allocated (extent_of piece) c.self.invariant.1.blocks block.1 segment.1)

pub returns-clause-objects : goal.returns-clause-objects
returns-clause-objects c =
    subst (λ (s : Pieces). Blocks (page * s.pages) (map.get s.objects)) c.self.view_is
    (subst (λ n. Blocks (page * n) (map.get c.self.inside.pools.allocated)) (sym c.self.invariant.1.held.pages ∙ c.self.invariant.1.same) c.self.invariant.1.objects.blocks)

pub returns-clause-least : goal.returns-clause-least
returns-clause-least c =
    subst (λ (s : Pieces). 32 * length s.segments ≤ s.pages) c.self.view_is
    (let whole = c.self.invariant.1.whole in
    let few = few_segments (c.self.inside.range.pages / 32) (4096 * c.self.inside.range.pages) c.self.inside.range.allocated c.self.invariant.1.blocks (omega (arith, whole)) in
    omega (arith, few, whole))

pub returns-clause-crowded : goal.returns-clause-crowded
unfolding LacksSegment IsTrimmed
returns-clause-crowded c =
    subst (λ (s : Pieces). IsTrimmed s.room → LacksSegment s.room → FillPages s.pages (length s.segments) (length s.blocks)) c.self.view_is
    (λ trimmed lacks. pieces_enough c.self.inside.range.pages c.self.inside.range.allocated c.self.inside.spans c.self.inside.pools c.self.invariant.1
    (c.free_pages.ensures.blocked 5 (omega arith) lacks) trimmed)

pub returns-clause-pages_out : goal.returns-clause-pages_out
returns-clause-pages_out c =
    subst (λ (s : Pieces). (32 * length s.segments ≤ s.pages_out) × (s.pages_out ≤ s.pages)) c.self.view_is
    (let all = c.free_pages.ensures.rest in let same = c.self.invariant.1.same in
    (segments_pages c.self.inside.range.pages c.self.inside.range.allocated c.self.inside.spans c.self.inside.pools c.self.invariant.1, omega (arith, all, same)))

pub returns-clause-trimmed : goal.returns-clause-trimmed
unfolding IsTrimmed
returns-clause-trimmed c =
    subst (λ (s : Pieces). IsTrimmed s.room → s.pages_out ≤ 32 * length s.segments + 16 * length s.blocks) c.self.view_is
    (λ trimmed. pages_at_most c.self.inside.range.pages c.self.inside.range.allocated c.self.inside.spans c.self.inside.pools c.self.invariant.1 trimmed)

pub returns-clause-of_blocks : goal.returns-clause-of_blocks
returns-clause-of_blocks c =
    subst (λ (s : Pieces). (p : Extent) → Contains s.blocks p → (class : ℕ) × IsLeastClass p.len class × (map.get s.objects p.start ≡ Some (size_of class))) c.self.view_is
    (λ p has.
    (let f = block_facts c.self.inside.range.pages c.self.inside.range.allocated c.self.inside.spans c.self.inside.pools p c.self.invariant.1 has in
    block_object c.self.inside.range.pages c.self.inside.range.allocated c.self.inside.spans c.self.inside.pools p c.self.invariant.1 f.0 f.1))

pub returns-clause-of_objects : goal.returns-clause-of_objects
returns-clause-of_objects c =
    subst (λ (s : Pieces). (at size : ℕ) → map.get s.objects at ≡ Some size → (len : ℕ) × Contains s.blocks (extent at len)) c.self.view_is
    (λ at size is. block_of_object c.self.inside.range.pages c.self.inside.range.allocated c.self.inside.spans c.self.inside.pools at size c.self.invariant.1 is)

pub returns-clause-room : goal.returns-clause-room
returns-clause-room c =
    let was = c.self.invariant.1 in
    subst (λ (s : Pieces). IsRoomOf s.pages s.room) c.self.view_is
    record { size = was.same; divided = was.divided; coalesced = was.coalesced; counted = ap (λ n. n + allocated_pages c.self.inside.spans) (sym c.free_pages.ensures.value) ∙ c.free_pages.ensures.rest ∙ was.same; objects = was.objects; held = was.held }

pub returns-clause-shown : goal.returns-clause-shown
returns-clause-shown c = subst (λ (s : Pieces). (s.objects ≡ s.room.pools.allocated) × (s.pages_out ≡ allocated_pages s.room.spans)) c.self.view_is (refl, refl)
