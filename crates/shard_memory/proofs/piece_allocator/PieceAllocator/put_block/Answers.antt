use Rattle.layout.specs.Sizes.{page}
use Rattle.std.proofs.Common.{◌≡◌, ◌+◌, ◌*◌, length, is_some, refl, sym, ap, subst, ◌∙◌}
use Rattle.layout.specs.Extents.{AreDisjoint}
use Rattle.raw_range.specs.Memory.{Memory, extent_of, remove_extent}
use Rattle.shard_memory.specs.Shards.{IsOneOf}
use Rattle.shard_memory.specs.Room.{Room, KeepsRoom, PutsObject}
use Rattle.shard_memory.specs.inside.Pieces.{Pieces}
use Rattle.shard_memory.specs.inside.Parts.{IsConsistent, is_block, blocks_of, segments_of}
use Rattle.shard_memory.proofs.Lists.{removed_block, same_segments, remove_one, disjoint_still}
use Rattle.shard_memory.proofs.Changes.{room_kept, kept_by_put, room_of_block}
use Rattle.shard_memory.proofs.Steps.{block_facts, block_object, block_returned}
use Rattle.shard_memory.proofs.piece_allocator.PieceAllocator.put_block.Goals as goal

pub put_object-requires : goal.put_object-requires
put_object-requires c =
    (let r = subst (λ (s : Pieces). IsOneOf s.home s.blocks c.args.piece) (sym c.self.view_is) c.requires in
    let f = block_facts c.self.inside.range.pages c.self.inside.range.allocated c.self.inside.spans c.self.inside.pools (extent_of c.args.piece) c.self.invariant.1 r.1 in
    let b = block_object c.self.inside.range.pages c.self.inside.range.allocated c.self.inside.spans c.self.inside.pools (extent_of c.args.piece) c.self.invariant.1 f.0 f.1 in
    ap is_some b.2)

pub put-requires-clause-piece : goal.put-requires-clause-piece
put-requires-clause-piece c =
    (let r = subst (λ (s : Pieces). IsOneOf s.home s.blocks c.args.piece) (sym c.self.view_is) c.requires in
    (block_facts c.self.inside.range.pages c.self.inside.range.allocated c.self.inside.spans c.self.inside.pools (extent_of c.args.piece) c.self.invariant.1 r.1).0)

pub invariant_of-self : goal.invariant_of-self
invariant_of-self c =
    (let r = subst (λ (s : Pieces). IsOneOf s.home s.blocks c.args.piece) (sym c.self.view_is) c.requires in
    let f = block_facts c.self.inside.range.pages c.self.inside.range.allocated c.self.inside.spans c.self.inside.pools (extent_of c.args.piece) c.self.invariant.1 r.1 in (
      c.self.invariant.0 ∙ sym (ap (λ (m : Memory). m.pages) c.put.ensures.back),
      subst (λ (m : Memory). IsConsistent m.pages m.allocated c.self.inside.spans c.put_object.new.pools) (sym c.put.ensures.back)
          (block_returned c.self.inside.range.pages c.self.inside.range.allocated c.self.inside.spans c.self.inside.pools c.put_object.new.pools (extent_of c.args.piece) c.self.invariant.1 f.0 f.1
          c.put_object.ensures.allocated
          c.put_object.ensures.held c.put_object.ensures.pages c.put_object.ensures.objects
          (subst (λ (m : Memory). AreDisjoint (4096 * m.pages) m.allocated) c.put.ensures.back c.put.ensures.blocks)),
    ))

pub returns-clause-blocks : goal.returns-clause-blocks
returns-clause-blocks c =
    ap (λ (m : Memory). blocks_of m.allocated) c.put.ensures.back ∙ removed_block (extent_of c.args.piece) c.self.inside.range.allocated
    ∙ ap (λ (s : Pieces). remove_extent (extent_of c.args.piece) s.blocks) c.self.view_is

pub returns-clause-one_less : goal.returns-clause-one_less
returns-clause-one_less c =
    (let r = subst (λ (s : Pieces). IsOneOf s.home s.blocks c.args.piece) (sym c.self.view_is) c.requires in
    subst (λ (s : Pieces). length (blocks_of c.put.new.self.allocated) + 1 ≡ length s.blocks) c.self.view_is
    (ap (λ (m : Memory). length (blocks_of m.allocated) + 1) c.put.ensures.back ∙ ap (λ xs. length xs + 1) (removed_block (extent_of c.args.piece) c.self.inside.range.allocated)
    ∙ remove_one (page * c.self.inside.range.pages) (extent_of c.args.piece) (blocks_of c.self.inside.range.allocated) (disjoint_still is_block (page * c.self.inside.range.pages) c.self.inside.range.allocated c.self.invariant.1.blocks) r.1))

pub returns-clause-disjoint : goal.returns-clause-disjoint
returns-clause-disjoint c =
    subst (λ (s : Pieces). AreDisjoint (page * s.pages) s.blocks) c.self.view_is (disjoint_still is_block (page * c.self.inside.range.pages) c.self.inside.range.allocated c.self.invariant.1.blocks)

pub returns-clause-segments : goal.returns-clause-segments
returns-clause-segments c =
    (let r = subst (λ (s : Pieces). IsOneOf s.home s.blocks c.args.piece) (sym c.self.view_is) c.requires in
    let f = block_facts c.self.inside.range.pages c.self.inside.range.allocated c.self.inside.spans c.self.inside.pools (extent_of c.args.piece) c.self.invariant.1 r.1 in
    ap (λ (m : Memory). segments_of m.allocated) c.put.ensures.back ∙ same_segments (page * c.self.inside.range.pages) c.self.inside.range.allocated (extent_of c.args.piece) c.self.invariant.1.blocks f.0 f.1
    ∙ ap (λ (s : Pieces). s.segments) c.self.view_is)

pub returns-clause-pages_out : goal.returns-clause-pages_out
returns-clause-pages_out c = ap (λ (s : Pieces). s.pages_out) c.self.view_is

pub returns-clause-freed : goal.returns-clause-freed
returns-clause-freed c =
    let old : Room = record { spans = c.self.inside.spans; pools = c.self.inside.pools } in
    let new : Room = record { spans = c.self.inside.spans; pools = c.put_object.new.pools } in
    let freed : PutsObject old new c.args.piece.at = record { allocated = c.put_object.ensures.allocated; held = c.put_object.ensures.held; spans = refl } in
    subst (λ (s : Pieces). PutsObject s.room new c.args.piece.at) c.self.view_is freed

pub returns-clause-kept : goal.returns-clause-kept
returns-clause-kept c =
    let after : Room = record { spans = c.self.inside.spans; pools = c.put_object.new.pools } in
    subst (λ (s : Pieces). KeepsRoom s.room after) c.self.view_is
    (room_kept (record { spans = c.self.inside.spans; pools = c.self.inside.pools }) after
    (kept_by_put c.self.inside.spans c.self.inside.pools c.put_object.new.pools c.args.piece.at c.put_object.ensures.allocated c.put_object.ensures.held))

pub returns-clause-room : goal.returns-clause-room
returns-clause-room c =
    (let r = subst (λ (s : Pieces). IsOneOf s.home s.blocks c.args.piece) (sym c.self.view_is) c.requires in
    let f = block_facts c.self.inside.range.pages c.self.inside.range.allocated c.self.inside.spans c.self.inside.pools (extent_of c.args.piece) c.self.invariant.1 r.1 in
    room_of_block c.self.inside.spans c.self.inside.pools c.put_object.new.pools (extent_of c.args.piece) c.self.invariant.1.objects
    (block_object c.self.inside.range.pages c.self.inside.range.allocated c.self.inside.spans c.self.inside.pools (extent_of c.args.piece) c.self.invariant.1 f.0 f.1)
    c.put_object.ensures.allocated c.put_object.ensures.held)
