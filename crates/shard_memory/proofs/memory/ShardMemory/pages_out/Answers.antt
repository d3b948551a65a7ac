use Rattle.std.proofs.Common.{◌≡◌, ◌+◌, ◌*◌, ◌≤◌, length, inl, inr, subst}
use Rattle.std.specs.Prelude.{Contains}
use Rattle.std.proofs.lemmas.List.Elements.{All-contains}
use Rattle.layout.specs.Sizes.{page, segment_pages}
use Rattle.layout.specs.Extents.{extent, IsWithin}
use Rattle.raw_range.specs.Memory.{Lent, extent_of}
use Rattle.span_lists.specs.Layout.{allocated_pages}
use Rattle.shard_memory.specs.Room.{IsRoomOf, IsTrimmed, LacksSegment}
use Rattle.shard_memory.specs.Shards.{MemoryState, AreApart, FillPages, HaveObjects, IsBlockOf, IsCrowded, IsSegmentOf, lent_extent, longest_span}
use Rattle.shard_memory.specs.Tickets.{tickets_out}
use Rattle.shard_memory.proofs.Lists.{disjoint_still}
use Rattle.shard_memory.proofs.Lending.{stays, staying_block, apart_from_lent, lent_apart, block_of_either}
use Rattle.shard_memory.proofs.memory.ShardMemory.pages_out.Goals as goal

pub returns-clause-apart : goal.returns-clause-apart
returns-clause-apart c =
    let lent = c.self.inside.seat.lent in
    let own = c.self.inside.own in
    let was = c.self.invariant.lent in
    let all = c.pages_out.ensures in
    subst AreApart c.self.view_is
    record {
      blocks = disjoint_still (stays lent) (page * own.pages) own.blocks all.blocks;
      segments = all.segments;
      each = λ p q hp hq. all.apart p q (staying_block lent p own.blocks hp) hq;
      lent = λ t a is. All-contains (IsWithin (page * own.pages)) own.blocks (lent_extent a) all.blocks.0 (was.pieces t a is).2;
      lent_blocks = λ t a b is has. apart_from_lent lent own.home own.owner (page * own.pages) own.blocks t a b was all.blocks is has;
      lent_segments = λ t a q is has. all.apart (lent_extent a) q (was.pieces t a is).2 has;
      lent_each = λ t u a b is at other. lent_apart lent own.home own.owner (page * own.pages) own.blocks t u a b was all.blocks is at other;
    }

pub returns-clause-kinds : goal.returns-clause-kinds
returns-clause-kinds c =
    subst (λ (s : MemoryState). (piece : Lent) → IsSegmentOf s piece → ¬ IsBlockOf s piece) c.self.view_is
    (λ piece segment block. c.pages_out.ensures.kinds piece segment (block.0, staying_block c.self.inside.seat.lent (extent_of piece) c.self.inside.own.blocks block.1))

pub returns-clause-of_blocks : goal.returns-clause-of_blocks
returns-clause-of_blocks c =
    let lent = c.self.inside.seat.lent in
    let own = c.self.inside.own in
    let was = c.self.invariant.lent in
    subst HaveObjects c.self.view_is
    record {
      blocks = λ b has. c.pages_out.ensures.of_blocks b (elim has [
        | inl stay ↦ staying_block lent b own.blocks stay
        | inr out ↦ subst (Contains own.blocks) out.3 (was.pieces out.0 out.1 out.2).2
      ]);
      objects = λ at size is. (let found = c.pages_out.ensures.of_objects at size is in (found.0, block_of_either lent own.home own.owner (page * own.pages) own.blocks (extent at found.0) was c.pages_out.ensures.blocks found.1));
    }

-- lent blocks and those that stay are all that are out

pub returns-clause-trimmed : goal.returns-clause-trimmed
returns-clause-trimmed c =
    let own = c.self.inside.own in
    subst (λ (s : MemoryState). IsTrimmed s.room → s.pages_out ≤ segment_pages * length s.segments + longest_span * (length s.blocks + tickets_out s.lent)) c.self.view_is
    (λ trimmed. subst (λ n. own.pages_out ≤ segment_pages * length own.segments + longest_span * n) c.self.invariant.lent.out (c.pages_out.ensures.trimmed trimmed))

pub returns-clause-crowded : goal.returns-clause-crowded
returns-clause-crowded c =
    let own = c.self.inside.own in
    subst (λ (s : MemoryState). IsTrimmed s.room → LacksSegment s.room → IsCrowded s) c.self.view_is
    (λ trimmed lacks. subst (λ n. FillPages own.pages (length own.segments) n) c.self.invariant.lent.out (c.pages_out.ensures.crowded trimmed lacks))

pub returns-clause-room : goal.returns-clause-room
returns-clause-room c = subst (λ (s : MemoryState). IsRoomOf s.pages s.room) c.self.view_is c.pages_out.ensures.room

pub returns-clause-shown : goal.returns-clause-shown
returns-clause-shown c = subst (λ (s : MemoryState). (s.objects ≡ s.room.pools.allocated) × (s.pages_out ≡ allocated_pages s.room.spans)) c.self.view_is c.pages_out.ensures.shown
