use Rattle.std.proofs.Common.{◌≤◌, sym, ap₂, subst, ◌∙◌}
use Rattle.span_lists.specs.Layout.{Layout, allocated_pages}
use Rattle.small_pools.specs.Objects.{Objects, Trims}
use Rattle.shard_memory.specs.Room.{Room, IsTrimmed, KeepsRoom}
use Rattle.shard_memory.specs.inside.Pieces.{Pieces}
use Rattle.shard_memory.proofs.Changes.{pieces_of, room_kept}
use Rattle.shard_memory.proofs.PagesOut.{pages_trimmed}
use Rattle.shard_memory.proofs.Steps.{trimmed}
use Rattle.shard_memory.proofs.piece_allocator.PieceAllocator.trim.Goals as goal

pub invariant_of-self : goal.invariant_of-self
invariant_of-self c = (
  c.self.invariant.0,
  trimmed c.self.inside.range.pages c.self.inside.range.allocated c.self.inside.spans c.trim.new.spans c.self.inside.pools c.trim.new.self c.self.invariant.1 c.trim.ensures.trims c.trim.ensures.held c.trim.ensures.objects c.trim.ensures.divided c.trim.ensures.coalesced,
)

pub returns-clause-trimmed : goal.returns-clause-trimmed
unfolding IsTrimmed
returns-clause-trimmed c = c.trim.ensures.used

pub returns-clause-unchanged : goal.returns-clause-unchanged
unfolding IsTrimmed
returns-clause-unchanged c = λ trimmed.
    (let used = subst (λ (s : Pieces). IsTrimmed s.room) (sym c.self.view_is) trimmed in
    let same = c.trim.ensures.unchanged used in
    ap₂ (λ (spans : Layout) (pools : Objects). pieces_of c.self.inside.range spans pools) same.1 same.0 ∙ c.self.view_is)

pub returns-clause-pages_out : goal.returns-clause-pages_out
returns-clause-pages_out c =
    subst (λ (s : Pieces). allocated_pages c.trim.new.spans ≤ s.pages_out) c.self.view_is
    (pages_trimmed c.self.inside.pools c.trim.new.self c.self.inside.spans c.trim.new.spans c.trim.ensures.trims c.self.invariant.1.held c.trim.ensures.held c.trim.ensures.divided)

pub returns-clause-trims : goal.returns-clause-trims
returns-clause-trims c = subst (λ (s : Pieces). Trims s.room.pools c.trim.new.self s.room.spans c.trim.new.spans) c.self.view_is c.trim.ensures.trims

pub returns-clause-kept : goal.returns-clause-kept
returns-clause-kept c =
    let after : Room = record { spans = c.trim.new.spans; pools = c.trim.new.self } in
    subst (λ (s : Pieces). KeepsRoom s.room after) c.self.view_is
    (room_kept (record { spans = c.self.inside.spans; pools = c.self.inside.pools }) after c.trim.ensures.room)
