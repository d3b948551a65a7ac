-- How the tickets of the owner's seat and the blocks that are out go together.
use Rattle.std.specs.Prelude.{◌≡◌, ℕ, ◌+◌, ◌^◌, ◌<◌, ◌≤◌, Bool, false, not, ◌==◌, List, [], length, Contains, Option, Some, None}
use Rattle.std.specs.List.{filter, list_any}
use denote.RawPtr.{Ptr}
use Rattle.layout.specs.Sizes.{tickets}
use Rattle.layout.specs.Extents.{Extent}
use Rattle.foreign_list.specs.declared.piece_id.PieceId.{PieceId}
use Rattle.foreign_list.specs.Lists.{OwnedList}
use Rattle.foreign_list.specs.OwnerSeats.{OwnerState, IsSeatOf}
use Rattle.shard_memory.specs.Room.{KeepsRoom}
use Rattle.shard_memory.specs.Tickets.{Tickets, IsLentWith, tickets_out, BecomeIdle}
use Rattle.shard_memory.specs.Shards.{most_blocks, lent_extent}
use Rattle.shard_memory.specs.inside.Pieces.{Pieces}

-- a piece is lent that begins there
abbrev pub begins_at : ℕ → Option PieceId → Bool
begins_at at None = false
begins_at at (Some piece_id) = piece_id.at == at

abbrev pub is_lent_at : Tickets → ℕ → Bool
is_lent_at lent at = list_any (begins_at at) lent

-- of the blocks that are out those that are not lent
abbrev pub staying : Tickets → List Extent → List Extent
staying lent blocks = filter (λ b. not (is_lent_at lent b.start)) blocks

-- Each ticket that is not idle has a block of its own among those that are out.
pub record AreLent (lent : Tickets) (home : Ptr) (owner : ℕ) (blocks : List Extent) : Type 0 where
  pub count : length lent ≡ tickets
  pub pieces : (t : ℕ) (a : PieceId) → IsLentWith lent t a → (a.range ≡ home) × (a.owner ≡ owner) × Contains blocks (lent_extent a)
  pub each : (t u : ℕ) (a b : PieceId) → IsLentWith lent t a → IsLentWith lent u b → a.at ≡ b.at → t ≡ u
  pub out : length blocks ≡ length (staying lent blocks) + tickets_out lent
  pub few : length (staying lent blocks) ≤ most_blocks

-- what holds between two calls
pub record IsLending (list : OwnedList) (seat : OwnerState) (own : Pieces) (out here back : ℕ) : Type 0 where
  pub seat_of : IsSeatOf list seat
  pub walk : seat.walk ≡ []
  pub owner : own.owner ≡ list.owner
  pub lent : AreLent seat.lent own.home own.owner own.blocks
  pub out_is : out ≡ tickets_out seat.lent
  pub here_is : here ≡ length (staying seat.lent own.blocks)
  pub back_fits : back < 2 ^ 64

-- so many lent blocks are among the free ones again
pub record ArePutBack (old new : Tickets) (own_old own_new : Pieces) (count : ℕ) : Type 0 where
  pub idle : BecomeIdle old new
  pub out : tickets_out new + count ≡ tickets_out old
  pub blocks : staying new own_new.blocks ≡ staying old own_old.blocks
  pub room : KeepsRoom own_old.room own_new.room
  pub spans : own_new.room.spans ≡ own_old.room.spans
  pub held : own_new.room.pools.held ≡ own_old.room.pools.held
  pub segments : own_new.segments ≡ own_old.segments
  pub pages_out : own_new.pages_out ≡ own_old.pages_out
  pub same : (own_new.home ≡ own_old.home) × (own_new.owner ≡ own_old.owner) × (own_new.pages ≡ own_old.pages)
