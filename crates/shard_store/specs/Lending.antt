-- The blocks that a store lends and that come home to it.
use Rattle.std.specs.Prelude.{◌≡◌, ◌⊎◌, ℕ, suc, ◌+◌, ◌/◌, ◌≤◌, ◌<◌, List, Option, Some, None, slice_set, length, take}
use Rattle.layout.specs.Sizes.{greatest_block, segment_pages}
use Rattle.rows.specs.Row.{Row}
use Rattle.rows.specs.Apply.{Reply, Value, Missing}
use Rattle.foreign_list.specs.Blocks.{Block, piece_id_of}
use Rattle.regions.specs.Shapes.{free_count, held_count}
use Rattle.shard_memory.specs.Room.{LacksBlock, IsTrimmed}
use Rattle.layout.specs.Counts.{raised}
use Rattle.shard_memory.specs.Tickets.{Tickets, IsOfShare, IsIdle, HasIdle, BecomeIdle, tickets_out}
use Rattle.shard_memory.specs.declared.share.Share.{Share}
use Rattle.shard_memory.specs.declared.give_refusal.GiveRefusal.{GiveRefusal}
use Rattle.shard_memory.specs.declared.give_refusal.GiveRefusal.TheVariants.{TooLarge, NoTicket, NoSpan}
use Rattle.shard_store.specs.Stores.{StoreState}

-- some tickets became idle, and no other one changed; so many more blocks are home
pub record ComeHome (lent now : Tickets) (counted counted_now : ℕ) : Type 0 where
  pub count : ℕ
  pub idle : BecomeIdle lent now
  pub out : tickets_out now + count ≡ tickets_out lent
  pub backs : counted_now ≡ raised counted count

-- blocks may have come home, and none was lent
pub record TakesBack (old new : StoreState) : Type 0 where
  pub home : ComeHome old.lent new.lent old.backs new.backs
  pub lends : new.lends ≡ old.lends
  pub looks : old.looks ≤ new.looks

-- where a block was out, the list was looked at once
abbrev pub LooksOnce : StoreState → StoreState → Type 0
LooksOnce old new = 0 < tickets_out old.lent → new.looks ≡ suc old.looks

-- A block was lent with a ticket of the share, which was idle or had come home in the call. Others may have come home before it
-- was lent, and behind it.
pub record LendsBlock (share : Share) (old new : StoreState) (block : Block) : Type 0 where
  pub before : Tickets
  pub backs : ℕ
  pub came : ComeHome old.lent before old.backs backs
  pub of_share : IsOfShare share block.ticket
  pub idle : IsIdle before block.ticket
  pub behind : ComeHome (slice_set before block.ticket (Some (piece_id_of block.piece))) new.lent backs new.backs
  pub lends : new.lends ≡ raised old.lends 1
  pub looks : old.looks ≤ new.looks
  pub list : block.list ≡ old.list.id
  pub owner : block.piece.owner ≡ old.shard
  pub fresh : block.seen ≡ 0

-- There is no room for a block of so many bytes, though the list was looked at, the pools are trimmed, and at most one segment is
-- free. Nothing changed but what came home and what the pages can still give.
pub record HasNoSpan (size : ℕ) (old new : StoreState) : Type 0 where
  pub none : LacksBlock new.free size
  pub trimmed : IsTrimmed new.free
  pub last : free_count new.region ≤ 1
  pub looked : LooksOnce old new
  pub home : ComeHome old.lent new.lent old.backs new.backs
  pub same : new ≡ record old { lent = new.lent; backs = new.backs; looks = new.looks; free = new.free }

-- why no block is given: it is larger than the greatest class; no ticket of the share is idle; or there is no room for it
abbrev pub RefusesNow : StoreState → StoreState → ℕ → Share → GiveRefusal → Type 0
RefusesNow old new size share TooLarge = greatest_block < size
RefusesNow old new size share NoTicket = (size ≤ greatest_block) × ¬ HasIdle old.lent share
RefusesNow old new size share NoSpan = (size ≤ greatest_block) × HasIdle old.lent share × HasNoSpan size old new

-- A segment went, which was not the last free one. The segments that were held and the blocks that stayed out had been as many as
-- the pages make segments: with the block that is lent they are more.
pub record HandsOneBack (old new : StoreState) : Type 0 where
  pub some : 1 ≤ free_count new.region
  pub one : free_count new.region + 1 ≡ free_count old.region
  pub crowded : old.pages / segment_pages < held_count old.region + tickets_out new.lent

-- there was room for a block of so many bytes: the list was left alone, and no segment went
pub record HasRoomAtOnce (size : ℕ) (old new : StoreState) : Type 0 where
  pub room : ¬ LacksBlock old.free size
  pub looks : new.looks ≡ old.looks
  pub region : new.region ≡ old.region

-- there was none: the list was looked at, and where the pages were full a segment may have gone
pub record MakesRoom (size : ℕ) (old new : StoreState) : Type 0 where
  pub none : LacksBlock old.free size
  pub looked : LooksOnce old new
  pub segments : (new.region ≡ old.region) ⊎ HandsOneBack old new

-- where a block is given: it is no larger than the greatest class, a ticket of the share was idle as the call began, and there was
-- room, or some was made
pub record GivesNow (size : ℕ) (share : Share) (old new : StoreState) : Type 0 where
  pub small : size ≤ greatest_block
  pub idle : HasIdle old.lent share
  pub room : HasRoomAtOnce size old new ⊎ MakesRoom size old new

-- the length of the value that is found
abbrev pub value_length : Option Row → ℕ
value_length None = 0
value_length (Some row) = length row.value

-- what was found: a value, in so many of the bytes, or none where no row has the key
abbrev pub found_in : Option ℕ → List ℕ → Reply
found_in None bytes = Missing
found_in (Some len) bytes = Value (take len bytes)

-- the block with these bytes
abbrev pub with_bytes : Block → List ℕ → Block
with_bytes block bytes = record block { piece = record block.piece { bytes = bytes } }
