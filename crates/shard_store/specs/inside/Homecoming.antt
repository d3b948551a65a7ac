-- What a shard's memory lent, and what came home to it.
use Rattle.std.specs.Prelude.{◌≡◌, ℕ, suc, ◌+◌, ◌<◌, ◌≤◌, Some, slice_set, length}
use Rattle.layout.specs.Sizes.{greatest_block}
use Rattle.foreign_list.specs.Blocks.{Block, piece_id_of}
use Rattle.regions.specs.Segments.{RegionState}
use Rattle.regions.specs.Shapes.{free_count}
use Rattle.shard_memory.specs.Room.{LacksBlock, IsTrimmed}
use Rattle.shard_memory.specs.Shards.{MemoryState, IsCrowded}
use Rattle.layout.specs.Counts.{raised}
use Rattle.shard_memory.specs.Tickets.{IsOfShare, IsIdle, HasIdle, tickets_out}
use Rattle.shard_memory.specs.declared.share.Share.{Share}
use Rattle.shard_memory.specs.declared.give_refusal.GiveRefusal.{GiveRefusal}
use Rattle.shard_memory.specs.declared.give_refusal.GiveRefusal.TheVariants.{TooLarge, NoTicket, NoSpan}
use Rattle.shard_store.specs.Lending.{ComeHome}

-- the memory is of the same shard, and over the same list, which was left alone; nothing was lent, and nothing came home
pub record SameTickets (old new : MemoryState) : Type 0 where
  pub owner : new.owner ≡ old.owner
  pub pages : new.pages ≡ old.pages
  pub list : new.list ≡ old.list
  pub lent : new.lent ≡ old.lent
  pub lends : new.lends ≡ old.lends
  pub backs : new.backs ≡ old.backs
  pub looks : new.take_wholes ≡ old.take_wholes

-- nothing was lent
pub record TakesHome (old new : MemoryState) : Type 0 where
  pub owner : new.owner ≡ old.owner
  pub pages : new.pages ≡ old.pages
  pub list : new.list ≡ old.list
  pub home : ComeHome old.lent new.lent old.backs new.backs
  pub lends : new.lends ≡ old.lends
  pub looks : old.take_wholes ≤ new.take_wholes

-- where a block was out, the list was taken once
abbrev pub TakesOnce : MemoryState → MemoryState → Type 0
TakesOnce old new = 0 < tickets_out old.lent → new.take_wholes ≡ suc old.take_wholes

-- a segment went, which was not the last free one
abbrev pub HandsBack : RegionState → RegionState → Type 0
HandsBack old new = (1 ≤ free_count new) × (free_count new + 1 ≡ free_count old)

-- the block of so many bytes was lent, and nothing else
pub record Gives (share : Share) (size : ℕ) (old new : MemoryState) (block : Block) : Type 0 where
  pub owner : new.owner ≡ old.owner
  pub pages : new.pages ≡ old.pages
  pub list : new.list ≡ old.list
  pub of_share : IsOfShare share block.ticket
  pub idle : IsIdle old.lent block.ticket
  pub lent : new.lent ≡ slice_set old.lent block.ticket (Some (piece_id_of block.piece))
  pub lends : new.lends ≡ raised old.lends 1
  pub backs : new.backs ≡ old.backs
  pub looks : new.take_wholes ≡ old.take_wholes
  pub of_list : block.list ≡ old.list.id
  pub mine : block.piece.owner ≡ old.owner
  pub fresh : block.seen ≡ 0
  pub bytes : length block.piece.bytes ≡ size

-- the same, once others had come home
pub record GivesAfter (share : Share) (size : ℕ) (old new : MemoryState) (block : Block) : Type 0 where
  pub before : MemoryState
  pub came : TakesHome old before
  pub gives : Gives share size before new block

-- why no block is given of this memory, for a cache in these segments
abbrev pub RefusesAfter : MemoryState → MemoryState → RegionState → ℕ → Share → GiveRefusal → Type 0
RefusesAfter old new region size share TooLarge = greatest_block < size
RefusesAfter old new region size share NoTicket = (size ≤ greatest_block) × ¬ HasIdle old.lent share
RefusesAfter old new region size share NoSpan =
    (size ≤ greatest_block) × HasIdle old.lent share × LacksBlock new.room size × IsTrimmed new.room × (free_count region ≤ 1)
    × TakesHome old new × TakesOnce old new × IsCrowded new
