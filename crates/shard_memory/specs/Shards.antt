-- The memory of one shard, as its callers think of it: the blocks that stay, those that are lent, the segments, and what can still be given.
use Rattle.std.specs.Prelude.{◌≡◌, ◌≢◌, ℕ, suc, ◌+◌, ◌*◌, ◌/◌, ◌<◌, ◌≤◌, ◌^◌, ◌⊎◌, List, length, Contains, Some, refl}
use Rattle.std.specs.Ordering.{nat_cmp}
use Rattle.std.specs.FinMap as map
use Rattle.std.specs.Coded.{Coded, code_by, coded×, coded_list, coded_option, coded_ℕ}
use denote.RawPtr.{Ptr, coded_ptr}
use Rattle.layout.specs.Sizes.{page, segment_pages}
use Rattle.layout.specs.Extents.{Extent, extent, Disjoint, IsWithin, AreDisjoint, extent_code}
use Rattle.raw_range.specs.Memory.{Lent, extent_of}
use Rattle.small_pools.specs.Classes.{size_of, order_of, IsLeastClass}
use Rattle.foreign_list.specs.declared.piece_id.PieceId.{PieceId}
use Rattle.foreign_list.specs.Lists.{OwnedList, owned_list_code}
use Rattle.foreign_list.specs.Blocks.{piece_id_code}
use Rattle.shard_memory.specs.Room.{Room, KeepsRoom, room_code}
use Rattle.layout.specs.Counts.{raised}
use Rattle.shard_memory.specs.Tickets.{Tickets, IsLentWith, tickets_out, BecomeIdle}

-- home and owner: those of its pieces. blocks: the pieces of `give_here`, the last one in front. objects: how many bytes are set aside for each block, by its place.
-- segments: the pieces of `give_segment`. pages_out: the number of pages in allocated spans. list: that over which lent blocks come home. lent: which piece is lent with each ticket.
-- lends, backs: how many blocks were lent and came home since the opening, the greatest u64 where there were more. take_wholes: how often the list was taken
pub record MemoryState : Type 0 where
  pub home : Ptr
  pub owner : ℕ
  pub pages : ℕ
  pub blocks : List Extent
  pub objects : map.FinMap nat_cmp ℕ
  pub segments : List Extent
  pub pages_out : ℕ
  pub room : Room
  pub list : OwnedList
  pub lent : Tickets
  pub lends : ℕ
  pub backs : ℕ
  pub take_wholes : ℕ

-- it is stored as the tuple of its fields
abbrev pub ShardTuple : Type 0
ShardTuple = Ptr × (ℕ × (ℕ × (List Extent × (map.FinMap nat_cmp ℕ × (List Extent × (ℕ × (Room × (OwnedList × (Tickets × (ℕ × (ℕ × ℕ)))))))))))

abbrev pub tuple_code : Coded ShardTuple
tuple_code =
    coded× coded_ptr (coded× coded_ℕ (coded× coded_ℕ (coded× (coded_list extent_code) (coded× (map.code coded_ℕ coded_ℕ) (coded× (coded_list extent_code) (coded× coded_ℕ (coded× room_code
    (coded× owned_list_code (coded× (coded_list (coded_option piece_id_code)) (coded× coded_ℕ (coded× coded_ℕ coded_ℕ)))))))))))

abbrev pub shard_code : Coded MemoryState
shard_code =
    code_by ShardTuple tuple_code
    (λ s. (s.home, (s.owner, (s.pages, (s.blocks, (s.objects, (s.segments, (s.pages_out, (s.room, (s.list, (s.lent, (s.lends, (s.backs, s.take_wholes)))))))))))))
    (λ t. record {
      home = t.0;
      owner = t.1.0;
      pages = t.1.1.0;
      blocks = t.1.1.1.0;
      objects = t.1.1.1.1.0;
      segments = t.1.1.1.1.1.0;
      pages_out = t.1.1.1.1.1.1.0;
      room = t.1.1.1.1.1.1.1.0;
      list = t.1.1.1.1.1.1.1.1.0;
      lent = t.1.1.1.1.1.1.1.1.1.0;
      lends = t.1.1.1.1.1.1.1.1.1.1.0;
      backs = t.1.1.1.1.1.1.1.1.1.1.1.0;
      take_wholes = t.1.1.1.1.1.1.1.1.1.1.1.1;
    }) (λ _. refl)

-- the most pieces of `give_here` at once
abbrev pub most_blocks : ℕ
most_blocks = 1024

-- the pages of the longest span from which blocks come
abbrev pub longest_span : ℕ
longest_span = 16

-- where a lent piece lies
abbrev pub lent_extent : PieceId → Extent
lent_extent piece_id = extent piece_id.at piece_id.len

-- the blocks that stay, the lent ones and the segments lie within the pages, and each two of them are disjoint
pub record AreApart (s : MemoryState) : Type 0 where
  pub blocks : AreDisjoint (page * s.pages) s.blocks
  pub segments : AreDisjoint (page * s.pages) s.segments
  pub each : (block segment : Extent) → Contains s.blocks block → Contains s.segments segment → Disjoint block segment
  pub lent : (ticket : ℕ) (a : PieceId) → IsLentWith s.lent ticket a → IsWithin (page * s.pages) (lent_extent a)
  pub lent_blocks : (ticket : ℕ) (a : PieceId) (block : Extent) → IsLentWith s.lent ticket a → Contains s.blocks block → Disjoint block (lent_extent a)
  pub lent_segments : (ticket : ℕ) (a : PieceId) (segment : Extent) → IsLentWith s.lent ticket a → Contains s.segments segment → Disjoint (lent_extent a) segment
  pub lent_each : (t u : ℕ) (a b : PieceId) → IsLentWith s.lent t a → IsLentWith s.lent u b → t ≢ u → Disjoint (lent_extent a) (lent_extent b)

-- the lent pieces are of the shard's range
abbrev pub AreOfRange : MemoryState → Type 0
AreOfRange s = (ticket : ℕ) (a : PieceId) → IsLentWith s.lent ticket a → (a.range ≡ s.home) × (a.owner ≡ s.owner)

-- a block lies there, one that stays or a lent one
abbrev pub HasBlock : MemoryState → Extent → Type 0
HasBlock s block = Contains s.blocks block ⊎ ((ticket : ℕ) × (a : PieceId) × IsLentWith s.lent ticket a × (lent_extent a ≡ block))

-- each block has an object of the least class that holds it, and there is no other object
pub record HaveObjects (s : MemoryState) : Type 0 where
  pub blocks : (block : Extent) → HasBlock s block → (class : ℕ) × IsLeastClass block.len class × (map.get s.objects block.start ≡ Some (size_of class))
  pub objects : (at size : ℕ) → map.get s.objects at ≡ Some size → (len : ℕ) × HasBlock s (extent at len)

-- the piece is one of the range with that home, and one of these
abbrev pub IsOneOf : Ptr → List Extent → Lent → Type 0
IsOneOf home extents piece = (piece.home ≡ home) × Contains extents (extent_of piece)

-- the piece is a block of the shard that stays, or a segment of it
abbrev pub IsBlockOf : MemoryState → Lent → Type 0
IsBlockOf s piece = IsOneOf s.home s.blocks piece

abbrev pub IsSegmentOf : MemoryState → Lent → Type 0
IsSegmentOf s piece = IsOneOf s.home s.segments piece

-- so many segments and blocks are together as many as the pages make segments
abbrev pub FillPages : ℕ → ℕ → ℕ → Type 0
FillPages pages segments blocks = pages / segment_pages ≤ segments + blocks

-- segments and blocks, the lent ones too, are together as many as the pages make segments
abbrev pub IsCrowded : MemoryState → Type 0
IsCrowded s = FillPages s.pages (length s.segments) (length s.blocks + tickets_out s.lent)

-- of these objects: one of the least class that holds the size was set aside at the place, and no other
abbrev pub SetsAside : map.FinMap nat_cmp ℕ → map.FinMap nat_cmp ℕ → ℕ → ℕ → Type 0
SetsAside old new size at = (class : ℕ) × IsLeastClass size class × (new ≡ map.insert old at (size_of class))

-- the pages out are as many as before, or more by a span of the least class that holds the size
abbrev pub TakesPages : ℕ → ℕ → ℕ → Type 0
TakesPages old new size = (new ≡ old) ⊎ ((class : ℕ) × IsLeastClass size class × (new ≡ old + 2 ^ order_of class))

-- so many lent blocks came home, and are free; where one was out, the list was taken once, and else it was left alone; no span moved
pub record ComeBack (old new : MemoryState) (count : ℕ) : Type 0 where
  pub idle : BecomeIdle old.lent new.lent
  pub out : tickets_out new.lent + count ≡ tickets_out old.lent
  pub backs : new.backs ≡ raised old.backs count
  pub take_wholes : 0 < tickets_out old.lent → new.take_wholes ≡ suc old.take_wholes
  pub not_taken : tickets_out old.lent ≡ 0 → new.take_wholes ≡ old.take_wholes
  pub room : KeepsRoom old.room new.room
  pub spans : new.room.spans ≡ old.room.spans
  pub held : new.room.pools.held ≡ old.room.pools.held
  pub same : new ≡ record old { lent = new.lent; backs = new.backs; take_wholes = new.take_wholes; objects = new.objects; room = new.room }
