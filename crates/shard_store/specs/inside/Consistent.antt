-- How a shard's memory and its cache go together.
use Rattle.std.specs.Prelude.{◌≡◌, ℕ, ◌+◌, ◌/◌, ◌^◌, ◌<◌, ◌≤◌, [], length, Some, slice_get, Contains}
use Rattle.layout.specs.Sizes.{segment_pages, tickets, ArePages}
use Rattle.layout.specs.Counts.{raised}
use Rattle.layout.specs.Extents.{extent}
use Rattle.shard_memory.specs.Shards.{MemoryState}
use Rattle.shard_memory.specs.Tickets.{tickets_out}
use Rattle.regions.specs.Segments.{RegionState}
use Rattle.row_cache.specs.Rows.{CacheState, Keeps, rows_of}
use Rattle.shard_store.specs.Stores.{StoreState, SameGuards}
use Rattle.regions.specs.Shapes.{Identity, shape, pieces, group_count, held_count, free_count}

-- the piece is a segment of the memory
pub record IsOf (memory : MemoryState) (piece : Identity) : Type 0 where
  pub home : piece.home ≡ memory.home
  pub segment : Contains memory.segments (extent piece.at piece.length)

-- the region holds each segment of the memory, once
pub record HoldsAll (memory : MemoryState) (region : RegionState) : Type 0 where
  pub of : (n : ℕ) (piece : Identity) → slice_get (pieces region) n ≡ Some (Some piece) → IsOf memory piece
  pub apart : (m n : ℕ) (a b : Identity) → slice_get (pieces region) m ≡ Some (Some a) → slice_get (pieces region) n ≡ Some (Some b) → a.at ≡ b.at → m ≡ n
  pub count : held_count region ≡ length memory.segments

-- the memory has its owner's list and all its tickets, and counts what it lends
pub record IsCounted (memory : MemoryState) : Type 0 where
  pub owner : memory.owner ≡ memory.list.owner
  pub tickets : length memory.lent ≡ tickets
  pub lends : memory.lends ≡ raised memory.backs (tickets_out memory.lent)
  pub backs : memory.backs < 2 ^ 64

-- The region is made of the segments of the shard's memory, of which no block stays with the shard. It has so many groups, for which
-- the pages are enough: they make more segments than one for each ticket, one for each group and a free one.
pub record IsMadeOf (shard pages regions : ℕ) (memory : MemoryState) (region : RegionState) : Type 0 where
  pub owner : memory.owner ≡ shard
  pub size : memory.pages ≡ pages
  pub are_pages : ArePages pages
  pub blocks : memory.blocks ≡ []
  pub most : (shape region).most ≡ pages / segment_pages
  pub holds : HoldsAll memory region
  pub groups : group_count region ≡ regions
  pub enough : tickets + 2 + regions ≤ pages / segment_pages
  pub counted : IsCounted memory

-- besides, a segment is free
pub record IsConsistent (shard pages regions : ℕ) (memory : MemoryState) (region : RegionState) : Type 0 where
  pub made : IsMadeOf shard pages regions memory region
  pub free : 1 ≤ free_count region

-- what a call leaves as it was that moves no row, under guards or none; and memory and cache go together where they did
pub record LeavesRows (m n : MemoryState) (c d : CacheState) : Type 0 where
  pub rows : rows_of d ≡ rows_of c
  pub keeps : Keeps c d
  pub guards : SameGuards c.region d.region
  pub consistent : (shard pages regions : ℕ) → IsConsistent shard pages regions m c.region
      → IsConsistent shard pages regions n d.region

-- what callers see of both
abbrev pub store_of : MemoryState → CacheState → StoreState
store_of memory cache = record {
  shard = memory.owner;
  pages = memory.pages;
  regions = group_count cache.region;
  room = cache.room;
  rows = rows_of cache;
  list = memory.list;
  lent = memory.lent;
  lends = memory.lends;
  backs = memory.backs;
  looks = memory.take_wholes;
  region = cache.region;
  free = memory.room;
}

-- so they are, for the shard that it is, with the groups that there are
abbrev pub IsWhole : MemoryState → CacheState → Type 0
IsWhole memory cache = IsConsistent memory.owner memory.pages (group_count cache.region) memory cache.region
