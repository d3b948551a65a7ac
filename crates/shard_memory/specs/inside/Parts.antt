-- How the pieces, the spans of the pages and the objects of the pools go together.
use Rattle.std.specs.Prelude.{◌≡◌, ℕ, ◌*◌, ◌%◌, ◌≤◌, ◌⊎◌, Bool, not, ◌==◌, List, length, Contains, Some}
use Rattle.std.specs.List.{filter}
use Rattle.std.specs.FinMap as map
use Rattle.layout.specs.Sizes.{page, segment, segment_pages, segment_order, most_pages}
use Rattle.layout.specs.Extents.{Extent, extent, AreDisjoint}
use Rattle.span_lists.specs.Layout.{Layout, IsAllocated, Divides, IsCoalesced}
use Rattle.small_pools.specs.Classes.{size_of, order_of, IsLeastClass}
use Rattle.small_pools.specs.Objects.{Objects, IsHeld, AreHeldIn, AreObjects}
use Rattle.shard_memory.specs.inside.Pieces.{most_out}

-- of the allocated pieces those of the bytes of a segment are segments, and the others blocks
abbrev pub is_segment : Extent → Bool
is_segment p = p.len == segment

abbrev pub is_block : Extent → Bool
is_block p = not (is_segment p)

abbrev pub segments_of : List Extent → List Extent
segments_of allocated = filter is_segment allocated

abbrev pub blocks_of : List Extent → List Extent
blocks_of allocated = filter is_block allocated

-- a segment is an allocated span of its order
abbrev pub IsSegmentAt : Layout → Extent → Type 0
IsSegmentAt spans p = (p.len ≡ segment) × ((first : ℕ) × (p.start ≡ page * first) × IsAllocated spans first segment_order)

-- a block is the first bytes of an allocated object of the least class that holds them
abbrev pub IsBlockAt : Objects → Extent → Type 0
IsBlockAt pools p = (class : ℕ) × IsLeastClass p.len class × (map.get pools.allocated p.start ≡ Some (size_of class))

-- the pieces are disjoint and inside the pages; each is a segment or a block; each allocated span is a segment or held by the pools; each allocated object is a block
pub record IsConsistent (pages : ℕ) (allocated : List Extent) (spans : Layout) (pools : Objects) : Type 0 where
  pub most : pages ≤ most_pages
  pub whole : pages % segment_pages ≡ 0
  pub same : spans.pages ≡ pages
  pub blocks : AreDisjoint (page * pages) allocated
  pub few : length (blocks_of allocated) ≤ most_out
  pub pieces : (p : Extent) → Contains allocated p → IsSegmentAt spans p ⊎ IsBlockAt pools p
  pub spans_allocated : (first order : ℕ) → IsAllocated spans first order → ((order ≡ segment_order) × Contains allocated (extent (page * first) segment)) ⊎ ((class : ℕ) × IsHeld pools first class × (order ≡ order_of class))
  pub objects_allocated : (at size : ℕ) → map.get pools.allocated at ≡ Some size → (len : ℕ) × (len ≤ size) × Contains allocated (extent at len)
  pub held : AreHeldIn pools spans
  pub objects : AreObjects pools
  pub divided : Divides spans
  pub coalesced : IsCoalesced spans
