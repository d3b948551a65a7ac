-- What a shard's pages and pools can still give.
use Rattle.std.specs.Prelude.{◌≡◌, ℕ, zero, suc, ◌+◌, ◌≤◌, None, refl}
use Rattle.std.specs.Coded.{Coded, code_by, coded×}
use Rattle.std.specs.FinMap as map
use Rattle.layout.specs.Sizes.{greatest_block, segment_order}
use Rattle.span_lists.specs.Layout.{Layout, CoalescesInto, Divides, HasNone, IsCoalesced, IsFree, IsGreatest, TakesFrom, allocated_pages, free_pages, layout_code}
use Rattle.small_pools.specs.Classes.{IsLeastClass, size_of}
use Rattle.small_pools.specs.Objects.{Objects, AreHeldIn, AreObjects, AreUsed, HoldsFor, LacksObject, objects_code}

-- spans: which spans of the pages are free, and which are allocated. pools: the spans that the pools hold, and which objects of them
-- are allocated
pub record Room : Type 0 where
  pub spans : Layout
  pub pools : Objects

-- it is stored as the pair of them
abbrev pub room_code : Coded Room
room_code = code_by (Layout × Objects) (coded× layout_code objects_code) (λ r. (r.spans, r.pools)) (λ p. record { spans = p.0; pools = p.1 }) (λ _. refl)

-- What holds at each time of so many pages: each page lies in one span, which is free or allocated, and free spans are coalesced as far
-- as that goes; each object stands in a span that the pools hold, and each such span is allocated.
pub record IsRoomOf (pages : ℕ) (room : Room) : Type 0 where
  pub size : room.spans.pages ≡ pages
  pub divided : Divides room.spans
  pub coalesced : IsCoalesced room.spans
  pub counted : free_pages room.spans + allocated_pages room.spans ≡ pages
  pub objects : AreObjects room.pools
  pub held : AreHeldIn room.pools room.spans

-- all of so many pages are free, cut into the greatest spans that fit, and the pools hold nothing
pub record IsAllFree (pages : ℕ) (room : Room) : Type 0 where
  pub none_allocated : room.spans.allocated ≡ map.empty
  pub greatest : (first order : ℕ) → IsFree room.spans first order → IsGreatest pages first order
  pub none_held : room.pools.held ≡ map.empty
  pub no_object : room.pools.allocated ≡ map.empty

-- ---- what can't be given

-- no block of the class: its pool has no free object, and no span of its order or of a greater one is free
unfoldable pub LacksClass : Room → ℕ → Type 0
LacksClass room class = LacksObject room.pools room.spans class

-- no block of so many bytes: none of the least class that holds them
unfoldable pub LacksBlock : Room → ℕ → Type 0
LacksBlock room size = (class : ℕ) → IsLeastClass size class → LacksClass room class

-- no segment: no span of its order or of a greater one is free
unfoldable pub LacksSegment : Room → Type 0
LacksSegment room = HasNone room.spans segment_order

-- `trim` would give nothing back: each span of the pools has an allocated object
unfoldable pub IsTrimmed : Room → Type 0
IsTrimmed room = AreUsed room.pools

-- what could be given still can
pub record KeepsRoom (old new : Room) : Type 0 where
  pub classes : (class : ℕ) → LacksClass new class → LacksClass old class
  pub segment : LacksSegment new → LacksSegment old

-- a block of each size up to the greatest can be given, and a segment
pub record HasAllRoom (room : Room) : Type 0 where
  pub blocks : (size : ℕ) → size ≤ greatest_block → ¬ LacksBlock room size
  pub segment : ¬ LacksSegment room

-- ---- what each call changes

-- An object of the least class that holds the size was taken at the place: of a span that the pools held, or, where they had no free one,
-- of one that the pages gave.
pub record TakesObject (old new : Room) (size at : ℕ) : Type 0 where
  pub class : ℕ
  pub least : IsLeastClass size class
  pub was_free : map.get old.pools.allocated at ≡ None
  pub allocated : new.pools.allocated ≡ map.insert old.pools.allocated at (size_of class)
  pub spans : HoldsFor old.pools new.pools old.spans new.spans class

-- the object at the place came back to its pool
pub record PutsObject (old new : Room) (at : ℕ) : Type 0 where
  pub allocated : new.pools.allocated ≡ map.remove old.pools.allocated at
  pub held : new.pools.held ≡ old.pools.held
  pub spans : new.spans ≡ old.spans

-- the span of a segment that begins at the page was taken
pub record TakesSegment (old new : Room) (first : ℕ) : Type 0 where
  pub was_free : map.get old.spans.allocated first ≡ None
  pub allocated : new.spans.allocated ≡ map.insert old.spans.allocated first segment_order
  pub free : TakesFrom old.spans new.spans segment_order first
  pub pools : new.pools ≡ old.pools

-- the span of a segment that begins at the page came back
pub record PutsSegment (old new : Room) (first : ℕ) : Type 0 where
  pub allocated : new.spans.allocated ≡ map.remove old.spans.allocated first
  pub free : CoalescesInto old.spans new.spans first segment_order
  pub pools : new.pools ≡ old.pools

-- so many segments were taken, one after the other, and nothing else
unfoldable pub TakesSegments : ℕ → Room → Room → Type 0
TakesSegments zero old new = new ≡ old
TakesSegments (suc count) old new = (before : Room) × (first : ℕ) × TakesSegments count old before × TakesSegment before new first
