-- What stands in the segments of a region.
use Rattle.std.specs.Prelude.{◌≡◌, ◌≢◌, ℕ, ◌+◌, ◌-◌, ◌<◌, ◌≤◌, ◌⊎◌, Bool, true, false, ◌==◌, List, length, replicate, Option, None, Some, IsSome, option_map}
use Rattle.std.specs.List.{find, refill}
use Rattle.layout.specs.Sizes.{descriptor}
use Rattle.object_log.specs.Objects.{Object, content_at}
use Rattle.regions.specs.Segments.{SegmentState, RegionState, segment_at}
use Rattle.regions.specs.Counts.{objects_in, used_in, used_at}
use Rattle.regions.specs.declared.place.Place.{Place}

-- what a store has under a name: in which group it stands, its kind, and its content
pub record Item : Type 0 where
  pub group : Option ℕ
  pub kind : ℕ
  pub content : List ℕ

-- an object that stands somewhere, live or dead
pub record Standing : Type 0 where
  pub live : Bool
  pub item : Item

-- the bytes of the whole object, its descriptor included
abbrev pub size_of : Item → ℕ
size_of i = length i.content + descriptor

-- the object as its segment's group, its descriptor and its bytes tell it
abbrev pub standing : Option ℕ → List ℕ → Object → Standing
standing group bytes o = record { live = o.state == 1; item = record { group = group; kind = o.kind; content = content_at o.at o.size bytes } }

-- the one of the objects that stands at the offset
abbrev pub object_with : ℕ → List Object → Option Object
object_with at os = find (λ o. o.at == at) os

abbrev pub standing_among : Option ℕ → List ℕ → ℕ → List Object → Option Standing
standing_among group bytes at os = option_map (standing group bytes) (object_with at os)

abbrev pub standing_in : Option SegmentState → ℕ → Option Standing
standing_in None at = None
standing_in (Some h) at = standing_among h.group h.piece.bytes at (objects_in h)

-- the object at a place of the region
abbrev pub standing_at : RegionState → Place → Option Standing
standing_at r p = standing_in (segment_at r p.segment) p.at

abbrev pub if_live : Bool → Item → Option Item
if_live true item = Some item
if_live false item = None

-- the group, kind and content of an object that is live
abbrev pub item_if_live : Option Standing → Option Item
item_if_live None = None
item_if_live (Some s) = if_live s.live s.item

-- the live object at a place
abbrev pub live_at : RegionState → Place → Option Item
live_at r p = item_if_live (standing_at r p)

-- a new object with a content
abbrev pub holding : Option ℕ → ℕ → List ℕ → Standing
holding group kind content = record { live = true; item = record { group = group; kind = kind; content = content } }

-- a new object of the size, whose content is zero
abbrev pub zeros : Option ℕ → ℕ → ℕ → Standing
zeros group kind size = holding group kind (replicate (size - descriptor) 0)

abbrev pub dead : Standing → Standing
dead s = record s { live = false }

-- its content is ws
abbrev pub with_bytes : List ℕ → Standing → Standing
with_bytes ws s = record s { item = record { group = s.item.group; kind = s.item.kind; content = ws } }

-- its content is ws, cut or filled up to the length that it had
abbrev pub rewritten : List ℕ → Standing → Standing
rewritten ws s = with_bytes (refill (length s.item.content) s.item.content ws) s

-- at one offset stands what is said, and at each other offset what stood there
pub record ChangesIn (at : ℕ) (is : Option Standing) (old new : Option SegmentState) : Type 0 where
  pub here : standing_in new at ≡ is
  pub others : (a : ℕ) → a ≢ at → standing_in new a ≡ standing_in old a

-- at one place stands what is said, and at each other place what stood there
pub record ChangesAt (p : Place) (is : Option Standing) (old new : RegionState) : Type 0 where
  pub here : standing_at new p ≡ is
  pub others : (q : Place) → q ≢ p → standing_at new q ≡ standing_at old q

-- what stands at each place, live or dead, is as it was
abbrev pub Keeps : RegionState → RegionState → Type 0
Keeps old new = (p : Place) → standing_at new p ≡ standing_at old p

-- an object of the segment begins there, or its objects end there
abbrev pub starts_in : Option SegmentState → ℕ → Type 0
starts_in s at = IsSome (standing_in s at) ⊎ (at ≡ used_in s)

abbrev pub IsStart : RegionState → ℕ → ℕ → Type 0
IsStart r n at = IsSome (standing_at r (record { segment = n; at = at })) ⊎ (at ≡ used_at r n)

-- no object lives from one offset up to another
abbrev pub NoneLives : RegionState → ℕ → ℕ → ℕ → Type 0
NoneLives r n from to = (a : ℕ) → from ≤ a → a < to → live_at r (record { segment = n; at = a }) ≡ None

abbrev pub none_lives_in : Option SegmentState → ℕ → ℕ → Type 0
none_lives_in s from to = (a : ℕ) → from ≤ a → a < to → item_if_live (standing_in s a) ≡ None

-- a live object, by its offset, kind and size
pub record IsLiveAt (live : Option Item) (kind size : ℕ) : Type 0 where
  pub item : Item
  pub is : live ≡ Some item
  pub kind_is : item.kind ≡ kind
  pub size_is : size_of item ≡ size
