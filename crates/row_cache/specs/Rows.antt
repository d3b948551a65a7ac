-- The rows that a row cache means, read off the bytes of its segments.
use Rattle.std.specs.Prelude.{◌≡◌, ◌⊎◌, ℕ, ◌%◌, List, [], length, Option, None, Some, IsSome, slice_get, map, option_map, Contains}
use Rattle.std.specs.List.{last_or}
pub use Rattle.layout.specs.Kinds.{row_kind}
use Rattle.rows.specs.Key.{Key}
use Rattle.rows.specs.Row.{Row}
use Rattle.rows.specs.Apply.{Reply, Stored, Replaced}
use Rattle.row_cache.specs.declared.put.Put.{Put}
use Rattle.row_cache.specs.declared.put.Put.TheVariants as puts
use Rattle.row_bytes.specs.Rows.{row_in, number_in, HoldsRow, IsRow}
use Rattle.regions.specs.Segments.{RegionState}
use Rattle.regions.specs.Contents.{Item, Standing, standing_at, live_at}
use Rattle.regions.specs.Shapes.{group_count, shape}
use Rattle.regions.specs.Counts.{used_counts, live_counts}
use Rattle.regions.specs.Stores.{Live}
use Rattle.regions.specs.declared.place.Place.{Place}
use Rattle.row_cache.specs.Links.{content_of, first_or, follow, AreApart, AreLinked}

-- a row cache: for how many rows it has room, the places of the row used last and of the one used longest ago, the places of
-- rows by number, and the segments in which they stand
pub record CacheState : Type 0 where
  pub room : ℕ
  pub front : Option Place
  pub last : Option Place
  pub places : List Place
  pub region : RegionState

abbrev pub content_at : Live → Option Place → List ℕ
content_at live None = []
content_at live (Some p) = content_of (live p)

-- the row of a number: what the content at its place is read as
abbrev pub row_at : Live → List Place → ℕ → Row
row_at live places n = row_in (content_at live (slice_get places n))

abbrev pub key_at : Live → List Place → ℕ → Key
key_at live places n = (row_at live places n).key

abbrev pub rows_at : Live → List Place → List ℕ → List Row
rows_at live places numbers = map (row_at live places) numbers

-- the row at a place
abbrev pub row_there : Live → Place → Row
row_there live p = row_in (content_of (live p))

-- the places of the rows of a cache, the one used last in front: the links lead from it to the others
abbrev pub places_of : CacheState → List Place
places_of c = follow (length c.places) (live_at c.region) c.front

-- the rows of a cache, in the same order
abbrev pub rows_of : CacheState → List Row
rows_of c = map (row_there (live_at c.region)) (places_of c)

-- The rows are linked both ways from the front to the last. Each has the row before it as its link to the next more recently
-- used one, and the row behind it as its other link; the front has none before it, and the last has none behind it.
pub record IsLinkedThrough (c : CacheState) : Type 0 where
  pub front : c.front ≡ first_or None (places_of c)
  pub last : c.last ≡ last_or None (places_of c)
  pub links : AreLinked (live_at c.region) None (places_of c) None

-- the table of places has the row of a number: it is live at the number's place, as an object of the kind of rows
pub record HasRowAt (c : CacheState) (n : ℕ) (p : Place) : Type 0 where
  pub placed : slice_get c.places n ≡ Some p
  pub item : Item
  pub stands : live_at c.region p ≡ Some item
  pub kind : item.kind ≡ row_kind
  pub holds : HoldsRow item.content n (row_in item.content)

-- The links meet each row of the table of places once, and meet nothing else. No place comes twice, at each of them the table
-- has a row, and each live object, so each row of the table, is at one of them.
pub record AreMetOnce (c : CacheState) : Type 0 where
  pub once : AreApart (places_of c)
  pub rows : (p : Place) → Contains (places_of c) p → (n : ℕ) × HasRowAt c n p
  pub every : (p : Place) → IsSome (live_at c.region p) → Contains (places_of c) p

-- the group in which the rows of a table stand
abbrev pub group_for : RegionState → ℕ → ℕ
group_for r table = table % group_count r

-- each of these live objects, which are rows, is of its table's group, of so many groups
abbrev pub AreOfGroups : ℕ → Live → Type 0
AreOfGroups groups live =
    (p : Place) (item : Item) → live p ≡ Some item → item.group ≡ Some ((row_in item.content).key.table % groups)

-- each row stands in a segment of its table's group
abbrev pub AreGrouped : RegionState → Type 0
AreGrouped r = AreOfGroups (group_count r) (live_at r)

-- the object at a place, live or dead
abbrev pub item_at : RegionState → Place → Option Item
item_at r p = option_map (λ (s : Standing). s.item) (standing_at r p)

-- the objects are the same row, with whatever links
pub record IsSameRow (old new : Item) : Type 0 where
  pub group : new.group ≡ old.group
  pub kind : new.kind ≡ old.kind
  pub number : number_in new.content ≡ number_in old.content
  pub row : row_in new.content ≡ row_in old.content
  pub was : HoldsRow old.content (number_in old.content) (row_in old.content)
  pub is : HoldsRow new.content (number_in old.content) (row_in old.content)

-- the objects that stood stand with their kind and content, but for the links of a row
abbrev pub Stay : RegionState → RegionState → Type 0
Stay old new = (p : Place) (item : Item) → item_at old p ≡ Some item
    → (now : Item) × (item_at new p ≡ Some now) × ((now ≡ item) ⊎ IsSameRow item now)

-- what a call leaves as it was: the tables have room for as many rows, and each object that stood stands
pub record Keeps (old new : CacheState) : Type 0 where
  pub room : new.room ≡ old.room
  pub stay : Stay old.region new.region

-- the same row stands there, live as it was or dead
pub record HasOtherLinks (old new : Option Standing) : Type 0 where
  pub before : Standing
  pub after : Standing
  pub was : old ≡ Some before
  pub is : new ≡ Some after
  pub live : after.live ≡ before.live
  pub same : IsSameRow before.item after.item

-- nothing changed but links of rows
pub record AreRelinked (old new : RegionState) : Type 0 where
  pub objects : (p : Place) → (standing_at new p ≡ standing_at old p) ⊎ HasOtherLinks (standing_at old p) (standing_at new p)
  pub used : used_counts new ≡ used_counts old
  pub live : live_counts new ≡ live_counts old
  pub shape : shape new ≡ shape old

-- the reply of a put
abbrev pub reply_of : Put → Reply
reply_of puts.Stored = Stored
reply_of puts.Replaced = Replaced

-- the row stands at the place, live or dead
abbrev pub StandsAt : RegionState → Place → Row → Type 0
StandsAt r p row = (s : Standing) × (standing_at r p ≡ Some s) × IsRow s.item.content × (row_in s.item.content ≡ row)
