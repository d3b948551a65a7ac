-- The ring of the places of a queue's puts, and the live objects that it is the ring of.
use Rattle.std.specs.Prelude.{◌≡◌, ◌≢◌, ℕ, zero, suc, ◌+◌, ◌-◌, ◌%◌, ◌^◌, ◌<◌, ◌≤◌, nat_lt, cond, List, [], ◌∷◌, length, Option, None, Some, slice_get, slice_set}
use Rattle.rows.specs.Key.{Key}
use Rattle.rows.specs.Row.{Row, size}
use Rattle.row_bytes.specs.Rows.{HoldsRow, row_bytes, row_in, number_in}
use Rattle.regions.specs.Contents.{Item, size_of}
use Rattle.regions.specs.Stores.{Live, Bare}
use Rattle.regions.specs.declared.place.Place.{Place}
use Rattle.dirty_region.specs.Puts.{dirty_kind, unlinked}

-- what stands in a slot of no put
abbrev pub nowhere : Place
nowhere = record { segment = 0; at = 0 }

-- for how many puts it has room, where in it the oldest one stands, how many puts there are, the position of the oldest one
-- among all puts that ever came, modulo 2^32, and the places
pub record RingState : Type 0 where
  pub room : ℕ
  pub head : ℕ
  pub count : ℕ
  pub first : ℕ
  pub places : List Place

abbrev pub wrapped : ℕ → ℕ → ℕ
wrapped room n = cond (nat_lt n room) n (n - room)

-- the slot of the put with so many older ones, and its position
abbrev pub slot : RingState → ℕ → ℕ
slot r k = wrapped r.room (r.head + k)

abbrev pub position : RingState → ℕ → ℕ
position r k = (r.first + k) % 2 ^ 32

pub record IsRing (r : RingState) : Type 0 where
  pub small : r.room < 2 ^ 32
  pub long : length r.places ≡ r.room
  pub few : r.count ≤ r.room
  pub head : r.head ≤ r.room
  pub begins : 1 ≤ r.room → r.head < r.room
  pub first : r.first < 2 ^ 32

-- the ring with the newest put's place, and without the oldest put's
abbrev pub pushed : Place → RingState → RingState
pushed place r = record r { places = slice_set r.places (slot r r.count) place; count = r.count + 1 }

abbrev pub popped : RingState → RingState
popped r = record r { head = wrapped r.room (r.head + 1); count = r.count - 1; first = (r.first + 1) % 2 ^ 32 }

-- the item is a put with its position, and is read as this
pub record IsPutOf (item : Item) (position : ℕ) (put : Row) : Type 0 where
  pub kind : item.kind ≡ dirty_kind
  pub content : item.content ≡ row_bytes position unlinked put
  pub holds : HoldsRow item.content position put
  pub read : row_in item.content ≡ put
  pub number : number_in item.content ≡ position
  pub size : size_of item ≡ size put.key.bytes put.value

-- the live object is a put
pub record HoldsAPut (o : Option Item) : Type 0 where
  pub item : Item
  pub is : o ≡ Some item
  pub position : ℕ
  pub put : Row
  pub is_put : IsPutOf item position put

-- the put of a slot stands at its place
pub record HasPut (live : Live) (places : List Place) (n position : ℕ) : Type 0 where
  pub place : Place
  pub placed : slice_get places n ≡ Some place
  pub item : Item
  pub is_live : live place ≡ Some item
  pub put : Row
  pub is_put : IsPutOf item position put

-- some put stands at the place of the slot
abbrev pub HasSomePut : Live → List Place → ℕ → Type 0
HasSomePut live places n = (position : ℕ) × HasPut live places n position

-- each put stands at its place, and each live object is one
pub record IsRingOf (r : RingState) (live : Live) : Type 0 where
  pub numbers : IsRing r
  pub puts : (k : ℕ) → k < r.count → HasPut live r.places (slot r k) (position r k)
  pub every : (p : Place) (i : Item) → live p ≡ Some i → (k : ℕ) × (k < r.count) × (slice_get r.places (slot r k) ≡ Some p)

abbrev pub content_of : Option Item → List ℕ
content_of None = []
content_of (Some item) = item.content

abbrev pub content_at : Live → Option Place → List ℕ
content_at live None = []
content_at live (Some p) = content_of (live p)

-- the put of a slot: what the content at its place is read as
abbrev pub put_at : Live → List Place → ℕ → Row
put_at live places n = row_in (content_at live (slice_get places n))

abbrev pub key_at : Live → List Place → ℕ → Key
key_at live places n = (put_at live places n).key

-- the first n of some puts
abbrev pub listed : (ℕ → Row) → ℕ → List Row
listed put zero = []
listed put (suc n) = put 0 ∷ listed (λ k. put (suc k)) n

-- the put with so many older ones, and all puts
abbrev pub nth : RingState → Live → ℕ → Row
nth r live k = put_at live r.places (slot r k)

abbrev pub puts_in : RingState → Live → List Row
puts_in r live = listed (nth r live) r.count

-- the place of a name, which is how many older puts there are
abbrev pub place_of : RingState → ℕ → Option Place
place_of r k = cond (nat_lt k r.count) (slice_get r.places (slot r k)) None

-- a put has no reference fields
abbrev pub bare : Bare
bare item = item

abbrev pub references : Item → List Place
references item = []

-- one put more is live, or one less
pub record AddsPut (p : Place) (position : ℕ) (put : Row) (old new : Live) : Type 0 where
  pub item : Item
  pub is_put : IsPutOf item position put
  pub absent : old p ≡ None
  pub here : new p ≡ Some item
  pub others : (q : Place) → q ≢ p → new q ≡ old q

pub record Drops (p : Place) (old new : Live) : Type 0 where
  pub here : new p ≡ None
  pub others : (q : Place) → q ≢ p → new q ≡ old q
