-- The tables of a row cache, and the live objects that they are the tables of.
use Rattle.std.specs.List.{last_or}
use Rattle.std.specs.Prelude.{◌≡◌, ◌≢◌, ℕ, ◌+◌, ◌^◌, ◌<◌, ◌≤◌, nat_lt, cond, List, [], ◌∷◌, ◌++◌, length, Option, None, Some, slice_get, slice_set}
use Rattle.rows.specs.Row.{Row, size}
use Rattle.row_bytes.specs.Rows.{HoldsRow, row_in, number_in}
use Rattle.common_lemmas.specs.Lists.{times}
use Rattle.key_table.specs.Table.{IsSpotFor}
use Rattle.key_table.specs.declared.entries.Spot.{Spot}
use Rattle.key_table.specs.Lazy.{Lazy, IsKeyed, StaysKeyed, rows_in}
use Rattle.regions.specs.Contents.{Item, size_of}
use Rattle.regions.specs.Stores.{Live}
use Rattle.regions.specs.declared.place.Place.{Place}
use Rattle.row_cache.specs.Rows.{key_at, row_kind}
use Rattle.row_cache.specs.declared.ends.Ends.{Ends}

-- the numbers of the rows, the one used last in front, which only contracts know, the ends of their chain, their places by
-- number, the numbers that were given back, the last one behind, and the index of the keys
pub record TableState : Type 0 where
  pub room : ℕ
  pub recency : List ℕ
  pub ends : Ends
  pub places : List Place
  pub freed : List ℕ
  pub index : Lazy

-- the item is a row with its number, and is read as this
pub record IsRowOf (item : Item) (n : ℕ) (row : Row) : Type 0 where
  pub kind : item.kind ≡ row_kind
  pub holds : HoldsRow item.content n row
  pub read : row_in item.content ≡ row
  pub number : number_in item.content ≡ n
  pub size : size_of item ≡ size row.key.bytes row.value

-- a row with the number stands at its place
pub record HasRow (live : Live) (places : List Place) (n : ℕ) : Type 0 where
  pub place : Place
  pub placed : slice_get places n ≡ Some place
  pub item : Item
  pub is_live : live place ≡ Some item
  pub row : Row
  pub is_row : IsRowOf item n row

-- the number is a row's
abbrev pub IsListed : TableState → ℕ → Type 0
IsListed t n = 1 ≤ times n t.recency

-- the place of a name, which is a row's number
abbrev pub place_of : TableState → ℕ → Option Place
place_of t n = cond (nat_lt 0 (times n t.recency)) (slice_get t.places n) None

-- the number of the next row: the one that was given back last, else the least that was never given
abbrev pub number_or : ℕ → Option ℕ → ℕ
number_or least None = least
number_or least (Some n) = n

abbrev pub next_number : TableState → ℕ
next_number t = number_or (length t.places) (last_or None t.freed)

-- the places once the number has that one
abbrev pub placed : ℕ → Place → List Place → List Place
placed n p places = cond (nat_lt n (length places)) (slice_set places n p) (places ++ p ∷ [])

-- the number is the last of the list
abbrev pub IsLast : ℕ → List ℕ → Type 0
IsLast n ns = last_or None ns ≡ Some n

-- each number that was ever given is a row's or was given back, once; the index has the rows' numbers, and stays that of their
-- keys wherever these are moved
pub record AreNumbers (t : TableState) : Type 0 where
  pub small : t.room < 2 ^ 32
  pub few : length t.places ≤ t.room
  pub given : (n : ℕ) → n < length t.places → times n t.recency + times n t.freed ≡ 1
  pub others : (n : ℕ) → length t.places ≤ n → times n t.recency + times n t.freed ≡ 0
  pub count : length t.recency + length t.freed ≡ length t.places
  pub room : t.index.room ≡ t.room
  pub indexed : (n : ℕ) → times n (rows_in t.index) ≡ times n t.recency
  pub index_count : length (rows_in t.index) ≡ length t.recency
  pub moves : StaysKeyed t.index

-- the tables are those of these live objects: each row stands at its place, each live object is a row, no two rows have
-- one key, and the index is one of their keys
pub record AreTablesOf (t : TableState) (live : Live) : Type 0 where
  pub numbers : AreNumbers t
  pub rows : (n : ℕ) → IsListed t n → HasRow live t.places n
  pub every : (p : Place) (i : Item) → live p ≡ Some i → (n : ℕ) × IsListed t n × (slice_get t.places n ≡ Some p)
  pub apart : (m n : ℕ) → IsListed t m → IsListed t n → key_at live t.places m ≡ key_at live t.places n → m ≡ n
  pub index : IsKeyed (key_at live t.places) t.index

-- one object more is live, or one less, or one instead of another
pub record Adds (p : Place) (item : Item) (old new : Live) : Type 0 where
  pub absent : old p ≡ None
  pub here : new p ≡ Some item
  pub others : (q : Place) → q ≢ p → new q ≡ old q

pub record Drops (p : Place) (old new : Live) : Type 0 where
  pub here : new p ≡ None
  pub others : (q : Place) → q ≢ p → new q ≡ old q

pub record Replaces (from to : Place) (item : Item) (old new : Live) : Type 0 where
  pub absent : old to ≡ None
  pub gone : new from ≡ None
  pub here : new to ≡ Some item
  pub others : (q : Place) → q ≢ from → q ≢ to → new q ≡ old q

-- the live object is a row
pub record HoldsARow (o : Option Item) : Type 0 where
  pub item : Item
  pub is : o ≡ Some item
  pub number : ℕ
  pub row : Row
  pub is_row : IsRowOf item number row

-- one row more is live
pub record PlacesRow (p : Place) (n : ℕ) (row : Row) (old new : Live) : Type 0 where
  pub item : Item
  pub is_row : IsRowOf item n row
  pub adds : Adds p item old new

-- a row is live instead of another object
pub record SwapsRow (from to : Place) (n : ℕ) (row : Row) (old new : Live) : Type 0 where
  pub item : Item
  pub is_row : IsRowOf item n row
  pub replaces : Replaces from to item old new

-- the live objects are those of the tables and a new row, whose key no other row has
pub record AddsRow (t : TableState) (there : Spot) (place : Place) (row : Row) (old new : Live) : Type 0 where
  pub tables : AreTablesOf t old
  pub item : Item
  pub is_row : IsRowOf item (next_number t) row
  pub adds : Adds place item old new
  pub absent : (n : ℕ) → IsListed t n → key_at old t.places n ≢ row.key
  pub at : IsSpotFor row.key there

-- the live objects are those of the tables and some new row
pub record AddsNewRow (t : TableState) (there : Spot) (place : Place) (new : Live) : Type 0 where
  pub row : Row
  pub old : Live
  pub adds : AddsRow t there place row old new

-- the live objects are those of the tables, but the row of a number stands elsewhere as another row of the same key
pub record ReplacesRow (t : TableState) (n : ℕ) (to : Place) (row : Row) (old new : Live) : Type 0 where
  pub tables : AreTablesOf t old
  pub item : Item
  pub is_row : IsRowOf item n row
  pub from : Place
  pub was : slice_get t.places n ≡ Some from
  pub replaces : Replaces from to item old new
  pub key : key_at old t.places n ≡ row.key

-- so they are for some row and some live objects before
pub record ReplacesSomeRow (t : TableState) (n : ℕ) (to : Place) (new : Live) : Type 0 where
  pub row : Row
  pub old : Live
  pub replaces : ReplacesRow t n to row old new
