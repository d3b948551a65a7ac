-- How the objects stand in tables of pages.
use Rattle.std.specs.Prelude.{◌≡◌, ◌≢◌, ℕ, zero, suc, ◌+◌, ◌-◌, ◌*◌, ◌/◌, ◌<◌, ◌≤◌, ◌^◌, ◌==◌, ◌&&◌, nat_lt, if◌then◌else◌, List, length, slice_index, slice_index_or, Option, Some, None}
use Rattle.std.specs.Ordering.{nat_cmp}
use Rattle.std.specs.FinMap as map
use Rattle.std.specs.Int.{bit_at}
use Rattle.layout.specs.Sizes.{page, most_pages}
use Rattle.index_lists.specs.Lists.{Lists, list_at}
use Rattle.common_lemmas.specs.Lists.{times}
use Rattle.small_pools.specs.Classes.{size_of, order_of, capacity_of}
use Rattle.small_pools.specs.Objects.{Objects, slot_place}

-- classes: of each page the class of the span that begins there. firsts: of each page of a span that is held, the span's first page.
-- masks: of each span the free slots, as bits. lists: of each class the spans with a free slot
pub record Tables : Type 0 where
  pub pages : ℕ
  pub classes : List (Option ℕ)
  pub firsts : List ℕ
  pub masks : List ℕ
  pub lists : Lists

abbrev pub class_at : Tables → ℕ → Option ℕ
class_at t first = slice_index_or t.classes first None

abbrev pub first_of : Tables → ℕ → ℕ
first_of t x = slice_index t.firsts x

abbrev pub mask_at : Tables → ℕ → ℕ
mask_at t first = slice_index t.masks first

-- what is allocated at a place of the span that begins at a page and has these free slots
abbrev pub object_in : ℕ → ℕ → ℕ → Option ℕ → Option ℕ
object_in mask place first None = None
object_in mask place first (Some class) =
    let slot = (place - page * first) / size_of class in
    if (slot_place first class slot == place) && (nat_lt slot (capacity_of class) && (bit_at mask slot == 0)) then Some (size_of class) else None

abbrev pub object_at : Tables → ℕ → Option ℕ
object_at t place = let first = first_of t (place / page) in object_in (mask_at t first) place first (class_at t first)

-- a map with what there is for a key
abbrev pub with_entry : map.FinMap nat_cmp ℕ → ℕ → Option ℕ → map.FinMap nat_cmp ℕ
with_entry m k None = m
with_entry m k (Some v) = map.insert m k v

-- the map of what a function has below a number
unfoldable pub map_below : ℕ → (ℕ → Option ℕ) → map.FinMap nat_cmp ℕ
map_below zero f = map.empty
map_below (suc n) f = with_entry (map_below n f) n (f n)

-- what callers see
abbrev pub objects_of : Tables → Objects
objects_of t = record { pages = t.pages; held = map_below t.pages (class_at t); allocated = map_below (page * t.pages) (object_at t) }

-- the list on which a span of a class stands by its free slots: none where it is full
abbrev pub list_of : Option ℕ → ℕ → Option ℕ
list_of None mask = None
list_of (Some class) mask = if mask == 0 then None else Some class

abbrev pub stands_on : Option ℕ → ℕ → ℕ
stands_on None list = 0
stands_on (Some here) list = if here == list then 1 else 0

-- the lists are those in which one index stands on another list, or on none
pub record IsRelisted (old new : Lists) (index : ℕ) (to : Option ℕ) : Type 0 where
  pub stands : (list : ℕ) → list < length new.lists → times index (list_at new list) ≡ stands_on to list
  pub others : (list other : ℕ) → other ≢ index → times other (list_at new list) ≡ times other (list_at old list)
  pub indices : new.indices ≡ old.indices
  pub lists : length new.lists ≡ length old.lists

-- the tables go together
pub record IsConsistent (t : Tables) : Type 0 where
  pub small : t.pages ≤ most_pages
  pub classes_len : length t.classes ≡ t.pages
  pub firsts_len : length t.firsts ≡ t.pages
  pub masks_len : length t.masks ≡ t.pages
  pub indices : t.lists.indices ≡ t.pages
  pub lists_len : length t.lists.lists ≡ 37
  pub spans : (first class : ℕ) → class_at t first ≡ Some class → (class < 37) × (first + 2 ^ order_of class ≤ t.pages)
  pub apart : (p q c d : ℕ) → class_at t p ≡ Some c → class_at t q ≡ Some d → p < q → p + 2 ^ order_of c ≤ q
  pub owners : (first class x : ℕ) → class_at t first ≡ Some class → first ≤ x → x < first + 2 ^ order_of class → first_of t x ≡ first
  pub within : (first class slot : ℕ) → class_at t first ≡ Some class → capacity_of class ≤ slot → bit_at (mask_at t first) slot ≡ 0
  pub listed : (list x : ℕ) → list < 37 → times x (list_at t.lists list) ≡ stands_on (list_of (class_at t x) (mask_at t x)) list

-- the pages of each span that is held are below a number
abbrev pub HoldsBelow : List (Option ℕ) → ℕ → Type 0
HoldsBelow classes end = (first class : ℕ) → slice_index_or classes first None ≡ Some class → first + 2 ^ order_of class ≤ end

-- the entries of the pages of each span that is held are written in the three tables, of which so many are
pub record AreWritten (held : List (Option ℕ)) (classes firsts masks : ℕ) : Type 0 where
  pub classes_written : HoldsBelow held classes
  pub firsts_written : HoldsBelow held firsts
  pub masks_written : HoldsBelow held masks
