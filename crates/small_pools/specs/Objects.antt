-- Small objects, and the spans that the pools hold for them.
use Rattle.std.specs.Prelude.{◌≡◌, ◌⊎◌, ℕ, ◌+◌, ◌*◌, ◌<◌, ◌≤◌, ◌^◌, Some, None, refl}
use Rattle.std.specs.Ordering.{nat_cmp}
use Rattle.std.specs.FinMap as map
use Rattle.std.specs.Coded.{Coded, code_by, coded×, coded_ℕ}
use Rattle.layout.specs.Sizes.{page}
use Rattle.layout.specs.Extents.{Blocks}
use Rattle.span_lists.specs.Layout.{Layout, IsAllocated, HasNone}
use Rattle.small_pools.specs.Classes.{size_of, order_of, capacity_of, IsClass}

-- held: the class of each span that the pools hold, by its first page. allocated: the size of each allocated object, by its first byte
pub record Objects : Type 0 where
  pub pages : ℕ
  pub held : map.FinMap nat_cmp ℕ
  pub allocated : map.FinMap nat_cmp ℕ

-- objects are stored as the tuple of the fields
abbrev pub objects_code : Coded Objects
objects_code =
    code_by (ℕ × (map.FinMap nat_cmp ℕ × map.FinMap nat_cmp ℕ)) (coded× coded_ℕ (coded× (map.code coded_ℕ coded_ℕ) (map.code coded_ℕ coded_ℕ)))
    (λ s. (s.pages, (s.held, s.allocated))) (λ p. record { pages = p.0; held = p.1.0; allocated = p.1.1 }) (λ _. refl)

-- a span of the class is held, and begins at the page
abbrev pub IsHeld : Objects → ℕ → ℕ → Type 0
IsHeld s first class = map.get s.held first ≡ Some class

-- where the objects of a span stand
abbrev pub slot_place : ℕ → ℕ → ℕ → ℕ
slot_place first class slot = page * first + slot * size_of class

-- a span has an allocated object; a span has a free one
abbrev pub HasObject : Objects → ℕ → ℕ → Type 0
HasObject s first class = (slot : ℕ) × (slot < capacity_of class) × (map.get s.allocated (slot_place first class slot) ≡ Some (size_of class))

abbrev pub HasRoom : Objects → ℕ → ℕ → Type 0
HasRoom s first class = (slot : ℕ) × (slot < capacity_of class) × (map.get s.allocated (slot_place first class slot) ≡ None)

-- the class has no free object
abbrev pub IsUsedUp : Objects → ℕ → Type 0
IsUsedUp s class = (first slot : ℕ) → IsHeld s first class → slot < capacity_of class → map.get s.allocated (slot_place first class slot) ≡ Some (size_of class)

-- each span that the pools hold has an allocated object
abbrev pub AreUsed : Objects → Type 0
AreUsed s = (first class : ℕ) → IsHeld s first class → HasObject s first class

-- no object of the class can be taken: it has no free one, and no span of its order is free
abbrev pub LacksObject : Objects → Layout → ℕ → Type 0
LacksObject s spans class = IsUsedUp s class × HasNone spans (order_of class)

-- an object stands in a slot of a span of its class, and within the pages of the span
pub record IsObject (s : Objects) (place size : ℕ) : Type 0 where
  pub first : ℕ
  pub class : ℕ
  pub slot : ℕ
  pub held : IsHeld s first class
  pub in_slot : slot < capacity_of class
  pub at : place ≡ slot_place first class slot
  pub size_is : size ≡ size_of class
  pub from : page * first ≤ place
  pub to : place + size ≤ page * (first + 2 ^ order_of class)

-- the allocated objects are disjoint, and each stands in a slot of a span of its class; the spans are disjoint too
pub record AreObjects (s : Objects) : Type 0 where
  pub blocks : Blocks (page * s.pages) (map.get s.allocated)
  pub slots : (place size : ℕ) → map.get s.allocated place ≡ Some size → IsObject s place size
  pub spans : (first class : ℕ) → IsHeld s first class → IsClass class × (first + 2 ^ order_of class ≤ s.pages)
  pub apart : (p q c d : ℕ) → IsHeld s p c → IsHeld s q d → p < q → p + 2 ^ order_of c ≤ q

-- each span that the pools hold is allocated with its order
pub record AreHeldIn (s : Objects) (spans : Layout) : Type 0 where
  pub pages : spans.pages ≡ s.pages
  pub allocated : (first class : ℕ) → IsHeld s first class → IsAllocated spans first (order_of class)

-- the pools hold what they held, or, where the class had no free object, one span more of its order
abbrev pub HoldsFor : Objects → Objects → Layout → Layout → ℕ → Type 0
HoldsFor old new spans spans' class =
    ((new.held ≡ old.held) × (spans' ≡ spans))
    ⊎ (IsUsedUp old class × ((first : ℕ) × (new.held ≡ map.insert old.held first class) × (spans'.allocated ≡ map.insert spans.allocated first (order_of class)) × (map.get old.held first ≡ None) × (map.get spans.allocated first ≡ None)))

-- some spans without an allocated object were let go and given back to the pages; nothing else changed
pub record Trims (old new : Objects) (spans spans' : Layout) : Type 0 where
  pub pages : new.pages ≡ old.pages
  pub allocated : new.allocated ≡ old.allocated
  pub kept : (first class : ℕ) → IsHeld new first class → IsHeld old first class
  pub left : (first class : ℕ) → IsHeld old first class → HasObject old first class → IsHeld new first class
  pub given : (first class : ℕ) → IsHeld old first class → map.get new.held first ≡ None → map.get spans'.allocated first ≡ None
  pub others : (first : ℕ) → map.get old.held first ≡ None → map.get spans'.allocated first ≡ map.get spans.allocated first

-- what could be taken still can, objects and spans
pub record KeepsRoom (old new : Objects) (spans spans' : Layout) : Type 0 where
  pub classes : (class : ℕ) → LacksObject new spans' class → LacksObject old spans class
  pub orders : (order : ℕ) → HasNone spans' order → HasNone spans order
