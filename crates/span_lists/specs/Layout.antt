-- Spans of pages: the free ones, in one list for each order, and those that are allocated.
use Rattle.std.specs.Prelude.{◌≡◌, ◌≢◌, ℕ, ◌+◌, ◌*◌, ◌/◌, ◌<◌, ◌≤◌, ◌%◌, ◌^◌, ◌⊎◌, List, [], ◌∷◌, length, slice_get, slice_index_or, Option, Some, None, option_map, sum_by, refl}
use Rattle.std.specs.Ordering.{nat_cmp}
use Rattle.std.specs.FinMap as map
use Rattle.std.specs.Coded.{Coded, code_by, coded×, coded_ℕ, coded_list}
use Rattle.common_lemmas.specs.Lists.{times, delete}
use Rattle.layout.specs.Extents.{Blocks}
use Rattle.layout.specs.Sizes.{greatest_order, span_orders}
use Rattle.span_lists.specs.Buddies.{buddy}

-- free: the first pages of the free spans of each order, the span put there last in front. allocated: the order of each span that is allocated, by its first page
pub record Layout : Type 0 where
  pub pages : ℕ
  pub free : List (List ℕ)
  pub allocated : map.FinMap nat_cmp ℕ

-- a layout is stored as the tuple of its fields
abbrev pub layout_code : Coded Layout
layout_code =
    code_by (ℕ × (List (List ℕ) × map.FinMap nat_cmp ℕ)) (coded× coded_ℕ (coded× (coded_list (coded_list coded_ℕ)) (map.code coded_ℕ coded_ℕ)))
    (λ s. (s.pages, (s.free, s.allocated))) (λ p. record { pages = p.0; free = p.1.0; allocated = p.1.1 }) (λ _. refl)

-- the list of an order
abbrev pub free_at : Layout → ℕ → List ℕ
free_at s order = slice_index_or s.free order []

-- a free span of the order begins at the page
abbrev pub IsFree : Layout → ℕ → ℕ → Type 0
IsFree s first order = 1 ≤ times first (free_at s order)

-- a span of the order that is allocated begins at the page
abbrev pub IsAllocated : Layout → ℕ → ℕ → Type 0
IsAllocated s first order = map.get s.allocated first ≡ Some order

abbrev pub IsSpan : Layout → ℕ → ℕ → Type 0
IsSpan s first order = IsFree s first order ⊎ IsAllocated s first order

-- the pages of the allocated span at a page
abbrev pub pages_at : map.FinMap nat_cmp ℕ → ℕ → Option ℕ
pages_at allocated first = option_map (λ order. 2 ^ order) (map.get allocated first)

-- the free spans and the allocated ones divide the pages among them: each page lies in exactly one
pub record Divides (s : Layout) : Type 0 where
  pub orders : length s.free ≡ span_orders
  pub spans : (p k : ℕ) → IsSpan s p k → (k ≤ greatest_order) × (p % 2 ^ k ≡ 0) × (p + 2 ^ k ≤ s.pages)
  pub covered : (x : ℕ) → x < s.pages → (p : ℕ) × (k : ℕ) × IsSpan s p k × (p ≤ x) × (x < p + 2 ^ k)
  pub apart : (p q j k : ℕ) → IsSpan s p j → IsSpan s q k → p < q → p + 2 ^ j ≤ q
  pub one : (p j k : ℕ) → IsSpan s p j → IsSpan s p k → j ≡ k
  pub either : (p k : ℕ) → IsFree s p k → map.get s.allocated p ≡ None
  pub once : (p k : ℕ) → k < span_orders → times p (free_at s k) ≤ 1
  pub blocks : Blocks s.pages (pages_at s.allocated)

-- coalescing is complete: no two buddies of one order below the greatest are both free
abbrev pub IsCoalesced : Layout → Type 0
IsCoalesced s = (first order : ℕ) → order < greatest_order → IsFree s first order → ¬ IsFree s (buddy first order) order

-- the pages of the spans in lists, of which the first has the order
abbrev pub pages_from : ℕ → List (List ℕ) → ℕ
pages_from order [] = 0
pages_from order (firsts ∷ lists) = 2 ^ order * length firsts + pages_from (order + 1) lists

-- the sum of the free spans' lengths
abbrev pub free_pages : Layout → ℕ
free_pages s = pages_from 0 s.free

-- the sum of the allocated spans' lengths
abbrev pub allocated_pages : Layout → ℕ
allocated_pages s = sum_by (λ order. 2 ^ order) (map.values s.allocated)

-- no free span has the order or a greater one
abbrev pub HasNone : Layout → ℕ → Type 0
HasNone s order = (k : ℕ) → order ≤ k → k < span_orders → free_at s k ≡ []

-- a span of the order was cut from the first list that had one of it or above: the upper halves are on their lists, and no other list changed
pub record TakesFrom (old new : Layout) (order first : ℕ) : Type 0 where
  pub from : ℕ
  pub from_order : order ≤ from
  pub from_within : from < span_orders
  pub none_below : (k : ℕ) → order ≤ k → k < from → free_at old k ≡ []
  pub in_front : slice_get (free_at old from) 0 ≡ Some first
  pub source : free_at new from ≡ delete first (free_at old from)
  pub upper_halves : (k : ℕ) → order ≤ k → k < from → free_at new k ≡ (first + 2 ^ k) ∷ []
  pub lower : (k : ℕ) → k < order → free_at new k ≡ free_at old k
  pub upper : (k : ℕ) → from < k → free_at new k ≡ free_at old k

-- the first page of the aligned span of the order in which a page lies
abbrev pub span_start : ℕ → ℕ → ℕ
span_start page order = page / 2 ^ order * 2 ^ order

-- a span coalesced with its free buddies, order by order, as far as that goes; the span that they make is in front of its list, and no other list changed
pub record CoalescesInto (old new : Layout) (first order : ℕ) : Type 0 where
  pub to : ℕ
  pub to_order : order ≤ to
  pub to_within : to < span_orders
  pub coalesced : (k : ℕ) → order ≤ k → k < to → IsFree old (buddy (span_start first k) k) k
  pub buddies : (k : ℕ) → order ≤ k → k < to → free_at new k ≡ delete (buddy (span_start first k) k) (free_at old k)
  pub in_front : free_at new to ≡ span_start first to ∷ free_at old to
  pub lower : (k : ℕ) → k < order → free_at new k ≡ free_at old k
  pub upper : (k : ℕ) → to < k → free_at new k ≡ free_at old k

-- the first list that has a span of the order or above, and the span in front of it
pub record IsFirstOf (s : Layout) (order first from : ℕ) : Type 0 where
  pub from_order : order ≤ from
  pub from_within : from < span_orders
  pub none_below : (k : ℕ) → order ≤ k → k < from → free_at s k ≡ []
  pub in_front : slice_get (free_at s from) 0 ≡ Some first

-- a span of the order is free, and none of a greater one
pub record IsLargest (s : Layout) (order : ℕ) : Type 0 where
  pub within : order < span_orders
  pub some : free_at s order ≢ []
  pub none_above : HasNone s (order + 1)

-- no longer span that is aligned begins there and fits
abbrev pub IsGreatest : ℕ → ℕ → ℕ → Type 0
IsGreatest pages first order = (k : ℕ) → order < k → k ≤ greatest_order → first % 2 ^ k ≡ 0 → ¬ (first + 2 ^ k ≤ pages)

-- each aligned run of the order's length has a page of an allocated span
abbrev pub IsBlocked : Layout → ℕ → Type 0
IsBlocked s order = (start : ℕ) → start % 2 ^ order ≡ 0 → start + 2 ^ order ≤ s.pages
    → (page : ℕ) × (first : ℕ) × (k : ℕ) × (start ≤ page) × (page < start + 2 ^ order) × IsAllocated s first k × (first ≤ page) × (page < first + 2 ^ k)
