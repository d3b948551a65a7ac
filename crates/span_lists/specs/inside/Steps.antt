-- What the spans have become part of the way through a request, and part of the way through giving a span back.
use Rattle.std.specs.Prelude.{◌≡◌, ℕ, ◌+◌, ◌%◌, ◌<◌, ◌≤◌, ◌^◌, ◌∷◌, None}
use Rattle.std.specs.FinMap as map
use Rattle.common_lemmas.specs.Lists.{delete}
use Rattle.layout.specs.Sizes.{greatest_order, span_orders}
use Rattle.span_lists.specs.Buddies.{buddy}
use Rattle.span_lists.specs.Layout.{Layout, free_at, IsFree, Divides, IsCoalesced, span_start}

-- an allocated span with the order `from` has been split down to the order `at`
pub record IsSplitTo (old now : Layout) (first from at : ℕ) : Type 0 where
  pub pages : now.pages ≡ old.pages
  pub allocated : now.allocated ≡ map.insert old.allocated first at
  pub upper_halves : (k : ℕ) → at ≤ k → k < from → free_at now k ≡ (first + 2 ^ k) ∷ free_at old k
  pub lower : (k : ℕ) → k < at → free_at now k ≡ free_at old k
  pub upper : (k : ℕ) → from ≤ k → free_at now k ≡ free_at old k
  pub divided : Divides now
  pub coalesced : IsCoalesced now

-- an allocated span has been coalesced with free buddies up to the order `to`, and the span that they make is allocated
pub record IsCoalescedTo (old now : Layout) (first order at to : ℕ) : Type 0 where
  pub pages : now.pages ≡ old.pages
  pub to_order : order ≤ to
  pub to_within : to < span_orders
  pub start : at ≡ span_start first to
  pub allocated : now.allocated ≡ map.insert (map.remove old.allocated first) at to
  pub none : map.get (map.remove old.allocated first) at ≡ None
  pub were_free : (k : ℕ) → order ≤ k → k < to → IsFree old (buddy (span_start first k) k) k
  pub buddies : (k : ℕ) → order ≤ k → k < to → free_at now k ≡ delete (buddy (span_start first k) k) (free_at old k)
  pub lower : (k : ℕ) → k < order → free_at now k ≡ free_at old k
  pub upper : (k : ℕ) → to ≤ k → free_at now k ≡ free_at old k

-- a span of the order may begin at the page
abbrev pub MayBegin : ℕ → ℕ → Type 0
MayBegin first order = (order ≤ greatest_order) × (first % 2 ^ order ≡ 0)
