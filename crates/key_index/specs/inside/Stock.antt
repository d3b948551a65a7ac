-- How blocks stand in a store.
use Rattle.std.specs.Prelude.{◌≡◌, ℕ, ◌+◌, ◌<◌, ◌≤◌, ◌==◌, if◌then◌else◌, List, [], ◌∷◌, length, map, take, slice_index_or, All}
use Rattle.key_index.specs.declared.entries.Entry.{Entry}
use Rattle.key_index.specs.declared.blocks.Slot.{Slot}
use Rattle.key_index.specs.inside.Sizes.{block_room}

-- blocks in order, and how many there may be at most
pub record Stock : Type 0 where
  pub contents : List (List Entry)
  pub most : ℕ

-- the entries of a block that stands so, and of all blocks in their order
abbrev pub block_of : List (List Entry) → Slot → List Entry
block_of store slot = take slot.len (slice_index_or store slot.at [])

abbrev pub standing : List (List Entry) → List Slot → List (List Entry)
standing store order = map (λ slot. block_of store slot) order

-- 1 if two places are one, else 0
abbrev pub same : ℕ → ℕ → ℕ
same p q = if p == q then 1 else 0

-- how often blocks stand at a place, and how often it is among some places
abbrev pub uses : ℕ → List Slot → ℕ
uses p [] = 0
uses p (slot ∷ order) = same p slot.at + uses p order

abbrev pub times : ℕ → List ℕ → ℕ
times p [] = 0
times p (q ∷ places) = same p q + times p places

-- a block stands in a store
abbrev pub Stands : List (List Entry) → Slot → Type 0
Stands store slot = (slot.at < length store) × (slot.len ≤ block_room)

-- each place in a store has room for a block, and either one block stands there or it is free
pub record AreStocked (store : List (List Entry)) (order : List Slot) (free : List ℕ) : Type 0 where
  pub whole : All (λ block. length block ≡ block_room) store
  pub stand : All (Stands store) order
  pub inside : All (λ p. p < length store) free
  pub once : (p : ℕ) → uses p order + times p free ≤ 1
  pub count : length order + length free ≡ length store

-- and all that may ever be needed is reserved, so that no call takes memory
pub record AreHeld (store : List (List Entry)) (order : List Slot) (free : List ℕ) (most store_cap order_cap free_cap : ℕ) : Type 0 where
  pub stocked : AreStocked store order free
  pub within : length store ≤ most
  pub store_fits : most ≤ store_cap
  pub order_fits : most ≤ order_cap
  pub free_fits : most ≤ free_cap
