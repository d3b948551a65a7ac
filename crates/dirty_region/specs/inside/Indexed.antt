-- Which puts of a ring the index of keys has: of each key the newest one.
use Rattle.std.specs.Prelude.{◌≡◌, ◌≢◌, ◌↔◌, ℕ, ◌-◌, ◌<◌, ◌≤◌}
use Rattle.common_lemmas.specs.Lists.{times}
use Rattle.rows.specs.Key.{Key}
use Rattle.dirty_region.specs.inside.PutRows.{PutRows, Has, IsKeyed, rows_in}
use Rattle.regions.specs.Stores.{Live}
use Rattle.dirty_region.specs.inside.Rings.{RingState, slot, key_at}

-- the key of the put with so many older ones
abbrev pub nth_key : RingState → Live → ℕ → Key
nth_key r live k = key_at live r.places (slot r k)

-- no newer put has its key
abbrev pub IsNewest : RingState → Live → ℕ → Type 0
IsNewest r live k = (j : ℕ) → k < j → j < r.count → nth_key r live j ≢ nth_key r live k

-- of the puts from one up to another the index has those of which this holds, and no other row
pub record HasThose (r : RingState) (from to : ℕ) (Holds : ℕ → Type 0) (index : PutRows) : Type 0 where
  pub only : (n : ℕ) → Has index n → (k : ℕ) × (from ≤ k) × (k < to) × (n ≡ slot r k)
  pub those : (k : ℕ) → from ≤ k → k < to → Has index (slot r k) ↔ Holds k

-- the index is the one of these puts and their keys, and has each row once
pub record IsKeyedBy (r : RingState) (live : Live) (from to : ℕ) (Holds : ℕ → Type 0) (index : PutRows) : Type 0 where
  pub room : index.room ≡ r.room
  pub keyed : IsKeyed (key_at live r.places) index
  pub once : (n : ℕ) → times n (rows_in index) ≤ 1
  pub has : HasThose r from to Holds index

-- the index is the one of the ring: it has of each key the newest put
abbrev pub IsIndexOf : RingState → Live → PutRows → Type 0
IsIndexOf r live index = IsKeyedBy r live 0 r.count (IsNewest r live) index

-- the same, but for the oldest put, and but for the newest one
abbrev pub IsIndexBehind : RingState → Live → PutRows → Type 0
IsIndexBehind r live index = IsKeyedBy r live 1 r.count (IsNewest r live) index

abbrev pub IsIndexBefore : RingState → Live → PutRows → Type 0
IsIndexBefore r live index = IsKeyedBy r live 0 (r.count - 1) (IsNewest r live) index

-- the same, but for the puts of a key
abbrev pub IsIndexBut : Key → RingState → Live → PutRows → Type 0
IsIndexBut key r live index = IsKeyedBy r live 0 r.count (λ k. IsNewest r live k × (nth_key r live k ≢ key)) index
