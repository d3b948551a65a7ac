-- Allocated objects, by their places.
use Rattle.std.specs.Prelude.{◌≢◌, ℕ, ◌<◌, List, length, slice_index, IsSome}
use Rattle.std.specs.Ordering.{nat_cmp}
use Rattle.std.specs.FinMap as map

-- each place is allocated, and no two are one
pub record AreLive (allocated : map.FinMap nat_cmp ℕ) (places : List ℕ) : Type 0 where
  pub allocated_at : (i : ℕ) → i < length places → IsSome (map.get allocated (slice_index places i))
  pub distinct : (i j : ℕ) → i < length places → j < length places → i ≢ j → slice_index places i ≢ slice_index places j
