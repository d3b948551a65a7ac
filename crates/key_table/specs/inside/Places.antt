-- Where numbers stand.
use Rattle.std.specs.Prelude.{◌≡◌, ℕ, ◌<◌, ◌≤◌, List, length, slice_index}

-- each number stands at its place; no call needs more memory
pub record ArePlaced (bound : ℕ) (numbers places : List ℕ) (numbers_cap places_cap : ℕ) : Type 0 where
  pub placed : (k : ℕ) → k < length numbers → slice_index numbers k < length places
  pub at : (k : ℕ) → k < length numbers → slice_index places (slice_index numbers k) ≡ k
  pub few : length places ≤ bound
  pub numbers_fit : bound ≤ numbers_cap
  pub places_fit : bound ≤ places_cap
