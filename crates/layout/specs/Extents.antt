-- Extents of memory, and when they are disjoint.
use Rattle.std.specs.Prelude.{◌≡◌, ◌≢◌, ℕ, ◌+◌, ◌<◌, ◌≤◌, ◌⊎◌, List, All, AllPairs, Option, Some, refl}
use Rattle.std.specs.Coded.{Coded, code_by, coded×, coded_ℕ}

-- `len` bytes or pages, of which the first has the number `start`
pub record Extent : Type 0 where
  pub start : ℕ
  pub len : ℕ

abbrev pub extent : ℕ → ℕ → Extent
extent start len = record { start = start; len = len }

-- nothing lies in both
abbrev pub Disjoint : Extent → Extent → Type 0
Disjoint a b = (a.start + a.len ≤ b.start) ⊎ (b.start + b.len ≤ a.start)

-- it is not empty, and ends within the first `size`
abbrev pub IsWithin : ℕ → Extent → Type 0
IsWithin size a = (0 < a.len) × (a.start + a.len ≤ size)

-- the extents lie within the first `size`, and each two are disjoint
abbrev pub AreDisjoint : ℕ → List Extent → Type 0
AreDisjoint size extents = All (IsWithin size) extents × AllPairs Disjoint extents

-- blocks of memory, a map from start to length: each lies within the first `size`, and each two are disjoint
pub record Blocks (size : ℕ) (length_at : ℕ → Option ℕ) : Type 0 where
  pub within : (start len : ℕ) → length_at start ≡ Some len → IsWithin size (extent start len)
  pub disjoint : (p q m n : ℕ) → length_at p ≡ Some m → length_at q ≡ Some n → p ≢ q → Disjoint (extent p m) (extent q n)

-- an extent is stored as the pair of its fields
abbrev pub extent_code : Coded Extent
extent_code = code_by (ℕ × ℕ) (coded× coded_ℕ coded_ℕ) (λ a. (a.start, a.len)) (λ t. extent t.0 t.1) (λ _. refl)
