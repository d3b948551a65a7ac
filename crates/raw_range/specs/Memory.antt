-- What contracts see of a range and of a piece.
use Rattle.std.specs.Prelude.{ℕ, ◌+◌, List, ◌++◌, length, take, drop, filter, not, ◌==◌, refl}
use Rattle.std.specs.Coded.{Coded, code_by, coded×, coded_list, coded_ℕ}
use denote.RawPtr.{Ptr, coded_ptr}
use Rattle.layout.specs.Extents.{Extent, extent, extent_code}

-- a range: `home` tells it from each other range, `allocated` are the extents of its pieces, in bytes, and `bytes`
-- are its bytes, where those of a piece are as they were when it was taken
pub record Memory : Type 0 where
  pub home : Ptr
  pub owner : ℕ
  pub pages : ℕ
  pub allocated : List Extent
  pub bytes : List ℕ

-- a piece of the range with that home: its bytes, of which the first is the byte `at` of the range
pub record Lent : Type 0 where
  pub home : Ptr
  pub owner : ℕ
  pub at : ℕ
  pub bytes : List ℕ

-- where a piece lies, whatever its bytes are: its range, the range's owner, its first byte there, and how many bytes it has
pub record PieceSite : Type 0 where
  pub home : Ptr
  pub owner : ℕ
  pub at : ℕ
  pub len : ℕ

abbrev pub site_of : Lent → PieceSite
site_of p = record { home = p.home; owner = p.owner; at = p.at; len = length p.bytes }

-- where a piece belongs
abbrev pub extent_of : Lent → Extent
extent_of p = extent p.at (length p.bytes)

-- the range with those extents allocated and those bytes
abbrev pub with_allocated : Memory → List Extent → List ℕ → Memory
with_allocated m allocated bytes = record m { allocated = allocated; bytes = bytes }

-- the extents that begin elsewhere
abbrev pub remove_extent : Extent → List Extent → List Extent
remove_extent a extents = filter (λ b. not (b.start == a.start)) extents

-- the bytes, with ws in them from the byte `at` on
abbrev pub written : List ℕ → ℕ → List ℕ → List ℕ
written bytes at ws = take at bytes ++ (ws ++ drop (at + length ws) bytes)

-- these are stored as the tuples of their fields
abbrev pub memory_code : Coded Memory
memory_code =
    code_by (Ptr × (ℕ × (ℕ × (List Extent × List ℕ)))) (coded× coded_ptr (coded× coded_ℕ (coded× coded_ℕ (coded× (coded_list extent_code) (coded_list coded_ℕ)))))
    (λ m. (m.home, (m.owner, (m.pages, (m.allocated, m.bytes)))))
    (λ t. record { home = t.0; owner = t.1.0; pages = t.1.1.0; allocated = t.1.1.1.0; bytes = t.1.1.1.1 }) (λ _. refl)

abbrev pub lent_code : Coded Lent
lent_code =
    code_by (Ptr × (ℕ × (ℕ × List ℕ))) (coded× coded_ptr (coded× coded_ℕ (coded× coded_ℕ (coded_list coded_ℕ))))
    (λ p. (p.home, (p.owner, (p.at, p.bytes)))) (λ t. record { home = t.0; owner = t.1.0; at = t.1.1.0; bytes = t.1.1.1 }) (λ _. refl)

abbrev pub site_code : Coded PieceSite
site_code =
    code_by (Ptr × (ℕ × (ℕ × ℕ))) (coded× coded_ptr (coded× coded_ℕ (coded× coded_ℕ coded_ℕ))) (λ p. (p.home, (p.owner, (p.at, p.len))))
    (λ t. record { home = t.0; owner = t.1.0; at = t.1.1.0; len = t.1.1.1 }) (λ _. refl)
