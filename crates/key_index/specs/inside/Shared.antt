-- First bytes that keys share, of which the table is the first.
use Rattle.std.specs.Prelude.{◌≡◌, ℕ, ◌≤◌, ◌⊎◌, false, List, ◌∷◌, length, take}
use Rattle.std.specs.Ordering.{is_gt}
use Rattle.rows.specs.Key.{Key}
use Rattle.key_index.specs.Order.{key_cmp, Each}

-- a key as one list, with the table in front
abbrev pub coded : Key → List ℕ
coded key = key.table ∷ key.bytes

-- two lists have so many bytes, and the same
pub record HaveSame (count : ℕ) (a b : List ℕ) : Type 0 where
  pub in_first : count ≤ length a
  pub in_second : count ≤ length b
  pub same : take count a ≡ take count b

-- two keys have so many bytes, and the same
pub record Share (count : ℕ) (a b : Key) : Type 0 where
  pub in_first : count ≤ length (coded a)
  pub in_second : count ≤ length (coded b)
  pub same : take count (coded a) ≡ take count (coded b)

-- none of these keys is above one, or below it
abbrev pub AreAtMost : (ℕ → Key) → Key → List ℕ → Type 0
AreAtMost key_of key rows = Each (λ row. is_gt (key_cmp (key_of row) key) ≡ false) rows

abbrev pub AreNotBelow : (ℕ → Key) → Key → List ℕ → Type 0
AreNotBelow key_of key rows = Each (λ row. is_gt (key_cmp key (key_of row)) ≡ false) rows

-- some row below which neither a key nor these rows are, and which shares so many bytes with the key; where it shares none, no row is needed
abbrev pub IsLowBound : (ℕ → Key) → Key → List ℕ → ℕ → Type 0
IsLowBound key_of key rows count =
    (count ≡ 0) ⊎ ((low : ℕ) × AreNotBelow key_of (key_of low) rows × (is_gt (key_cmp (key_of low) key) ≡ false) × Share count (key_of low) key)

-- the same of a row above which they are not
abbrev pub IsHighBound : (ℕ → Key) → Key → List ℕ → ℕ → Type 0
IsHighBound key_of key rows count =
    (count ≡ 0) ⊎ ((high : ℕ) × AreAtMost key_of (key_of high) rows × (is_gt (key_cmp key (key_of high)) ≡ false) × Share count (key_of high) key)
