-- Rows in the order of their keys.
use Rattle.std.specs.Prelude.{◌≡◌, ℕ, List, [], ◌∷◌, ◌++◌, filter}
use Rattle.std.specs.Ordering.{is_le}
use Rattle.std.specs.declared.cmp.Ordering.{Ordering}
use Rattle.std.specs.declared.cmp.Ordering.TheVariants.{Less}
use Rattle.rows.specs.Key.{Key}
use Rattle.rows.specs.Key as keys

-- keys by rising table, and within a table by their bytes
unfoldable pub key_cmp : Key → Key → Ordering
key_cmp a b = keys.key_cmp a b

-- what holds of each row
abbrev pub Each : (ℕ → Type 0) → List ℕ → Type 0
Each P [] = Unit {0}
Each P (row ∷ rows) = P row × Each P rows

-- the keys of these rows are above a key
abbrev pub AreAbove : (ℕ → Key) → Key → List ℕ → Type 0
AreAbove key_of key rows = Each (λ row. key_cmp key (key_of row) ≡ Less) rows

-- the keys of these rows are below a key
abbrev pub AreBelow : (ℕ → Key) → Key → List ℕ → Type 0
AreBelow key_of key rows = Each (λ row. key_cmp (key_of row) key ≡ Less) rows

-- each row's key is below the keys of the rows after it
abbrev pub AreRising : (ℕ → Key) → List ℕ → Type 0
AreRising key_of [] = Unit {0}
AreRising key_of (row ∷ rows) = AreAbove key_of (key_of row) rows × AreRising key_of rows

-- those of some rows whose keys are at or above a key
abbrev pub rows_from : (ℕ → Key) → Key → List ℕ → List ℕ
rows_from key_of key rows = filter (λ row. is_le (key_cmp key (key_of row))) rows

-- a row is put in between those whose keys are below its own and those whose keys are above
pub record PutsIn (key_of : ℕ → Key) (row : ℕ) (before after : List ℕ) : Type 0 where
  pub front : List ℕ
  pub back : List ℕ
  pub were : before ≡ front ++ back
  pub are : after ≡ front ++ row ∷ back
  pub below : AreBelow key_of (key_of row) front
  pub above : AreAbove key_of (key_of row) back

-- a row is taken out, and the others keep their order
pub record TakesOut (row : ℕ) (before after : List ℕ) : Type 0 where
  pub front : List ℕ
  pub back : List ℕ
  pub were : before ≡ front ++ row ∷ back
  pub are : after ≡ front ++ back
