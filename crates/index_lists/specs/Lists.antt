-- Lists of indices, each index in one list at most.
use Rattle.std.specs.Prelude.{◌≡◌, ℕ, ◌<◌, ◌==◌, if◌then◌else◌, List, [], ◌∷◌, length, slice_index_or, slice_set, slice_get, Option, Some, None}
use Rattle.common_lemmas.specs.Lists.{times}

-- the lists of indices below a number
pub record Lists : Type 0 where
  pub indices : ℕ
  pub lists : List (List ℕ)

-- the list of a number
abbrev pub list_at : Lists → ℕ → List ℕ
list_at s k = slice_index_or s.lists k []

-- the lists with another list at a number
abbrev pub with_list : Lists → ℕ → List ℕ → Lists
with_list s k xs = record { indices = s.indices; lists = slice_set s.lists k xs }

-- no list has the index
abbrev pub IsAbsent : Lists → ℕ → Type 0
IsAbsent s x = (k : ℕ) → k < length s.lists → times x (list_at s k) ≡ 0

-- what stands behind an index in a list, and before it
abbrev pub after : ℕ → List ℕ → Option ℕ
after x [] = None
after x (y ∷ ys) = if y == x then slice_get ys 0 else after x ys

abbrev pub before_from : Option ℕ → ℕ → List ℕ → Option ℕ
before_from p x [] = None
before_from p x (y ∷ ys) = if y == x then p else before_from (Some y) x ys

abbrev pub before : ℕ → List ℕ → Option ℕ
before x xs = before_from None x xs
