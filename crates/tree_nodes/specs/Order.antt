-- The entries of a node, in the order of their keys.
use Rattle.std.specs.Prelude.{◌≡◌, ℕ, List, [], ◌∷◌, All, count_by}
use Rattle.std.specs.Ordering.{nat_cmp, is_lt}
use Rattle.std.specs.Cmp.Lexicographic.{slice_cmp}
use Rattle.std.specs.declared.cmp.Ordering.{Ordering}
use Rattle.std.specs.declared.cmp.Ordering.TheVariants.{Less}

-- the bytes of a node's content
abbrev pub node_size : ℕ
node_size = 4384

pub record Entry : Type 0 where
  pub key : List ℕ
  pub number : ℕ

-- keys in the order of their bytes
unfoldable pub key_cmp : List ℕ → List ℕ → Ordering
key_cmp a b = slice_cmp nat_cmp a b

abbrev pub IsBelow : List ℕ → List ℕ → Type 0
IsBelow a b = key_cmp a b ≡ Less

-- the key of each entry is below those of the entries after it
abbrev pub AreRising : List Entry → Type 0
AreRising [] = Unit {0}
AreRising (entry ∷ entries) = All (λ later. IsBelow entry.key later.key) entries × AreRising entries

-- how many entries have keys below a key
abbrev pub count_below : List Entry → List ℕ → ℕ
count_below entries key = count_by (λ entry. is_lt (key_cmp entry.key key)) entries
