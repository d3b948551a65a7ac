-- The keys of rows.
use Rattle.std.specs.Prelude.{ℕ, ◌==◌, ◌&&◌, Bool, List}
use Rattle.std.specs.Ordering.{nat_cmp, on, then_cmp}
use Rattle.std.specs.Cmp.Lexicographic.{slice_cmp}
use Rattle.std.specs.Str.{bytes_eq}
use Rattle.std.specs.declared.cmp.Ordering.{Ordering}
use Rattle.rows.specs.declared.key.Key.{Key as Shown}

-- a key is bytes in a table: two rows may have the same bytes in two tables
pub record Key : Type 0 where
  pub table : ℕ
  pub bytes : List ℕ

abbrev pub in_table : ℕ → List ℕ → Key
in_table table bytes = record { table = table; bytes = bytes }

-- a key of the code
abbrev pub key_shown : Shown → Key
key_shown key = in_table key.table key.bytes.now

-- both are one key: the same bytes in the same table
abbrev pub is_same_key : Key → Key → Bool
is_same_key a b = (a.table == b.table) && bytes_eq a.bytes b.bytes

-- keys by rising table, and within a table by their bytes
abbrev pub key_cmp : Key → Key → Ordering
key_cmp = then_cmp (on (λ (key : Key). key.table) nat_cmp) (on (λ (key : Key). key.bytes) (slice_cmp nat_cmp))
