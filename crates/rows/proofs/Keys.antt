-- Keys that are the same.
use Rattle.std.proofs.Common.{◌≡◌, eqb, bytes_eq, ap, ap₂}
use Rattle.std.specs.Bool.{Decides}
use Rattle.std.proofs.lemmas.Bool.Decides.{Decides-eqb, Decides-and, Decides-like}
use Rattle.std.proofs.lemmas.Slice.Eq.{bytes_eq-Decides}
use Rattle.rows.specs.Key.{Key, in_table, is_same_key}

-- keys of one table with the same bytes are one key
pub one_key : (a b : Key) → a.table ≡ b.table → a.bytes ≡ b.bytes → a ≡ b
one_key a b tables bytes = ap₂ in_table tables bytes

pub is_same_key-Decides : (a b : Key) → Decides (is_same_key a b) (a ≡ b)
is_same_key-Decides a b =
    Decides-like (is_same_key a b) (λ (same : (a.table ≡ b.table) × (a.bytes ≡ b.bytes)). one_key a b same.0 same.1)
    (λ same. (ap (λ (key : Key). key.table) same, ap (λ (key : Key). key.bytes) same))
    (Decides-and (eqb a.table b.table) (bytes_eq a.bytes b.bytes) (Decides-eqb a.table b.table) (bytes_eq-Decides a.bytes b.bytes))
