-- What laws of rows say, as lemmas here take them. Each is the contract of a function of the crate `rows`.
use Rattle.std.proofs.Common.{◌≡◌, ℕ, ◌≤◌, Bool, List, length, take, filter}
use Rattle.std.specs.Cmp.Lexicographic.{slice_cmp}
use Rattle.std.specs.List.Sorted.{IsStrictlySortedBy}
use Rattle.std.specs.Ordering.{nat_cmp}
use Rattle.std.specs.Prelude.{All, Contains}
use Rattle.rows.specs.Apply.{apply, in_order, HasDistinctKeys}
use Rattle.rows.specs.Fits.{Fits}
use Rattle.rows.specs.Holds.{PutHolds, RowsHold, ReplyHolds}
use Rattle.rows.specs.Spelled.{IsKey}
use Rattle.rows.specs.Key.{Key}
use Rattle.rows.specs.Operation.{Operation}
use Rattle.rows.specs.Row.{Row}

-- parts and fronts have distinct keys
abbrev pub PartsAreDistinct : Type 0
PartsAreDistinct = (operation : Operation) (cache : List Row) → HasDistinctKeys cache → HasDistinctKeys (apply operation cache).0

abbrev pub FrontsAreDistinct : Type 0
FrontsAreDistinct = (count : ℕ) (cache : List Row) → HasDistinctKeys cache → HasDistinctKeys (take count cache)

-- what holds of puts and rows holds of parts
abbrev pub PartsHold : Type 0
PartsHold = (k : Key → Bool) (v : List ℕ → Bool) (operation : Operation) (cache : List Row) → PutHolds k v operation → RowsHold k v cache
    → RowsHold k v (apply operation cache).0 × ReplyHolds k v operation.key.table (apply operation cache).1

abbrev pub PartsFit : Type 0
PartsFit = (longest : ℕ) (operation : Operation) (cache : List Row) → HasDistinctKeys cache → All (λ row. IsKey row.key.bytes) cache
    → All (λ row. length row.value ≤ longest) cache → Fits longest operation (apply operation cache).1

-- what a reply in a journal needs to fit
pub record FittingLaws : Type 0 where
  pub distinct : PartsAreDistinct
  pub front : FrontsAreDistinct
  pub hold : PartsHold
  pub fit : PartsFit

-- keys in order: the first are among all, they stay, and so do keys that rise
abbrev pub AreAmong : Type 0
AreAmong = (count : ℕ) (test : List ℕ → Bool) (keys : List (List ℕ)) → All (Contains keys) (take count (in_order (filter test keys)))

abbrev pub FirstStay : Type 0
FirstStay = (count : ℕ) (keys : List (List ℕ)) → in_order (take count (in_order keys)) ≡ take count (in_order keys)

abbrev pub RisingStay : Type 0
RisingStay = (keys : List (List ℕ)) → IsStrictlySortedBy (slice_cmp nat_cmp) keys → in_order keys ≡ keys
