-- Which replies fit an operation: what a shard expects of the shard that does a part, and what logs hold.
use Rattle.std.specs.Prelude.{◌≡◌, ℕ, ◌≤◌, true, List, length, All, Option, Some, None}
use Rattle.std.specs.Ordering.{nat_cmp}
use Rattle.std.specs.Cmp.Lexicographic.{slice_cmp}
use Rattle.std.specs.List.Sorted.{IsStrictlySortedBy}
use Rattle.rows.specs.declared.kind.Kind.{Kind}
use Rattle.rows.specs.declared.kind.Kind.TheVariants as kinds
use Rattle.rows.specs.Key.{Key}
use Rattle.rows.specs.Operation.{Operation}
use Rattle.rows.specs.Apply.{Reply, Stored, Replaced, Value, Missing, Erased, Keys, is_at_most}
use Rattle.rows.specs.Spelled.{IsKey}

-- the keys of a scan: at most its count of them, strictly rising, each at or above its key, and as long as a trace's keys are
pub record AreFound (key : List ℕ) (count : ℕ) (keys : List (List ℕ)) : Type 0 where
  pub few : length keys ≤ count
  pub rising : IsStrictlySortedBy (slice_cmp nat_cmp) keys
  pub from : All (λ other. is_at_most key other ≡ true) keys
  pub lengths : All IsKey keys

-- which replies the kinds of operations can have, where no value is longer than `longest`
abbrev pub FitsKind : Kind → ℕ → Key → ℕ → Reply → Type 0
FitsKind kinds.Put longest key count Stored = Unit {0}
FitsKind kinds.Put longest key count Replaced = Unit {0}
FitsKind kinds.Get longest key count (Value value) = length value ≤ longest
FitsKind kinds.Get longest key count Missing = Unit {0}
FitsKind kinds.Erase longest key count Erased = Unit {0}
FitsKind kinds.Erase longest key count Missing = Unit {0}
FitsKind kinds.Scan longest key count (Keys keys) = AreFound key.bytes count keys
FitsKind kind longest key count reply = ⊥

-- a reply that a part of the operation can have
abbrev pub Fits : ℕ → Operation → Reply → Type 0
Fits longest operation reply = FitsKind operation.kind longest operation.key operation.count reply

-- there is a reply, and it fits
abbrev pub HasFitting : ℕ → Operation → Option Reply → Type 0
HasFitting longest operation None = ⊥
HasFitting longest operation (Some reply) = Fits longest operation reply
