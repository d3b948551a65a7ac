-- A reply fits its operation.
use Rattle.std.proofs.Common.{◌≡◌, ℕ, ◌≤◌, Bool, true, false, cond, List, length, filter, Option, Some, None, refl, arith}
use Rattle.std.specs.Prelude.{All}
use Rattle.std.proofs.lemmas.List.{length-take}
use Rattle.std.proofs.lemmas.List.Elements.{All-from_recursion, All-take, All-weaker}
use Rattle.rows.specs.declared.kind.Kind.{Kind}
use Rattle.rows.specs.declared.kind.Kind.TheVariants as kinds
use Rattle.rows.specs.Key.{Key}
use Rattle.rows.specs.Operation.{Operation}
use Rattle.rows.specs.Apply.{Stored, Replaced, Missing, Erased, apply_kind, get_where, has, in_order, is_at_most, is_of, keys_in, row_of, HasDistinctKeys}
use Rattle.rows.specs.Fits.{FitsKind}
use Rattle.rows.specs.Spelled.{IsKey}
use Rattle.rows.specs.Row.{Row}
use Rattle.row_lemmas.proofs.KeyOrder.{All-in_order, All-scanned}
use Rattle.row_lemmas.proofs.Looked.{All-find}
use Rattle.row_lemmas.proofs.Rising.{passes-filter, scanned_rise}
use Rattle.row_lemmas.proofs.Tables.{All-keys_in}

put-fits : (b : Bool) (longest : ℕ) (key : Key) (count : ℕ) → FitsKind kinds.Put longest key count (cond b Replaced Stored)
put-fits true longest key count = tt
put-fits false longest key count = tt

erase-fits : (b : Bool) (longest : ℕ) (key : Key) (count : ℕ) → FitsKind kinds.Erase longest key count (cond b Erased Missing)
erase-fits true longest key count = tt
erase-fits false longest key count = tt

get-fits : (o : Option Row) (longest : ℕ) (key : Key) (count : ℕ) (cache : List Row) → row_of key cache ≡ o
    → All (λ row. length row.value ≤ longest) cache → FitsKind kinds.Get longest key count (get_where o key cache).1
get-fits None longest key count cache e short = tt
get-fits (Some row) longest key count cache e short = All-find (λ (r : Row). length r.value ≤ longest) (is_of key) cache row short e

pub kind-fits : (kind : Kind) (longest : ℕ) (operation : Operation) (cache : List Row) → HasDistinctKeys cache
    → All (λ row. IsKey row.key.bytes) cache → All (λ row. length row.value ≤ longest) cache
    → FitsKind kind longest operation.key operation.count (apply_kind kind operation cache).1
kind-fits kinds.Put longest operation cache distinct keyed short = put-fits (has operation.key cache) longest operation.key operation.count
kind-fits kinds.Get longest operation cache distinct keyed short =
    get-fits (row_of operation.key cache) longest operation.key operation.count cache refl short
kind-fits kinds.Erase longest operation cache distinct keyed short = erase-fits (has operation.key cache) longest operation.key operation.count
kind-fits kinds.Scan longest operation cache distinct keyed short =
    let above = is_at_most operation.key.bytes in
    let IsAbove : List ℕ → Type 0 = λ key. above key ≡ true in
    let keys = keys_in operation.key.table cache in
    record {
      few = omega (arith, length-take operation.count (in_order (filter above keys)));
      rising = scanned_rise operation.count above operation.key.table cache distinct;
      from = All-take IsAbove operation.count (in_order (filter above keys))
          (All-in_order IsAbove (filter above keys) (All-from_recursion IsAbove (filter above keys) (passes-filter above keys)));
      lengths = All-scanned IsKey above operation.count keys
          (All-keys_in IsKey operation.key.table cache
          (All-weaker (λ (row : Row). IsKey row.key.bytes) (λ (row : Row). row.key.table ≡ operation.key.table → IsKey row.key.bytes) (λ row are same. are) cache keyed));
    }
