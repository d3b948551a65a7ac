-- What a search of the index tells of the rows.
use Rattle.std.proofs.Common.{◌≡◌, ◌≢◌, ℕ, Result, Ok, Err, subst, arith}
use Rattle.std.specs.Prelude.{MatchResult}
use Rattle.rows.specs.Key.{Key}
use Rattle.key_table.specs.Table.{IsSpotFor}
use Rattle.key_table.specs.declared.entries.RowAt.{RowAt}
use Rattle.key_table.specs.declared.entries.Spot.{Spot}
use Rattle.key_table.specs.Lazy.{Lazy, Has, IsThere}
use Rattle.regions.specs.Stores.{Live}
use Rattle.row_cache.specs.Rows.{row_at, key_at}
use Rattle.row_cache.specs.inside.Tables.{TableState, AreTablesOf, IsListed}
use Rattle.row_cache.specs.inside.Sought.{IsFound, IsMissing}
use Rattle.row_cache.proofs.Listed.{none_has, none_found, none_without, one_has, one_found, one_without}
use Rattle.row_cache.proofs.Numbers.{once}
use Rattle.row_cache.proofs.States.{apart_rows}

found_in : (t : TableState) (live : Live) (key : Key) (result : Result RowAt Spot) → AreTablesOf t live
    → MatchResult result (λ found. IsThere t.index found × (key_at live t.places found.row ≡ key))
    (λ spot. IsSpotFor key spot × ((n : ℕ) → Has t.index n → key_at live t.places n ≢ key))
    → MatchResult result (IsFound t live key) (IsMissing t live key)
found_in t live key (Ok found) are e =
    let listed : IsListed t found.row = (let l = e.0.has in let i = are.numbers.indexed found.row in omega (arith, l, i)) in
    record {
      at = e.0;
      listed = listed;
      same = e.1;
      has = one_has (row_at live t.places) key found.row t.recency listed e.1;
      row = one_found (row_at live t.places) key found.row t.recency (apart_rows t live are) listed e.1;
      without = one_without (row_at live t.places) key found.row t.recency (apart_rows t live are) listed (once t are.numbers) e.1;
    }
found_in t live key (Err spot) are e =
    let absent : (n : ℕ) → IsListed t n → key_at live t.places n ≢ key = λ n l. e.1 n (let i = are.numbers.indexed n in omega (arith, i, l)) in
    record {
      at = e.0;
      absent = absent;
      has = none_has (row_at live t.places) key t.recency absent;
      row = none_found (row_at live t.places) key t.recency absent;
      without = none_without (row_at live t.places) key t.recency absent;
    }

pub search_told : (t : TableState) (live : Live) (key : Key) (k : ℕ → Key) (i : Lazy) (result : Result RowAt Spot) → AreTablesOf t live → i ≡ t.index → k ≡ key_at live t.places
    → MatchResult result (λ found. IsThere i found × (k found.row ≡ key)) (λ spot. IsSpotFor key spot × ((n : ℕ) → Has i n → k n ≢ key))
    → MatchResult result (IsFound t live key) (IsMissing t live key)
search_told t live key k i result are same keys e =
    found_in t live key result are
    (subst (λ (x : Lazy). MatchResult result (λ found. IsThere x found × (key_at live t.places found.row ≡ key))
    (λ spot. IsSpotFor key spot × ((n : ℕ) → Has x n → key_at live t.places n ≢ key))) same
    (subst (λ (f : ℕ → Key). MatchResult result (λ found. IsThere i found × (f found.row ≡ key))
    (λ spot. IsSpotFor key spot × ((n : ℕ) → Has i n → f n ≢ key))) keys e))
