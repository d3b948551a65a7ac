-- The keys of the rows of one table.
use Rattle.std.proofs.Common.{◌≡◌, ℕ, Bool, true, false, cond, List, [], ◌∷◌, filter, map, eqb, eqb-true, refl}
use Rattle.std.specs.Prelude.{All}
use Rattle.std.specs.List.{AllByRecursion}
use Rattle.std.proofs.lemmas.List.Elements.{All-from_recursion, recursion_from_All}
use Rattle.rows.specs.Apply.{keys_in}
use Rattle.rows.specs.Row.{Row}

-- what holds of the bytes of each key of a table
each-in : (P : List ℕ → Type 0) (table : ℕ) (rows : List Row) → AllByRecursion (λ row. row.key.table ≡ table → P row.key.bytes) rows
    → AllByRecursion P (keys_in table rows)
each-in P table [] all = tt
each-in P table (row ∷ rows) all = go (eqb row.key.table table) refl (each-in P table rows all.1)
  where
    go : (t : Bool) → eqb row.key.table table ≡ t → AllByRecursion P (keys_in table rows)
        → AllByRecursion P (map (λ (r : Row). r.key.bytes) (cond t (row ∷ filter (λ r. eqb r.key.table table) rows) (filter (λ r. eqb r.key.table table) rows)))
    go true is more = (all.0 (eqb-true row.key.table table is), more)
    go false is more = more

pub All-keys_in : (P : List ℕ → Type 0) (table : ℕ) (rows : List Row) → All (λ row. row.key.table ≡ table → P row.key.bytes) rows → All P (keys_in table rows)
All-keys_in P table rows all =
    All-from_recursion P (keys_in table rows)
    (each-in P table rows (recursion_from_All (λ (row : Row). row.key.table ≡ table → P row.key.bytes) rows all))
