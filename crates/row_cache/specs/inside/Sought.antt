-- What a search tells of a key among the rows.
use Rattle.std.specs.Prelude.{◌≡◌, ◌≢◌, ℕ, true, false, Some, None}
use Rattle.rows.specs.Apply as apply
use Rattle.rows.specs.Key.{Key}
use Rattle.common_lemmas.specs.Lists.{delete}
use Rattle.key_table.specs.Table.{IsSpotFor}
use Rattle.key_table.specs.declared.entries.RowAt.{RowAt}
use Rattle.key_table.specs.declared.entries.Spot.{Spot}
use Rattle.key_table.specs.Lazy.{IsThere}
use Rattle.regions.specs.Stores.{Live}
use Rattle.row_cache.specs.Rows.{row_at, key_at, rows_at}
use Rattle.row_cache.specs.inside.Tables.{TableState, IsListed}

-- the row has the key, and the others have not
pub record IsFound (t : TableState) (live : Live) (key : Key) (found : RowAt) : Type 0 where
  pub at : IsThere t.index found
  pub listed : IsListed t found.row
  pub same : key_at live t.places found.row ≡ key
  pub has : apply.has key (rows_at live t.places t.recency) ≡ true
  pub row : apply.row_of key (rows_at live t.places t.recency) ≡ Some (row_at live t.places found.row)
  pub without : apply.without key (rows_at live t.places t.recency) ≡ rows_at live t.places (delete found.row t.recency)

-- no row has the key, and the index would have its row there
pub record IsMissing (t : TableState) (live : Live) (key : Key) (there : Spot) : Type 0 where
  pub at : IsSpotFor key there
  pub absent : (n : ℕ) → IsListed t n → key_at live t.places n ≢ key
  pub has : apply.has key (rows_at live t.places t.recency) ≡ false
  pub row : apply.row_of key (rows_at live t.places t.recency) ≡ None
  pub without : apply.without key (rows_at live t.places t.recency) ≡ rows_at live t.places t.recency
