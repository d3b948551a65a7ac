-- What a caller sees of a cache.
use Rattle.std.specs.Prelude.{◌≡◌, ◌⊎◌, ℕ, ◌-◌, ◌*◌, ◌/◌, ◌^◌, ◌<◌, ◌≤◌, min}
use Rattle.layout.specs.Sizes.{dense, fewest_table_pages, segment_pages, tables, ArePages}
use Rattle.shard_store.specs.Stores.{StoreState, IsSameStore}
use Rattle.shard_store.specs.Stores as stores
use Rattle.shard_store.specs.Works.{pressure}
use Rattle.embedded_cache.specs.declared.opening.Opening.{Opening}

pub record EmbeddedState : Type 0 where
  -- its rows, the memory in which they stand, and what of it is lent
  pub store : StoreState
  -- rows go while more bytes than these are live
  pub bound : ℕ
  -- what was counted since it was opened, each the greatest u64 where there was more: the rows that went, the gets, and those
  -- that found a row
  pub evictions : ℕ
  pub gets : ℕ
  pub hits : ℕ

-- the greatest bound: the live bytes with which all segments but one for each group are dense
abbrev pub most_bound : ℕ → ℕ → ℕ
most_bound pages regions = (pages / segment_pages - regions) * dense

-- how many rows may wait for their places in the order of keys, where nothing else is asked for
abbrev pub most_waiting : ℕ
most_waiting = 1024

-- what a cache can be opened with
pub record CanOpen (opening : Opening) : Type 0 where
  pub pages : ArePages opening.pages
  pub some_rows : 1 ≤ opening.rows
  pub rows : opening.rows < 2 ^ 32 - 1
  pub regions : (opening.regions ≡ 1) ⊎ ((opening.regions ≡ tables) × (fewest_table_pages ≤ opening.pages))
  pub bound : opening.bound ≤ most_bound opening.pages opening.regions

-- More bytes than these are live where a row goes for a put: more than the bound, or, while blocks are lent, than what the pages
-- surely hold beside them.
abbrev pub least_bound : EmbeddedState → ℕ
least_bound c = min c.bound (pressure c.store.pages c.store.lent c.store.regions)

-- no table has a guard
abbrev pub IsUnguarded : EmbeddedState → Type 0
IsUnguarded c = stores.IsUnguarded c.store

-- whose cache it is, its pages, its tables, its list, its guards and its bound are as they were
pub record IsSameCache (old new : EmbeddedState) : Type 0 where
  pub store : IsSameStore old.store new.store
  pub bound : new.bound ≡ old.bound

-- nothing was counted
pub record CountsNone (old new : EmbeddedState) : Type 0 where
  pub evictions : new.evictions ≡ old.evictions
  pub gets : new.gets ≡ old.gets
  pub hits : new.hits ≡ old.hits
