-- The rows of a shard's cache.
use Rattle.std.specs.Prelude.{ℕ, ◌==◌, ◌+◌, ◌-◌, ◌*◌, ◌/◌, Bool, false, List, length, sum_by, Option, Some, None}
use Rattle.layout.specs.Sizes.{dense, row_overhead, segment_pages, tickets}
use Rattle.rows.specs.Key.{Key}

-- a row, with the number of the put that stored it
pub record Row : Type 0 where
  pub key : Key
  pub value : List ℕ
  pub number : ℕ

-- A cache is a list of rows, the one used last in front.

-- a row counts its descriptor, its header, the bytes of its key and its value, in whole multiples of 8
abbrev pub size : List ℕ → List ℕ → ℕ
size key value = (row_overhead + length key + length value + 7) / 8 * 8

-- the live bytes: the sizes of all rows together
abbrev pub live : List Row → ℕ
live cache = sum_by (λ row. size row.key.bytes row.value) cache

-- the floor of a shard of so many pages and regions: up to so many live bytes nothing may be evicted. As many segments as there
-- are tickets may hold a lent block, one is the emergency one, and each region has an active one.
abbrev pub floor : ℕ → ℕ → ℕ
floor pages regions = (pages / segment_pages - (tickets + 1 + regions)) * dense

-- what the live bytes exceed at an eviction while so many blocks are lent
abbrev pub tight_floor : ℕ → ℕ → ℕ → ℕ
tight_floor pages lent regions = (pages / segment_pages - 1 - regions - lent) * dense

-- the least recently used row is the last; it is the row of put q
abbrev pub is_of_put : ℕ → Option Row → Bool
is_of_put q None = false
is_of_put q (Some row) = row.number == q
