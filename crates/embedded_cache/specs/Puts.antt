-- What puts, gets and patches do.
use Rattle.std.specs.Prelude.{◌≡◌, ◌⊎◌, ℕ, ◌+◌, ◌-◌, ◌<◌, ◌≤◌, true, false, List, [], ◌∷◌, ◌++◌, length, take, drop, Option, None, Some}
use Rattle.std.specs.List.{last_or}
use Rattle.layout.specs.Counts.{counted, raised}
use Rattle.rows.specs.Key.{Key}
use Rattle.rows.specs.Row.{Row, is_of_put}
use Rattle.rows.specs.Apply.{has, put, row_of}
use Rattle.rows.specs.Evictions.{Evicts}
use Rattle.row_bytes.specs.Patches.{patch}
use Rattle.row_cache.specs.Rows.{reply_of}
use Rattle.embedded_cache.specs.States.{EmbeddedState, IsSameCache, least_bound}
use Rattle.embedded_cache.specs.declared.patch.Patch.{Patch}
use Rattle.embedded_cache.specs.declared.patch.Patch.TheVariants.{Patched, Missing, Short}
use Rattle.embedded_cache.specs.declared.put_answer.PutAnswer.{PutAnswer}

-- Where the tables are full and no row has the key, the row that was used longest ago goes, by its tag. Else none does.
abbrev pub Spares : ℕ → Key → List Row → List ℕ → List Row → Type 0
Spares room key rows [] kept = ((has key rows ≡ true) ⊎ (length rows < room)) × (kept ≡ rows)
Spares room key rows (tag ∷ []) kept =
    (has key rows ≡ false) × (length rows ≡ room) × (is_of_put tag (last_or None rows) ≡ true) × (kept ≡ take (length rows - 1) rows)
Spares room key rows (tag ∷ other ∷ tags) kept = ⊥

-- The rows that went for a put of the key, by their tags, and those that are left: one went for a place in the tables, and then
-- each while more bytes were live than the bound.
pub record Goes (room bound : ℕ) (key : Key) (rows : List Row) (tags : List ℕ) (rest : List Row) : Type 0 where
  pub spared : List ℕ
  pub kept : List Row
  pub evicted : List ℕ
  pub spares : Spares room key rows spared kept
  pub evicts : Evicts bound kept evicted rest
  pub all : tags ≡ spared ++ evicted

-- the tags in memory that the caller lent: as many as there are places, from the front on
abbrev pub told_in : List ℕ → List ℕ → List ℕ
told_in tags places = take (length places) tags ++ drop (length tags) places

-- Rows went, and were told. Of the others none has the key then, and a row with it stands in front.
pub record Puts (key : Key) (value : List ℕ) (tag : ℕ) (answer : PutAnswer) (places written : List ℕ) (old new : EmbeddedState) : Type 0 where
  pub tags : List ℕ
  pub rest : List Row
  pub goes : Goes old.store.room (least_bound old) key old.store.rows tags rest
  pub told : written ≡ told_in tags places
  pub count : answer.evicted ≡ length tags
  pub rows : new.store.rows ≡ (put key value tag rest).0
  pub reply : reply_of answer.put ≡ (put key value tag rest).1
  pub evictions : new.evictions ≡ raised old.evictions (length tags)
  pub gets : (new.gets ≡ old.gets) × (new.hits ≡ old.hits)
  pub same : IsSameCache old new

-- the gets that found a row, after one that was answered so
abbrev pub hits_after : Option Row → ℕ → ℕ
hits_after None hits = hits
hits_after (Some row) hits = counted hits

-- what a patch did: its row has the bytes and is the one used last, there is none, or its value ends before the last of them
abbrev pub Patches : Patch → Key → ℕ → List ℕ → List Row → List Row → Type 0
Patches Patched key at bytes rows next =
    (row : Row) × (row_of key rows ≡ Some row) × (at + length bytes ≤ length row.value) × (next ≡ patch key at bytes rows)
Patches Missing key at bytes rows next = (row_of key rows ≡ None) × (next ≡ rows)
Patches Short key at bytes rows next =
    (row : Row) × (row_of key rows ≡ Some row) × (length row.value < at + length bytes) × (next ≡ rows)
