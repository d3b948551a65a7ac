-- Blocks of entries.
use Rattle.std.specs.Prelude.{◌≡◌, ℕ, ◌+◌, ◌<◌, ◌≤◌, false, List, ◌++◌, length, map, take, drop, All}
use Rattle.std.specs.Ordering.{is_lt}
use Rattle.rows.specs.Key.{Key}
use Rattle.key_index.specs.declared.entries.Entry.{Entry}
use Rattle.key_index.specs.Lead.{rows_of, AreBytes, IsLed}
use Rattle.key_index.specs.Order.{key_cmp, Each, AreAbove, AreBelow, AreRising}
use Rattle.key_index.specs.Index.{joined, block_at}
use Rattle.key_index.specs.inside.Sizes.{block_room}

-- entries in the order of keys that can be read
pub record AreEntriesOf (has_row : ℕ → Type 0) (key_of : ℕ → Key) (entries : List Entry) : Type 0 where
  pub readable : All (λ entry. has_row entry.row) entries
  pub bytes : All (λ entry. AreBytes (key_of entry.row).bytes) entries
  pub leads : All (IsLed key_of) entries
  pub rising : AreRising key_of (rows_of entries)

-- the entries of all blocks, one block after another
abbrev pub entries_of : List (List Entry) → List Entry
entries_of blocks = joined blocks

-- the entries of one block
abbrev pub entries_at : List (List Entry) → ℕ → List Entry
entries_at blocks k = block_at blocks k

-- the rows before a place in a block, and those from it on
abbrev pub front : List (List Entry) → ℕ → ℕ → List ℕ
front blocks block at = rows_of (entries_of (take block blocks)) ++ take at (rows_of (entries_at blocks block))

abbrev pub back : List (List Entry) → ℕ → ℕ → List ℕ
back blocks block at = drop at (rows_of (entries_at blocks block)) ++ rows_of (entries_of (drop (block + 1) blocks))

-- the keys of these rows are not below a key
abbrev pub AreAtLeast : (ℕ → Key) → Key → List ℕ → Type 0
AreAtLeast key_of key rows = Each (λ row. is_lt (key_cmp (key_of row) key) ≡ false) rows

-- where a key stands or would stand
pub record IsPlaceOf (key_of : ℕ → Key) (key : Key) (blocks : List (List Entry)) (block at : ℕ) : Type 0 where
  pub before : AreBelow key_of key (rows_of (entries_of (take block blocks)))
  pub below : AreBelow key_of key (take at (rows_of (entries_at blocks block)))
  pub at_least : AreAtLeast key_of key (drop at (rows_of (entries_at blocks block)))
  pub after : AreAbove key_of key (rows_of (entries_of (drop (block + 1) blocks)))

-- a block in use has an entry, and room for those that it has
abbrev pub IsBlock : List Entry → Type 0
IsBlock block = (0 < length block) × (length block ≤ block_room)

-- how many entries each block has
abbrev pub lens_of : List (List Entry) → List ℕ
lens_of blocks = map (λ block. length block) blocks

-- a block that may have lost its last entry
abbrev pub IsFit : List Entry → Type 0
IsFit block = length block ≤ block_room
