-- Slots, of which each holds a row or none.
use Rattle.std.specs.Prelude.{◌≡◌, ◌≢◌, ℕ, ◌+◌, ◌-◌, ◌<◌, ◌≤◌, ◌==◌, Bool, not, List, length, filter, count_by, slice_index_or}
use Rattle.rows.specs.Key.{Key}
use Rattle.key_table.specs.Hash.{tag_of}
use Rattle.key_table.specs.Table.{is_near, reach, vacant_row}
pub use Rattle.key_table.specs.Table.{home_of}
use Rattle.key_table.specs.declared.entries.RowAt.{RowAt}

abbrev pub nothing : RowAt
nothing = record { row = vacant_row; tag = 0 }

abbrev pub slot_at : List RowAt → ℕ → RowAt
slot_at slots k = slice_index_or slots k nothing

abbrev pub holds : RowAt → Bool
holds slot = not (slot.row == vacant_row)

-- what the slots hold
abbrev pub held : List RowAt → List RowAt
held slots = filter holds slots

abbrev pub IsHeld : List RowAt → ℕ → Type 0
IsHeld slots k = (slot_at slots k).row ≢ vacant_row

-- an empty slot, from one slot on and before another
pub record IsGapIn (slots : List RowAt) (from to : ℕ) : Type 0 where
  pub at : ℕ
  pub behind : from ≤ at
  pub before : at < to
  pub vacant : (slot_at slots at).row ≡ vacant_row

-- of each so many slots in a row one is empty
abbrev pub HaveGaps : List RowAt → Type 0
HaveGaps slots = (k : ℕ) → IsGapIn slots k (k + reach)

-- each row stands at its tag's slot or behind it, with no empty slot between; fewer slots in a row hold rows than are in reach; the last slot is empty
pub record AreProbed (mask : ℕ) (slots : List RowAt) : Type 0 where
  pub some : mask + 1 + reach ≤ length slots
  pub gaps : HaveGaps slots
  pub last : (slot_at slots (length slots - 1)).row ≡ vacant_row
  pub behind : (j : ℕ) → IsHeld slots j → home_of mask (slot_at slots j).tag ≤ j
  pub between : (j k : ℕ) → IsHeld slots j → home_of mask (slot_at slots j).tag ≤ k → k < j → IsHeld slots k

-- each row in the one stands in the other, with its tag
abbrev pub Within : List RowAt → List RowAt → Type 0
Within xs ys = (k : ℕ) → IsHeld ys k → (j : ℕ) × (slot_at xs j ≡ slot_at ys k)

-- the first slot from one on that is empty
pub record IsFirstVacant (slots : List RowAt) (start at : ℕ) : Type 0 where
  pub inside : at < length slots
  pub behind : start ≤ at
  pub vacant : (slot_at slots at).row ≡ vacant_row
  pub between : (k : ℕ) → start ≤ k → k < at → IsHeld slots k

-- the first of the slots before one that hold rows, with no empty slot between
pub record IsRunStart (slots : List RowAt) (at low : ℕ) : Type 0 where
  pub before : low ≤ at
  pub start : 0 < low → (slot_at slots (low - 1)).row ≡ vacant_row
  pub between : (k : ℕ) → low ≤ k → k < at → IsHeld slots k

-- so many slots in a row, a slot among them, would hold rows of theirs with one row more
pub record IsTight (mask : ℕ) (slots : List RowAt) (home : ℕ) : Type 0 where
  pub low : ℕ
  pub before : low ≤ home
  pub near : home < low + reach
  pub many : reach ≤ count_by (is_near mask low) (held slots) + 1

-- of each so many slots in a row another one is empty
abbrev pub IsLoose : List RowAt → ℕ → Type 0
IsLoose slots at = (k : ℕ) → (gap : IsGapIn slots k (k + reach)) × (gap.at ≢ at)

-- the row of a slot may stand in one before it
pub record CanMove (mask : ℕ) (slots : List RowAt) (hole next : ℕ) : Type 0 where
  pub inside : next < length slots
  pub behind : hole < next
  pub held : IsHeld slots next
  pub home : home_of mask (slot_at slots next).tag ≤ hole

-- no row behind a slot needs it
abbrev pub NoneMoves : ℕ → List RowAt → ℕ → Type 0
NoneMoves mask slots hole = (j : ℕ) → hole < j → IsHeld slots j → hole < home_of mask (slot_at slots j).tag

-- a row that the slots hold has this tag
abbrev pub HasTag : List RowAt → RowAt → Type 0
HasTag slots found = (k : ℕ) → IsHeld slots k → (slot_at slots k).row ≡ found.row → (slot_at slots k).tag ≡ found.tag

-- the slot holds the row
pub record IsRowAt (slots : List RowAt) (row at : ℕ) : Type 0 where
  pub held : IsHeld slots at
  pub is : (slot_at slots at).row ≡ row

-- no slot holds the row
abbrev pub HasNot : List RowAt → ℕ → Type 0
HasNot slots row = (k : ℕ) → IsHeld slots k → (slot_at slots k).row ≢ row

-- the keys of the rows can be read
abbrev pub AreReadable : (ℕ → Type 0) → List RowAt → Type 0
AreReadable has_row slots = (k : ℕ) → IsHeld slots k → has_row (slot_at slots k).row

-- each row's tag is the one of its key
abbrev pub AreTagged : (ℕ → Key) → List RowAt → Type 0
AreTagged key_of slots = (k : ℕ) → IsHeld slots k → (slot_at slots k).tag ≡ tag_of (key_of (slot_at slots k).row)

-- no row has the key
abbrev pub HaveNot : (ℕ → Key) → Key → List RowAt → Type 0
HaveNot key_of key slots = (k : ℕ) → IsHeld slots k → key_of (slot_at slots k).row ≢ key

-- a row that has the key
pub record IsFound (key_of : ℕ → Key) (key : Key) (slots : List RowAt) (found : RowAt) : Type 0 where
  pub place : ℕ
  pub is : slot_at slots place ≡ found
  pub here : IsHeld slots place
  pub same : key_of found.row ≡ key
