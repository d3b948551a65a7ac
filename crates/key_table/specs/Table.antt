-- A table of rows.
use Rattle.std.specs.Prelude.{◌≡◌, ℕ, zero, suc, ◌+◌, ◌*◌, ◌<◌, ◌≤◌, ◌&&◌, nat_le, nat_lt, Bool, List, map, All, count_by, bit_and}
use Rattle.common_lemmas.specs.Lists.{times}
use Rattle.rows.specs.Key.{Key}
use Rattle.key_table.specs.Hash.{tag_of}
use Rattle.key_table.specs.declared.entries.RowAt.{RowAt}
use Rattle.key_table.specs.declared.entries.Spot.{Spot}

-- for how many rows a table has room, and its rows, in an order that means nothing, each with the tag of its key
pub record Table : Type 0 where
  pub room : ℕ
  pub kept : List RowAt

abbrev pub rows_of : List RowAt → List ℕ
rows_of kept = map (λ found. found.row) kept

-- the row of a slot that holds none
abbrev pub vacant_row : ℕ
vacant_row = 4294967295

-- one has each row as often as the other
abbrev pub AreSame : List ℕ → List ℕ → Type 0
AreSame xs ys = (n : ℕ) → times n xs ≡ times n ys

-- the spot is that of a key
abbrev pub IsSpotFor : Key → Spot → Type 0
IsSpotFor key spot = spot.tag ≡ tag_of key

-- each row's tag is the one of its key
abbrev pub IsTagged : (ℕ → Key) → Table → Type 0
IsTagged key_of table = All (λ (found : RowAt). found.tag ≡ tag_of (key_of found.row)) table.kept

-- where the table has a row, it has this tag
abbrev pub IsTagOf : Table → RowAt → Type 0
IsTagOf table found = All (λ (kept : RowAt). kept.row ≡ found.row → kept.tag ≡ found.tag) table.kept

-- so many slots in a row never hold rows
abbrev pub reach : ℕ
reach = 64

-- one less than the number of slots that tags have: 1,024, or that doubled so many times
abbrev pub mask_of : ℕ → ℕ
mask_of zero = 1023
mask_of (suc times) = mask_of times * 2 + 1

-- the slot of a tag
abbrev pub home_of : ℕ → ℕ → ℕ
home_of mask tag = bit_and tag mask

-- a row's slot is in reach from one on
abbrev pub is_near : ℕ → ℕ → RowAt → Bool
is_near mask from found = nat_le from (home_of mask found.tag) && nat_lt (home_of mask found.tag) (from + reach)

-- About the slot of a spot it is crowded: of so many slots in a row, its own among them, all would hold rows of theirs with one row more.
pub record IsCrowdedAt (table : Table) (spot : Spot) : Type 0 where
  pub doubled : ℕ
  pub from : ℕ
  pub before : from ≤ home_of (mask_of doubled) spot.tag
  pub near : home_of (mask_of doubled) spot.tag < from + reach
  pub many : reach ≤ count_by (is_near (mask_of doubled) from) table.kept + 1

-- the table has the row
abbrev pub Has : Table → ℕ → Type 0
Has table n = 1 ≤ times n (rows_of table.kept)

-- the table is one of these keys: each of its rows has one that can be read
pub record IsTableOf (has_row : ℕ → Type 0) (key_of : ℕ → Key) (table : Table) : Type 0 where
  pub readable : (n : ℕ) → Has table n → has_row n
  pub tagged : IsTagged key_of table
