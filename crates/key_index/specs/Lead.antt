-- A part of a key as a number, which is in the order of the keys that share what stands before it.
use Rattle.std.specs.Prelude.{◌≡◌, ℕ, zero, suc, ◌+◌, ◌*◌, ◌/◌, ◌^◌, ◌<◌, List, [], ◌∷◌, map, drop}
use Rattle.rows.specs.Key.{Key}
use Rattle.key_index.specs.Order.{Each}
use Rattle.key_index.specs.declared.entries.Entry.{Entry}

-- the first so many bytes, first byte highest, and zeros for those that the key lacks
abbrev pub first_bytes : ℕ → List ℕ → ℕ
first_bytes zero key = 0
first_bytes (suc n) [] = 0
first_bytes (suc n) (byte ∷ key) = byte * 256 ^ n + first_bytes n key

abbrev pub AreBytes : List ℕ → Type 0
AreBytes key = Each (λ byte. byte < 256) key

-- The lead of a key. Behind nothing it is the table, in the three highest bits, and then the first eight bytes without their
-- three lowest bits. Behind the table and so many bytes it is the eight bytes from there on.
unfoldable pub lead_behind : ℕ → Key → ℕ
lead_behind zero key = key.table * 2 ^ 61 + first_bytes 8 key.bytes / 8
lead_behind (suc n) key = first_bytes 8 (drop n key.bytes)

-- the rows of entries
abbrev pub rows_of : List Entry → List ℕ
rows_of entries = map (λ entry. entry.row) entries

-- an entry's lead is that of its row's key behind what it skips: so many bytes, of which the table is the first
abbrev pub IsLed : (ℕ → Key) → Entry → Type 0
IsLed key_of entry = entry.lead ≡ lead_behind entry.skip (key_of entry.row)
