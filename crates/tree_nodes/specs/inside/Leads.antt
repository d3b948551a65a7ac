-- The first eight bytes of a key as a number, its lead.
use Rattle.std.specs.Prelude.{ℕ, zero, suc, ◌+◌, ◌*◌, ◌^◌, List, [], ◌∷◌, nat_lt, nat_le}
use Rattle.std.specs.List.{count_by}
use Rattle.tree_nodes.specs.Nodes.{Entry}

-- the first so many bytes, first byte highest, and zeros for those that the key lacks
unfoldable pub first_bytes : ℕ → List ℕ → ℕ
first_bytes zero key = 0
first_bytes (suc n) [] = 0
first_bytes (suc n) (byte ∷ key) = byte * 256 ^ n + first_bytes n key

abbrev pub lead_of : List ℕ → ℕ
lead_of key = first_bytes 8 key

-- how many entries have keys whose lead is below a number, and below it or the same
abbrev pub leads_below : List Entry → ℕ → ℕ
leads_below entries lead = count_by (λ entry. nat_lt (lead_of entry.key) lead) entries

abbrev pub leads_upto : List Entry → ℕ → ℕ
leads_upto entries lead = count_by (λ entry. nat_le (lead_of entry.key) lead) entries
