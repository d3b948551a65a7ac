-- How the lists stand in arrays of links: each list is a ring through a sentinel of its own, which stands behind the indices.
use Rattle.std.specs.Prelude.{◌≡◌, ◌≢◌, ℕ, zero, suc, ◌+◌, ◌-◌, ◌<◌, ◌≤◌, ◌^◌, ◌==◌, nat_lt, if◌then◌else◌, Option, Some, None, List, [], ◌∷◌, ◌++◌, map, length, take, drop, slice_index, slice_index_or, slice_set, max}
use Rattle.common_lemmas.specs.Lists.{times}

-- the index that a link of a ring leads to: none where that is the ring's sentinel
abbrev pub leads_to : ℕ → ℕ → Option ℕ
leads_to sentinel index = if index == sentinel then None else Some index

-- links one way: those of indices, and behind them those of lists, and how many of those of indices are written, from the first one on
pub record OneWay : Type 0 where
  pub links : List ℕ
  pub lists : ℕ
  pub indices : ℕ
  pub written : ℕ

-- another link at a place
abbrev pub with_link : OneWay → ℕ → ℕ → OneWay
with_link l at to = record { links = slice_set l.links at to; lists = l.lists; indices = l.indices; written = l.written }

-- the links of all indices below a number are written
abbrev pub reaching : OneWay → ℕ → OneWay
reaching l end = record { links = l.links; lists = l.lists; indices = l.indices; written = max l.written end }

-- the number of what stands at a place in memory, where so many lists stand in front of so many indices: an index, or behind the indices a list
unfoldable pub number_of : ℕ → ℕ → ℕ → ℕ
number_of lists indices place = if nat_lt place lists then indices + place else (if nat_lt place (lists + indices) then place - lists else place)

-- the number of what stands at a place
abbrev pub number : OneWay → ℕ → ℕ
number l place = number_of l.lists l.indices place

-- the links by number, those of the lists behind those of indices, where so many of lists stand in front
abbrev pub numbered : ℕ → ℕ → List ℕ → List ℕ
numbered lists indices links = map (number_of lists indices) (drop lists links ++ take lists links)

-- from a on, the links lead through the list to b, and back
abbrev pub Path : List ℕ → List ℕ → ℕ → List ℕ → ℕ → Type 0
Path next prev a [] b = (slice_index next a ≡ b) × (slice_index prev b ≡ a)
Path next prev a (x ∷ xs) b = (slice_index next a ≡ x) × (slice_index prev x ≡ a) × Path next prev x xs b

-- the indices that the links lead through from one on
unfoldable pub walk : ℕ → List ℕ → ℕ → List ℕ
walk zero next at = []
walk (suc n) next at = at ∷ walk n next (slice_index next at)

-- the list of each ring, the first ring's sentinel being s
unfoldable pub rings_from : ℕ → List ℕ → List ℕ → List (List ℕ)
rings_from s next [] = []
rings_from s next (n ∷ ns) = walk n next (slice_index next s) ∷ rings_from (suc s) next ns

-- the links are those of the lists
pub record IsConsistent (n : ℕ) (next prev lengths : List ℕ) (lists : List (List ℕ)) : Type 0 where
  pub next_len : length next ≡ n + length lists
  pub prev_len : length prev ≡ n + length lists
  pub lengths_len : length lengths ≡ length lists
  pub small : n + length lists < 2 ^ 32
  pub lens : (k : ℕ) → k < length lists → slice_index lengths k ≡ length (slice_index_or lists k [])
  pub rings : (k : ℕ) → k < length lists → Path next prev (n + k) (slice_index_or lists k []) (n + k)
  pub single : (k x : ℕ) → k < length lists → times x (slice_index_or lists k []) ≤ 1
  pub on_one : (j k x : ℕ) → j < length lists → k < length lists → j ≢ k → 1 ≤ times x (slice_index_or lists j []) → times x (slice_index_or lists k []) ≡ 0
  pub inside : (k x : ℕ) → k < length lists → n ≤ x → times x (slice_index_or lists k []) ≡ 0

-- each index on a list is below a number
abbrev pub AreBelow : ℕ → List (List ℕ) → Type 0
AreBelow end lists = (k x : ℕ) → k < length lists → 1 ≤ times x (slice_index_or lists k []) → x < end

-- the links both ways are those of the lists, and those of each index on a list are written
pub record AreLinked (n : ℕ) (next prev : OneWay) (lengths : List ℕ) (lists : List (List ℕ)) : Type 0 where
  pub consistent : IsConsistent n next.links prev.links lengths lists
  pub next_indices : next.indices ≡ n
  pub prev_indices : prev.indices ≡ n
  pub next_lists : next.lists ≡ length lists
  pub prev_lists : prev.lists ≡ length lists
  pub next_written : AreBelow next.written lists
  pub prev_written : AreBelow prev.written lists
