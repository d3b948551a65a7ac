-- One part of an operation, done on a cache.
use Rattle.std.specs.Prelude.{◌≡◌, ℕ, ◌==◌, Bool, false, not, List, [], ◌∷◌, map, filter, find, take, if◌then◌else◌, Option, Some, None}
use Rattle.std.specs.List.{list_any}
use Rattle.std.specs.Ordering.{nat_cmp, is_le}
use Rattle.std.specs.Cmp.Lexicographic.{slice_cmp}
use Rattle.rows.specs.declared.kind.Kind.TheVariants as kinds
use Rattle.rows.specs.declared.kind.Kind.{Kind}
use Rattle.rows.specs.Key.{Key, is_same_key}
use Rattle.rows.specs.Operation.{Operation}
use Rattle.rows.specs.Row.{Row}

pub data Reply : Type 0 where
  Stored : Reply
  Replaced : Reply
  Value : List ℕ → Reply
  Missing : Reply
  Erased : Reply
  Keys : List (List ℕ) → Reply

-- the row of a key, and the cache without it
abbrev pub is_of : Key → Row → Bool
is_of key row = is_same_key row.key key

abbrev pub row_of : Key → List Row → Option Row
row_of key cache = find (is_of key) cache

abbrev pub has : Key → List Row → Bool
has key cache = list_any (is_of key) cache

abbrev pub without : Key → List Row → List Row
without key cache = filter (λ row. not (is_of key row)) cache

-- no two rows have one key
abbrev pub HasDistinctKeys : List Row → Type 0
HasDistinctKeys [] = Unit {0}
HasDistinctKeys (row ∷ rows) = (has row.key rows ≡ false) × HasDistinctKeys rows

-- the keys of one table, in the order of their bytes
abbrev pub is_at_most : List ℕ → List ℕ → Bool
is_at_most a b = is_le (slice_cmp nat_cmp a b)

abbrev pub put_in_order : List ℕ → List (List ℕ) → List (List ℕ)
put_in_order key [] = key ∷ []
put_in_order key (other ∷ others) = if is_at_most key other then key ∷ other ∷ others else other ∷ put_in_order key others

abbrev pub in_order : List (List ℕ) → List (List ℕ)
in_order [] = []
in_order (key ∷ keys) = put_in_order key (in_order keys)

-- after a put the new row stands in front, and no other row has its key
abbrev pub put : Key → List ℕ → ℕ → List Row → List Row × Reply
put key value number cache =
    (record { key = key; value = value; number = number } ∷ without key cache, if has key cache then Replaced else Stored)

-- after a get its row stands in front, where there is one
abbrev pub get_where : Option Row → Key → List Row → List Row × Reply
get_where None key cache = (cache, Missing)
get_where (Some row) key cache = (row ∷ without key cache, Value row.value)

abbrev pub get : Key → List Row → List Row × Reply
get key cache = get_where (row_of key cache) key cache

-- after an erase no row has the key
abbrev pub erase : Key → List Row → List Row × Reply
erase key cache = (without key cache, if has key cache then Erased else Missing)

-- the keys of the rows of a table
abbrev pub keys_in : ℕ → List Row → List (List ℕ)
keys_in table cache = map (λ (row : Row). row.key.bytes) (filter (λ (row : Row). row.key.table == table) cache)

-- the keys of its table from one on, in the order of their bytes, at most so many
abbrev pub scanned : Key → ℕ → List Row → List (List ℕ)
scanned key count cache = take count (in_order (filter (is_at_most key.bytes) (keys_in key.table cache)))

-- a scan looks up the keys of its table from its own on, at most its count of them
abbrev pub scan : Key → ℕ → List Row → List Row × Reply
scan key count cache = (cache, Keys (scanned key count cache))

abbrev pub apply_kind : Kind → Operation → List Row → List Row × Reply
apply_kind kinds.Put operation cache = put operation.key operation.value operation.number cache
apply_kind kinds.Get operation cache = get operation.key cache
apply_kind kinds.Erase operation cache = erase operation.key cache
apply_kind kinds.Scan operation cache = scan operation.key operation.count cache

-- one part of an operation: the cache afterwards, and the reply
abbrev pub apply : Operation → List Row → List Row × Reply
apply operation cache = apply_kind operation.kind operation cache
