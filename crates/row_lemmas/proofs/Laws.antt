-- Laws of rows and operations.
use Rattle.std.specs.Prelude.{◌≡◌, ◌+◌, ◌-◌, ◌<◌, ◌≤◌, ℕ, Bool, true, false, List, [], ◌∷◌, ◌++◌, length, take, filter, Some, None, All, Contains, IsPermutation, IsSorted}
use Rattle.std.specs.Cmp.Lexicographic.{slice_cmp}
use Rattle.std.specs.List.{last_or}
use Rattle.std.specs.List.Sorted.{IsStrictlySortedBy}
use Rattle.std.specs.Ordering.{nat_cmp}
use Rattle.std.proofs.Common.{not, refl}
use Rattle.std.proofs.lemmas.List.Elements.{All-contains_itself}
use Rattle.rows.specs.Apply.{apply, has, in_order, row_of, without, HasDistinctKeys, is_of}
use Rattle.rows.specs.Evictions.{Evicts}
use Rattle.rows.specs.Key.{Key}
use Rattle.rows.specs.Row.{is_of_put, Row, live}
use Rattle.rows.specs.Fits.{Fits}
use Rattle.rows.specs.Holds.{PutHolds, RowsHold, ReplyHolds}
use Rattle.rows.specs.KeyBody.{AreKeys}
use Rattle.rows.specs.Spelled.{IsKey}
use Rattle.rows.specs.Operation.{Operation}
use Rattle.row_lemmas.proofs.InTurn.{count, more, none}
use Rattle.row_lemmas.proofs.Distinct.{brought-distinct, distinct-filter, distinct-take, has-without, without-absent, kind-distinct}
use Rattle.row_lemmas.proofs.KeyOrder.{first_stay, All-scanned, sorted_one}
use Rattle.row_lemmas.proofs.Rising.{rising_stay}
use Rattle.row_lemmas.proofs.Holding.{part-holds}
use Rattle.row_lemmas.proofs.KeyBodies.{same_keys}
use Rattle.row_lemmas.proofs.Fitting.{kind-fits}

-- Evictions in turn: of none, of one more at the end, and how many rows they leave.
pub evictions_are_counted-none : (bound : ℕ) (cache : List Row) → Evicts bound cache [] cache
evictions_are_counted-none bound cache = none bound cache

pub evictions_are_counted-more : (bound q : ℕ) (cache rest : List Row) (puts : List ℕ)
    → Evicts bound cache puts rest → is_of_put q (last_or None rest) ≡ true → bound < live rest
    → Evicts bound cache (puts ++ q ∷ []) (take (length rest - 1) rest)
evictions_are_counted-more bound q cache rest puts evicts last above = more bound q cache rest puts evicts last above

pub evictions_are_counted-count : (bound : ℕ) (cache rest : List Row) (puts : List ℕ) → Evicts bound cache puts rest
    → length puts + length rest ≡ length cache
evictions_are_counted-count bound cache rest puts evicts = count bound cache rest puts evicts

-- What the rows of other keys are: where no row has the key they are all rows, and no two of them have one key. A row
-- that was found may stand before them.
pub other_rows_are_distinct-absent : (key : Key) (cache : List Row) → has key (without key cache) ≡ false
other_rows_are_distinct-absent key cache = has-without key cache

pub other_rows_are_distinct-all : (key : Key) (cache : List Row) → has key cache ≡ false → without key cache ≡ cache
other_rows_are_distinct-all key cache none = without-absent key cache none

pub other_rows_are_distinct-distinct : (key : Key) (cache : List Row) → HasDistinctKeys cache → HasDistinctKeys (without key cache)
other_rows_are_distinct-distinct key cache are = distinct-filter (λ row. not (is_of key row)) cache are

pub other_rows_are_distinct-brought : (key : Key) (cache : List Row) (row : Row) → row_of key cache ≡ Some row → HasDistinctKeys cache
    → HasDistinctKeys (row ∷ without key cache)
other_rows_are_distinct-brought key cache row found are = brought-distinct key cache (row ∷ without key cache) row found refl are

pub other_rows_are_distinct-front : (count : ℕ) (cache : List Row) → HasDistinctKeys cache → HasDistinctKeys (take count cache)
other_rows_are_distinct-front count cache are = distinct-take count cache are

-- After one part of an operation no two rows have one key, where before it no two had.
pub parts_keep_keys_distinct : (operation : Operation) (cache : List Row) → HasDistinctKeys cache → HasDistinctKeys (apply operation cache).0
parts_keep_keys_distinct operation cache are = kind-distinct operation.kind operation cache are

-- The keys of a scan are among those that it was taken from, and stay as they are where they are put in order once more.
pub scanned_keys_are_in_order-among : (count : ℕ) (test : List ℕ → Bool) (keys : List (List ℕ))
    → All (Contains keys) (take count (in_order (filter test keys)))
scanned_keys_are_in_order-among count test keys = All-scanned (Contains keys) test count keys (All-contains_itself keys)

pub scanned_keys_are_in_order-stay : (count : ℕ) (keys : List (List ℕ)) → in_order (take count (in_order keys)) ≡ take count (in_order keys)
scanned_keys_are_in_order-stay count keys = first_stay count keys

-- Keys in order are the one sorted list of them.
pub sorted_keys_are_in_order : (keys sorted : List (List ℕ)) → IsPermutation keys sorted → IsSorted (slice_cmp nat_cmp) sorted
    → in_order keys ≡ sorted
sorted_keys_are_in_order keys sorted moved rises = sorted_one keys sorted moved rises

-- Keys that rise strictly are in order.
pub rising_keys_are_in_order : (keys : List (List ℕ)) → IsStrictlySortedBy (slice_cmp nat_cmp) keys → in_order keys ≡ keys
rising_keys_are_in_order keys rising = rising_stay keys rising

-- What holds of the key and the value of a put, and of each row of a cache, holds of each row after a part, and of the
-- value or the keys in its reply.
pub parts_hold_what_was_put : (on_key : Key → Bool) (on_value : List ℕ → Bool) (operation : Operation) (cache : List Row)
    → PutHolds on_key on_value operation → RowsHold on_key on_value cache
    → RowsHold on_key on_value (apply operation cache).0 × ReplyHolds on_key on_value operation.key.table (apply operation cache).1
parts_hold_what_was_put k v operation cache put holds = part-holds k v operation cache put holds

-- A body spells at most one list of keys.
pub a_body_spells_one_list : (body : List ℕ) (keys others : List (List ℕ)) → AreKeys body keys → AreKeys body others → keys ≡ others
a_body_spells_one_list body keys others are others-are = same_keys body keys others are others-are

-- The reply to a part fits its operation, on a cache whose rows have different keys, of 1 to 256 bytes, and values no
-- longer than `longest`.
pub replies_fit_their_operations : (longest : ℕ) (operation : Operation) (cache : List Row)
    → HasDistinctKeys cache → All (λ row. IsKey row.key.bytes) cache → All (λ row. length row.value ≤ longest) cache
    → Fits longest operation (apply operation cache).1
replies_fit_their_operations longest operation cache distinct keyed short = kind-fits operation.kind longest operation cache distinct keyed short
