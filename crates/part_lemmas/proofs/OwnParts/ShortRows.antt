-- The rows of a cache, as rows go from it and a command is done on it: how many they are, and how long.
use Rattle.std.proofs.Common.{◌≡◌, ℕ, zero, suc, ◌+◌, ◌-◌, ◌*◌, ◌<◌, ◌≤◌, Bool, true, false, not, cond, leb, List, [], ◌∷◌, length, take, get_or, Option, Some, None, arith, refl, sym, subst, max, fold}
use Rattle.std.specs.List.{All, Contains, filter, find, flat_map}
use Rattle.std.proofs.lemmas.Bool.Decides.{nat_tests}
use Rattle.std.proofs.lemmas.List.{length-append, length-take}
use Rattle.std.proofs.lemmas.List.Elements.{All-contains, All-head, All-tail, All-take}
use Rattle.std.proofs.lemmas.List.Sums.{count_by-le-length, length-filter}
use Rattle.layout.specs.Sizes.{greatest_key, key_room}
use Rattle.rows.specs.declared.kind.Kind.{Kind}
use Rattle.rows.specs.declared.kind.Kind.TheVariants.{Put, Get, Erase, Scan}
use Rattle.rows.specs.Key.{Key}
use Rattle.rows.specs.Operation.{Operation, is_put}
use Rattle.trace_text.specs.Parsed.{IsWellFormed}
use Rattle.trace_text.specs.Parts.{longest_value}
use Rattle.trace_text.specs.Trace.{Trace}
use Rattle.rows.specs.Apply.{Stored, Replaced, Missing, Erased, apply, apply_kind, in_order, is_at_most, is_of, keys_in, row_of, scanned, without}
use Rattle.rows.specs.Bodies.{most_of_body, most_of_kind}
use Rattle.rows.specs.Evictions.{Evicts}
use Rattle.rows.specs.Holds.{PutHolds, ReplyHolds, RowsHold}
use Rattle.rows.specs.Row.{Row}
use Rattle.rows.specs.Spelled.{key_field, spelled}

-- How many there are.

one-goes : (p : Row → Bool) (xs : List Row) (x : Row) → find p xs ≡ Some x → length (filter (λ y. not (p y)) xs) + 1 ≤ length xs
one-goes p [] x found = absurd (let e : None ≡ Some x = found in cc)
one-goes p (y ∷ ys) x found = go (p y) found (one-goes p ys x)
  where
    rest : List Row
    rest = filter (λ z. not (p z)) ys

    go : (b : Bool) → cond b (Some y) (find p ys) ≡ Some x → (find p ys ≡ Some x → length rest + 1 ≤ length ys)
        → length (cond (not b) (y ∷ rest) rest) + 1 ≤ suc (length ys)
    go true found others = let a = length-filter (λ z. not (p z)) ys in let b = count_by-le-length (λ z. not (p z)) ys in omega (arith, a, b)
    go false found others = let e = others found in omega (arith, e)

fewer : (key : Key) (cache : List Row) → length (without key cache) ≤ length cache
fewer key cache =
    let a = length-filter (λ row. not (is_of key row)) cache in
    let b = count_by-le-length (λ row. not (is_of key row)) cache in
    omega (arith, a, b)

-- a put adds at most one
pub few-after : (operation : Operation) (cache : List Row) → length (apply operation cache).0 ≤ length cache + cond (is_put operation.kind) 1 0
few-after operation cache = go operation.kind
  where
    got : (found : Option Row) → row_of operation.key cache ≡ found → length (apply_kind Get operation cache).0 ≤ length cache
    got None is = rw is (omega arith)
    got (Some row) is = let e = one-goes (is_of operation.key) cache row is in rw is (omega (arith, e))

    go : (kind : Kind) → length (apply_kind kind operation cache).0 ≤ length cache + cond (is_put kind) 1 0
    go Put = let e = fewer operation.key cache in omega (arith, e)
    go Get = let e = got (row_of operation.key cache) refl in omega (arith, e)
    go Erase = let e = fewer operation.key cache in omega (arith, e)
    go Scan = omega arith

-- How long they are.

-- no longer than a key can be, or than so many bytes
abbrev pub is_short_key : Key → Bool
is_short_key key = leb (length key.bytes) greatest_key

abbrev pub is_short_value : ℕ → List ℕ → Bool
is_short_value longest value = leb (length value) longest

abbrev pub AreShort : ℕ → List Row → Type 0
AreShort longest rows = RowsHold is_short_key (is_short_value longest) rows

-- those that are left are
pub short-left : (longest bound : ℕ) (cache rest : List Row) (puts : List ℕ) → Evicts bound cache puts rest → AreShort longest cache → AreShort longest rest
unfolding Evicts
short-left longest bound cache rest [] evicts short = subst (AreShort longest) (sym evicts) short
short-left longest bound cache rest (put ∷ puts) evicts short =
    short-left longest bound (take (length cache - 1) cache) rest puts evicts.2
    (All-take (λ (row : Row). (is_short_key row.key ≡ true) × (is_short_value longest row.value ≡ true)) (length cache - 1) cache short)

-- That what holds of puts holds of rows and of replies is a law.
abbrev pub KeepsRows : Type 0
KeepsRows = (on_key : Key → Bool) (on_value : List ℕ → Bool) (operation : Operation) (cache : List Row)
    → PutHolds on_key on_value operation → RowsHold on_key on_value cache
    → RowsHold on_key on_value (apply operation cache).0 × ReplyHolds on_key on_value operation.key.table (apply operation cache).1

most-so-far : (operations : List Operation) (m : ℕ) → m ≤ fold (λ most (o : Operation). max most (length o.value)) m operations
most-so-far [] m = omega arith
most-so-far (o ∷ operations) m = let e = most-so-far operations (max m (length o.value)) in omega (arith, e)

most-of-each : (operations : List Operation) (m k : ℕ) (d : Operation) → k < length operations
    → length (get_or operations k d).value ≤ fold (λ most (o : Operation). max most (length o.value)) m operations
most-of-each [] m k d below = absurd (omega (arith, below))
most-of-each (o ∷ operations) m zero d below = let e = most-so-far operations (max m (length o.value)) in omega (arith, e)
most-of-each (o ∷ operations) m (suc k) d below = most-of-each operations (max m (length o.value)) k d (omega (arith, below))

-- a command of a trace puts no longer row
pub short-put : (trace : Trace) (operation : Operation) → All IsWellFormed trace.operations → Contains trace.operations operation
    → PutHolds is_short_key (is_short_value (longest_value trace)) operation
short-put trace operation formed there is =
    let key = (All-contains IsWellFormed trace.operations operation formed there).key_most in
    let value = All-contains (λ (o : Operation). length o.value ≤ longest_value trace) trace.operations operation (λ k d below. most-of-each trace.operations 0 k d below) there in
    (grind (arith, nat_tests), grind (arith, nat_tests))

pub short-after : KeepsRows → (longest bound : ℕ) (operation : Operation) (cache rest : List Row) (puts : List ℕ) → PutHolds is_short_key (is_short_value longest) operation
    → Evicts bound cache puts rest → AreShort longest cache → AreShort longest (apply operation rest).0
short-after keeps longest bound operation cache rest puts put evicts short =
    (keeps is_short_key (is_short_value longest) operation rest put (short-left longest bound cache rest puts evicts short)).0

-- How long a reply's body is.

abbrev is_short : List ℕ → Bool
is_short bytes = leb (length bytes) greatest_key

keys-short : (keys : List (List ℕ)) → All (λ key. is_short key ≡ true) keys → length (flat_map key_field keys) ≤ key_room * length keys
keys-short [] all = omega arith
keys-short (key ∷ keys) all =
    let first : is_short key ≡ true = All-head (λ (k : List ℕ). is_short k ≡ true) key keys all in
    let few : length key ≤ 256 = grind (arith, nat_tests) in
    let rest = keys-short keys (All-tail (λ (k : List ℕ). is_short k ≡ true) key keys all) in
    omega (arith, length-append (key_field key) (flat_map key_field keys), rest, few)

pub short-body : (longest : ℕ) (operation : Operation) (cache : List Row)
    → ReplyHolds is_short_key (is_short_value longest) operation.key.table (apply operation cache).1
    → length (spelled (apply operation cache).1).1 ≤ most_of_body longest operation
short-body longest operation cache holds = go operation.kind holds
  where
    stored : (b : Bool) → length (spelled (cond b Replaced Stored)).1 ≤ 0
    stored true = omega arith
    stored false = omega arith

    erased : (b : Bool) → length (spelled (cond b Erased Missing)).1 ≤ 0
    erased true = omega arith
    erased false = omega arith

    got : (found : Option Row) → row_of operation.key cache ≡ found
        → ReplyHolds is_short_key (is_short_value longest) operation.key.table (apply_kind Get operation cache).1
        → length (spelled (apply_kind Get operation cache).1).1 ≤ longest
    got None is holds = rw is (omega arith)
    got (Some row) is holds =
        let here = rw is at holds in
        rw is (grind (arith, nat_tests))

    go : (kind : Kind) → ReplyHolds is_short_key (is_short_value longest) operation.key.table (apply_kind kind operation cache).1
        → length (spelled (apply_kind kind operation cache).1).1 ≤ most_of_kind kind longest operation.count
    go Put holds = stored _
    go Get holds = got (row_of operation.key cache) refl holds
    go Erase holds = erased _
    go Scan holds =
        let keys = scanned operation.key operation.count cache in
        let room = keys-short keys holds in
        let few = length-take operation.count (in_order (filter (is_at_most operation.key.bytes) (keys_in operation.key.table cache))) in
        omega (arith, room, few)

-- so is that of a reply on the rows that are left
pub body-left : KeepsRows → (longest bound : ℕ) (operation : Operation) (cache rest : List Row) (puts : List ℕ) → PutHolds is_short_key (is_short_value longest) operation
    → Evicts bound cache puts rest → AreShort longest cache → length (spelled (apply operation rest).1).1 ≤ most_of_body longest operation
body-left keeps longest bound operation cache rest puts put evicts short =
    short-body longest operation rest (keeps is_short_key (is_short_value longest) operation rest put (short-left longest bound cache rest puts evicts short)).1
