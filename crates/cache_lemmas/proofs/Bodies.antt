-- Bodies have room.
use Rattle.std.proofs.Common.{◌≡◌, ℕ, ◌*◌, ◌≤◌, Bool, true, false, eqb, leb, max, cond, filter, List, [], ◌∷◌, length, take, Option, Some, None, arith, refl, subst, sym, length-append}
use Rattle.std.specs.List.{flat_map, fold}
use Rattle.std.specs.Prelude.{All}
use Rattle.std.proofs.lemmas.Bool.{leb-true}
use Rattle.std.proofs.lemmas.Bool.Decides.{nat_tests}
use Rattle.std.proofs.lemmas.List.{length-take}
use Rattle.std.proofs.lemmas.List.Elements.{All-cons, All-head, All-tail}
use Rattle.rows.specs.declared.kind.Kind.{Kind}
use Rattle.rows.specs.declared.kind.Kind.TheVariants as kinds
use Rattle.rows.specs.Key.{Key}
use Rattle.rows.specs.Operation.{Operation}
use Rattle.rows.specs.Row.{Row}
use Rattle.rows.specs.Apply.{Reply, Stored, Replaced, Missing, Erased, apply, apply_kind, get_where, has, in_order, is_at_most, keys_in, row_of}
use Rattle.rows.specs.Bodies.{most_of_body, most_of_kind}
use Rattle.rows.specs.Holds.{PutHolds, ReplyHolds}
use Rattle.rows.specs.Spelled.{key_field, spelled}
use Rattle.trace_text.specs.Parts.{longest_value}
use Rattle.trace_text.specs.Trace.{Trace}
use Rattle.cache_model.specs.declared.entry.Entry.{Entry}
use Rattle.cache_model.specs.Bodies.{HasShortKeys}
use Rattle.cache_model.specs.Holds.{PutsHold}
use Rattle.cache_model.specs.Legal.{command_of, reply_at}
use Rattle.cache_lemmas.proofs.Along.{All-find, replied}
use Rattle.cache_lemmas.proofs.Holds.{rows-hold}
use Rattle.cache_lemmas.proofs.RowLaws.{PartsHold}

-- the two tests of lengths
abbrev pub is_within : ℕ → List ℕ → Bool
is_within most bytes = leb (length bytes) most

abbrev pub is_short : Key → Bool
is_short key = is_within 256 key.bytes

le-test : (a b : ℕ) → a ≤ b → leb a b ≡ true
le-test a b le = grind (arith, nat_tests)

fields-fit : (keys : List (List ℕ)) → All (λ key. is_within 256 key ≡ true) keys → length (flat_map key_field keys) ≤ 258 * length keys
fields-fit [] short = omega arith
fields-fit (key ∷ keys) short =
    let Short : List ℕ → Type 0 = λ k. is_within 256 k ≡ true in
    let here : length key ≤ 256 = leb-true (length key) 256 (All-head Short key keys short) in
    let rest = fields-fit keys (All-tail Short key keys short) in
    omega (arith, length-append (key_field key) (flat_map key_field keys), here, rest)

if-empty : (b : Bool) (x y : Reply) → length (spelled x).1 ≡ 0 → length (spelled y).1 ≡ 0 → length (spelled (cond b x y)).1 ≤ 0
if-empty true x y p q = omega (arith, p)
if-empty false x y p q = omega (arith, q)

got-fits : (most table : ℕ) (o : Option Row) (key : Key) (cache : List Row) → ReplyHolds is_short (is_within most) table (get_where o key cache).1
    → length (spelled (get_where o key cache).1).1 ≤ most
got-fits most table None key cache holds = omega arith
got-fits most table (Some row) key cache holds = leb-true (length row.value) most holds

kind-fits : (most : ℕ) (kind : Kind) (operation : Operation) (cache : List Row)
    → ReplyHolds is_short (is_within most) operation.key.table (apply_kind kind operation cache).1
    → length (spelled (apply_kind kind operation cache).1).1 ≤ most_of_kind kind most operation.count
kind-fits most kinds.Put operation cache holds = if-empty (has operation.key cache) Replaced Stored refl refl
kind-fits most kinds.Get operation cache holds = got-fits most operation.key.table (row_of operation.key cache) operation.key cache holds
kind-fits most kinds.Erase operation cache holds = if-empty (has operation.key cache) Erased Missing refl refl
kind-fits most kinds.Scan operation cache holds =
    let found = in_order (filter (is_at_most operation.key.bytes) (keys_in operation.key.table cache)) in
    omega (arith, fields-fit (take operation.count found) holds, length-take operation.count found)

-- no value is longer than the greatest of the trace
fold-most : (operations : List Operation) (most bound : ℕ) → fold (λ m operation. max m (length operation.value)) most operations ≤ bound
    → All (λ operation. length operation.value ≤ bound) operations × (most ≤ bound)
fold-most [] most bound le = (λ i d below. absurd (omega (arith, below)), le)
fold-most (operation ∷ operations) most bound le =
    let rest = fold-most operations (max most (length operation.value)) bound le in
    (All-cons (λ o. length o.value ≤ bound) operation operations (omega (arith, rest.1)) rest.0, omega (arith, rest.1))

pub value_within : (trace : Trace) → All (λ operation. is_within (longest_value trace) operation.value ≡ true) trace.operations
value_within trace i d below =
    le-test _ _ ((fold-most trace.operations 0 (longest_value trace) (omega arith)).0 i d below)

pub puts-fit : (trace : Trace) → HasShortKeys trace → PutsHold is_short (is_within (longest_value trace)) trace
puts-fit trace short i d below = λ put. (le-test _ _ (short i d below put), value_within trace i d below)

pub part-fits : (most : ℕ) (operation : Operation) (cache : List Row) → ReplyHolds is_short (is_within most) operation.key.table (apply operation cache).1
    → length (spelled (apply operation cache).1).1 ≤ most_of_body most operation
part-fits most operation cache holds = kind-fits most operation.kind operation cache holds

pub reply-fits : PartsHold → (trace : Trace) (pages : ℕ) (journal : List Entry) (operation : Operation) (reply : Reply) → HasShortKeys trace
    → command_of trace operation.number ≡ Some operation → reply_at trace pages journal operation.number ≡ Some reply
    → length (spelled reply).1 ≤ most_of_body (longest_value trace) operation
reply-fits part trace pages journal operation reply short is e =
    let k = is_short in
    let v = is_within (longest_value trace) in
    let puts = puts-fit trace short in
    let r = replied trace pages operation.number journal reply e in
    let same : r.operation ≡ operation = cc in
    let put = All-find (PutHolds k v) (λ o. eqb o.number operation.number) trace.operations r.operation puts r.command in
    let fits = part-fits (longest_value trace) r.operation r.cache (part k v r.operation r.cache put (rows-hold part k v trace pages _ r.cache puts r.leads)).1 in
    subst (λ (o : Operation). length (spelled reply).1 ≤ most_of_body (longest_value trace) o) same
    (subst (λ (answered : Reply). length (spelled answered).1 ≤ most_of_body (longest_value trace) r.operation) (sym r.is) fits)
