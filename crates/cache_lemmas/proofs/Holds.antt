-- What holds of the keys and values of a trace's puts holds of rows, replies and answers.
use Rattle.std.proofs.Common.{◌≡◌, ℕ, ◌-◌, Bool, true, List, [], ◌∷◌, length, map, take, filter, Option, Some, None, refl, subst, sym, ap, eqb, arith, zero, suc}
use Rattle.std.specs.List.{flat_map, slice_get}
use Rattle.std.specs.Option.{unwrap_or}
use Rattle.std.specs.Prelude.{All, Contains}
use Rattle.std.proofs.lemmas.List.Elements.{All-take, All-append, All-contains}
use Rattle.rows.specs.declared.kind.Kind.{Kind}
use Rattle.rows.specs.declared.kind.Kind.TheVariants as kinds
use Rattle.rows.specs.Apply.{Reply, Stored, Replaced, Value, Missing, Erased, Keys, in_order}
use Rattle.rows.specs.Holds.{PutHolds, RowHolds, RowsHold, ReplyHolds}
use Rattle.rows.specs.Key.{Key}
use Rattle.rows.specs.Operation.{Operation}
use Rattle.rows.specs.Row.{Row}
use Rattle.trace_text.specs.Parts.{owner}
use Rattle.trace_text.specs.Trace.{Trace}
use Rattle.cache_model.specs.declared.entry.Entry.{Entry}
use Rattle.cache_model.specs.Legal.{cache_after, command_of, reply_at}
use Rattle.cache_model.specs.Answer.{answer, answer_kind, keys_in}
use Rattle.cache_model.specs.Holds.{PutsHold, PutBytesHold, ReplyBytesHold}
use Rattle.cache_lemmas.proofs.Along.{All-find, IsKept, kept-after, replied}
use Rattle.cache_lemmas.proofs.RowLaws.{AreAmong, PartsHold}

rows-kept : PartsHold → (k : Key → Bool) (v : List ℕ → Bool) (trace : Trace) (pages : ℕ) → PutsHold k v trace → IsKept trace pages (RowsHold k v)
rows-kept part k v trace pages puts = record {
  parts = λ i operation cache is holds. (part k v operation cache (All-find (PutHolds k v) (λ o. eqb o.number i) trace.operations operation puts is) holds).0;
  evictions = λ q cache can holds. All-take (RowHolds k v) (length cache - 1) cache holds;
}

none-hold : (k : Key → Bool) (v : List ℕ → Bool) → RowsHold k v []
none-hold k v = λ i d below. absurd (omega (arith, below))

pub rows-hold : PartsHold → (k : Key → Bool) (v : List ℕ → Bool) (trace : Trace) (pages : ℕ) (journal : List Entry) (cache : List Row) → PutsHold k v trace
    → cache_after trace pages journal ≡ Some cache → RowsHold k v cache
rows-hold part k v trace pages journal cache puts leads =
    kept-after trace pages (RowsHold k v) (rows-kept part k v trace pages puts) (none-hold k v) journal cache leads

pub reply-holds : PartsHold → (k : Key → Bool) (v : List ℕ → Bool) (trace : Trace) (pages : ℕ) (journal : List Entry) (i : ℕ) (operation : Operation) (reply : Reply)
    → PutsHold k v trace → command_of trace i ≡ Some operation → reply_at trace pages journal i ≡ Some reply → ReplyHolds k v operation.key.table reply
reply-holds part k v trace pages journal i operation reply puts is e =
    let r = replied trace pages i journal reply e in
    let same : r.operation ≡ operation = cc in
    let put = All-find (PutHolds k v) (λ o. eqb o.number i) trace.operations r.operation puts r.command in
    subst (λ (o : Operation). ReplyHolds k v o.key.table reply) same
    (subst (ReplyHolds k v r.operation.key.table) (sym r.is) (part k v r.operation r.cache put (rows-hold part k v trace pages _ r.cache puts r.leads)).1)

-- ---- tests of the bytes of keys

any-table : (k v : List ℕ → Bool) (table : ℕ) (reply : Reply) → ReplyHolds (λ key. k key.bytes) v table reply → ReplyBytesHold k v reply
any-table k v table (Keys keys) holds = holds
any-table k v table (Value value) holds = holds
any-table k v table Stored holds = tt
any-table k v table Replaced holds = tt
any-table k v table Missing holds = tt
any-table k v table Erased holds = tt

reply-bytes : PartsHold → (k v : List ℕ → Bool) (trace : Trace) (pages : ℕ) (journal : List Entry) (i : ℕ) (reply : Reply) → PutBytesHold k v trace
    → reply_at trace pages journal i ≡ Some reply → ReplyBytesHold k v reply
reply-bytes part k v trace pages journal i reply puts e =
    let r = replied trace pages i journal reply e in
    any-table k v r.operation.key.table reply (reply-holds part (λ key. k key.bytes) v trace pages journal i r.operation reply puts r.command e)

-- ---- answers

some-keys : (k v : List ℕ → Bool) (o : Option Reply) → ((reply : Reply) → o ≡ Some reply → ReplyBytesHold k v reply) → All (λ key. k key ≡ true) (keys_in o)
some-keys k v None holds = λ i d below. absurd (omega (arith, below))
some-keys k v (Some (Keys keys)) holds = holds (Keys keys) refl
some-keys k v (Some Stored) holds = λ i d below. absurd (omega (arith, below))
some-keys k v (Some Replaced) holds = λ i d below. absurd (omega (arith, below))
some-keys k v (Some (Value value)) holds = λ i d below. absurd (omega (arith, below))
some-keys k v (Some Missing) holds = λ i d below. absurd (omega (arith, below))
some-keys k v (Some Erased) holds = λ i d below. absurd (omega (arith, below))

abbrev pub EachHolds : (List ℕ → Bool) → (List ℕ → Bool) → List (Option Reply) → Type 0
EachHolds k v [] = Unit {0}
EachHolds k v (o ∷ os) = ((reply : Reply) → o ≡ Some reply → ReplyBytesHold k v reply) × EachHolds k v os

all-keys : (k v : List ℕ → Bool) (replies : List (Option Reply)) → EachHolds k v replies → All (λ key. k key ≡ true) (flat_map (λ keys. keys) (map keys_in replies))
all-keys k v [] each = λ i d below. absurd (omega (arith, below))
all-keys k v (o ∷ os) each = All-append (λ key. k key ≡ true) (keys_in o) _ (some-keys k v o each.0) (all-keys k v os each.1)

one-holds : (k v : List ℕ → Bool) (replies : List (Option Reply)) (s : ℕ) (reply : Reply) → EachHolds k v replies → unwrap_or (slice_get replies s) None ≡ Some reply
    → ReplyBytesHold k v reply
one-holds k v [] s reply each e = cc
one-holds k v (o ∷ os) zero reply each e = each.0 reply e
one-holds k v (o ∷ os) (suc s) reply each e = one-holds k v os s reply each.1 e

-- what holds of all keys holds of the first of them in order
all-pass : (keys : List (List ℕ)) → filter (λ key. true) keys ≡ keys
all-pass [] = refl
all-pass (key ∷ keys) = ap (λ rest. key ∷ rest) (all-pass keys)

first-hold : AreAmong → (P : List ℕ → Type 0) (count : ℕ) (keys : List (List ℕ)) → All P keys → All P (take count (in_order keys))
first-hold among P count keys all i d below =
    let first : All (Contains keys) (take count (in_order keys)) =
    subst (λ (list : List (List ℕ)). All (Contains keys) (take count (in_order list))) (all-pass keys) (among count (λ key. true) keys) in
    All-contains P keys _ all (first i d below)

answer_kind-holds : AreAmong → (k v : List ℕ → Bool) (kind : Kind) (n : ℕ) (operation : Operation) (replies : List (Option Reply)) (reply : Reply) → EachHolds k v replies
    → answer_kind kind n operation replies ≡ Some reply → ReplyBytesHold k v reply
answer_kind-holds among k v kinds.Put n operation replies reply each e = one-holds k v replies (owner operation.key.bytes n) reply each e
answer_kind-holds among k v kinds.Get n operation replies reply each e = one-holds k v replies (owner operation.key.bytes n) reply each e
answer_kind-holds among k v kinds.Erase n operation replies reply each e = one-holds k v replies (owner operation.key.bytes n) reply each e
answer_kind-holds among k v kinds.Scan n operation replies reply each e =
    let Holds : List ℕ → Type 0 = λ key. k key ≡ true in
    let keys = flat_map (λ (keys : List (List ℕ)). keys) (map keys_in replies) in
    let same : Keys (take operation.count (in_order keys)) ≡ reply = cc in
    subst (ReplyBytesHold k v) same (first-hold among Holds operation.count keys (all-keys k v replies each))

each-journal : PartsHold → (k v : List ℕ → Bool) (trace : Trace) (pages i : ℕ) (journals : List (List Entry)) → PutBytesHold k v trace
    → EachHolds k v (map (λ journal. reply_at trace pages journal i) journals)
each-journal part k v trace pages i [] puts = tt
each-journal part k v trace pages i (journal ∷ journals) puts =
    (λ reply e. reply-bytes part k v trace pages journal i reply puts e, each-journal part k v trace pages i journals puts)

pub answer-holds : PartsHold → AreAmong → (k v : List ℕ → Bool) (trace : Trace) (n pages : ℕ) (journals : List (List Entry)) (operation : Operation) (reply : Reply) → PutBytesHold k v trace
    → answer trace n pages journals operation ≡ Some reply → ReplyBytesHold k v reply
answer-holds part among k v trace n pages journals operation reply puts e =
    answer_kind-holds among k v operation.kind n operation (map (λ journal. reply_at trace pages journal operation.number) journals) reply
    (each-journal part k v trace pages operation.number journals puts) e
