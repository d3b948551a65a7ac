-- Replies at entries of a journal fit their commands, and logs that hold them hold the answers.
use Rattle.std.proofs.Common.{◌≡◌, ℕ, ◌+◌, ◌&&◌, suc, zero, Bool, true, false, leb, cond, List, [], ◌∷◌, length, map, Option, Some, None, refl, subst, sym, ap, ◌∙◌, arith, get_or, zero-add}
use Rattle.std.specs.List.{filter_map, range_with_len, slice_get}
use Rattle.std.specs.Option.{IsSome, option_and_then, option_map, unwrap_or}
use Rattle.std.specs.Prelude.{All}
use Rattle.std.proofs.lemmas.Bool.{and_parts, leb-true}
use Rattle.std.proofs.lemmas.Bool.Decides.{nat_tests}
use Rattle.std.proofs.lemmas.List.Elements.{All-head, All-tail, All-cons}
use Rattle.rows.specs.declared.kind.Kind.{Kind}
use Rattle.rows.specs.declared.kind.Kind.TheVariants as kinds
use Rattle.rows.specs.Apply.{Reply}
use Rattle.rows.specs.Fits.{Fits, HasFitting}
use Rattle.rows.specs.Spelled.{IsKey}
use Rattle.rows.specs.Operation.{Operation, is_scan}
use Rattle.trace_text.specs.Parts.{longest_value, owner}
use Rattle.trace_text.specs.Trace.{Trace}
use Rattle.cache_model.specs.declared.entry.Entry.{Entry}
use Rattle.cache_model.specs.Answer.{answer, answer_from, answer_kind}
use Rattle.cache_model.specs.Bodies.{HasKeys}
use Rattle.cache_model.specs.Holds.{PutBytesHold}
use Rattle.cache_model.specs.Legal.{command_of, reply_at}
use Rattle.cache_model.specs.Logged.{AreLogged}
use Rattle.cache_model.specs.Replied.{HoldTheReplies}
use Rattle.cache_model.specs.OwnParts.{Log, part_reply, parts_of}
use Rattle.cache_model.specs.Report.{answers}
use Rattle.cache_lemmas.proofs.Along.{replied}
use Rattle.cache_lemmas.proofs.Bodies.{is_within, value_within}
use Rattle.cache_lemmas.proofs.Distinct.{distinct-after}
use Rattle.cache_lemmas.proofs.Holds.{rows-hold}
use Rattle.cache_lemmas.proofs.RowLaws.{FittingLaws}

-- ---- at an entry of a journal

abbrev is_key : List ℕ → Bool
is_key key = leb 1 (length key) && leb (length key) 256

key-test : (key : List ℕ) → IsKey key → is_key key ≡ true
key-test key is =
    let some : leb 1 (length key) ≡ true = grind (arith, nat_tests, is.some) in
    let short : leb (length key) 256 ≡ true = grind (arith, nat_tests, is.short) in
    rw (some, short) refl

key-from : (key : List ℕ) → is_key key ≡ true → IsKey key
key-from key passes =
    let parts = and_parts (leb 1 (length key)) (leb (length key) 256) passes in
    record { some = leb-true 1 (length key) parts.0; short = leb-true (length key) 256 parts.1 }

puts-keyed : (trace : Trace) → HasKeys trace → PutBytesHold is_key (is_within (longest_value trace)) trace
puts-keyed trace keyed i d below = λ put. (key-test _ (keyed i d below put), value_within trace i d below)

pub reply-fits : FittingLaws → (trace : Trace) (pages : ℕ) (journal : List Entry) (operation : Operation) (reply : Reply) → HasKeys trace
    → command_of trace operation.number ≡ Some operation → reply_at trace pages journal operation.number ≡ Some reply
    → Fits (longest_value trace) operation reply
reply-fits laws trace pages journal operation reply keyed is e =
    let longest = longest_value trace in
    let r = replied trace pages operation.number journal reply e in
    let same : r.operation ≡ operation = cc in
    let rows = rows-hold laws.hold (λ key. is_key key.bytes) (is_within longest) trace pages _ r.cache (puts-keyed trace keyed) r.leads in
    let fits = laws.fit longest r.operation r.cache (distinct-after laws.distinct laws.front trace pages _ r.cache r.leads)
    (λ i d below. key-from _ (rows i d below).0) (λ i d below. leb-true _ longest (rows i d below).1) in
    subst (λ (o : Operation). Fits longest o reply) same (subst (λ (answered : Reply). Fits longest r.operation answered) (sym r.is) fits)

-- ---- the replies of all shards

-- by shard, and by journal
by-journal : {X : Type 0} (h : X → Option Reply) (xs : List X) (k : ℕ) (f : ℕ → Option X) → ((j : ℕ) → f (k + j) ≡ slice_get xs j)
    → map (λ s. option_and_then h (f s)) (range_with_len k (length xs)) ≡ map h xs
by-journal h [] k f at = refl
by-journal h (x ∷ xs) k f at =
    let first : f k ≡ Some x = ap f (omega arith) ∙ at 0 in
    rw first (ap (λ rest. h x ∷ rest) (by-journal h xs (k + 1) f (λ j. ap f (omega arith) ∙ at (suc j))))

replies-are : (trace : Trace) (n pages : ℕ) (journals : List (List Entry)) (i : ℕ) → length journals ≡ n
    → map (λ s. part_reply trace pages journals (i, s)) (range_with_len 0 n) ≡ map (λ journal. reply_at trace pages journal i) journals
replies-are trace n pages journals i many =
    ap (λ (m : ℕ). map (λ s. part_reply trace pages journals (i, s)) (range_with_len 0 m)) (sym many)
    ∙ by-journal (λ journal. reply_at trace pages journal i) journals 0 (slice_get journals) (λ j. ap (slice_get journals) (zero-add j))

one-of : {X : Type 0} (h : X → Option Reply) (xs : List X) (j : ℕ) → unwrap_or (slice_get (map h xs) j) None ≡ option_and_then h (slice_get xs j)
one-of h [] j = refl
one-of h (x ∷ xs) zero = refl
one-of h (x ∷ xs) (suc j) = one-of h xs j

-- ---- each part of a command

of-command : (scan : Bool) (n i owner : ℕ) → All (λ (part : ℕ × ℕ). part.0 ≡ i) (cond scan (map (λ s. (i, s)) (range_with_len 0 n)) ((i, owner) ∷ []))
of-command true n i owner = from 0 n
  where
    from : (k m : ℕ) → All (λ (part : ℕ × ℕ). part.0 ≡ i) (map (λ s. (i, s)) (range_with_len k m))
    from k zero = λ j d below. absurd (omega (arith, below))
    from k (suc m) = All-cons (λ (part : ℕ × ℕ). part.0 ≡ i) (i, k) (map (λ s. (i, s)) (range_with_len (k + 1) m)) refl (from (k + 1) m)
of-command false n i owner = All-cons (λ (part : ℕ × ℕ). part.0 ≡ i) (i, owner) [] refl (λ j d below. absurd (omega (arith, below)))

in-journal : FittingLaws → (trace : Trace) (pages : ℕ) (operation : Operation) (o : Option (List Entry)) → HasKeys trace → command_of trace operation.number ≡ Some operation
    → (r : Option Reply) → option_and_then (λ journal. reply_at trace pages journal operation.number) o ≡ r → IsSome r
    → HasFitting (longest_value trace) operation r
in-journal laws trace pages operation None keyed is None e some = absurd (cc some)
in-journal laws trace pages operation None keyed is (Some reply) e some = absurd (cc e)
in-journal laws trace pages operation (Some journal) keyed is None e some = absurd (cc some)
in-journal laws trace pages operation (Some journal) keyed is (Some reply) e some = reply-fits laws trace pages journal operation reply keyed is e

part-fits : FittingLaws → (trace : Trace) (pages : ℕ) (journals : List (List Entry)) (operation : Operation) (part : ℕ × ℕ) → HasKeys trace
    → command_of trace operation.number ≡ Some operation → part.0 ≡ operation.number → IsSome (part_reply trace pages journals part)
    → HasFitting (longest_value trace) operation (part_reply trace pages journals part)
part-fits laws trace pages journals operation (i, s) keyed is same some =
    let at : part_reply trace pages journals (operation.number, s) ≡ part_reply trace pages journals (i, s) = ap (λ (k : ℕ). part_reply trace pages journals (k, s)) (sym same) in
    in-journal laws trace pages operation (slice_get journals s) keyed is (part_reply trace pages journals (i, s)) at some

-- ---- the answers

kind-answered : (kind : Kind) (n : ℕ) (operation : Operation) (replies : List (Option Reply))
    → (is_scan kind ≡ false → IsSome (unwrap_or (slice_get replies (owner operation.key.bytes n)) None)) → IsSome (answer_kind kind n operation replies)
kind-answered kinds.Scan n operation replies some = refl
kind-answered kinds.Put n operation replies some = some refl
kind-answered kinds.Get n operation replies some = some refl
kind-answered kinds.Erase n operation replies some = some refl

owner-part : (scan : Bool) (n i owner : ℕ) (P : ℕ × ℕ → Type 0) → All P (cond scan (map (λ s. (i, s)) (range_with_len 0 n)) ((i, owner) ∷ [])) → scan ≡ false → P (i, owner)
owner-part true n i owner P all e = absurd (cc e)
owner-part false n i owner P all e = All-head P (i, owner) [] all

is-answered : (trace : Trace) (n pages : ℕ) (journals : List (List Entry)) (operation : Operation)
    → All (λ part. IsSome (part_reply trace pages journals part)) (parts_of n operation) → IsSome (answer trace n pages journals operation)
is-answered trace n pages journals operation parts =
    kind-answered operation.kind n operation (map (λ journal. reply_at trace pages journal operation.number) journals)
    (λ other.
    let here = owner-part (is_scan operation.kind) n operation.number (owner operation.key.bytes n) (λ part. IsSome (part_reply trace pages journals part)) parts other in
    subst IsSome (sym (one-of (λ journal. reply_at trace pages journal operation.number) journals (owner operation.key.bytes n))) here)

-- a list of answers, with none left out
none-left : (ask : Operation → Option Reply) (operations : List Operation) → All (λ operation. IsSome (ask operation)) operations
    → map {A = ℕ × Reply} {B = ℕ × Option Reply} (λ answer. (answer.0, Some answer.1)) (filter_map {Y = ℕ × Reply} (λ operation. option_map (λ reply. (operation.number, reply)) (ask operation)) operations)
    ≡ map {B = ℕ × Option Reply} (λ operation. (operation.number, ask operation)) operations
none-left ask [] some = refl
none-left ask (operation ∷ operations) some = go (ask operation) refl (All-head (λ o. IsSome (ask o)) operation operations some) (none-left ask operations (All-tail (λ o. IsSome (ask o)) operation operations some))
  where
    go : (o : Option Reply) → ask operation ≡ o → IsSome (ask operation)
        → map {A = ℕ × Reply} {B = ℕ × Option Reply} (λ answer. (answer.0, Some answer.1)) (filter_map {Y = ℕ × Reply} (λ x. option_map (λ reply. (x.number, reply)) (ask x)) operations) ≡ map {B = ℕ × Option Reply} (λ x. (x.number, ask x)) operations
        → map {A = ℕ × Reply} {B = ℕ × Option Reply} (λ answer. (answer.0, Some answer.1)) (filter_map {Y = ℕ × Reply} (λ x. option_map (λ reply. (x.number, reply)) (ask x)) (operation ∷ operations))
        ≡ map {B = ℕ × Option Reply} (λ x. (x.number, ask x)) (operation ∷ operations)
    go None e here rest = absurd (cc (e, here))
    go (Some reply) e here rest = rw e (ap (λ list. (operation.number, Some reply) ∷ list) rest)

pub are-logged : FittingLaws → (trace : Trace) (n pages : ℕ) (journals : List (List Entry)) (logs : List Log)
    → HoldTheReplies trace n pages journals logs → AreLogged trace n logs (answers trace n pages journals)
are-logged laws trace n pages journals logs held = record {
  replies = part_reply trace pages journals;
  logged = held.logged;
  fit = λ i d below j e within.
      let operation = get_or trace.operations i d in
      let number = of-command (is_scan operation.kind) n operation.number (owner operation.key.bytes n) j e within in
      part-fits laws trace pages journals operation (get_or (parts_of n operation) j e) held.keys (held.commands i d below) number (held.replied i d below j e within);
  answered =
      none-left (answer trace n pages journals) trace.operations (λ i d below. is-answered trace n pages journals _ (held.replied i d below))
      ∙ each-same trace.operations;
}
  where
    each-same : (operations : List Operation) → map {B = ℕ × Option Reply} (λ operation. (operation.number, answer trace n pages journals operation)) operations
        ≡ map {B = ℕ × Option Reply} (λ operation. (operation.number, answer_from n operation (map (λ s. part_reply trace pages journals (operation.number, s)) (range_with_len 0 n)))) operations
    each-same [] = refl
    each-same (operation ∷ operations) =
        rw (replies-are trace n pages journals operation.number held.one_journal_each) (ap (λ rest. (operation.number, answer trace n pages journals operation) ∷ rest) (each-same operations))
