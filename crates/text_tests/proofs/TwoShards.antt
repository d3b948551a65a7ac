-- Two shards: a log that is filled, and what the two logs hold.
use Rattle.std.proofs.Common.{◌≡◌, ℕ, ◌+◌, ◌-◌, ◌<◌, ◌≤◌, zero, suc, true, List, [], ◌∷◌, ◌++◌, length, map, take, get_or, replicate, slice_set, Option, Some, None, Ok, refl, sym, ap, ◌∙◌, arith, lit≤, append-nil}
use Rattle.std.specs.Prelude.{All, codes}
use Rattle.std.specs.List.{slice_get}
use Rattle.std.specs.List.Sorted.{IsStrictlySortedBy}
use Rattle.std.specs.Fmt.{digits}
use Rattle.std.proofs.lemmas.List.{length-map, length-take-le, map-append, take_all, take_more}
use Rattle.std.proofs.lemmas.List.Elements.{All-from_recursion}
use denote.Ref.{Bor}
use Rattle.rows.specs.Operation.{Operation}
use Rattle.trace_text.specs.Parts.{longest_value}
use Rattle.trace_text.specs.Reading.{trace_of}
use Rattle.trace_text.specs.Trace.{Trace}
use Rattle.rows.specs.declared.reply_kind.ReplyKind.{ReplyKind}
use Rattle.rows.specs.declared.reply_kind.ReplyKind.TheVariants as kinds
use Rattle.rows.specs.Apply.{Reply, Stored, Missing, Keys, is_at_most}
use Rattle.cache_model.specs.Examples.{first, joined_scan, second, two_shards}
use Rattle.rows.specs.Spelled.{IsKey}
use Rattle.rows.specs.Fits.{AreFound, HasFitting}
use Rattle.cache_model.specs.Logged.{AreLogged}
use Rattle.cache_model.specs.OwnParts.{HoldsReplies, part_reply, parts_of}
use Rattle.text_tests.proofs.Logs.{next_is_none, next_is_set}

-- ---- a log that is filled

abbrev pub Log : Type 0
Log = List (Option (ReplyKind × List ℕ))

abbrev pub Given : Type 0
Given = List (ReplyKind × Bor (List ℕ))

abbrev pub recorded : ReplyKind × Bor (List ℕ) → Option (ReplyKind × List ℕ)
recorded reply = Some (reply.0, reply.1.now)

abbrev pub filled : Given → ℕ → Log
filled replies n = map recorded (take n replies) ++ replicate (length replies - n) None

many : (replies : Given) (n : ℕ) → n < length replies → length (map recorded (take n replies)) ≡ n
many replies n below = let within : n ≤ length replies = omega arith in length-map (take n replies) recorded ∙ length-take-le n replies within

rest : (replies : Given) (n : ℕ) (log : Log) → n < length replies → log ≡ filled replies n → log ≡ map recorded (take n replies) ++ replicate (suc (length replies - (n + 1))) None
rest replies n log below is =
    let more : length replies - n ≡ suc (length replies - (n + 1)) = omega arith in
    is ∙ ap (λ (k : ℕ). map recorded (take n replies) ++ replicate k None) more

pub filled_next : (replies : Given) (n : ℕ) (log : Log) → n < length replies → log ≡ filled replies n → slice_get log n ≡ Some None
filled_next replies n log below is = next_is_none (map recorded (take n replies)) log n (length replies - (n + 1)) (many replies n below) (rest replies n log below is)

pub filled_more : (replies : Given) (n : ℕ) (d : ReplyKind × Bor (List ℕ)) (log : Log) → n < length replies → log ≡ filled replies n
    → slice_set log n (recorded (get_or replies n d)) ≡ filled replies (n + 1)
filled_more replies n d log below is =
    next_is_set (map recorded (take n replies)) log n (length replies - (n + 1)) (recorded (get_or replies n d)) (many replies n below) (rest replies n log below is)
    ∙ ap (λ front. front ++ replicate (length replies - (n + 1)) None)
    (sym (map-append recorded (take n replies) (get_or replies n d ∷ [])) ∙ ap (map recorded) (sym (take_more replies n d below)))

pub filled_all : (replies : Given) (n : ℕ) (log : Log) → length replies ≤ n → log ≡ filled replies n → log ≡ map recorded replies
filled_all replies n log past is =
    let none : length replies - n ≡ 0 = omega arith in
    is ∙ ap (λ (k : ℕ). map recorded (take n replies) ++ replicate k None) none ∙ append-nil (map recorded (take n replies)) ∙ ap (map recorded) (take_all n replies past)

-- ---- the trace, and what its logs hold

pub trace_is : (trace : Trace) → trace_of (codes "put a 1\nget z\nput b 2\nget z\nput c 3\nget z\nscan a 3\n") 2 ≡ Ok trace → trace ≡ two_shards
unfolding digits
trace_is trace read =
    let computed : trace_of (codes "put a 1\nget z\nput b 2\nget z\nput c 3\nget z\nscan a 3\n") 2 ≡ Ok two_shards = refl in
    cc

abbrev pub first_log : Log
first_log =
    Some (kinds.Stored, []) ∷ Some (kinds.Stored, []) ∷ Some (kinds.Stored, []) ∷ Some (kinds.Keys, 1 ∷ 0 ∷ 97 ∷ 1 ∷ 0 ∷ 99 ∷ [])
    ∷ Some (kinds.Keys, 1 ∷ 0 ∷ 98 ∷ []) ∷ []

abbrev pub second_log : Log
second_log = Some (kinds.Missing, []) ∷ Some (kinds.Missing, []) ∷ Some (kinds.Missing, []) ∷ []

abbrev replies : ℕ × ℕ → Option Reply
replies = part_reply two_shards 1280 (first ∷ second ∷ [])

held : (o : ℕ) (d : Log) → o < 2 → HoldsReplies two_shards 2 o replies (get_or (first_log ∷ second_log ∷ []) o d)
held zero d below = refl
held (suc zero) d below = refl
held (suc (suc o)) d below = absurd (omega (arith, below))

abbrev FitsIn : Operation → ℕ × ℕ → Type 0
FitsIn operation part = HasFitting (longest_value two_shards) operation (replies part)

abbrev command : ℕ → Operation
command i = get_or two_shards.operations (i - 1) joined_scan

one-part : (operation : Operation) (part : ℕ × ℕ) → FitsIn operation part → All (FitsIn operation) (part ∷ [])
one-part operation part fits = All-from_recursion (FitsIn operation) (part ∷ []) (fits, tt)

is-key : IsKey (codes "a") × IsKey (codes "b") × IsKey (codes "c")
is-key = (record { some = lit≤ tt; short = lit≤ tt }, record { some = lit≤ tt; short = lit≤ tt }, record { some = lit≤ tt; short = lit≤ tt })

abbrev IsFrom : List ℕ → Type 0
IsFrom key = is_at_most (codes "a") key ≡ true

a_and_c : AreFound (codes "a") 3 (codes "a" ∷ codes "c" ∷ [])
unfolding IsStrictlySortedBy
a_and_c = record {
  few = lit≤ tt;
  rising = ((refl, tt), (tt, tt));
  from = All-from_recursion IsFrom (codes "a" ∷ codes "c" ∷ []) (refl, (refl, tt));
  lengths = All-from_recursion IsKey (codes "a" ∷ codes "c" ∷ []) (is-key.0, (is-key.2, tt));
}

only_b : AreFound (codes "a") 3 (codes "b" ∷ [])
unfolding IsStrictlySortedBy
only_b = record {
  few = lit≤ tt;
  rising = (tt, tt);
  from = All-from_recursion IsFrom (codes "b" ∷ []) (refl, tt);
  lengths = All-from_recursion IsKey (codes "b" ∷ []) (is-key.1, tt);
}

fit : All (λ operation. All (FitsIn operation) (parts_of 2 operation)) two_shards.operations
fit = All-from_recursion (λ operation. All (FitsIn operation) (parts_of 2 operation)) two_shards.operations (
  one-part (command 1) (1, 0) tt,
  (
    one-part (command 2) (2, 1) tt,
    (
      one-part (command 3) (3, 1) tt,
      (one-part (command 4) (4, 1) tt, (one-part (command 5) (5, 0) tt, (one-part (command 6) (6, 1) tt, (All-from_recursion (FitsIn joined_scan) ((7, 0) ∷ (7, 1) ∷ []) (a_and_c, (only_b, tt)), tt)))),
    ),
  ),
)

abbrev all_answers : List (ℕ × Reply)
all_answers =
    (1, Stored) ∷ (2, Missing) ∷ (3, Stored) ∷ (4, Missing) ∷ (5, Stored) ∷ (6, Missing) ∷ (7, Keys (codes "a" ∷ codes "b" ∷ codes "c" ∷ [])) ∷ []

pub two_logged : (answers : List (ℕ × Reply)) × AreLogged two_shards 2 (first_log ∷ second_log ∷ []) answers
two_logged = (all_answers, record { replies = replies; logged = held; fit = fit; answered = refl })
