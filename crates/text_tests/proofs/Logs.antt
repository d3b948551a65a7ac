-- A log whose first parts were answered in turn, each by a reply that fits its command.
use Rattle.std.proofs.Common.{◌≡◌, ℕ, ◌+◌, ◌-◌, ◌<◌, ◌≤◌, suc, true, List, [], ◌∷◌, ◌++◌, length, map, get_or, replicate, slice_set, Option, Some, None, sym, ap, ◌∙◌, subst, refl, arith, append_assoc, append-nil, length-append, lit≤, zero-add}
use Rattle.std.specs.Prelude.{All}
use Rattle.std.specs.List.{slice_get, enumerate_from}
use Rattle.std.specs.List.Sorted.{IsStrictlySortedBy}
use Rattle.std.specs.Option.{option_map}
use Rattle.std.proofs.lemmas.List.{get_or-map, get_or_default, length-map, map-append}
use Rattle.std.proofs.lemmas.List.Elements.{All-cons, All-from_recursion}
use Rattle.std.proofs.lemmas.Option.{slice_get-get_or}
use Rattle.std.proofs.Math.Seq.{set-append_seam, get_or-append_seam}
use Rattle.trace_text.specs.declared.command.Command.{Command}
use Rattle.rows.specs.declared.kind.Kind.{Kind}
use Rattle.rows.specs.declared.kind.Kind.TheVariants as asks
use Rattle.rows.specs.Key.{Key}
use Rattle.rows.specs.Operation.{Operation}
use Rattle.trace_text.specs.Operation.{operation}
use Rattle.trace_text.specs.Parsed.{Parsed, trace_in, AreNumbered}
use Rattle.trace_text.specs.Parts.{longest_value}
use Rattle.trace_text.specs.Reading.{version_in}
use Rattle.trace_text.specs.Trace.{Trace, trace_with}
use Rattle.rows.specs.declared.reply_kind.ReplyKind.{ReplyKind}
use Rattle.rows.specs.declared.reply_kind.ReplyKind.TheVariants as kinds
use Rattle.cache_model.specs.Answer.{answer_from}
use Rattle.rows.specs.Apply.{Reply, Stored, Replaced, Value, Missing, Erased, Keys, is_at_most}
use Rattle.rows.specs.Spelled.{IsKey, spelled}
use Rattle.rows.specs.Fits.{AreFound, Fits, FitsKind, HasFitting}
use Rattle.cache_model.specs.Logged.{AreLogged}
use Rattle.cache_model.specs.OwnParts.{issued_parts, parts_of}

-- ---- replies by the kind of their command

-- a reply without a body
abbrev pub IsBareTo : Kind → ReplyKind → Type 0
IsBareTo asked kind = (reply : Reply) × ((kind, []) ≡ spelled reply) × ((longest : ℕ) (key : Key) (count : ℕ) → FitsKind asked longest key count reply)

pub stored_fits : IsBareTo asks.Put kinds.Stored
stored_fits = (Stored, refl, λ longest key count. tt)

pub replaced_fits : IsBareTo asks.Put kinds.Replaced
replaced_fits = (Replaced, refl, λ longest key count. tt)

pub erased_fits : IsBareTo asks.Erase kinds.Erased
erased_fits = (Erased, refl, λ longest key count. tt)

pub missing_fits : IsBareTo asks.Erase kinds.Missing
missing_fits = (Missing, refl, λ longest key count. tt)

abbrev pub IsGot : ℕ → ReplyKind → List ℕ → Type 0
IsGot longest kind body = (key : Key) (count : ℕ) → (reply : Reply) × ((kind, body) ≡ spelled reply) × FitsKind asks.Get longest key count reply

pub value_fits : (longest : ℕ) (value : List ℕ) → length value ≤ longest → IsGot longest kinds.Value value
value_fits longest value short = λ key count. (Value value, refl, short)

pub nothing_fits : (longest : ℕ) → IsGot longest kinds.Missing []
nothing_fits longest = λ key count. (Missing, refl, tt)

-- ---- the keys of a scan

abbrev pub AreBody : List ℕ → ℕ → List ℕ → Type 0
AreBody key count body = (keys : List (List ℕ)) × AreFound key count keys × ((kinds.Keys, body) ≡ spelled (Keys keys))

none_found : (key : List ℕ) (count : ℕ) → AreFound key count []
unfolding IsStrictlySortedBy
none_found key count = record {
  few = omega arith;
  rising = tt;
  from = λ i d below. absurd (omega (arith, below));
  lengths = λ i d below. absurd (omega (arith, below));
}

pub no_keys : (key : List ℕ) (count : ℕ) → AreBody key count []
no_keys key count = ([], none_found key count, refl)

-- the keys b and c
abbrev b_and_c : List (List ℕ)
b_and_c = (98 ∷ []) ∷ (99 ∷ []) ∷ []

two_found : (key : List ℕ) (count : ℕ) → 2 ≤ count → is_at_most key (98 ∷ []) ≡ true → is_at_most key (99 ∷ []) ≡ true → AreFound key count b_and_c
unfolding IsStrictlySortedBy
two_found key count enough from_b from_c = record {
  few = enough;
  rising = ((refl, tt), (tt, tt));
  from = All-from_recursion (λ other. is_at_most key other ≡ true) ((98 ∷ []) ∷ (99 ∷ []) ∷ []) (from_b, (from_c, tt));
  lengths = All-from_recursion IsKey ((98 ∷ []) ∷ (99 ∷ []) ∷ []) (record { some = lit≤ tt; short = lit≤ tt }, (record { some = lit≤ tt; short = lit≤ tt }, tt));
}

pub two_keys : (key : List ℕ) (count : ℕ) → 2 ≤ count → is_at_most key (98 ∷ []) ≡ true → is_at_most key (99 ∷ []) ≡ true
    → AreBody key count (1 ∷ 0 ∷ 98 ∷ 1 ∷ 0 ∷ 99 ∷ [])
two_keys key count enough from_b from_c = (b_and_c, two_found key count enough from_b from_c, refl)

-- ---- one part after another

-- the first n parts are recorded, and the next has no reply yet
pub next_is_none : (front parts : List (Option (ReplyKind × List ℕ))) (n m : ℕ) → length front ≡ n → parts ≡ front ++ replicate (suc m) None → slice_get parts n ≡ Some None
next_is_none front parts n m many is =
    let within : length front < length (front ++ None ∷ replicate m None) = simp length-append (omega arith) in
    ap (λ ps. slice_get ps n) is ∙ ap (slice_get (front ++ None ∷ replicate m None)) (sym many)
    ∙ slice_get-get_or (front ++ None ∷ replicate m None) (length front) None within ∙ ap Some (get_or-append_seam front None (replicate m None) None)

-- it is recorded
pub next_is_set : (front parts : List (Option (ReplyKind × List ℕ))) (n m : ℕ) (part : Option (ReplyKind × List ℕ)) → length front ≡ n → parts ≡ front ++ replicate (suc m) None
    → slice_set parts n part ≡ (front ++ part ∷ []) ++ replicate m None
next_is_set front parts n m part many is =
    ap (λ ps. slice_set ps n part) is ∙ ap (λ k. slice_set (front ++ None ∷ replicate m None) k part) (sym many)
    ∙ set-append_seam front None (replicate m None) part ∙ sym (append_assoc front (part ∷ []) (replicate m None))

abbrev pub part_of : Reply → Option (ReplyKind × List ℕ)
part_of reply = Some (spelled reply)

-- each reply fits its command; the commands may be more
abbrev pub FitEach : ℕ → List Operation → List Reply → Type 0
FitEach longest operations [] = Unit {0}
FitEach longest [] (reply ∷ replies) = ⊥
FitEach longest (operation ∷ operations) (reply ∷ replies) = Fits longest operation reply × FitEach longest operations replies

-- the first n parts have replies that fit, and the m parts behind them have none
pub record IsFilled (longest : ℕ) (operations : List Operation) (parts : List (Option (ReplyKind × List ℕ))) (n m : ℕ) : Type 0 where
  pub replies : List Reply
  pub many : length replies ≡ n
  pub fit : FitEach longest operations replies
  pub parts_are : parts ≡ map part_of replies ++ replicate m None

pub none_filled : (longest : ℕ) (operations : List Operation) (m : ℕ) → IsFilled longest operations (replicate m None) 0 m
none_filled longest operations m = record { replies = []; many = refl; fit = tt; parts_are = refl }

pub empty_at : (longest : ℕ) (operations : List Operation) (parts : List (Option (ReplyKind × List ℕ))) (n m : ℕ) → IsFilled longest operations parts n (suc m) → slice_get parts n ≡ Some None
empty_at longest operations parts n m p = next_is_none (map part_of p.replies) parts n m (simp length-map p.many) p.parts_are

fit-more : (longest : ℕ) (operations : List Operation) (replies : List Reply) (reply : Reply) (d : Operation) → FitEach longest operations replies → length replies < length operations
    → Fits longest (get_or operations (length replies) d) reply → FitEach longest operations (replies ++ reply ∷ [])
fit-more longest [] [] reply d fit below here = absurd (omega (arith, below))
fit-more longest [] (first ∷ replies) reply d fit below here = absurd fit
fit-more longest (operation ∷ operations) [] reply d fit below here = (here, tt)
fit-more longest (operation ∷ operations) (first ∷ replies) reply d fit below here = (fit.0, fit-more longest operations replies reply d fit.1 (omega (arith, below)) here)

pub one_more_filled : (longest : ℕ) (operations : List Operation) (parts : List (Option (ReplyKind × List ℕ))) (n m : ℕ) (reply : Reply) (d : Operation) → n < length operations
    → Fits longest (get_or operations n d) reply → IsFilled longest operations parts n (suc m)
    → IsFilled longest operations (slice_set parts n (part_of reply)) (n + 1) m
one_more_filled longest operations parts n m reply d below fits p = record {
  replies = p.replies ++ reply ∷ [];
  many = simp length-append (ap (λ k. k + 1) p.many);
  fit = fit-more longest operations p.replies reply d p.fit (omega (arith, p.many, below))
      (subst (λ (k : ℕ). Fits longest (get_or operations k d) reply) (sym p.many) fits);
  parts_are =
      next_is_set (map part_of p.replies) parts n m (part_of reply) (simp length-map p.many) p.parts_are
      ∙ ap (λ ps. ps ++ replicate m None) (sym (map-append part_of p.replies (reply ∷ [])));
}

-- the command at an index, as what it asks
pub fits_at : (longest : ℕ) (bytes : List ℕ) (commands : List Command) (n : ℕ) (d e : Command) (reply : Reply) → n < length commands
    → Fits longest (operation bytes (get_or commands n d)) reply → Fits longest (get_or (map (operation bytes) commands) n (operation bytes e)) reply
fits_at longest bytes commands n d e reply below fits =
    let same : get_or (map (operation bytes) commands) n (operation bytes e) ≡ operation bytes (get_or commands n d) =
    get_or-map (operation bytes) commands n e (operation bytes e) below ∙ ap (operation bytes) (get_or_default commands n e d below) in
    subst (λ (o : Operation). Fits longest o reply) (sym same) fits

-- ---- the log

-- what holds with one shard
abbrev pub OnePart : Type 0
OnePart = (operation : Operation) → parts_of 1 operation ≡ (operation.number, 0) ∷ []

abbrev pub OnePartEach : Type 0
OnePartEach = (trace : Trace) → issued_parts trace 1 0 ≡ map (λ operation. (operation.number, 0)) trace.operations

abbrev pub FittingStays : Type 0
FittingStays = (longest : ℕ) (operation : Operation) (reply : Reply) → Fits longest operation reply → answer_from 1 operation (Some reply ∷ []) ≡ Some reply

map-map' : {A B C : Type 0} (g : B → C) (f : A → B) (xs : List A) → map g (map f xs) ≡ map (λ x. g (f x)) xs
map-map' g f [] = refl
map-map' g f (x ∷ xs) = ap (λ ys. g (f x) ∷ ys) (map-map' g f xs)

abbrev NumberedFrom : ℕ → List Operation → Type 0
NumberedFrom k [] = Unit {0}
NumberedFrom k (operation ∷ operations) = (operation.number ≡ k + 1) × NumberedFrom (k + 1) operations

-- what is read of each command, by its number
pub record AreRead (longest k : ℕ) (f : ℕ → Option Reply) (operations : List Operation) (replies : List Reply) : Type 0 where
  pub parts : map (λ operation. option_map spelled (f (operation.number - 1))) operations ≡ map part_of replies
  pub fit : All (λ operation. All (λ part. HasFitting longest operation (f (part.0 - 1))) (parts_of 1 operation)) operations
  pub answered : map {A = ℕ × Reply} {B = ℕ × Option Reply} (λ answer. (answer.0, Some answer.1)) (enumerate_from (k + 1) replies)
      ≡ map {B = ℕ × Option Reply} (λ operation. (operation.number, answer_from 1 operation (f (operation.number - 1) ∷ []))) operations

are_read : OnePart → FittingStays → (longest k : ℕ) (f : ℕ → Option Reply) (operations : List Operation) (replies : List Reply) → length replies ≡ length operations
    → ((j : ℕ) → f (k + j) ≡ slice_get replies j) → NumberedFrom k operations → FitEach longest operations replies → AreRead longest k f operations replies
are_read part stays longest k f [] [] many at numbered fit = record { parts = refl; fit = λ i d below. absurd (omega (arith, below)); answered = refl }
are_read part stays longest k f [] (reply ∷ replies) many at numbered fit = absurd (omega (arith, many))
are_read part stays longest k f (operation ∷ operations) [] many at numbered fit = absurd (omega (arith, many))
are_read part stays longest k f (operation ∷ operations) (reply ∷ replies) many at numbered fit =
    let rest = are_read part stays longest (k + 1) f operations replies (omega (arith, many)) (λ j. ap f (omega arith) ∙ at (suc j)) numbered.1 fit.1 in
    let index : operation.number - 1 ≡ k + 0 = omega (arith, numbered.0) in
    let found : f (operation.number - 1) ≡ Some reply = ap f index ∙ at 0 in
    let Each : Operation → Type 0 = λ o. All (λ part. HasFitting longest o (f (part.0 - 1))) (parts_of 1 o) in
    let fits : Each operation =
    subst (All (λ (part : ℕ × ℕ). HasFitting longest operation (f (part.0 - 1)))) (sym (part operation))
    (All-cons (λ (part : ℕ × ℕ). HasFitting longest operation (f (part.0 - 1))) (operation.number, 0) []
    (subst (HasFitting longest operation) (sym found) fit.0) (λ i d below. absurd (omega (arith, below)))) in
    let answer : answer_from 1 operation (f (operation.number - 1) ∷ []) ≡ Some reply = ap (λ (o : Option Reply). answer_from 1 operation (o ∷ [])) found ∙ stays longest operation reply fit.0 in
    record {
      parts = ap (λ (o : Option Reply). option_map spelled o ∷ map (λ x. option_map spelled (f (x.number - 1))) operations) found ∙ ap (λ rs. part_of reply ∷ rs) rest.parts;
      fit = All-cons Each operation operations fits rest.fit;
      answered =
          ap (λ list. (k + 1, Some reply) ∷ list) rest.answered
          ∙ ap (λ (n : ℕ). (n, Some reply) ∷ map {B = ℕ × Option Reply} (λ x. (x.number, answer_from 1 x (f (x.number - 1) ∷ []))) operations) (sym numbered.0)
          ∙ ap (λ (o : Option Reply). (operation.number, o) ∷ map {B = ℕ × Option Reply} (λ x. (x.number, answer_from 1 x (f (x.number - 1) ∷ []))) operations) (sym answer);
    }

numbered-from : (bytes : List ℕ) (k : ℕ) (commands : List Command) → ((i : ℕ) (d : Command) → i < length commands → (get_or commands i d).number ≡ k + i + 1)
    → NumberedFrom k (map (operation bytes) commands)
numbered-from bytes k [] are = tt
numbered-from bytes k (command ∷ commands) are = (
  are 0 command (omega arith) ∙ omega arith,
  numbered-from bytes (k + 1) commands (λ i d below. are (suc i) d (omega (arith, below)) ∙ omega arith),
)

pub logged_when_filled : OnePart → OnePartEach → FittingStays → (trace : Parsed) (commands : List Command) (log : List (Option (ReplyKind × List ℕ))) → commands ≡ trace.commands
    → AreNumbered commands → IsFilled (longest_value (trace_in trace)) (map (operation trace.bytes) commands) log (length commands) 0
    → (answers : List (ℕ × Reply)) × AreLogged (trace_in trace) 1 (log ∷ []) answers
logged_when_filled part parts stays trace commands log value numbered p =
    let operations = map (operation trace.bytes) commands in
    let version = version_in trace.bytes in
    let f : ℕ → Option Reply = slice_get p.replies in
    let same : operations ≡ (trace_in trace).operations = ap (map (operation trace.bytes)) value in
    let read = are_read part stays (longest_value (trace_in trace)) 0 f operations p.replies (p.many ∙ sym (simp length-map refl)) (λ j. ap f (zero-add j))
    (numbered-from trace.bytes 0 commands (λ i d below. numbered i d below ∙ omega arith)) p.fit in
    let by-part : log ≡ map (λ x. option_map spelled (f (x.0 - 1))) (issued_parts (trace_with version operations) 1 0) =
    p.parts_are ∙ append-nil (map part_of p.replies) ∙ sym read.parts
    ∙ sym (map-map' (λ (x : ℕ × ℕ). option_map spelled (f (x.0 - 1))) (λ (o : Operation). (o.number, 0)) operations)
    ∙ ap (map (λ x. option_map spelled (f (x.0 - 1)))) (sym (parts (trace_with version operations))) in (
      enumerate_from 1 p.replies,
      subst (λ (list : List Operation). AreLogged (trace_with version list) 1 (log ∷ []) (enumerate_from 1 p.replies)) same
          (record {
            replies = λ x. f (x.0 - 1);
            logged = λ o d below. let first : o ≡ 0 = omega (arith, below) in rw first by-part;
            fit = subst (λ (n : ℕ). All (λ operation. All (λ part. HasFitting n operation (f (part.0 - 1))) (parts_of 1 operation)) operations) (sym (ap (λ (list : List Operation). longest_value (trace_with version list)) same)) read.fit;
            answered = read.answered;
          }),
    )
