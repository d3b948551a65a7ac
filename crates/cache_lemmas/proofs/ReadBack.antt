-- The answers are read from the logs, command by command.
use Rattle.std.proofs.Common.{◌≡◌, ℕ, ◌+◌, ◌-◌, ◌*◌, ◌%◌, ◌<◌, ◌≤◌, Bool, true, false, eqb, cond, List, [], ◌∷◌, ◌++◌, length, take, drop, map, filter, get_or, Option, Some, None, refl, sym, ap, ◌∙◌, arith, add-one, length-append}
use Rattle.std.specs.List.{flat_map, range_with_len, slice_get, sum_by}
use Rattle.std.specs.Option.{option_map, unwrap_or}
use Rattle.std.specs.Prelude.{All}
use Rattle.std.proofs.lemmas.Bool.{eq-eqb}
use Rattle.std.proofs.lemmas.List.{get_or-append-add, get_or_append_left, get_or-map, length-map, length-take, map-append, take-append-drop}
use Rattle.std.proofs.lemmas.List.Concat.{flat_map-append}
use Rattle.std.proofs.lemmas.List.Elements.{All-cons, All-head, All-map, All-nil, All-tail, filter-append}
use Rattle.std.proofs.lemmas.List.FromFn.{get_or-map-range_with_len, length-map-range_with_len}
use Rattle.std.proofs.lemmas.List.Sums.{sum_by-le, sum_by_more}
use Rattle.std.proofs.lemmas.Option.{slice_get-get_or, slice_get-map, unwrap_or-slice_get}
use Rattle.std.proofs.Math.Nat.{mul-le-mul_left}
use Rattle.std.proofs.Math.Seq.{drop-cons}
use Rattle.rows.specs.declared.kind.Kind.{Kind}
use Rattle.rows.specs.declared.kind.Kind.TheVariants as kinds
use Rattle.rows.specs.Operation.{Operation, is_scan}
use Rattle.trace_text.specs.Parts.{longest_value, origin, owner}
use Rattle.trace_text.specs.Trace.{Trace, trace_with}
use Rattle.rows.specs.declared.reply_kind.ReplyKind.{ReplyKind}
use Rattle.cache_model.specs.Answer.{answer_from, answer_kind, join, keys_in}
use Rattle.rows.specs.Apply.{Reply, Keys}
use Rattle.rows.specs.Fits.{Fits, HasFitting}
use Rattle.cache_model.specs.Logged.{AreLogged}
use Rattle.cache_model.specs.ReadOff.{AreJoined, HasReplies, IsRead}
use Rattle.cache_model.specs.OwnParts.{issued_parts, parts_before, parts_of, Log}
use Rattle.rows.specs.Spelled.{spelled}
use Rattle.cache_lemmas.proofs.OwnParts.{issued_parts-count}

-- ---- parts go up by command

abbrev parts_for : ℕ → ℕ → Operation → ℕ
parts_for n o operation = cond (eqb (origin operation.number n) o) (cond (is_scan operation.kind) n 1) 0

pub parts_next : (trace : Trace) (n o i : ℕ) (d : Operation) → i < length trace.operations
    → parts_before trace n o (i + 1) ≡ parts_before trace n o i + parts_for n o (get_or trace.operations i d)
parts_next trace n o i d below = sum_by_more (parts_for n o) trace.operations i d below

few : (here scan : Bool) (n : ℕ) → 1 ≤ n → cond here (cond scan n 1) 0 ≤ n
few true true n some = omega arith
few true false n some = some
few false scan n some = omega arith

pub parts_most : (trace : Trace) (n o i : ℕ) → 1 ≤ n → parts_before trace n o i ≤ i * n
parts_most trace n o i some =
    let front = take i trace.operations in
    let sum : sum_by (parts_for n o) front ≤ length front * n =
    sum_by-le (parts_for n o) n front (λ k d below. few (eqb (origin (get_or front k d).number n) o) (is_scan (get_or front k d).kind) n some) in
    let short : length front ≤ i = omega (arith, length-take i trace.operations) in
    let product : n * length front ≤ n * i = mul-le-mul_left n short in
    omega (arith, sum, product)

-- ---- where the parts of a command stand

around : {X : Type 0} (xs : List X) (i : ℕ) (d : X) → i < length xs → take i xs ++ (get_or xs i d ∷ drop (i + 1) xs) ≡ xs
around xs i d below = ap (λ rest. take i xs ++ rest) (rw add-one (sym (drop-cons xs i d below))) ∙ take-append-drop i xs

-- the parts of a shard's commands: of those before one that it issues, of this one, and of those behind it
issued_around : (version n o i : ℕ) (operations : List Operation) (d : Operation) → i < length operations → eqb (origin (get_or operations i d).number n) o ≡ true
    → issued_parts (trace_with version operations) n o
    ≡ issued_parts (trace_with version (take i operations)) n o
    ++ (parts_of n (get_or operations i d) ++ issued_parts (trace_with version (drop (i + 1) operations)) n o)
issued_around version n o i operations d below here =
    let is_own : Operation → Bool = λ x. eqb (origin x.number n) o in
    let one = get_or operations i d in
    let behind = drop (i + 1) operations in
    let filtered : filter is_own (one ∷ behind) ≡ one ∷ filter is_own behind = rw here refl in
    ap (λ list. flat_map (parts_of n) (filter is_own list)) (sym (around operations i d below))
    ∙ ap (flat_map (parts_of n)) (filter-append is_own (take i operations) (one ∷ behind))
    ∙ flat_map-append (parts_of n) (filter is_own (take i operations)) (filter is_own (one ∷ behind))
    ∙ ap (λ list. flat_map (parts_of n) (filter is_own (take i operations)) ++ flat_map (parts_of n) list) filtered

between : {X : Type 0} (xs ys zs : List X) (k : ℕ) → k < length ys → slice_get (xs ++ (ys ++ zs)) (length xs + k) ≡ slice_get ys k
between xs [] zs k below = absurd (omega (arith, below))
between xs (y ∷ ys) zs k below =
    let all = (y ∷ ys) ++ zs in
    let within : length xs + k < length (xs ++ all) = omega (arith, below, length-append xs all, length-append (y ∷ ys) zs) in
    slice_get-get_or (xs ++ all) (length xs + k) y within
    ∙ ap Some (get_or-append-add xs all k y ∙ get_or_append_left (y ∷ ys) zs y k below)
    ∙ sym (slice_get-get_or (y ∷ ys) k y below)

-- ---- the replies to them

record AreThese (longest : ℕ) (operation : Operation) (asked : List (Option Reply)) : Type 0 where
  replies : List Reply
  are : asked ≡ map {B = Option Reply} Some replies
  fit : All (Fits longest operation) replies

these : (longest : ℕ) (operation : Operation) (asked : List (Option Reply)) → All (HasFitting longest operation) asked → AreThese longest operation asked
these longest operation [] all = record { replies = []; are = refl; fit = All-nil (Fits longest operation) }
these longest operation (None ∷ asked) all = absurd (All-head (HasFitting longest operation) None asked all)
these longest operation (Some reply ∷ asked) all =
    let rest = these longest operation asked (All-tail (HasFitting longest operation) (Some reply) asked all) in
    record {
      replies = reply ∷ rest.replies;
      are = ap (λ list. Some reply ∷ list) rest.are;
      fit = All-cons (Fits longest operation) reply rest.replies (All-head (HasFitting longest operation) (Some reply) asked all) rest.fit;
    }

map-twice : {A B C : Type 0} (g : B → C) (f : A → B) (xs : List A) → map g (map f xs) ≡ map (λ x. g (f x)) xs
map-twice g f [] = refl
map-twice g f (x ∷ xs) = ap (λ ys. g (f x) ∷ ys) (map-twice g f xs)

read_replies : (before own behind : List (ℕ × ℕ)) (asked : ℕ × ℕ → Option Reply) (log : Log) (first : ℕ) (replies : List Reply)
    → log ≡ map (λ part. option_map spelled (asked part)) (before ++ (own ++ behind)) → first ≡ length before
    → map asked own ≡ map {B = Option Reply} Some replies → HasReplies log first replies
read_replies before own behind asked log first replies is starts are k d below =
    let text : ℕ × ℕ → Option (ReplyKind × List ℕ) = λ part. option_map spelled (asked part) in
    let told : map text own ≡ map (λ reply. Some (spelled reply)) replies =
    sym (map-twice (λ (o : Option Reply). option_map spelled o) asked own) ∙ ap (map (λ (o : Option Reply). option_map spelled o)) are
    ∙ map-twice (λ (o : Option Reply). option_map spelled o) (λ reply. Some reply) replies in
    let laid : log ≡ map text before ++ (map text own ++ map text behind) =
    is ∙ map-append text before (own ++ behind) ∙ ap (λ list. map text before ++ list) (map-append text own behind) in
    let starts' : first ≡ length (map text before) = starts ∙ sym (length-map before text) in
    let within : k < length (map text own) = omega (arith, below, ap length told, length-map replies (λ reply. Some (spelled reply))) in
    ap (λ (list : Log). slice_get list (first + k)) laid
    ∙ ap (λ (m : ℕ). slice_get (map text before ++ (map text own ++ map text behind)) (m + k)) starts'
    ∙ between (map text before) (map text own) (map text behind) k within
    ∙ ap (λ (list : Log). slice_get list k) told
    ∙ slice_get-map (λ reply. Some (spelled reply)) replies k
    ∙ ap (option_map (λ reply. Some (spelled reply))) (slice_get-get_or replies k d below)

-- ---- what they say together

owner-below : (hash n : ℕ) → 1 ≤ n → hash % n < n
owner-below hash n some = omega arith

one_reply : (asked : ℕ × ℕ → Option Reply) (n i owner : ℕ) (replies : List Reply) (answer : Reply) → owner < n
    → asked (i, owner) ∷ [] ≡ map {B = Option Reply} Some replies
    → Some answer ≡ unwrap_or (slice_get (map (λ s. asked (i, s)) (range_with_len 0 n)) owner) None → replies ≡ answer ∷ []
one_reply asked n i owner [] answer below are is = absurd (cc are)
one_reply asked n i owner (reply ∷ []) answer below are is =
    let found : unwrap_or (slice_get (map (λ s. asked (i, s)) (range_with_len 0 n)) owner) None ≡ asked (i, owner) =
    unwrap_or-slice_get (map (λ s. asked (i, s)) (range_with_len 0 n)) owner None ∙ get_or-map-range_with_len (λ s. asked (i, s)) 0 n owner owner None below (omega arith) in
    let same : Some answer ≡ Some reply = cc in
    let reply-is : answer ≡ reply = cc in
    ap (λ r. r ∷ []) (sym reply-is)
one_reply asked n i owner (reply ∷ other ∷ replies) answer below are is = absurd (cc are)

scan_replies : (asked : ℕ × ℕ → Option Reply) (n i count : ℕ) (replies : List Reply) (answer : Reply)
    → map asked (map (λ s. (i, s)) (range_with_len 0 n)) ≡ map {B = Option Reply} Some replies
    → Some answer ≡ Some (Keys (join count (map keys_in (map (λ s. asked (i, s)) (range_with_len 0 n)))))
    → AreJoined true n count replies answer
scan_replies asked n i count replies answer are is =
    let by_shard : map (λ s. asked (i, s)) (range_with_len 0 n) ≡ map {B = Option Reply} Some replies =
    sym (map-twice asked (λ (s : ℕ). (i, s)) (range_with_len 0 n)) ∙ are in
    let many : length replies ≡ n =
    sym (length-map replies (λ reply. Some reply)) ∙ sym (ap length by_shard) ∙ length-map-range_with_len (λ s. asked (i, s)) 0 n in
    let answer-is : answer ≡ Keys (join count (map keys_in (map (λ s. asked (i, s)) (range_with_len 0 n)))) = cc in
    (many, answer-is ∙ ap (λ list. Keys (join count (map keys_in list))) by_shard ∙ ap (λ lists. Keys (join count lists)) (map-twice keys_in (λ reply. Some reply) replies))

joined_by : (kind : Kind) (asked : ℕ × ℕ → Option Reply) (n : ℕ) (operation : Operation) (replies : List Reply) (answer : Reply) → 1 ≤ n
    → map asked (cond (is_scan kind) (map (λ s. (operation.number, s)) (range_with_len 0 n)) ((operation.number, owner operation.key.bytes n) ∷ []))
    ≡ map {B = Option Reply} Some replies
    → Some answer ≡ answer_kind kind n operation (map (λ s. asked (operation.number, s)) (range_with_len 0 n))
    → AreJoined (is_scan kind) n operation.count replies answer
joined_by kinds.Scan asked n operation replies answer some are is = scan_replies asked n operation.number operation.count replies answer are is
joined_by kinds.Put asked n operation replies answer some are is =
    one_reply asked n operation.number (owner operation.key.bytes n) replies answer (owner-below _ n some) are is
joined_by kinds.Get asked n operation replies answer some are is =
    one_reply asked n operation.number (owner operation.key.bytes n) replies answer (owner-below _ n some) are is
joined_by kinds.Erase asked n operation replies answer some are is =
    one_reply asked n operation.number (owner operation.key.bytes n) replies answer (owner-below _ n some) are is

-- ---- the answers

pub answer_each : (trace : Trace) (n : ℕ) (logs : List Log) (answers : List (ℕ × Reply)) → AreLogged trace n logs answers → length answers ≡ length trace.operations
answer_each trace n logs answers p = simp length-map at (ap length p.answered)

pub is-read : (trace : Trace) (n i : ℕ) (logs : List Log) (answers : List (ℕ × Reply)) (d : Operation) (e : Log) (f : ℕ × Reply)
    → AreLogged trace n logs answers → 1 ≤ n → i < length trace.operations
    → IsRead (longest_value trace) n (get_or trace.operations i d) (get_or logs (origin (get_or trace.operations i d).number n) e)
    (parts_before trace n (origin (get_or trace.operations i d).number n) i) (get_or answers i f)
is-read trace n i logs answers d e f p some below =
    let operation = get_or trace.operations i d in
    let o = origin operation.number n in
    let longest = longest_value trace in
    let before = issued_parts (trace_with trace.version (take i trace.operations)) n o in
    let behind = issued_parts (trace_with trace.version (drop (i + 1) trace.operations)) n o in
    let own = parts_of n operation in
    let origin-below : o < n = owner-below (operation.number - 1) n some in
    let asked = these longest operation (map p.replies own) (All-map (HasFitting longest operation) p.replies own (p.fit i d below)) in
    let within : i < length answers = omega (arith, below, answer_each trace n logs answers p) in
    let Both = ℕ × Option Reply in
    let shown : ℕ × Reply → Both = λ answer. (answer.0, Some answer.1) in
    let wanted : Operation → Both = λ x. (x.number, answer_from n x (map (λ s. p.replies (x.number, s)) (range_with_len 0 n))) in
    let at : shown (get_or answers i f) ≡ wanted operation =
    sym (get_or-map shown answers i f (0, None) within) ∙ ap (λ (list : List Both). get_or list i (0, None)) p.answered ∙ get_or-map wanted trace.operations i d (0, None) below in
    record {
      replies = asked.replies;
      logged = read_replies before own behind p.replies (get_or logs o e) (parts_before trace n o i) asked.replies
          (p.logged o e origin-below ∙ ap (map (λ part. option_map spelled (p.replies part))) (issued_around trace.version n o i trace.operations d below (eq-eqb o o refl)))
          (sym (issued_parts-count (trace_with trace.version (take i trace.operations)) n o)) asked.are;
      fit = asked.fit;
      number = ap (λ (x : Both). x.0) at;
      joined = joined_by operation.kind p.replies n operation asked.replies (get_or answers i f).1 some asked.are (ap (λ (x : Both). x.1) at);
    }
