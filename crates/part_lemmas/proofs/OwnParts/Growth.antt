-- A journal that grows: by evictions, and by a command that is done behind them.
use Rattle.std.proofs.Common.{◌≡◌, ◌≢◌, ℕ, ◌+◌, ◌-◌, ◌≤◌, ◌==◌, ◌||◌, Bool, true, false, not, cond, List, [], ◌∷◌, ◌++◌, length, map, filter, take, append_assoc, append-nil, Option, Some, None, arith, refl, sym, ap, ◌∙◌, subst}
use Rattle.std.specs.List.{before_first, count_by, list_any, position_or_len, prefix_len}
use Rattle.std.proofs.lemmas.Bool.{ne_eqb}
use Rattle.std.proofs.lemmas.Bool.Decides.{nat_tests}
use Rattle.std.proofs.lemmas.List.{take-append-le}
use Rattle.std.proofs.lemmas.List.Elements.{filter-append, filter_map-append}
use Rattle.std.proofs.lemmas.List.Folds.{list_any-append}
use Rattle.std.proofs.lemmas.List.Sums.{prefix_len-le-length, sum_by_push}
use Rattle.layout.specs.Sizes.{dense, tickets}
use Rattle.rows.specs.Operation.{Operation}
use Rattle.trace_text.specs.Parts.{origin}
use Rattle.trace_text.specs.Trace.{Trace, regions}
use Rattle.cache_model.specs.declared.entry.Entry.{Entry}
use Rattle.cache_model.specs.declared.entry.Entry.TheVariants.{Done, Evicted}
use Rattle.rows.specs.Apply.{Reply, apply}
use Rattle.rows.specs.Evictions.{Evicts}
use Rattle.cache_model.specs.Legal.{EvictsAbove, cache_after, cache_from, command_of, done, done_number, is_done, reply_at, reply_on}
use Rattle.rows.specs.Row.{Row, floor, tight_floor}
use Rattle.foreign_list.specs.Blocks.{Block}
use Rattle.shard_rings.specs.Reply.{HoldsReply}
use Rattle.shard_rings.specs.declared.link.Packet.{Packet}
use Rattle.shard_rings.specs.declared.link.Packet.TheVariants.{Block as InBlock, Bye}
use Rattle.part_lemmas.specs.Exchange.{AreReplies, done_for}

-- the laws of journals and of evictions, as their functions promise them
pub record Laws : Type 0 where
  pub leads : (trace : Trace) (pages : ℕ) (journal entries : List Entry) (cache : List Row)
      → cache_after trace pages journal ≡ Some cache → cache_after trace pages (journal ++ entries) ≡ cache_from trace pages cache entries
  pub replied : (trace : Trace) (pages i : ℕ) (journal : List Entry) (cache : List Row) (operation : Operation)
      → list_any (is_done i) journal ≡ false → command_of trace i ≡ Some operation → cache_after trace pages journal ≡ Some cache
      → reply_at trace pages (journal ++ Done i ∷ []) i ≡ Some (apply operation cache).1
  pub evicts : (trace : Trace) (pages bound i : ℕ) (journal : List Entry)
      → EvictsAbove trace pages bound journal → EvictsAbove trace pages bound (journal ++ Done i ∷ [])
  pub legal : (trace : Trace) (pages bound : ℕ) (cache rest : List Row) (puts : List ℕ)
      → Evicts bound cache puts rest → floor pages (regions trace) ≤ bound → cache_from trace pages cache (map Evicted puts) ≡ Some rest
  pub above : (trace : Trace) (pages bound : ℕ) (journal : List Entry) (cache rest : List Row) (puts : List ℕ)
      → cache_after trace pages journal ≡ Some cache → EvictsAbove trace pages bound journal
      → Evicts bound cache puts rest → floor pages (regions trace) ≤ bound → EvictsAbove trace pages bound (journal ++ map Evicted puts)

-- the entries of so many evictions
abbrev pub evictions : List ℕ → List Entry
evictions puts = map Evicted puts

-- and of a command that is done behind them
abbrev pub then_done : List ℕ → ℕ → List Entry
then_done puts i = evictions puts ++ Done i ∷ []

eqb-same : (n : ℕ) → (n == n) ≡ true
eqb-same n = grind (arith, nat_tests)

eqb-of : (a b : ℕ) → a ≡ b → (a == b) ≡ true
eqb-of a b e = ap (λ k. a == k) (sym e) ∙ eqb-same a

-- What is done.

evictions-do-none : (puts : List ℕ) → done (evictions puts) ≡ []
evictions-do-none [] = refl
evictions-do-none (put ∷ puts) = evictions-do-none puts

pub done-evicted : (entries : List Entry) (puts : List ℕ) → done (entries ++ evictions puts) ≡ done entries
done-evicted entries puts =
    filter_map-append done_number entries (evictions puts) ∙ ap (λ list. done entries ++ list) (evictions-do-none puts) ∙ append-nil (done entries)

pub done-more : (entries : List Entry) (puts : List ℕ) (i : ℕ) → done (entries ++ then_done puts i) ≡ done entries ++ i ∷ []
done-more entries puts i =
    filter_map-append done_number entries (then_done puts i)
    ∙ ap (λ list. done entries ++ list) (filter_map-append done_number (evictions puts) (Done i ∷ []) ∙ ap (λ list. list ++ i ∷ []) (evictions-do-none puts))

pub done_for-evicted : (n o : ℕ) (entries : List Entry) (puts : List ℕ) → done_for n o (entries ++ evictions puts) ≡ done_for n o entries
done_for-evicted n o entries puts = ap (filter (λ i. origin i n == o)) (done-evicted entries puts)

done_for-then : (n o : ℕ) (entries : List Entry) (puts : List ℕ) (i : ℕ) (b : Bool) → (origin i n == o) ≡ b
    → done_for n o (entries ++ then_done puts i) ≡ done_for n o entries ++ cond b (i ∷ []) []
done_for-then n o entries puts i b is =
    ap (filter (λ k. origin k n == o)) (done-more entries puts i)
    ∙ filter-append (λ k. origin k n == o) (done entries) (i ∷ [])
    ∙ ap (λ (test : Bool). done_for n o entries ++ cond test (i ∷ []) []) is

pub done_for-more : (n o : ℕ) (entries : List Entry) (puts : List ℕ) (i : ℕ) → origin i n ≡ o
    → done_for n o (entries ++ then_done puts i) ≡ done_for n o entries ++ i ∷ []
done_for-more n o entries puts i is = done_for-then n o entries puts i true (eqb-of (origin i n) o is)

pub done_for-other : (n o : ℕ) (entries : List Entry) (puts : List ℕ) (i : ℕ) → origin i n ≢ o
    → done_for n o (entries ++ then_done puts i) ≡ done_for n o entries
done_for-other n o entries puts i other = done_for-then n o entries puts i false (ne_eqb (origin i n) o other) ∙ append-nil (done_for n o entries)

-- how many commands of other origins than s are done
abbrev pub of_others : ℕ → ℕ → List Entry → ℕ
of_others n s entries = count_by (λ i. not (origin i n == s)) (done entries)

pub of_others-evicted : (n s : ℕ) (entries : List Entry) (puts : List ℕ) → of_others n s (entries ++ evictions puts) ≡ of_others n s entries
of_others-evicted n s entries puts = ap (count_by (λ i. not (origin i n == s))) (done-evicted entries puts)

of_others-then : (n s : ℕ) (entries : List Entry) (puts : List ℕ) (i : ℕ) (b : Bool) → (origin i n == s) ≡ b
    → of_others n s (entries ++ then_done puts i) ≡ of_others n s entries + cond (not b) 1 0
of_others-then n s entries puts i b is =
    ap (count_by (λ k. not (origin k n == s))) (done-more entries puts i)
    ∙ sum_by_push (λ k. cond (not (origin k n == s)) 1 0) (done entries) i
    ∙ ap (λ test. of_others n s entries + cond (not test) 1 0) is

pub of_others-more : (n s : ℕ) (entries : List Entry) (puts : List ℕ) (i : ℕ) → origin i n ≢ s
    → of_others n s (entries ++ then_done puts i) ≡ of_others n s entries + 1
of_others-more n s entries puts i other = of_others-then n s entries puts i false (ne_eqb (origin i n) s other)

pub of_others-own : (n s : ℕ) (entries : List Entry) (puts : List ℕ) (i : ℕ) → origin i n ≡ s
    → of_others n s (entries ++ then_done puts i) ≡ of_others n s entries
of_others-own n s entries puts i is =
    let same : of_others n s entries + 0 ≡ of_others n s entries = omega arith in
    of_others-then n s entries puts i true (eqb-of (origin i n) s is) ∙ same

-- What was replied.

false-true : false ≡ true → ⊥
false-true e = cc

or-none : (b : Bool) → (b || false) ≡ b
or-none true = refl
or-none false = refl

first-same : {X : Type 0} (p : X → Bool) (xs ys : List X) → list_any p xs ≡ true → position_or_len p (xs ++ ys) ≡ position_or_len p xs
first-same p [] ys any = absurd (false-true any)
first-same {X} p (x ∷ xs) ys any = go (p x) any (first-same p xs ys)
  where
    go : (b : Bool) → (b || list_any p xs) ≡ true
        → (list_any p xs ≡ true → prefix_len (λ (y : X). not (p y)) (xs ++ ys) ≡ prefix_len (λ (y : X). not (p y)) xs)
        → cond (not b) (1 + prefix_len (λ (y : X). not (p y)) (xs ++ ys)) 0 ≡ cond (not b) (1 + prefix_len (λ (y : X). not (p y)) xs) 0
    go true any rest = refl
    go false any rest = ap (λ n. 1 + n) (rest any)

before-same : {X : Type 0} (p : X → Bool) (xs ys : List X) → list_any p xs ≡ true → before_first p (xs ++ ys) ≡ before_first p xs
before-same p xs ys any =
    ap (λ n. take n (xs ++ ys)) (first-same p xs ys any) ∙ take-append-le (position_or_len p xs) xs ys (prefix_len-le-length (λ y. not (p y)) xs)

-- entries at none of which a command is done leave its reply as it is, or that it has none
pub reply-still : (trace : Trace) (pages : ℕ) (entries more : List Entry) (j : ℕ) → list_any (is_done j) more ≡ false
    → reply_at trace pages (entries ++ more) j ≡ reply_at trace pages entries j
reply-still trace pages entries more j none = ap (λ b. cond b (on (entries ++ more)) None) any ∙ go (list_any (is_done j) entries) refl
  where
    on : List Entry → Option Reply
    on journal = reply_on (command_of trace j) (cache_after trace pages (before_first (is_done j) journal))

    any : list_any (is_done j) (entries ++ more) ≡ list_any (is_done j) entries
    any = list_any-append (is_done j) entries more ∙ ap (λ b. list_any (is_done j) entries || b) none ∙ or-none (list_any (is_done j) entries)

    go : (b : Bool) → list_any (is_done j) entries ≡ b
        → cond (list_any (is_done j) entries) (on (entries ++ more)) None ≡ cond (list_any (is_done j) entries) (on entries) None
    go true is =
        ap (λ front. cond (list_any (is_done j) entries) (reply_on (command_of trace j) (cache_after trace pages front)) None) (before-same (is_done j) entries more is)
    go false is = ap (λ b. cond b (on (entries ++ more)) None) is ∙ sym (ap (λ b. cond b (on entries) None) is)

evictions-none : (j : ℕ) (puts : List ℕ) → list_any (is_done j) (evictions puts) ≡ false
evictions-none j [] = refl
evictions-none j (put ∷ puts) = evictions-none j puts

pub reply-evicted : (trace : Trace) (pages : ℕ) (entries : List Entry) (puts : List ℕ) (j : ℕ)
    → reply_at trace pages (entries ++ evictions puts) j ≡ reply_at trace pages entries j
reply-evicted trace pages entries puts j = reply-still trace pages entries (evictions puts) j (evictions-none j puts)

pub reply-other : (trace : Trace) (pages : ℕ) (entries : List Entry) (puts : List ℕ) (i j : ℕ) → j ≢ i
    → reply_at trace pages (entries ++ then_done puts i) j ≡ reply_at trace pages entries j
reply-other trace pages entries puts i j other =
    reply-still trace pages entries (then_done puts i) j
    (list_any-append (is_done j) (evictions puts) (Done i ∷ [])
    ∙ ap (λ b. b || ((i == j) || false)) (evictions-none j puts)
    ∙ ap (λ b. b || false) (ne_eqb i j (λ e. other (sym e))))

-- Where it leads.

-- what is behind the evictions
abbrev behind : List Entry → List ℕ → ℕ → List Entry
behind entries puts i = (entries ++ evictions puts) ++ Done i ∷ []

regroup : (entries : List Entry) (puts : List ℕ) (i : ℕ) → behind entries puts i ≡ entries ++ then_done puts i
regroup entries puts i = append_assoc entries (evictions puts) (Done i ∷ [])

pub leads-evicted : Laws → (trace : Trace) (pages bound : ℕ) (entries : List Entry) (rows rest : List Row) (puts : List ℕ)
    → cache_after trace pages entries ≡ Some rows → Evicts bound rows puts rest → floor pages (regions trace) ≤ bound
    → cache_after trace pages (entries ++ evictions puts) ≡ Some rest
leads-evicted laws trace pages bound entries rows rest puts leads evicts low =
    laws.leads trace pages entries (evictions puts) rows leads ∙ laws.legal trace pages bound rows rest puts evicts low

pub leads-more : Laws → (trace : Trace) (pages bound i : ℕ) (entries : List Entry) (rows rest : List Row) (puts : List ℕ) (operation : Operation)
    → command_of trace i ≡ Some operation → cache_after trace pages entries ≡ Some rows → Evicts bound rows puts rest → floor pages (regions trace) ≤ bound
    → cache_after trace pages (entries ++ then_done puts i) ≡ Some (apply operation rest).0
leads-more laws trace pages bound i entries rows rest puts operation command leads evicts low =
    ap (cache_after trace pages) (sym (regroup entries puts i))
    ∙ laws.leads trace pages (entries ++ evictions puts) (Done i ∷ []) rest (leads-evicted laws trace pages bound entries rows rest puts leads evicts low)
    ∙ rw command refl

-- the reply to a command that is done behind evictions
pub reply-of : Laws → (trace : Trace) (pages bound i : ℕ) (entries : List Entry) (rows rest : List Row) (puts : List ℕ) (operation : Operation)
    → list_any (is_done i) entries ≡ false → command_of trace i ≡ Some operation
    → cache_after trace pages entries ≡ Some rows → Evicts bound rows puts rest → floor pages (regions trace) ≤ bound
    → reply_at trace pages (entries ++ then_done puts i) i ≡ Some (apply operation rest).1
reply-of laws trace pages bound i entries rows rest puts operation none command leads evicts low =
    let unseen : list_any (is_done i) (entries ++ evictions puts) ≡ false =
    list_any-append (is_done i) entries (evictions puts) ∙ ap (λ b. b || list_any (is_done i) (evictions puts)) none ∙ evictions-none i puts in
    ap (λ journal. reply_at trace pages journal i) (sym (regroup entries puts i))
    ∙ laws.replied trace pages i (entries ++ evictions puts) rest operation unseen command (leads-evicted laws trace pages bound entries rows rest puts leads evicts low)

-- Pressure.

-- evictions above a bound are above a lower one
evicts-lower : (low bound : ℕ) (cache rest : List Row) (puts : List ℕ) → low ≤ bound → Evicts bound cache puts rest → Evicts low cache puts rest
unfolding Evicts
evicts-lower low bound cache rest [] le evicts = evicts
evicts-lower low bound cache rest (put ∷ puts) le evicts =
    (evicts.0, (let above = evicts.1 in omega (arith, above, le)), evicts-lower low bound (take (length cache - 1) cache) rest puts le evicts.2)

pub above-evicted : Laws → (trace : Trace) (pages low bound : ℕ) (entries : List Entry) (rows rest : List Row) (puts : List ℕ)
    → cache_after trace pages entries ≡ Some rows → EvictsAbove trace pages low entries → Evicts bound rows puts rest → low ≤ bound → floor pages (regions trace) ≤ low
    → EvictsAbove trace pages low (entries ++ evictions puts)
above-evicted laws trace pages low bound entries rows rest puts leads so_far evicts le lowest =
    laws.above trace pages low entries rows rest puts leads so_far (evicts-lower low bound rows rest puts le evicts) lowest

pub above-more : Laws → (trace : Trace) (pages low bound i : ℕ) (entries : List Entry) (rows rest : List Row) (puts : List ℕ)
    → cache_after trace pages entries ≡ Some rows → EvictsAbove trace pages low entries → Evicts bound rows puts rest → low ≤ bound → floor pages (regions trace) ≤ low
    → EvictsAbove trace pages low (entries ++ then_done puts i)
above-more laws trace pages low bound i entries rows rest puts leads so_far evicts le lowest =
    subst (EvictsAbove trace pages low) (regroup entries puts i)
    (laws.evicts trace pages low i (entries ++ evictions puts) (above-evicted laws trace pages low bound entries rows rest puts leads so_far evicts le lowest))

-- The bounds.

pub floor-low : (pages t count : ℕ) → t ≤ tickets → floor pages count ≤ tight_floor pages t count
floor-low pages t count few = omega arith

pub pressure-low : (pages t count : ℕ) → t ≤ tickets → floor pages count ≤ tight_floor pages t count + dense
pressure-low pages t count few = omega arith

-- Replies that were sent.

-- they are the journal's replies as long as it keeps what it replied
pub still-replies : (reply reply' : ℕ → Option Reply) (packets : List Packet) (numbers : List ℕ)
    → ((i : ℕ) (answer : Reply) → reply i ≡ Some answer → reply' i ≡ Some answer) → AreReplies reply packets numbers → AreReplies reply' packets numbers
still-replies reply reply' [] numbers kept are = tt
still-replies reply reply' (InBlock block ∷ packets) (i ∷ numbers) kept are =
    ((are.0.0, kept i are.0.0 are.0.1, are.0.2), still-replies reply reply' packets numbers kept are.1)
still-replies reply reply' (InBlock block ∷ packets) [] kept are = are
still-replies reply reply' (Bye ∷ packets) numbers kept are = are

-- and where more is done
pub more-numbers : (reply : ℕ → Option Reply) (packets : List Packet) (numbers more : List ℕ) → AreReplies reply packets numbers → AreReplies reply packets (numbers ++ more)
more-numbers reply [] numbers more are = tt
more-numbers reply (InBlock block ∷ packets) (i ∷ numbers) more are = (are.0, more-numbers reply packets numbers more are.1)
more-numbers reply (InBlock block ∷ packets) [] more are = absurd are
more-numbers reply (Bye ∷ packets) numbers more are = absurd are

-- one reply more
pub reply-more : (reply : ℕ → Option Reply) (packets : List Packet) (numbers : List ℕ) (block : Block) (i : ℕ) (answer : Reply)
    → AreReplies reply packets numbers → length packets ≡ length numbers → reply i ≡ Some answer → HoldsReply block.piece.bytes i answer
    → AreReplies reply (packets ++ InBlock block ∷ []) (numbers ++ i ∷ [])
reply-more reply [] [] block i answer are same is holds = ((answer, is, holds), tt)
reply-more reply [] (j ∷ numbers) block i answer are same is holds = absurd (omega (arith, same))
reply-more reply (InBlock first ∷ packets) [] block i answer are same is holds = absurd are
reply-more reply (InBlock first ∷ packets) (j ∷ numbers) block i answer are same is holds =
    (are.0, reply-more reply packets numbers block i answer are.1 (omega (arith, same)) is holds)
reply-more reply (Bye ∷ packets) numbers block i answer are same is holds = absurd are
