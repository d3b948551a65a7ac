-- A walk stands behind one entry more, or the entry may not stand there.
use Rattle.std.proofs.Common.{◌≡◌, ◌≢◌, ℕ, ◌+◌, ◌-◌, ◌<◌, false, List, [], ◌∷◌, ◌++◌, length, map, take, drop, slice_get, slice_set, length-append, Option, Some, None, arith, refl, sym, ap, subst, ◌∙◌, inl, inr, zero, suc}
use Rattle.std.specs.List.{list_any, slice_index_or}
use Rattle.std.specs.Option.{option_map}
use Rattle.std.proofs.lemmas.Bool.{cases_eq}
use Rattle.std.proofs.Math.Seq.{take-append_seam}
use Rattle.std.proofs.lemmas.List.{length-map, length-set}
use Rattle.std.proofs.lemmas.Option.{slice_get-map}
use Rattle.rows.specs.Apply.{Reply, apply}
use Rattle.rows.specs.Operation.{Operation}
use Rattle.rows.specs.Row.{Row}
use Rattle.rows.specs.Spelled.{spelled}
use Rattle.trace_text.specs.Parsed.{IsConsistent, Parsed, trace_in}
use Rattle.trace_text.specs.Parts.{origin, parts}
use Rattle.trace_text.specs.Trace.{Trace}
use Rattle.cache_model.specs.declared.entry.Entry.{Entry}
use Rattle.cache_model.specs.declared.entry.Entry.TheVariants.{Done, Evicted}
use Rattle.cache_model.specs.Legal.{cache_after, command_of, is_done}
use Rattle.cache_model.specs.OwnParts.{HoldsReplies, issued_parts, part_reply}
use Rattle.run_log.specs.Replies.{Replies}
use Rattle.cache_lemmas.proofs.Laws.{a_journal_goes_on-number, a_journal_goes_on-replied, issued_parts_are_counted-peer}
use Rattle.part_lemmas.specs.Due.{operations_for}
use Rattle.part_lemmas.specs.Exchange.{done_for}
use Rattle.part_lemmas.specs.Rest.{RestState, all_of, log_of}
use Rattle.part_lemmas.proofs.Cursors.Places.{IsNumbered, numbered}
use Rattle.part_lemmas.proofs.Cursors.Rests.{first-dropped}
use Rattle.part_lemmas.proofs.OwnParts.NextPart.{command-at, not-done, origin-at}
use Rattle.part_lemmas.proofs.Together.Logs.{holds-more, holds-other, holds-same}
use Rattle.report_check.specs.inside.Walks.{AreLogs, AreRests, IsRestBehind}
use Rattle.report_check.proofs.Walked.{leads-done, passed-done, passed-evicted, passed-other, reply-before, reply-last, reply-others, reply-stays}

-- ---- elements of a list that was set at one place

set-here : {X : Type 0} (xs : List X) (k : ℕ) (x d : X) → k < length xs → slice_index_or (slice_set xs k x) k d ≡ x
set-here [] k x d below = absurd (omega (arith, below))
set-here (y ∷ xs) zero x d below = refl
set-here (y ∷ xs) (suc k) x d below = set-here xs k x d (omega (arith, below))

set-there : {X : Type 0} (xs : List X) (k j : ℕ) (x d : X) → j ≢ k → slice_index_or (slice_set xs k x) j d ≡ slice_index_or xs j d
set-there [] k j x d other = refl
set-there (y ∷ xs) zero zero x d other = absurd (other refl)
set-there (y ∷ xs) zero (suc j) x d other = refl
set-there (y ∷ xs) (suc k) zero x d other = refl
set-there (y ∷ xs) (suc k) (suc j) x d other = set-there xs k j x d (λ e. other (ap suc e))

-- ---- an eviction

module _ (trace : Parsed) (pages s : ℕ) (walked : List (List Entry)) (before : List Entry) where
  -- the commands that are left stay
  pub rests-stay : (q : ℕ) (rests : List RestState) → AreRests trace s before rests → AreRests trace s (before ++ Evicted q ∷ []) rests
  rests-stay q rests are = record {
    many = are.many;
    each = λ o d below.
        let r = are.each o d below in
        record {
          of_trace = r.of_trace;
          origin = r.origin;
          shard = r.shard;
          passed = passed-evicted (trace_in trace) trace.shards o s q before (map (λ (operation : Operation). operation.number) (slice_index_or rests o d).left) r.passed;
        };
  }

  -- and so do the logs
  pub logs-stay : (q : ℕ) (logs : List Replies) → AreLogs trace pages (walked ++ before ∷ []) logs → AreLogs trace pages (walked ++ (before ++ Evicted q ∷ []) ∷ []) logs
  logs-stay q logs are = record {
    many = are.many;
    each = λ o d below.
        holds-same (trace_in trace) trace.shards o (part_reply (trace_in trace) pages (walked ++ before ∷ [])) (part_reply (trace_in trace) pages (walked ++ (before ++ Evicted q ∷ []) ∷ [])) (slice_index_or logs o d).replies
        (reply-stays (trace_in trace) pages walked before q) (are.each o d below);
  }

-- ---- a command that is the next of its origin

-- behind so many others that its origin issues to the shard, all of which are done
record IsNext (trace : Trace) (n o s : ℕ) (before : List Entry) (operation : Operation) : Type 0 where
  place : ℕ
  taken : done_for n o before ≡ take place (parts trace n o s)
  there : slice_get (operations_for trace n o s) place ≡ Some operation

-- that what is left of them are the last of all
abbrev pub AreLast : RestState → Type 0
AreLast rest = rest.left ≡ drop (length (all_of rest) - length rest.left) (all_of rest)

-- that the part of the first of them stands in the log of the origin
abbrev pub StandsInLog : RestState → Type 0
StandsInLog rest = (operation : Operation) (others : List Operation) → rest.left ≡ operation ∷ others
    → slice_get (log_of rest) rest.part ≡ Some (operation.number, rest.shard)

module _ (trace : Parsed) (pages s o : ℕ) (walked : List (List Entry)) (before : List Entry) (rest : RestState) (read : IsConsistent trace)
    (behind : IsRestBehind trace s before o rest) where
  abbrev t : Trace
  t = trace_in trace

  abbrev n : ℕ
  n = trace.shards

  all-is : all_of rest ≡ operations_for t n o s
  all-is =
      ap (λ (x : Parsed). operations_for (trace_in x) x.shards rest.origin rest.shard) behind.of_trace
      ∙ ap (λ (k : ℕ). operations_for t n k rest.shard) behind.origin
      ∙ ap (operations_for t n o) behind.shard

  log-is : log_of rest ≡ issued_parts t n o
  log-is = ap (λ (x : Parsed). issued_parts (trace_in x) x.shards rest.origin) behind.of_trace ∙ ap (issued_parts t n) behind.origin

  next : AreLast rest → (operation : Operation) (others : List Operation) → rest.left ≡ operation ∷ others → IsNext t n o s before operation
  next last operation others first =
      let all = operations_for t n o s in
      let number : Operation → ℕ = λ x. x.number in
      let k = length all - length rest.left in
      let dropped : drop k all ≡ operation ∷ others = sym (last ∙ ap (λ (list : List Operation). drop (length list - length rest.left) list) all-is) ∙ first in
      let long : length (done_for n o before) + length rest.left ≡ length all =
      (let sum = length-append (done_for n o before) (map number rest.left) in
      let left = length-map rest.left number in
      let whole = ap length behind.passed in
      let every = length-map all number in
      omega (arith, sum, left, whole, every)) in
      let place : length (done_for n o before) ≡ k = omega (arith, long) in
      record {
        place = k;
        taken = sym (take-append_seam (done_for n o before) (map number rest.left)) ∙ ap (take (length (done_for n o before))) behind.passed ∙ ap (λ m. take m (parts t n o s)) place;
        there = first-dropped all k operation others dropped;
      }

  module _ (last : AreLast rest) (operation : Operation) (others : List Operation) (first : rest.left ≡ operation ∷ others) where
    is-next : IsNext t n o s before operation
    is-next = next last operation others first

    ordered : IsNumbered t.operations
    ordered = numbered trace.bytes trace.commands read.spelled.numbered

    pub unseen : list_any (is_done operation.number) before ≡ false
    unseen = not-done a_journal_goes_on-number t n o s is-next.place before operation ordered is-next.taken is-next.there

    pub command : command_of t operation.number ≡ Some operation
    command = command-at t n o s is-next.place operation ordered is-next.there

    pub of-origin : origin operation.number n ≡ o
    of-origin = origin-at t n o s is-next.place operation is-next.there

    -- its part is not logged yet
    pub unlogged : (log : Replies) → s ≡ length walked → StandsInLog rest → HoldsReplies t n o (part_reply t pages (walked ++ before ∷ [])) log.replies
        → slice_get log.replies rest.part ≡ Some None
    unlogged log last-one stands holds =
        let asked : ℕ × ℕ → Option Reply = part_reply t pages (walked ++ before ∷ []) in
        let here : slice_get (issued_parts t n o) rest.part ≡ Some (operation.number, s) =
        ap (λ list. slice_get list rest.part) (sym log-is) ∙ stands operation others first ∙ ap (λ q. Some (operation.number, q)) behind.shard in
        let none : asked (operation.number, s) ≡ None = reply-last t pages walked before operation.number s last-one ∙ rw unseen refl in
        ap (λ list. slice_get list rest.part) holds
        ∙ slice_get-map (λ part. option_map spelled (asked part)) (issued_parts t n o) rest.part
        ∙ ap (option_map (λ part. option_map spelled (asked part))) here
        ∙ ap (λ r. Some (option_map spelled r)) none

    -- and then it is
    module _ (last-one : s ≡ length walked) (own : s < n) (rows : List Row) (leads : cache_after t pages before ≡ Some rows) where
      pub done-leads : cache_after t pages (before ++ Done operation.number ∷ []) ≡ Some (apply operation rows).0
      done-leads = leads-done t pages before rows leads operation.number operation command

      pub done-logged : (log : Replies) → StandsInLog rest → HoldsReplies t n o (part_reply t pages (walked ++ before ∷ [])) log.replies
          → HoldsReplies t n o (part_reply t pages (walked ++ (before ++ Done operation.number ∷ []) ∷ [])) (slice_set log.replies rest.part (Some (spelled (apply operation rows).1)))
      done-logged log stands holds =
          let i = operation.number in
          let here : slice_get (issued_parts t n o) rest.part ≡ Some (i, s) =
          ap (λ list. slice_get list rest.part) (sym log-is) ∙ stands operation others first ∙ ap (λ q. Some (i, q)) behind.shard in
          let some : 0 < n = omega (arith, own) in
          holds-more issued_parts_are_counted-peer t n o s rest.part i (part_reply t pages (walked ++ before ∷ [])) (part_reply t pages (walked ++ (before ++ Done i ∷ []) ∷ []))
          (apply operation rows).1 log.replies some own ordered here
          (reply-last t pages walked (before ++ Done i ∷ []) i s last-one ∙ a_journal_goes_on-replied t pages i before rows operation unseen command leads)
          (λ j other. reply-others t pages walked before i j s last-one other)
          (λ q other j. reply-before t pages walked before (before ++ Done i ∷ []) j q (λ e. other (e ∙ sym last-one)))
          holds

      pub done-passed : (left : List Operation) → others ≡ left
          → done_for n o (before ++ Done operation.number ∷ []) ++ map (λ (x : Operation). x.number) left ≡ parts t n o s
      done-passed left same =
          passed-done t n o s operation.number before (map (λ (x : Operation). x.number) left) of-origin
          (ap (λ (list : List Operation). done_for n o before ++ (operation.number ∷ map (λ (x : Operation). x.number) list)) (sym same)
          ∙ ap (λ (list : List Operation). done_for n o before ++ map (λ (x : Operation). x.number) list) (sym first)
          ∙ behind.passed)

-- ---- the same in the lists of all origins

module _ (trace : Parsed) (pages s o i : ℕ) (walked : List (List Entry)) (before : List Entry) (rests : List RestState) (logs : List Replies) (rest' : RestState) (log' : Replies)
    (below : o < trace.shards) (of : origin i trace.shards ≡ o) where
  abbrev after : List Entry
  after = before ++ Done i ∷ []

  pub rests-done : AreRests trace s before rests → IsRestBehind trace s after o rest' → AreRests trace s after (slice_set rests o rest')
  rests-done are one = record {
    many = length-set rests o rest' ∙ are.many;
    each = λ q d less. elim (cases_eq q o) [
      | inl is ↦ rw is (subst (IsRestBehind trace s after o) (sym (set-here rests o rest' d (subst (λ m. o < m) (sym are.many) below))) one)
      | inr other ↦
          let r = are.each q d less in
          let rest = slice_index_or rests q d in
          subst (IsRestBehind trace s after q) (sym (set-there rests o q rest' d other)) (record {
            of_trace = r.of_trace;
            origin = r.origin;
            shard = r.shard;
            passed = passed-other (trace_in trace) trace.shards q s i before (map (λ (operation : Operation). operation.number) rest.left) (λ e. other (sym e ∙ of)) r.passed;
          })
    ];
  }

  -- a log of another origin holds what it held: none of its parts is of this command
  pub logs-done : s ≡ length walked → 0 < trace.shards → AreLogs trace pages (walked ++ before ∷ []) logs
      → HoldsReplies (trace_in trace) trace.shards o (part_reply (trace_in trace) pages (walked ++ after ∷ [])) log'.replies
      → AreLogs trace pages (walked ++ after ∷ []) (slice_set logs o log')
  logs-done last-one some are one = record {
    many = length-set logs o log' ∙ are.many;
    each = λ q d less. elim (cases_eq q o) [
      | inl is ↦
          rw is (subst (λ (log : Replies). HoldsReplies t n o now log.replies) (sym (set-here logs o log' d (subst (λ m. o < m) (sym are.many) below))) one)
      | inr other ↦
          subst (λ (log : Replies). HoldsReplies t n q now log.replies) (sym (set-there logs o q log' d other))
          (holds-other issued_parts_are_counted-peer t n q asked now (slice_index_or logs q d).replies some
          (λ k p e. elim (cases_eq p s) [
            | inl at ↦
                rw at (reply-others t pages walked before i k s last-one (λ same. other (sym e ∙ ap (λ j. origin j n) same ∙ of)))
            | inr elsewhere ↦ reply-before t pages walked before after k p (λ same. elsewhere (same ∙ sym last-one))
          ])
          (are.each q d less))
    ];
  }
    where
      t : Trace
      t = trace_in trace

      n : ℕ
      n = trace.shards

      asked : ℕ × ℕ → Option Reply
      asked = part_reply (trace_in trace) pages (walked ++ before ∷ [])

      now : ℕ × ℕ → Option Reply
      now = part_reply (trace_in trace) pages (walked ++ after ∷ [])
