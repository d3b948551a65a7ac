-- What a step of a walk comes to.
use Rattle.std.proofs.Common.{◌≡◌, ℕ, ◌-◌, ◌<◌, Bool, true, false, List, [], ◌∷◌, ◌++◌, length, map, take, get_or, slice_get, slice_set, None, Some, Result, Ok, Err, arith, refl, sym, ap, subst, ◌∙◌}
use Rattle.std.specs.Bool.{OnTrue}
use Rattle.std.specs.List.{slice_index_or}
use Rattle.std.specs.Result.{IfOk}
use Rattle.std.proofs.Math.Nat.{mod-lt}
use Rattle.std.proofs.lemmas.List.{get_or_default}
use Rattle.rows.specs.Apply.{apply}
use Rattle.rows.specs.Operation.{Operation}
use Rattle.rows.specs.Spelled.{spelled}
use Rattle.trace_text.specs.Parsed.{IsConsistent, Parsed, trace_in}
use Rattle.trace_text.specs.Parts.{origin}
use Rattle.trace_text.specs.Trace.{regions}
use Rattle.cache_model.specs.declared.entry.Entry.{Entry}
use Rattle.cache_model.specs.declared.entry.Entry.TheVariants.{Done, Evicted}
use Rattle.cache_model.specs.Legal.{cache_after, can_evict}
use Rattle.cache_model.specs.OwnParts.{HoldsReplies, part_reply}
use Rattle.run_log.specs.Replies.{Replies}
use Rattle.plain_cache.specs.Cache.{Cache}
use Rattle.part_lemmas.specs.Exchange.{done_for}
use Rattle.part_lemmas.specs.Rest.{RestState}
use Rattle.report_check.specs.declared.walking.Walk.{Walk}
use Rattle.report_check.specs.inside.Walks.{AreLogs, AreRests, DoesNext, IsRestBehind, NextIsOther, StandsOver, Steps}
use Rattle.report_check.proofs.Steps.{AreLast, StandsInLog, done-leads, done-logged, done-passed, logs-done, logs-stay, rests-done, rests-stay, unlogged}
use Rattle.report_check.proofs.Walked.{leads-evicted, unsound-done, unsound-evicted}

module _ (trace : Parsed) (pages s : ℕ) (walked : List (List Entry)) (before : List Entry) (walk walk' : Walk) (logs : List Replies) (stands : StandsOver trace pages s walked before walk logs) where
  -- the eviction of the row of a put
  pub evict-steps : (q : ℕ) (may : Bool) → may ≡ can_evict walk.cache.pages walk.cache.regions q walk.cache.rows
      → OnTrue may (walk'.cache ≡ record walk.cache { rows = take (length walk.cache.rows - 1) walk.cache.rows }) → walk'.rests ≡ walk.rests
      → Steps trace pages s walked before (Evicted q) may walk' logs
  evict-steps q true may is same =
      let at = stands.behind in
      let can : can_evict pages (regions (trace_in trace)) q walk.cache.rows ≡ true =
      ap (λ (p : ℕ). can_evict p (regions (trace_in trace)) q walk.cache.rows) (sym at.pages) ∙ ap (λ (g : ℕ). can_evict walk.cache.pages g q walk.cache.rows) (sym at.regions) ∙ sym may in
      record {
        shard = stands.shard;
        before = stands.before;
        behind = record {
          leads = leads-evicted (trace_in trace) pages before walk.cache.rows at.leads q can ∙ ap (λ (c : Cache). Some c.rows) (sym is);
          pages = ap (λ (c : Cache). c.pages) is ∙ at.pages;
          regions = ap (λ (c : Cache). c.regions) is ∙ at.regions;
          rests = rests-stay trace pages s walked before q walk'.rests.items (subst (λ v. AreRests trace s before v.items) (sym same) at.rests);
        };
        logs = logs-stay trace pages s walked before q logs stands.logs;
      }
  evict-steps q false may is same = λ later.
      let at = stands.behind in
      unsound-evicted (trace_in trace) pages before walk.cache.rows at.leads trace.shards s q later
      (ap (λ (p : ℕ). can_evict p (regions (trace_in trace)) q walk.cache.rows) (sym at.pages) ∙ ap (λ (g : ℕ). can_evict walk.cache.pages g q walk.cache.rows) (sym at.regions) ∙ sym may)

  -- the part of a command, which is tried of what is left of its origin o
  module _ (read : IsConsistent trace) (i o : ℕ) (below : o < trace.shards) (of : origin i trace.shards ≡ o) (rest rest' : RestState) (logs' : List Replies) (log log' : Replies)
      (behind : IsRestBehind trace s before o rest) (last : AreLast rest) (stood : StandsInLog rest) where
    pub other-steps : NextIsOther i rest → Steps trace pages s walked before (Done i) false walk' logs'
    other-steps other later = unsound-done (trace_in trace) trace.shards pages s o i before later rest.left below of behind.passed other

    pub done-steps : DoesNext i walk.cache walk'.cache rest rest' log log' → walk'.rests.items ≡ slice_set walk.rests.items o rest' → logs' ≡ slice_set logs o log'
        → ((d : Replies) → slice_index_or logs o d ≡ log) → Steps trace pages s walked before (Done i) true walk' logs'
    done-steps does rests-are logs-are here =
        let at = stands.behind in
        let one = does.operation in
        let after : List Entry = before ++ Done i ∷ [] in
        let same : before ++ Done one.number ∷ [] ≡ after = ap (λ k. before ++ Done k ∷ []) does.number in
        let last-one : s ≡ length walked = sym stands.before in
        let leads = done-leads trace pages s o walked before rest read behind last one rest'.left does.left last-one stands.shard walk.cache.rows at.leads in
        let holds = stands.logs.each o log below in
        let logged = done-logged trace pages s o walked before rest read behind last one rest'.left does.left last-one stands.shard walk.cache.rows at.leads log stood
        (subst (λ (l : Replies). HoldsReplies (trace_in trace) trace.shards o (part_reply (trace_in trace) pages (walked ++ before ∷ [])) l.replies) (here log) holds) in
        let passed = done-passed trace pages s o walked before rest read behind last one rest'.left does.left last-one stands.shard walk.cache.rows at.leads rest'.left refl in
        record {
          shard = stands.shard;
          before = stands.before;
          behind = record {
            leads = ap (cache_after (trace_in trace) pages) (sym same) ∙ leads ∙ ap (λ (c : Cache). Some c.rows) (sym does.applied);
            pages = ap (λ (c : Cache). c.pages) does.applied ∙ at.pages;
            regions = ap (λ (c : Cache). c.regions) does.applied ∙ at.regions;
            rests = subst (AreRests trace s after) (sym rests-are)
                (rests-done trace pages s o i walked before walk.rests.items logs rest' log' below of at.rests (record {
                  of_trace = does.trace ∙ behind.of_trace;
                  origin = does.origin ∙ behind.origin;
                  shard = does.shard ∙ behind.shard;
                  passed = ap (λ es. done_for trace.shards o es ++ map (λ (x : Operation). x.number) rest'.left) (sym same) ∙ passed;
                }));
          };
          logs = subst (AreLogs trace pages (walked ++ after ∷ [])) (sym logs-are)
              (logs-done trace pages s o i walked before walk.rests.items logs rest' log' below of last-one (omega (arith, below)) stands.logs
              (subst (HoldsReplies (trace_in trace) trace.shards o (part_reply (trace_in trace) pages (walked ++ after ∷ []))) (sym does.logged)
              (subst (λ es. HoldsReplies (trace_in trace) trace.shards o (part_reply (trace_in trace) pages (walked ++ es ∷ [])) (slice_set log.replies rest.part (Some (spelled (apply one walk.cache.rows).1)))) same logged)));
        }

-- a command is tried of what is left of its origin, and one log is behind the other
module _ (trace : Parsed) (read : IsConsistent trace) (walk walk' : Walk) (logs logs' : List Replies) (entry : Entry) (i o : ℕ) (is : entry ≡ Done i) (of : o ≡ origin i trace.shards)
    (rest rest' : RestState) (here : rest ≡ get_or walk.rests.items o rest) (last : AreLast rest) (stood : StandsInLog rest) (log log' given : Replies) (there : log ≡ get_or logs o given) where
  place : (pages s : ℕ) (walked : List (List Entry)) (before : List Entry) → StandsOver trace pages s walked before walk logs → o < trace.shards
  place pages s walked before stands =
      let some : 0 < trace.shards = (let own = stands.shard in omega (arith, own)) in
      let less : origin i trace.shards < trace.shards = mod-lt (i - 1) some in
      subst (λ (k : ℕ). k < trace.shards) (sym of) less

  behind-of : (pages s : ℕ) (walked : List (List Entry)) (before : List Entry) → StandsOver trace pages s walked before walk logs → IsRestBehind trace s before o rest
  behind-of pages s walked before stands =
      subst (IsRestBehind trace s before o) (sym here) (stands.behind.rests.each o rest (place pages s walked before stands))

  log-of : (pages s : ℕ) (walked : List (List Entry)) (before : List Entry) → StandsOver trace pages s walked before walk logs → (d : Replies) → slice_index_or logs o d ≡ log
  log-of pages s walked before stands d =
      let below = place pages s walked before stands in
      let many = stands.logs.many in
      get_or_default logs o d given (omega (arith, below, many)) ∙ sym there

  -- the part of the first of them has no reply yet
  pub still-open : (pages s : ℕ) (walked : List (List Entry)) (before : List Entry) → StandsOver trace pages s walked before walk logs
      → (operation : Operation) (others : List Operation) → rest.left ≡ operation ∷ others → slice_get log.replies rest.part ≡ Some None
  still-open pages s walked before stands operation others first =
      let below = place pages s walked before stands in
      unlogged trace pages s o walked before rest read (behind-of pages s walked before stands) last operation others first log (sym stands.before) stood
      (subst (λ (l : Replies). HoldsReplies (trace_in trace) trace.shards o (part_reply (trace_in trace) pages (walked ++ before ∷ [])) l.replies)
      (log-of pages s walked before stands log) (stands.logs.each o log below))

  -- whether it is the first of them, or not
  pub tried-steps : {E : Type 0} (r : Result Bool E) → (r ≡ Ok false → NextIsOther i rest) → (r ≡ Ok true → DoesNext i walk.cache walk'.cache rest rest' log log')
      → walk'.rests.items ≡ slice_set walk.rests.items o rest' → logs' ≡ slice_set logs o log'
      → IfOk r (λ may. (pages s : ℕ) (walked : List (List Entry)) (before : List Entry) → StandsOver trace pages s walked before walk logs → Steps trace pages s walked before entry may walk' logs')
  tried-steps (Ok true) other does rests-are logs-are = λ pages s walked before stands.
      subst (λ (e : Entry). Steps trace pages s walked before e true walk' logs') (sym is)
      (done-steps trace pages s walked before walk walk' logs stands read i o (place pages s walked before stands) (sym of) rest rest' logs' log log' (behind-of pages s walked before stands) last stood
      (does refl) rests-are logs-are (log-of pages s walked before stands))
  tried-steps (Ok false) other does rests-are logs-are = λ pages s walked before stands.
      subst (λ (e : Entry). Steps trace pages s walked before e false walk' logs') (sym is)
      (other-steps trace pages s walked before walk walk' logs stands read i o (place pages s walked before stands) (sym of) rest rest' logs' log log' (behind-of pages s walked before stands) last stood
      (other refl))
  tried-steps (Err e) other does rests-are logs-are = tt
