-- A journal that was walked to its end, or as far as an entry that may not stand there; and the journals of all shards.
use Rattle.std.proofs.Common.{◌≡◌, ℕ, zero, suc, ◌+◌, ◌<◌, Bool, true, false, List, [], ◌∷◌, ◌++◌, length, map, take, drop, get_or, append-nil, Option, Some, None, Result, Ok, Err, arith, refl, sym, ap, subst, ◌∙◌}
use Rattle.std.specs.List.{All, enumerate_from}
use Rattle.std.specs.Result.{IfOk}
use Rattle.std.proofs.lemmas.Bool.{false_from_ne_true}
use Rattle.std.proofs.lemmas.List.{drop_more, get_or_default, take-append-drop, take_more}
use Rattle.rows.specs.Operation.{Operation}
use Rattle.rows.specs.Row.{live}
use Rattle.trace_text.specs.Parsed.{Parsed, trace_in}
use Rattle.trace_text.specs.Trace.{Trace}
use Rattle.cache_model.specs.declared.entry.Entry.{Entry}
use Rattle.cache_model.specs.Legal.{IsComplete}
use Rattle.cache_model.specs.Report.{lent}
use Rattle.run_log.specs.Replies.{Replies}
use Rattle.run_log.specs.Runs.{occupancy_in}
use Rattle.run_log.specs.declared.shard_line.ShardLine.{ShardLine}
use Rattle.part_lemmas.specs.Exchange.{done_for}
use Rattle.part_lemmas.specs.Rest.{RestState}
use Rattle.report_check.specs.Verdict.{is_sound, unsound_line}
use Rattle.report_check.specs.declared.walking.Walk.{Walk}
use Rattle.report_check.specs.inside.Walks.{AreLogs, IsWalked, StandsOver, Steps, Walks}
use Rattle.report_check.proofs.Sound.{sound, sound-complete}
use Rattle.report_check.proofs.Walked.{same-behind}

-- ---- one entry more, or the first that may not be there

module _ (trace : Parsed) (pages s : ℕ) (walked : List (List Entry)) (entries : List Entry) (k : ℕ) (entry given : Entry) (below : k < length entries) (there : entry ≡ get_or entries k given) (walk : Walk) (logs : List Replies) where
  here : entry ≡ get_or entries k entry
  here = there ∙ get_or_default entries k given entry below

  pub entry-walked : (may : Bool) → may ≡ true → Steps trace pages s walked (take k entries) entry may walk logs → StandsOver trace pages s walked (take (k + 1) entries) walk logs
  entry-walked may is steps =
      let next : take (k + 1) entries ≡ take k entries ++ entry ∷ [] =
      take_more entries k entry below ∙ ap (λ (e : Entry). take k entries ++ e ∷ []) (sym here) in
      subst (λ es. StandsOver trace pages s walked es walk logs) (sym next)
      (subst (λ (b : Bool). Steps trace pages s walked (take k entries) entry b walk logs) is steps)

  pub entry-refused : (may : Bool) → may ≡ false → Steps trace pages s walked (take k entries) entry may walk logs → is_sound (trace_in trace) trace.shards pages (s, entries) ≡ false
  entry-refused may is steps =
      let all : take k entries ++ entry ∷ drop (k + 1) entries ≡ entries =
      ap (λ (e : Entry). take k entries ++ e ∷ drop (k + 1) entries) here
      ∙ ap (λ es. take k entries ++ es) (sym (drop_more entries k entry below)) ∙ take-append-drop k entries in
      ap (λ es. is_sound (trace_in trace) trace.shards pages (s, es)) (sym all)
      ∙ subst (λ (b : Bool). Steps trace pages s walked (take k entries) entry b walk logs) is steps (drop (k + 1) entries)

-- ---- the end of a journal

-- no command is left where no number is
none-left : (left : List Operation) → map (λ (operation : Operation). operation.number) left ≡ [] → left ≡ []
none-left [] e = refl
none-left (operation ∷ left) e = absurd (let clash : operation.number ∷ map (λ (x : Operation). x.number) left ≡ [] = e in cc)

module _ (trace : Parsed) (pages s : ℕ) (walked : List (List Entry)) (entries : List Entry) (walk : Walk) (logs : List Replies) (stands : StandsOver trace pages s walked entries walk logs) where
  abbrev t : Trace
  t = trace_in trace

  abbrev n : ℕ
  n = trace.shards

  no_rest : RestState
  no_rest = record { trace = trace; origin = 0; shard = 0; left = []; part = 0 }

  complete : All (λ (rest : RestState). rest.left ≡ []) walk.rests.items → IsComplete t n s entries
  complete all o below =
      let rests = stands.behind.rests in
      let many = rests.many in
      let rest = get_or walk.rests.items o no_rest in
      let none : rest.left ≡ [] = all o no_rest (omega (arith, below, many)) in
      sym (append-nil (done_for n o entries))
      ∙ ap (λ left. done_for n o entries ++ map (λ (operation : Operation). operation.number) left) (sym none)
      ∙ (rests.each o no_rest below).passed

  pub through : (line : ShardLine) → All (λ (rest : RestState). rest.left ≡ []) walk.rests.items
      → occupancy_in line ≡ record { rows = length walk.cache.rows; live = live walk.cache.rows; lent = lent t n s; back = lent t n s }
      → IsWalked trace pages s walked entries logs line
  through line all is =
      let leads = stands.behind.leads in
      record {
        sound = sound t n pages s entries walk.cache.rows leads (complete all);
        logs = stands.logs;
        line = is ∙ rw leads refl;
      }

  -- a command is left of some shard
  pub not-through : (All (λ (rest : RestState). rest.left ≡ []) walk.rests.items → ⊥) → is_sound t n pages (s, entries) ≡ false
  not-through other = false_from_ne_true _ (λ is. other (λ o d below.
      let rests = stands.behind.rests in
      let many = rests.many in
      let less : o < n = omega (arith, below, many) in
      let rest = get_or walk.rests.items o d in
      let whole : done_for n o entries ++ map (λ (operation : Operation). operation.number) rest.left ≡ done_for n o entries ++ [] =
      (rests.each o d less).passed ∙ sym (sound-complete t n pages s entries is o less) ∙ sym (append-nil (done_for n o entries)) in
      none-left rest.left (same-behind (done_for n o entries) (map (λ (operation : Operation). operation.number) rest.left) [] whole)))

-- whatever its walk began with
pub if-walked : {E : Type 0} (trace : Parsed) (own_pages s : ℕ) (entries : List Entry) (walk : Walk) (logs logs' : List Replies) (r : Result (Option ShardLine) E)
    → ((walked : List (List Entry)) → length walked ≡ s → AreLogs trace own_pages walked logs → StandsOver trace own_pages s walked [] walk logs)
    → IfOk r (λ found. (pages : ℕ) (walked : List (List Entry)) → StandsOver trace pages s walked [] walk logs → Walks trace pages s walked entries logs' found)
    → IfOk r (λ found. (walked : List (List Entry)) → length walked ≡ s → AreLogs trace own_pages walked logs → Walks trace own_pages s walked entries logs' found)
if-walked trace own_pages s entries walk logs logs' (Ok found) begins walks = λ walked many are. walks own_pages walked (begins walked many are)
if-walked trace own_pages s entries walk logs logs' (Err e) begins walks = tt

-- ---- the first journal that is not sound

pub unsound-first : (trace : Trace) (n pages a k : ℕ) (journals : List (List Entry)) → ((j : ℕ) (d : List Entry) → j < k → is_sound trace n pages (a + j, get_or journals j d) ≡ true)
    → k < length journals → ((d : List Entry) → is_sound trace n pages (a + k, get_or journals k d) ≡ false)
    → unsound_line trace n pages (enumerate_from a journals) ≡ Some (length trace.operations + (a + k) + 1)
unsound-first trace n pages a k [] each below not = absurd (omega (arith, below))
unsound-first trace n pages a zero (journal ∷ journals) each below not =
    let at : a ≡ a + 0 = omega arith in
    let here : is_sound trace n pages (a, journal) ≡ false = ap (λ (m : ℕ). is_sound trace n pages (m, journal)) at ∙ not journal in
    rw here (ap (λ (m : ℕ). Some (length trace.operations + m + 1)) at)
unsound-first trace n pages a (suc k) (journal ∷ journals) each below not =
    let at : a ≡ a + 0 = omega arith in
    let first : is_sound trace n pages (a, journal) ≡ true = ap (λ (m : ℕ). is_sound trace n pages (m, journal)) at ∙ each 0 journal (omega arith) in
    let further : (j : ℕ) → a + 1 + j ≡ a + suc j = λ j. omega arith in
    rw first (unsound-first trace n pages (a + 1) k journals
    (λ j d less. ap (λ (m : ℕ). is_sound trace n pages (m, get_or journals j d)) (further j) ∙ each (suc j) d (omega (arith, less)))
    (omega (arith, below))
    (λ d. ap (λ (m : ℕ). is_sound trace n pages (m, get_or journals k d)) (further k) ∙ not d)
    ∙ ap (λ (m : ℕ). Some (length trace.operations + m + 1)) (further k))

-- ---- journals that are all sound

pub unsound-none : (trace : Trace) (n pages a : ℕ) (journals : List (List Entry)) → ((k : ℕ) (d : List Entry) → k < length journals → is_sound trace n pages (a + k, get_or journals k d) ≡ true)
    → unsound_line trace n pages (enumerate_from a journals) ≡ None
unsound-none trace n pages a [] each = refl
unsound-none trace n pages a (journal ∷ journals) each =
    let at : a ≡ a + 0 = omega arith in
    let first : is_sound trace n pages (a, journal) ≡ true = ap (λ (m : ℕ). is_sound trace n pages (m, journal)) at ∙ each 0 journal (omega arith) in
    rw first (unsound-none trace n pages (a + 1) journals
    (λ k d below.
    let further : a + 1 + k ≡ a + suc k = omega arith in
    ap (λ (m : ℕ). is_sound trace n pages (m, get_or journals k d)) further ∙ each (suc k) d (omega (arith, below))))
