-- The journals of all shards, walked one after the other.
use Rattle.std.proofs.Common.{◌≡◌, ℕ, zero, suc, ◌+◌, ◌<◌, ◌≤◌, true, false, List, [], ◌∷◌, ◌++◌, length, map, take, get_or, Some, arith, refl, sym, ap, subst, ◌∙◌, inl, inr}
use Rattle.std.specs.List.{All, enumerate_from}
use Rattle.std.proofs.lemmas.Bool.{cases_lt}
use Rattle.std.proofs.lemmas.List.{get_or-map, map_push, take_all, take_more}
use Rattle.trace_text.specs.Parsed.{Parsed, trace_in}
use Rattle.trace_text.specs.Trace.{Trace}
use Rattle.cache_model.specs.declared.entry.Entry.{Entry}
use Rattle.cache_model.specs.Report.{number_of, occupancy}
use Rattle.run_log.specs.JournalState.{JournalState}
use Rattle.run_log.specs.Replies.{Replies}
use Rattle.run_log.specs.Runs.{journals_in, occupancies_in, occupancy_in}
use Rattle.run_log.specs.declared.shard_line.ShardLine.{ShardLine}
use Rattle.report_check.specs.Verdict.{is_sound, unsound_line}
use Rattle.report_check.specs.inside.Walks.{AreLogs, AreWalked, IsWalked}
use Rattle.report_check.proofs.WalkedThrough.{unsound-first, unsound-none}

enumerate-more : {X : Type 0} (a k : ℕ) (xs : List X) (d : X) → k < length xs
    → enumerate_from a (take (k + 1) xs) ≡ enumerate_from a (take k xs) ++ (a + k, get_or xs k d) ∷ []
enumerate-more a k [] d below = absurd (omega (arith, below))
enumerate-more a zero (x ∷ xs) d below = let at : a ≡ a + 0 = omega arith in ap (λ (m : ℕ). (m, x) ∷ []) at
enumerate-more a (suc k) (x ∷ xs) d below =
    let at : a + 1 + k ≡ a + suc k = omega arith in
    let next : suc k + 1 ≡ suc (k + 1) = omega arith in
    ap (λ (m : ℕ). enumerate_from a (take m (x ∷ xs))) next
    ∙ ap (λ list. (a, x) ∷ list)
    (enumerate-more (a + 1) k xs d (omega (arith, below)) ∙ ap (λ (m : ℕ). enumerate_from (a + 1) (take k xs) ++ (m, get_or xs k d) ∷ []) at)

-- the entries of one journal
pub entries-at : (journals : List JournalState) (s : ℕ) (journal : JournalState) (entries : List Entry) → s < length journals → journal ≡ get_or journals s journal → entries ≡ journal.entries
    → (d : List Entry) → entries ≡ get_or (journals_in journals) s d
entries-at journals s journal entries below here is d =
    is ∙ ap (λ (j : JournalState). j.entries) here ∙ sym (get_or-map (λ (j : JournalState). j.entries) journals s journal d below)

pub numbered-at : (journals : List (List Entry)) (s : ℕ) (entries : List Entry) → s < length journals → ((d : List Entry) → entries ≡ get_or journals s d)
    → All (λ journal. All (λ (entry : Entry). 1 ≤ number_of entry) journal) journals → All (λ (entry : Entry). 1 ≤ number_of entry) entries
numbered-at journals s entries below here all = subst (All (λ (entry : Entry). 1 ≤ number_of entry)) (sym (here [])) (all s [] below)

-- those of the first s shards are sound, the logs hold their replies, and the lines say what their caches hold
pub record AreWalkedTo (trace : Parsed) (pages s : ℕ) (journals : List (List Entry)) (replies : List Replies) (written : List ShardLine) : Type 0 where
  pub sound : (k : ℕ) (d : List Entry) → k < s → is_sound (trace_in trace) trace.shards pages (k, get_or journals k d) ≡ true
  pub logs : AreLogs trace pages (take s journals) replies
  pub lines : occupancies_in written ≡ map (occupancy (trace_in trace) trace.shards pages) (enumerate_from 0 (take s journals))

module _ (trace : Parsed) (pages : ℕ) (journals : List (List Entry)) where
  abbrev t : Trace
  t = trace_in trace

  abbrev n : ℕ
  n = trace.shards

  pub none-walked : (logs : List Replies) → AreLogs trace pages [] logs → AreWalkedTo trace pages 0 journals logs []
  none-walked logs are = record { sound = λ k d below. absurd (omega (arith, below)); logs = are; lines = refl }

  -- one journal more
  pub walked-more : (s : ℕ) (entries : List Entry) → s < length journals → ((d : List Entry) → entries ≡ get_or journals s d) → (logs logs' : List Replies) (written : List ShardLine) (line : ShardLine)
      → AreWalkedTo trace pages s journals logs written → IsWalked trace pages s (take s journals) entries logs' line
      → AreWalkedTo trace pages (s + 1) journals logs' (written ++ line ∷ [])
  walked-more s entries below here logs logs' written line so_far one =
      let at : 0 + s ≡ s = omega arith in
      let more : take (s + 1) journals ≡ take s journals ++ entries ∷ [] =
      take_more journals s entries below ∙ ap (λ (es : List Entry). take s journals ++ es ∷ []) (sym (here entries)) in
      let numbered : enumerate_from 0 (take (s + 1) journals) ≡ enumerate_from 0 (take s journals) ++ (s, entries) ∷ [] =
      enumerate-more 0 s journals entries below
      ∙ ap (λ (m : ℕ). enumerate_from 0 (take s journals) ++ (m, get_or journals s entries) ∷ []) at
      ∙ ap (λ (es : List Entry). enumerate_from 0 (take s journals) ++ (s, es) ∷ []) (sym (here entries)) in
      record {
        sound = λ k d less. elim (cases_lt k s) [
          | inl before ↦ so_far.sound k d before
          | inr most ↦
              let same : s ≡ k = omega (arith, less, most) in
              subst (λ (m : ℕ). is_sound t n pages (m, get_or journals m d) ≡ true) same (ap (λ (es : List Entry). is_sound t n pages (s, es)) (sym (here d)) ∙ one.sound)
        ];
        logs = subst (λ js. AreLogs trace pages js logs') (sym more) one.logs;
        lines =
            map_push occupancy_in written line
            ∙ ap (λ os. os ++ occupancy_in line ∷ []) so_far.lines
            ∙ ap (λ o. map (occupancy t n pages) (enumerate_from 0 (take s journals)) ++ o ∷ []) one.line
            ∙ sym (map_push (occupancy t n pages) (enumerate_from 0 (take s journals)) (s, entries))
            ∙ ap (map (occupancy t n pages)) (sym numbered);
      }

  -- all of them
  pub all-walked : (s : ℕ) → s ≡ length journals → (logs : List Replies) (written : List ShardLine) → AreWalkedTo trace pages s journals logs written
      → AreWalked trace pages journals logs written
  all-walked s many logs written so_far =
      let whole : take s journals ≡ journals = take_all s journals (omega (arith, many)) in
      record {
        sound = unsound-none t n pages 0 journals
            (λ k d below.
            let at : 0 + k ≡ k = omega arith in
            ap (λ (m : ℕ). is_sound t n pages (m, get_or journals k d)) at ∙ so_far.sound k d (omega (arith, below, many)));
        logs = subst (λ js. AreLogs trace pages js logs) whole so_far.logs;
        lines = so_far.lines ∙ ap (λ js. map (occupancy t n pages) (enumerate_from 0 js)) whole;
      }

  -- as far as one that is not sound
  pub walked-refused : (s line : ℕ) (entries : List Entry) → s < length journals → ((d : List Entry) → entries ≡ get_or journals s d) → (logs : List Replies) (written : List ShardLine)
      → AreWalkedTo trace pages s journals logs written → is_sound t n pages (s, entries) ≡ false → line ≡ length t.operations + s + 1
      → unsound_line t n pages (enumerate_from 0 journals) ≡ Some line
  walked-refused s line entries below here logs written so_far not is =
      let number : length t.operations + (0 + s) + 1 ≡ line = omega (arith, is) in
      unsound-first t n pages 0 s journals
      (λ j d less. let at : 0 + j ≡ j = omega arith in ap (λ (m : ℕ). is_sound t n pages (m, get_or journals j d)) at ∙ so_far.sound j d less) below
      (λ d.
      let at : 0 + s ≡ s = omega arith in
      ap (λ (m : ℕ). is_sound t n pages (m, get_or journals s d)) at ∙ ap (λ (es : List Entry). is_sound t n pages (s, es)) (sym (here d)) ∙ not)
      ∙ ap (λ (m : ℕ). Some m) number
