-- What the comparing of a report needs, from its journals as they were read and walked.
use Rattle.std.proofs.Common.{◌≡◌, ℕ, ◌+◌, ◌<◌, ◌≤◌, true, List, ◌++◌, length, map, take, drop, Option, Result, Ok, Some, arith, sym, ap, subst, ◌∙◌}
use Rattle.std.specs.Prelude.{Vec}
use Rattle.std.specs.List.{All, enumerate_from, range_with_len, slice_index_or}
use Rattle.std.proofs.lemmas.List.{length-map, take-append-le, take_all}
use Rattle.std.proofs.lemmas.List.FromFn.{length-enumerate_from}
use Rattle.std.specs.declared.alloc.Global.{Global}
use Rattle.rows.specs.Apply.{Reply}
use Rattle.trace_text.specs.Parsed.{IsConsistent, IsWellFormed, Parsed, trace_in}
use Rattle.cache_model.specs.declared.entry.Entry.{Entry}
use Rattle.cache_model.specs.Logged.{AreLogged}
use Rattle.cache_model.specs.Report.{Occupancy, answer_text, answers, journal_text, number_of, occupancy_text}
use Rattle.cache_model.specs.Unbroken.{IsUnbroken}
use Rattle.cache_lemmas.proofs.UnbrokenAnswers.{answers-unbroken}
use Rattle.run_log.specs.JournalState.{JournalState}
use Rattle.run_log.specs.Replies.{Replies}
use Rattle.run_log.specs.Runs.{journals_in, occupancies_in, replies_in}
use Rattle.run_log.specs.declared.shard_line.ShardLine.{ShardLine}
use Rattle.part_lemmas.proofs.Cursors.Places.{length-operations}
use Rattle.report_check.specs.declared.journals.Read.{Read}
use Rattle.report_check.specs.declared.verdict.Verdict.TheVariants.{Legal}
use Rattle.report_check.specs.Lines.{Line, first_difference, lines_of}
use Rattle.report_check.specs.Spelled.{journals_of}
use Rattle.report_check.specs.Verdict.{illegal_at, is_sound, verdict}
use Rattle.report_check.specs.inside.Compared.{IsPrinted}
use Rattle.report_check.specs.inside.Spells.{IsRead}
use Rattle.report_check.specs.inside.Walks.{AreWalked, WalksAll}
use Rattle.report_check.proofs.Assembled.{front-of, verdict-compared}
use Rattle.report_check.proofs.Replied.{answered}
use Rattle.report_check.proofs.Sound.{sound-complete, sound-legal}
use Rattle.report_check.proofs.SpelledOnce.{once}
use Rattle.report_check.proofs.Spelling.{AreSpelledBy, journals-some, journals-spelled}
use Rattle.report_check.proofs.Verdicts.{each-sound}

-- logs that were lent and came back
pub back : (len : ℕ) (items new : List Replies) → length new ≡ len → take len (new ++ drop (length new) items) ≡ new
back len items new many = take-append-le len new (drop (length new) items) (omega (arith, many)) ∙ take_all len new (omega (arith, many))

module _ (trace : Parsed) (pages : ℕ) (report : List ℕ) (consistent : IsConsistent trace) (formed : All IsWellFormed (trace_in trace).operations)
    (read : Read) (is-read : IsRead (length trace.commands) trace.shards (drop (length trace.commands) (lines_of report)) read) where
  abbrev journals : List (List Entry)
  journals = journals_in read.journals.items

  abbrev n : ℕ
  n = trace.shards

  abbrev count : ℕ
  count = length (trace_in trace).operations

  many-commands : count ≡ length trace.commands
  many-commands = length-operations trace.bytes trace.commands

  -- as the verdict names the lines
  spelled : journals_of count (range_with_len 0 n) (drop count (lines_of report)) ≡ Ok journals
  spelled = ap (λ (k : ℕ). journals_of k (range_with_len 0 n) (drop k (lines_of report))) many-commands ∙ is-read.journals

  on-lines : AreSpelledBy (length trace.commands) 0 n (drop (length trace.commands) (lines_of report)) journals
  on-lines = journals-spelled once (length trace.commands) 0 n (drop (length trace.commands) (lines_of report)) journals is-read.journals

  pub one-each : length read.journals.items ≡ n
  one-each = sym (length-map read.journals.items (λ journal. journal.entries)) ∙ on-lines.many

  pub numbers : All (λ journal. All (λ (entry : Entry). 1 ≤ number_of entry) journal) journals
  numbers = journals-some (length trace.commands) 0 n (drop (length trace.commands) (lines_of report)) journals is-read.journals

  -- the texts of the journals' lines
  abbrev pub printed : List (List ℕ)
  printed = map journal_text (enumerate_from 0 journals)

  pub is-printed : length read.behind.now ≤ length report → IsPrinted trace report read.behind.now printed
  is-printed within = record {
    many = length-map (enumerate_from 0 journals) journal_text ∙ length-enumerate_from 0 journals ∙ on-lines.many;
    lines = front-of (length trace.commands) 0 n (drop (length trace.commands) (lines_of report)) journals on-lines
        ∙ ap (λ (ls : List Line). map {B = Line} (λ text. Some text) printed ++ ls) (sym is-read.behind);
    within = within;
  }

  pub all-walked : (items : List JournalState) (replies : List Replies) (result : Result (Vec ShardLine Global) ℕ) (lines : Vec ShardLine Global) → items ≡ read.journals.items → result ≡ Ok lines
      → WalksAll trace pages (journals_in items) replies result → AreWalked trace pages journals replies lines.items
  all-walked items replies result lines items-are is walked =
      subst (WalksAll trace pages journals replies) is (subst (λ (js : List JournalState). WalksAll trace pages (journals_in js) replies result) items-are walked)

  -- the journals were walked
  module _ (replies : List Replies) (lines : List ShardLine) (walked : AreWalked trace pages journals replies lines) where
    sound : (s : ℕ) (d : List Entry) → s < n → is_sound (trace_in trace) n pages (s, slice_index_or journals s d) ≡ true
    sound s d below =
        let many = on-lines.many in
        let at : 0 + s ≡ s = omega arith in
        ap (λ (k : ℕ). is_sound (trace_in trace) n pages (k, slice_index_or journals s d)) (sym at)
        ∙ each-sound (trace_in trace) n pages 0 journals walked.sound s d (omega (arith, below, many))

    abbrev pub given : List (ℕ × Reply)
    given = answers (trace_in trace) n pages journals

    pub logged : (held : List Replies) → held ≡ replies → AreLogged (trace_in trace) n (replies_in held) given
    logged held held-is =
        subst (λ (logs : List Replies). AreLogged (trace_in trace) n (replies_in logs) given) (sym held-is)
        (answered trace pages journals consistent formed on-lines.many (λ s d below. sound-legal (trace_in trace) n pages s (slice_index_or journals s d) (sound s d below))
        (λ s d below. sound-complete (trace_in trace) n pages s (slice_index_or journals s d) (sound s d below)) replies walked.logs)

    pub unbroken : All (λ answer. IsUnbroken answer.1) given
    unbroken = answers-unbroken (trace_in trace) n pages journals formed

    pub said-compared : (found : Option ℕ) (written : List ShardLine) → written ≡ lines
        → found ≡ first_difference 1 (lines_of report) (map {B = Line} (λ answer. Some (answer_text answer)) given ++ map {B = Line} (λ text. Some text) printed
        ++ map {B = Line} (λ (one : ℕ × Occupancy). Some (occupancy_text one)) (enumerate_from 0 (occupancies_in written)))
        → illegal_at found Legal ≡ verdict (trace_in trace) n pages report
    said-compared found written written-are is =
        sym (verdict-compared (trace_in trace) n pages report formed journals spelled walked.sound found
        (is ∙ ap (λ (held : List Occupancy). first_difference 1 (lines_of report) ((map {B = Line} (λ answer. Some (answer_text answer)) given
        ++ map {B = Line} (λ text. Some text) printed) ++ map {B = Line} (λ (one : ℕ × Occupancy). Some (occupancy_text one)) (enumerate_from 0 held)))
        (ap occupancies_in written-are ∙ walked.lines)))
