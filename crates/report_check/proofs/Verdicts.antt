-- A verdict that is legal is one on a legal report.
use Rattle.std.proofs.Common.{◌≡◌, ℕ, zero, suc, ◌+◌, ◌<◌, ◌==◌, Bool, true, false, cond, List, [], ◌∷◌, ◌++◌, length, map, drop, get_or, Option, Some, None, Result, Ok, Err, arith, refl, sym, ap, ◌∙◌, append_assoc}
use Rattle.std.specs.List.{All, enumerate_from, join_with_byte, range_with_len, slice_get, slice_index_or}
use Rattle.std.specs.Option.{option_map}
use Rattle.std.proofs.lemmas.List.Splits.{join_with_byte-slice_split}
use Rattle.std.proofs.lemmas.Option.{slice_get-get_or}
use Rattle.trace_text.specs.Parsed.{IsWellFormed}
use Rattle.trace_text.specs.Trace.{Trace}
use Rattle.cache_model.specs.declared.entry.Entry.{Entry}
use Rattle.cache_model.specs.Report.{Occupancy, IsLegalReport, IsReportOf, answer_text, answers, journal_text, occupancy, occupancy_text, report, text_lines}
use Rattle.cache_lemmas.proofs.Laws.{a_report_has_its_lines-lines}
use Rattle.cache_lemmas.proofs.UnbrokenAnswers.{answers-unbroken}
use Rattle.report_check.specs.declared.verdict.Verdict.{Verdict}
use Rattle.report_check.specs.declared.verdict.Verdict.TheVariants.{Legal, Illegal}
use Rattle.report_check.specs.Lines.{Line, ended, first_difference, lines_of}
use Rattle.report_check.specs.Spelled.{journals_of}
use Rattle.report_check.specs.Verdict.{illegal_at, is_sound, of_journals, unsound_line, verdict}
use Rattle.report_check.proofs.Cuts.{ended-all, split-more}
use Rattle.report_check.proofs.Differences.{none-differs}
use Rattle.report_check.proofs.Sound.{sound-complete, sound-legal}
use Rattle.report_check.proofs.Spelling.{SpelledOnce, journals-spelled}

-- ---- bytes whose lines all end

-- the parts of bytes whose lines are these texts
pub parts-of : (first : List ℕ) (others texts : List (List ℕ)) → ended (first ∷ others) ≡ map {B = Line} (λ text. Some text) texts → first ∷ others ≡ texts ++ [] ∷ []
parts-of [] [] [] e = refl
parts-of [] [] (text ∷ texts) e = absurd (let clash : [] ≡ Some text ∷ map {B = Line} (λ t. Some t) texts = e in cc)
parts-of (b ∷ first) [] [] e = absurd (let clash : None ∷ [] ≡ [] = e in cc)
parts-of (b ∷ first) [] (text ∷ texts) e = absurd (let clash : None ∷ [] ≡ Some text ∷ map {B = Line} (λ t. Some t) texts = e in cc)
parts-of first (next ∷ others) [] e = absurd (let clash : Some first ∷ ended (next ∷ others) ≡ [] = e in cc)
parts-of first (next ∷ others) (text ∷ texts) e =
    let same : first ≡ text = cc in
    let later : ended (next ∷ others) ≡ map {B = Line} (λ t. Some t) texts = cc in
    let rest : next ∷ others ≡ texts ++ [] ∷ [] = parts-of next others texts later in
    rw (same, rest) refl

pub text-parts : (bytes : List ℕ) (texts : List (List ℕ)) → lines_of bytes ≡ map {B = Line} (λ text. Some text) texts → text_lines bytes ≡ texts ++ [] ∷ []
text-parts bytes texts e =
    let cut = split-more (λ b. b == 10) bytes in
    cut.2 ∙ parts-of cut.0 cut.1 texts (ap ended (sym cut.2) ∙ e)

-- bytes that have the same lines, which all end, are the same
pub same-bytes : (xs ys : List ℕ) (texts : List (List ℕ)) → lines_of xs ≡ map {B = Line} (λ text. Some text) texts → lines_of ys ≡ map {B = Line} (λ text. Some text) texts → xs ≡ ys
same-bytes xs ys texts a b =
    sym (join_with_byte-slice_split 10 xs) ∙ ap (join_with_byte 10) (text-parts xs texts a ∙ sym (text-parts ys texts b)) ∙ join_with_byte-slice_split 10 ys

-- ---- the lines of a report

module _ (trace : Trace) (n pages : ℕ) (journals : List (List Entry)) (formed : All IsWellFormed trace.operations) where
  abbrev occupancies : List Occupancy
  occupancies = map (occupancy trace n pages) (enumerate_from 0 journals)

  -- its texts
  abbrev pub report_texts : List (List ℕ)
  report_texts = map answer_text (answers trace n pages journals) ++ (map journal_text (enumerate_from 0 journals) ++ map occupancy_text (enumerate_from 0 occupancies))

  pub report-lines : lines_of (report trace n pages journals) ≡ map {B = Line} (λ text. Some text) report_texts
  report-lines =
      let a = map answer_text (answers trace n pages journals) in
      let j = map journal_text (enumerate_from 0 journals) in
      let o = map occupancy_text (enumerate_from 0 occupancies) in
      ap ended (a_report_has_its_lines-lines (answers trace n pages journals) journals occupancies (answers-unbroken trace n pages journals formed)
      ∙ ap (λ texts. a ++ texts) (sym (append_assoc j o ([] ∷ [])))
      ∙ sym (append_assoc a (j ++ o) ([] ∷ [])))
      ∙ ended-all report_texts

-- ---- what a verdict of legal says

of-legal : (found : Option ℕ) (later : Verdict) → illegal_at found later ≡ Legal → (found ≡ None) × (later ≡ Legal)
of-legal None later e = (refl, e)
of-legal (Some line) later e = absurd (let clash : Illegal line ≡ Legal = e in cc)

-- each journal is sound
pub each-sound : (trace : Trace) (n pages a : ℕ) (journals : List (List Entry)) → unsound_line trace n pages (enumerate_from a journals) ≡ None
    → (k : ℕ) (d : List Entry) → k < length journals → is_sound trace n pages (a + k, get_or journals k d) ≡ true
each-sound trace n pages a [] none k d below = absurd (omega (arith, below))
each-sound trace n pages a (journal ∷ journals) none k d below =
    go (is_sound trace n pages (a, journal)) refl (λ rest m e less. each-sound trace n pages (a + 1) journals rest m e less) none k below
  where
    go : (b : Bool) → is_sound trace n pages (a, journal) ≡ b
        → (unsound_line trace n pages (enumerate_from (a + 1) journals) ≡ None → (m : ℕ) (e : List Entry) → m < length journals
        → is_sound trace n pages (a + 1 + m, get_or journals m e) ≡ true)
        → cond b (unsound_line trace n pages (enumerate_from (a + 1) journals)) (Some (length trace.operations + a + 1)) ≡ None
        → (m : ℕ) → m < length (journal ∷ journals) → is_sound trace n pages (a + m, get_or (journal ∷ journals) m d) ≡ true
    go false is later rest m less = absurd (let clash : Some (length trace.operations + a + 1) ≡ None = rest in cc)
    go true is later rest zero less = let at : a + 0 ≡ a = omega arith in rw at is
    go true is later rest (suc m) less =
        let at : a + suc m ≡ a + 1 + m = omega arith in
        rw at (later rest m d (omega (arith, less)))

-- a line that ends is the part of the bytes there
ended-get : (first : List ℕ) (others : List (List ℕ)) (k : ℕ) (text : List ℕ) → slice_get (ended (first ∷ others)) k ≡ Some (Some text) → slice_get (first ∷ others) k ≡ Some text
ended-get [] [] k text e = absurd (let clash : None ≡ Some (Some text) = e in cc)
ended-get (b ∷ first) [] zero text e = absurd (let clash : Some None ≡ Some (Some text) = e in cc)
ended-get (b ∷ first) [] (suc k) text e = absurd (let clash : None ≡ Some (Some text) = e in cc)
ended-get first (next ∷ others) zero text e = let same : first ≡ text = cc in ap Some same
ended-get first (next ∷ others) (suc k) text e = ended-get next others k text e

pub get-behind : {X : Type 0} (xs : List X) (m k : ℕ) → slice_get (drop m xs) k ≡ slice_get xs (m + k)
get-behind xs zero k = let at : 0 + k ≡ k = omega arith in rw at refl
get-behind [] (suc m) k = refl
get-behind (x ∷ xs) (suc m) k = let at : suc m + k ≡ suc (m + k) = omega arith in rw at (get-behind xs m k)

module _ (once : SpelledOnce) (trace : Trace) (n pages : ℕ) (bytes : List ℕ) (formed : All IsWellFormed trace.operations) where
  abbrev count : ℕ
  count = length trace.operations

  of-report : (journals : List (List Entry)) → journals_of count (range_with_len 0 n) (drop count (lines_of bytes)) ≡ Ok journals
      → unsound_line trace n pages (enumerate_from 0 journals) ≡ None
      → first_difference 1 (lines_of bytes) (lines_of (report trace n pages journals)) ≡ None → IsReportOf trace n pages bytes journals
  of-report journals read sound same =
      let spelled = journals-spelled once count 0 n (drop count (lines_of bytes)) journals read in
      let lines : lines_of bytes ≡ lines_of (report trace n pages journals) = none-differs 1 (lines_of bytes) (lines_of (report trace n pages journals)) same in
      let report-is = report-lines trace n pages journals formed in
      let text : bytes ≡ report trace n pages journals =
      same-bytes bytes (report trace n pages journals) (report_texts trace n pages journals formed) (lines ∙ report-is) report-is in
      let each : (s : ℕ) (d : List Entry) → s < n → is_sound trace n pages (s, slice_index_or journals s d) ≡ true =
      λ s d below.
      let at : s ≡ 0 + s = omega arith in
      ap (λ (m : ℕ). is_sound trace n pages (m, slice_index_or journals s d)) at
      ∙ each-sound trace n pages 0 journals sound s d (let many = spelled.many in omega (arith, below, many)) in
      record {
        printed = record {
          shards = spelled.many;
          spelled = λ s below.
              let within : s < length journals = (let many = spelled.many in omega (arith, below, many)) in
              let journal = get_or journals s [] in
              let here : slice_get (lines_of bytes) (count + s) ≡ Some (Some (journal_text (s, journal))) =
              sym (get-behind (lines_of bytes) count s) ∙ spelled.spelled s below
              ∙ ap (option_map (λ (j : List Entry). Some (journal_text (0 + s, j)))) (slice_get-get_or journals s [] within)
              ∙ (let at : 0 + s ≡ s = omega arith in ap (λ (m : ℕ). Some (Some (journal_text (m, journal)))) at) in
              let cut = split-more (λ b. b == 10) bytes in
              ap (λ parts. slice_get parts (count + s)) cut.2
              ∙ ended-get cut.0 cut.1 (count + s) (journal_text (s, journal)) (ap (λ parts. slice_get (ended parts) (count + s)) (sym cut.2) ∙ here)
              ∙ sym (ap (option_map (λ (j : List Entry). journal_text (s, j))) (slice_get-get_or journals s [] within));
        };
        legal = λ s d below. sound-legal trace n pages s (slice_index_or journals s d) (each s d below);
        complete = λ s d below. sound-complete trace n pages s (slice_index_or journals s d) (each s d below);
        text = text;
      }

  pub legal : verdict trace n pages bytes ≡ Legal → IsLegalReport trace n pages bytes
  legal e = go (journals_of count (range_with_len 0 n) (drop count (lines_of bytes))) refl e
    where
      go : (read : Result (List (List Entry)) ℕ) → journals_of count (range_with_len 0 n) (drop count (lines_of bytes)) ≡ read
          → of_journals trace n pages (lines_of bytes) read ≡ Legal → IsLegalReport trace n pages bytes
      go (Err line) is e = absurd (let clash : Illegal line ≡ Legal = e in cc)
      go (Ok journals) is e =
          let first = of-legal (unsound_line trace n pages (enumerate_from 0 journals)) (illegal_at (first_difference 1 (lines_of bytes) (lines_of (report trace n pages journals))) Legal) e in
          let second = of-legal (first_difference 1 (lines_of bytes) (lines_of (report trace n pages journals))) Legal first.1 in
          (journals, of-report journals is first.0 second.0)
