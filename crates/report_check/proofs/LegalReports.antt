-- The verdict on a legal report is legal.
use Rattle.std.proofs.Common.{◌≡◌, ℕ, zero, suc, ◌+◌, ◌^◌, ◌<◌, true, false, List, [], ◌∷◌, ◌++◌, length, map, drop, get_or, Option, Some, None, Ok, arith, refl, sym, ap, ◌∙◌}
use Rattle.std.specs.List.{All, enumerate_from, range_with_len, slice_get}
use Rattle.std.specs.Option.{IsSome, option_map}
use Rattle.std.proofs.lemmas.Option.{slice_get-get_or, slice_get-map}
use Rattle.rows.specs.Row.{Row}
use Rattle.trace_text.specs.Parsed.{IsWellFormed}
use Rattle.trace_text.specs.Trace.{Trace}
use Rattle.cache_model.specs.declared.entry.Entry.{Entry}
use Rattle.cache_model.specs.Legal.{IsComplete, IsLegal, cache_after}
use Rattle.cache_model.specs.Report.{IsLegalReport, IsReportOf, journal_text, report}
use Rattle.part_lemmas.proofs.Cursors.Places.{IsNumbered}
use Rattle.report_check.specs.declared.verdict.Verdict.TheVariants.{Legal}
use Rattle.report_check.specs.Lines.{Line, first_difference, lines_of}
use Rattle.report_check.specs.Spelled.{journals_of}
use Rattle.report_check.specs.Verdict.{illegal_at, is_sound, of_journals, unsound_line, verdict}
use Rattle.report_check.proofs.Decoding.{IsOf, SpelledByDigits, journals-are}
use Rattle.report_check.proofs.Differences.{same-lines}
use Rattle.report_check.proofs.Numbers.{commands-numbered, legal-numbers}
use Rattle.report_check.proofs.Sound.{sound}
use Rattle.report_check.proofs.Spelling.{AreSpelledBy}
use Rattle.report_check.proofs.Verdicts.{get-behind, report-lines, report_texts, text-parts}
use Rattle.report_check.proofs.WalkedThrough.{unsound-none}

-- what is not the last of a list is before it
get-before : {X : Type 0} (xs : List X) (last x : X) (k : ℕ) → slice_get (xs ++ last ∷ []) k ≡ Some x → (last ≡ x → ⊥) → slice_get xs k ≡ Some x
get-before [] last x zero here other = absurd (other (let same : last ≡ x = cc in same))
get-before [] last x (suc k) here other = here
get-before (y ∷ xs) last x zero here other = here
get-before (y ∷ xs) last x (suc k) here other = get-before xs last x k here other

legal-sound : (trace : Trace) (n pages s : ℕ) (journal : List Entry) → IsLegal trace pages journal → IsComplete trace n s journal → is_sound trace n pages (s, journal) ≡ true
legal-sound trace n pages s journal legal complete = go (cache_after trace pages journal) refl legal
  where
    go : (o : Option (List Row)) → cache_after trace pages journal ≡ o → IsSome o → is_sound trace n pages (s, journal) ≡ true
    go None is some = absurd (let clash : false ≡ true = some in cc)
    go (Some rows) is some = sound trace n pages s journal rows is complete

module _ (spells : SpelledByDigits) (trace : Trace) (n pages : ℕ) (bytes : List ℕ) (formed : All IsWellFormed trace.operations) (ordered : IsNumbered trace.operations)
    (few : length trace.operations < 2 ^ 32) where
  abbrev count : ℕ
  count = length trace.operations

  of-report : (journals : List (List Entry)) → IsReportOf trace n pages bytes journals → verdict trace n pages bytes ≡ Legal
  of-report journals report-of =
      let texts = report_texts trace n pages journals formed in
      let report-is = report-lines trace n pages journals formed in
      let lines : lines_of bytes ≡ map {B = Line} (λ text. Some text) texts = ap lines_of report-of.text ∙ report-is in
      let parts = text-parts bytes texts lines in
      let printed = report-of.printed in
      let spelled : AreSpelledBy count 0 n (drop count (lines_of bytes)) journals = record {
        many = printed.shards;
        spelled = λ k below.
            let journal = get_or journals k [] in
            let there : slice_get journals k ≡ Some journal = slice_get-get_or journals k [] (let many = printed.shards in omega (arith, below, many)) in
            let here : slice_get (texts ++ [] ∷ []) (count + k) ≡ Some (journal_text (k, journal)) =
            ap (λ list. slice_get list (count + k)) (sym parts) ∙ printed.spelled k below ∙ ap (option_map (λ (j : List Entry). journal_text (k, j))) there in
            let text : slice_get texts (count + k) ≡ Some (journal_text (k, journal)) =
            get-before texts [] (journal_text (k, journal)) (count + k) here (λ e. absurd (let clash : [] ≡ journal_text (k, journal) = e in cc)) in
            get-behind (lines_of bytes) count k
            ∙ ap (λ list. slice_get list (count + k)) lines
            ∙ slice_get-map {B = Line} (λ t. Some t) texts (count + k)
            ∙ ap (option_map (λ (t : List ℕ). Some t)) text
            ∙ (let at : k ≡ 0 + k = omega arith in ap (λ (m : ℕ). Some (Some (journal_text (m, journal)))) at)
            ∙ sym (ap (option_map (λ (j : List Entry). Some (journal_text (0 + k, j)))) there);
      } in
      let numbers : All (All (IsOf count)) journals =
      λ k d below. legal-numbers trace pages count (commands-numbered trace ordered) (get_or journals k d) (report-of.legal k d (let many = printed.shards in omega (arith, below, many))) in
      let read : journals_of count (range_with_len 0 n) (drop count (lines_of bytes)) ≡ Ok journals = journals-are spells count 0 n (drop count (lines_of bytes)) journals few numbers spelled in
      let all : unsound_line trace n pages (enumerate_from 0 journals) ≡ None =
      unsound-none trace n pages 0 journals
      (λ k d below.
      let within : k < n = (let many = printed.shards in omega (arith, below, many)) in
      let at : k ≡ 0 + k = omega arith in
      ap (λ (m : ℕ). is_sound trace n pages (m, get_or journals k d)) (sym at)
      ∙ legal-sound trace n pages k (get_or journals k d) (report-of.legal k d within) (report-of.complete k d within)) in
      let same : first_difference 1 (lines_of bytes) (lines_of (report trace n pages journals)) ≡ None =
      ap (λ (ls : List Line). first_difference 1 ls (lines_of (report trace n pages journals))) lines
      ∙ ap (first_difference 1 (map {B = Line} (λ text. Some text) texts)) report-is
      ∙ same-lines texts 1 in
      ap (of_journals trace n pages (lines_of bytes)) read
      ∙ ap (λ (o : Option ℕ). illegal_at o (illegal_at (first_difference 1 (lines_of bytes) (lines_of (report trace n pages journals))) Legal)) all
      ∙ ap (λ (o : Option ℕ). illegal_at o Legal) same

  pub said-legal : IsLegalReport trace n pages bytes → verdict trace n pages bytes ≡ Legal
  said-legal legal = of-report legal.0 legal.1
