-- From the journals that were read and walked, and the lines that were compared, to the verdict.
use Rattle.std.proofs.Common.{◌≡◌, ℕ, zero, suc, ◌+◌, List, [], ◌∷◌, ◌++◌, length, map, drop, append_assoc, slice_get, Option, Some, None, Ok, arith, refl, sym, ap, ◌∙◌}
use Rattle.std.specs.List.{All, enumerate_from, range_with_len}
use Rattle.std.specs.Option.{option_map}
use Rattle.std.proofs.lemmas.List.{map-append}
use Rattle.trace_text.specs.Parsed.{IsWellFormed}
use Rattle.trace_text.specs.Trace.{Trace}
use Rattle.cache_model.specs.declared.entry.Entry.{Entry}
use Rattle.cache_model.specs.Report.{Occupancy, answer_text, answers, journal_text, occupancy, occupancy_text, report}
use Rattle.report_check.specs.declared.verdict.Verdict.TheVariants.{Legal}
use Rattle.report_check.specs.Lines.{Line, first_difference, lines_of}
use Rattle.report_check.specs.Spelled.{journals_of}
use Rattle.report_check.specs.Verdict.{illegal_at, of_journals, unsound_line, verdict}
use Rattle.report_check.proofs.Spelling.{AreSpelledBy}
use Rattle.report_check.proofs.Verdicts.{report-lines}

-- the lines of journals, and those behind them
pub front-of : (count a n : ℕ) (lines : List Line) (journals : List (List Entry)) → AreSpelledBy count a n lines journals
    → lines ≡ map {B = Line} (λ text. Some text) (map journal_text (enumerate_from a journals)) ++ drop n lines
front-of count a zero lines [] are = refl
front-of count a zero lines (journal ∷ journals) are = absurd (let many = are.many in omega (arith, many))
front-of count a (suc n) lines [] are = absurd (let many = are.many in omega (arith, many))
front-of count a (suc n) [] (journal ∷ journals) are =
    absurd (let clash : None ≡ Some (Some (journal_text (a + 0, journal))) = are.spelled 0 (omega arith) in cc)
front-of count a (suc n) (line ∷ lines) (journal ∷ journals) are =
    let at : a + 0 ≡ a = omega arith in
    let one : Some line ≡ Some (Some (journal_text (a + 0, journal))) = are.spelled 0 (omega arith) in
    let first : line ≡ Some (journal_text (a + 0, journal)) = cc in
    let rest = front-of count (a + 1) n lines journals (record {
      many = let many = are.many in omega (arith, many);
      spelled = λ k below.
          let further : a + suc k ≡ a + 1 + k = omega arith in
          are.spelled (suc k) (omega (arith, below)) ∙ ap (λ (m : ℕ). option_map (λ j. Some (journal_text (m, j))) (slice_get journals k)) further;
    }) in
    ap (λ (x : Line). x ∷ lines) (first ∙ ap (λ (m : ℕ). Some (journal_text (m, journal))) at)
    ∙ ap (λ (ls : List Line). Some (journal_text (a, journal)) ∷ ls) rest

-- each text on its line
each-line : {X : Type 0} (f : X → List ℕ) (xs : List X) → map {B = Line} (λ text. Some text) (map f xs) ≡ map {B = Line} (λ x. Some (f x)) xs
each-line f [] = refl
each-line f (x ∷ xs) = ap (λ (lines : List Line). Some (f x) ∷ lines) (each-line f xs)

module _ (trace : Trace) (n pages : ℕ) (bytes : List ℕ) (formed : All IsWellFormed trace.operations) where
  abbrev count : ℕ
  count = length trace.operations

  module _ (journals : List (List Entry)) (read : journals_of count (range_with_len 0 n) (drop count (lines_of bytes)) ≡ Ok journals) where
    -- the lines of the report
    lines-are : lines_of (report trace n pages journals)
        ≡ (map {B = Line} (λ answer. Some (answer_text answer)) (answers trace n pages journals)
        ++ map {B = Line} (λ text. Some text) (map journal_text (enumerate_from 0 journals)))
        ++ map {B = Line} (λ (one : ℕ × Occupancy). Some (occupancy_text one)) (enumerate_from 0 (map (occupancy trace n pages) (enumerate_from 0 journals)))
    lines-are =
        let some : List ℕ → Line = λ text. Some text in
        let a = map answer_text (answers trace n pages journals) in
        let j = map journal_text (enumerate_from 0 journals) in
        let o = map occupancy_text (enumerate_from 0 (map (occupancy trace n pages) (enumerate_from 0 journals))) in
        report-lines trace n pages journals formed
        ∙ map-append some a (j ++ o)
        ∙ ap (λ (ls : List Line). map some a ++ ls) (map-append some j o)
        ∙ sym (append_assoc (map some a) (map some j) (map some o))
        ∙ ap (λ (ls : List Line). (ls ++ map some j) ++ map some o) (each-line answer_text (answers trace n pages journals))
        ∙ ap (λ (ls : List Line). (map {B = Line} (λ answer. Some (answer_text answer)) (answers trace n pages journals) ++ map some j) ++ ls)
        (each-line occupancy_text (enumerate_from 0 (map (occupancy trace n pages) (enumerate_from 0 journals))))

    -- sound journals, and the first line that differs, if one does
    pub verdict-compared : unsound_line trace n pages (enumerate_from 0 journals) ≡ None → (found : Option ℕ)
        → found ≡ first_difference 1 (lines_of bytes) ((map {B = Line} (λ answer. Some (answer_text answer)) (answers trace n pages journals)
        ++ map {B = Line} (λ text. Some text) (map journal_text (enumerate_from 0 journals)))
        ++ map {B = Line} (λ (one : ℕ × Occupancy). Some (occupancy_text one)) (enumerate_from 0 (map (occupancy trace n pages) (enumerate_from 0 journals))))
        → verdict trace n pages bytes ≡ illegal_at found Legal
    verdict-compared sound found is =
        ap (of_journals trace n pages (lines_of bytes)) read
        ∙ ap (λ (o : Option ℕ). illegal_at o (illegal_at (first_difference 1 (lines_of bytes) (lines_of (report trace n pages journals))) Legal)) sound
        ∙ ap (λ (ls : List Line). illegal_at (first_difference 1 (lines_of bytes) ls) Legal) lines-are
        ∙ ap (λ (o : Option ℕ). illegal_at o Legal) (sym is)
