-- The line of a journal spells it.
use Rattle.std.proofs.Common.{◌≡◌, ℕ, zero, suc, ◌+◌, ◌^◌, ◌<◌, ◌≤◌, ◌==◌, true, false, eqb, ltb, List, [], ◌∷◌, ◌++◌, length, get_or, codes, append_assoc, append-nil, Some, None, Ok, arith, refl, ap, ◌∙◌}
use Rattle.std.specs.List.{All, flat_map, range_with_len, slice_get, slice_split}
use Rattle.std.specs.Option.{option_map}
use Rattle.std.specs.Str.{bytes_eq}
use Rattle.std.specs.Fmt.{decimal}
use Rattle.std.proofs.lemmas.Bool.{lt-ltb, ne_eqb}
use Rattle.std.proofs.lemmas.Bool.Decides.{nat_tests}
use Rattle.std.proofs.lemmas.Fmt.{decimal_nonempty, first_decimal}
use Rattle.std.proofs.lemmas.List.Elements.{All-cons, All-head, All-tail}
use Rattle.std.proofs.lemmas.List.Splits.{slice_split_at, slice_split_none}
use Rattle.std.proofs.lemmas.List.Sums.{AllPass-from_list_all}
use Rattle.std.proofs.lemmas.Slice.Eq.{bytes_eq-Decides}
use Rattle.numerals.specs.Numeral.{number_of}
use Rattle.cache_model.specs.declared.entry.Entry.{Entry}
use Rattle.cache_model.specs.declared.entry.Entry.TheVariants.{Done, Evicted}
use Rattle.cache_model.specs.Report.{entry_text, journal_text, number_of as number_in}
use Rattle.cache_lemmas.proofs.TextLines.{IsHigh, decimal-high}
use Rattle.report_check.specs.Lines.{Line}
use Rattle.report_check.specs.Spelled.{command_in, entries_of, entry_of, from_fields, journal_in, journals_of}
use Rattle.report_check.proofs.Spelling.{AreSpelledBy, texts_of}

-- That a number up to the greatest one is spelled by its digits is a law.
abbrev pub SpelledByDigits : Type 0
SpelledByDigits = (greatest number : ℕ) → greatest < 2 ^ 32 → number ≤ greatest → number_of greatest (decimal number) ≡ Some number

-- a number of a command, of so many
abbrev pub IsOf : ℕ → Entry → Type 0
IsOf count entry = (1 ≤ number_in entry) × (number_in entry ≤ count)

-- ---- texts with no space

abbrev Spaceless : List ℕ → Type 0
Spaceless text = All (λ b. eqb b 32 ≡ false) text

high-byte : (b : ℕ) → ltb 47 b ≡ true → eqb b 32 ≡ false
high-byte b is = grind (arith, nat_tests)

high-spaceless : (text : List ℕ) → IsHigh text → Spaceless text
high-spaceless text is k d below = high-byte (get_or text k d) (AllPass-from_list_all (λ b. ltb 47 b) text is k d below)

entry-spaceless : (entry : Entry) → Spaceless (entry_text entry)
entry-spaceless (Done i) = high-spaceless (decimal i) (decimal-high i)
entry-spaceless (Evicted q) = All-cons (λ (b : ℕ). eqb b 32 ≡ false) 33 (decimal q) refl (high-spaceless (decimal q) (decimal-high q))

-- a text and entries behind it are cut at each space
fields-are : (first : List ℕ) (entries : List Entry) → Spaceless first
    → slice_split (λ b. eqb b 32) (first ++ flat_map (λ (entry : Entry). 32 ∷ entry_text entry) entries) ≡ first ∷ texts_of entries
fields-are first [] clean = ap (slice_split (λ b. eqb b 32)) (append-nil first) ∙ slice_split_none (λ b. eqb b 32) first clean
fields-are first (entry ∷ entries) clean =
    slice_split_at (λ b. eqb b 32) first 32 (entry_text entry ++ flat_map (λ (e : Entry). 32 ∷ entry_text e) entries) clean refl
    ∙ ap (λ (fields : List (List ℕ)). first ∷ fields) (fields-are (entry_text entry) entries (entry-spaceless entry))

-- ---- one entry

command-is : SpelledByDigits → (count i : ℕ) → count < 2 ^ 32 → 1 ≤ i → i ≤ count → command_in count (decimal i) ≡ Some i
command-is spells count i few some most =
    let test : ltb 0 i ≡ true = lt-ltb 0 i some in
    rw (spells count i few most, test) refl

done-is : (count i : ℕ) (text : List ℕ) → 0 < length text → 48 < get_or text 0 0 → command_in count text ≡ Some i → entry_of count text ≡ Some (Done i)
done-is count i [] some first is = absurd (omega (arith, some))
done-is count i (b ∷ digits) some first is =
    let other : (b == 33) ≡ false = ne_eqb b 33 (λ e. omega (arith, e, first)) in
    rw (other, is) refl

entry-is : SpelledByDigits → (count : ℕ) (entry : Entry) → count < 2 ^ 32 → IsOf count entry → entry_of count (entry_text entry) ≡ Some entry
entry-is spells count (Evicted q) few of = rw (command-is spells count q few of.0 of.1) refl
entry-is spells count (Done i) few of =
    let small : i < 2 ^ 64 = (let most = of.1 in omega (arith, few, most)) in
    done-is count i (decimal i) (decimal_nonempty i small) (first_decimal i of.0 small) (command-is spells count i few of.0 of.1)

entries-are : SpelledByDigits → (count : ℕ) (entries : List Entry) → count < 2 ^ 32 → All (IsOf count) entries → entries_of count (texts_of entries) ≡ Some entries
entries-are spells count [] few of = refl
entries-are spells count (entry ∷ entries) few of =
    rw (entry-is spells count entry few (All-head (IsOf count) entry entries of), entries-are spells count entries few (All-tail (IsOf count) entry entries of)) refl

-- ---- the line of a journal

pub journal-is : SpelledByDigits → (count s : ℕ) (journal : List Entry) → count < 2 ^ 32 → All (IsOf count) journal → journal_in count s (journal_text (s, journal)) ≡ Some journal
journal-is spells count s journal few of =
    let entries = flat_map (λ (entry : Entry). 32 ∷ entry_text entry) journal in
    let word : Spaceless (codes "journal") = λ k d below. high-spaceless (codes "journal") refl k d below in
    let text : journal_text (s, journal) ≡ codes "journal" ++ 32 ∷ (decimal s ++ entries) = append_assoc (codes "journal ") (decimal s) entries in
    let fields : slice_split (λ b. eqb b 32) (journal_text (s, journal)) ≡ codes "journal" ∷ decimal s ∷ texts_of journal =
    ap (slice_split (λ b. eqb b 32)) text
    ∙ slice_split_at (λ b. eqb b 32) (codes "journal") 32 (decimal s ++ entries) word refl
    ∙ ap (λ (rest : List (List ℕ)). codes "journal" ∷ rest) (fields-are (decimal s) journal (high-spaceless (decimal s) (decimal-high s))) in
    let numbered : bytes_eq (decimal s) (decimal s) ≡ true = (bytes_eq-Decides (decimal s) (decimal s)).1 refl in
    ap (from_fields count s) fields ∙ rw numbered (entries-are spells count journal few of)

-- the lines of journals spell them
pub journals-are : SpelledByDigits → (count a n : ℕ) (lines : List Line) (journals : List (List Entry)) → count < 2 ^ 32 → All (All (IsOf count)) journals
    → AreSpelledBy count a n lines journals → journals_of count (range_with_len a n) lines ≡ Ok journals
journals-are spells count a zero lines [] few of are = refl
journals-are spells count a zero lines (journal ∷ journals) few of are = absurd (let many = are.many in omega (arith, many))
journals-are spells count a (suc n) lines [] few of are = absurd (let many = are.many in omega (arith, many))
journals-are spells count a (suc n) [] (journal ∷ journals) few of are =
    absurd (let clash : None ≡ Some (Some (journal_text (a + 0, journal))) = are.spelled 0 (omega arith) in cc)
journals-are spells count a (suc n) (line ∷ lines) (journal ∷ journals) few of are =
    let at : a + 0 ≡ a = omega arith in
    let one : Some line ≡ Some (Some (journal_text (a + 0, journal))) = are.spelled 0 (omega arith) in
    let here : line ≡ Some (journal_text (a + 0, journal)) = cc in
    let first : line ≡ Some (journal_text (a, journal)) = here ∙ ap (λ (m : ℕ). Some (journal_text (m, journal))) at in
    let rest : journals_of count (range_with_len (a + 1) n) lines ≡ Ok journals =
    journals-are spells count (a + 1) n lines journals few (All-tail (All (IsOf count)) journal journals of) (record {
      many = let many = are.many in omega (arith, many);
      spelled = λ k below.
          let further : a + suc k ≡ a + 1 + k = omega arith in
          are.spelled (suc k) (omega (arith, below)) ∙ ap (λ (m : ℕ). option_map (λ j. Some (journal_text (m, j))) (slice_get journals k)) further;
    }) in
    rw (first, journal-is spells count a journal few (All-head (All (IsOf count)) journal journals of), rest) refl
