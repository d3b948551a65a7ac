-- What lines spell, they are the text of.
use Rattle.std.proofs.Common.{◌≡◌, ℕ, zero, suc, ◌+◌, ◌<◌, ◌≤◌, ◌==◌, ◌&&◌, Bool, true, false, cond, eqb, ltb, List, [], ◌∷◌, ◌++◌, length, map, drop, codes, append_assoc, append-nil, Option, Some, None, Result, Ok, Err, arith, refl, sym, ap, subst, ◌∙◌}
use Rattle.std.specs.List.{All, flat_map, join_with_byte, range_with_len, slice_get, slice_split}
use Rattle.std.specs.Option.{option_and_then, option_map}
use Rattle.std.specs.Str.{bytes_eq}
use Rattle.std.specs.Fmt.{decimal}
use Rattle.std.proofs.lemmas.Bool.{and_parts, eqb-true, ltb-true}
use Rattle.std.proofs.lemmas.List.Elements.{All-cons, All-nil}
use Rattle.std.proofs.lemmas.List.Splits.{join_with_byte-slice_split}
use Rattle.std.proofs.lemmas.Option.{cond_some}
use Rattle.std.proofs.lemmas.Slice.Eq.{bytes_eq-Decides}
use Rattle.numerals.specs.Numeral.{number_of}
use Rattle.cache_model.specs.declared.entry.Entry.{Entry}
use Rattle.cache_model.specs.declared.entry.Entry.TheVariants.{Done, Evicted}
use Rattle.cache_model.specs.Report.{entry_text, journal_text, number_of as number_in}
use Rattle.report_check.specs.Lines.{Line}
use Rattle.report_check.specs.Spelled.{command_in, entries_of, entry_of, from_fields, if_some, journal_in, journal_of, journals_of, with_first, with_journal}

-- That a number is spelled by its digits alone is a law.
abbrev pub SpelledOnce : Type 0
SpelledOnce = (greatest number : ℕ) (field : List ℕ) → number_of greatest field ≡ Some number → (field ≡ decimal number) × (number ≤ greatest)

-- ---- one entry

above-none : (o : Option ℕ) (i : ℕ) → option_and_then if_some o ≡ Some i → (o ≡ Some i) × (1 ≤ i)
above-none None i e = absurd (let clash : None ≡ Some i = e in cc)
above-none (Some n) i e =
    let found = cond_some (ltb 0 n) n i e in
    let low : 0 < n = ltb-true 0 n found.0 in
    let same : n ≡ i = found.1 in
    (ap Some same, omega (arith, low, same))

command-text : SpelledOnce → (count i : ℕ) (field : List ℕ) → command_in count field ≡ Some i → (field ≡ decimal i) × (1 ≤ i) × (i ≤ count)
command-text once count i field e =
    let found = above-none (number_of count field) i e in
    let is = once count i field found.0 in
    (is.0, found.1, is.1)

done-of : (o : Option ℕ) (entry : Entry) → option_map Done o ≡ Some entry → (i : ℕ) × (o ≡ Some i) × (entry ≡ Done i)
done-of None entry e = absurd (let clash : None ≡ Some entry = e in cc)
done-of (Some i) entry e = let same : Done i ≡ entry = cc in (i, refl, sym same)

evicted-of : (o : Option ℕ) (entry : Entry) → option_map Evicted o ≡ Some entry → (q : ℕ) × (o ≡ Some q) × (entry ≡ Evicted q)
evicted-of None entry e = absurd (let clash : None ≡ Some entry = e in cc)
evicted-of (Some q) entry e = let same : Evicted q ≡ entry = cc in (q, refl, sym same)

pub entry-spelled : SpelledOnce → (count : ℕ) (field : List ℕ) (entry : Entry) → entry_of count field ≡ Some entry → field ≡ entry_text entry
entry-spelled once count [] entry e = absurd (let clash : None ≡ Some entry = e in cc)
entry-spelled once count (b ∷ digits) entry e = go (b == 33) refl e
  where
    go : (test : Bool) → (b == 33) ≡ test → cond test (option_map Evicted (command_in count digits)) (option_map Done (command_in count (b ∷ digits))) ≡ Some entry
        → b ∷ digits ≡ entry_text entry
    go true is e =
        let found = evicted-of (command_in count digits) entry e in
        let text = (command-text once count found.0 digits found.1).0 in
        let mark : b ≡ 33 = eqb-true b 33 is in
        ap (λ (m : ℕ). m ∷ digits) mark ∙ ap (λ (t : List ℕ). 33 ∷ t) text ∙ ap entry_text (sym found.2)
    go false is e =
        let found = done-of (command_in count (b ∷ digits)) entry e in
        let text = (command-text once count found.0 (b ∷ digits) found.1).0 in
        text ∙ ap entry_text (sym found.2)

-- its number is that of a command
entry-some : (count : ℕ) (field : List ℕ) (entry : Entry) → entry_of count field ≡ Some entry → 1 ≤ number_in entry
entry-some count [] entry e = absurd (let clash : None ≡ Some entry = e in cc)
entry-some count (b ∷ digits) entry e = go (b == 33) e
  where
    go : (test : Bool) → cond test (option_map Evicted (command_in count digits)) (option_map Done (command_in count (b ∷ digits))) ≡ Some entry → 1 ≤ number_in entry
    go true e =
        let found = evicted-of (command_in count digits) entry e in
        rw found.2 ((above-none (number_of count digits) found.0 found.1).1)
    go false e =
        let found = done-of (command_in count (b ∷ digits)) entry e in
        rw found.2 ((above-none (number_of count (b ∷ digits)) found.0 found.1).1)

-- ---- all entries of a line

-- the entries' texts are the fields
abbrev pub texts_of : List Entry → List (List ℕ)
texts_of entries = map entry_text entries

cut-first : (o : Option Entry) (later : Option (List Entry)) (entries : List Entry) → with_first o later ≡ Some entries
    → (entry : Entry) × (others : List Entry) × (o ≡ Some entry) × (later ≡ Some others) × (entries ≡ entry ∷ others)
cut-first None later entries e = absurd (let clash : None ≡ Some entries = e in cc)
cut-first (Some entry) None entries e = absurd (let clash : None ≡ Some entries = e in cc)
cut-first (Some entry) (Some others) entries e = let same : entry ∷ others ≡ entries = cc in (entry, others, refl, refl, sym same)

pub entries-spelled : SpelledOnce → (count : ℕ) (fields : List (List ℕ)) (entries : List Entry) → entries_of count fields ≡ Some entries → fields ≡ texts_of entries
entries-spelled once count [] entries e = let none : [] ≡ entries = cc in ap texts_of none
entries-spelled once count (field ∷ fields) entries e =
    let cut = cut-first (entry_of count field) (entries_of count fields) entries e in
    let first : field ≡ entry_text cut.0 = entry-spelled once count field cut.0 cut.2 in
    let rest : fields ≡ texts_of cut.1 = entries-spelled once count fields cut.1 cut.3 in
    ap (λ (f : List ℕ). f ∷ fields) first ∙ ap (λ (fs : List (List ℕ)). entry_text cut.0 ∷ fs) rest ∙ ap texts_of (sym cut.4)

abbrev AreSome : List Entry → Type 0
AreSome entries = All (λ (entry : Entry). 1 ≤ number_in entry) entries

entries-some : (count : ℕ) (fields : List (List ℕ)) (entries : List Entry) → entries_of count fields ≡ Some entries → AreSome entries
entries-some count [] entries e =
    let none : [] ≡ entries = cc in
    subst AreSome none (All-nil (λ (entry : Entry). 1 ≤ number_in entry))
entries-some count (field ∷ fields) entries e =
    let cut = cut-first (entry_of count field) (entries_of count fields) entries e in
    subst AreSome (sym cut.4)
    (All-cons (λ (entry : Entry). 1 ≤ number_in entry) cut.0 cut.1 (entry-some count field cut.0 cut.2) (entries-some count fields cut.1 cut.3))

-- fields that a space joins, behind another
joined : (first : List ℕ) (entries : List Entry) → join_with_byte 32 (first ∷ texts_of entries) ≡ first ++ flat_map (λ (entry : Entry). 32 ∷ entry_text entry) entries
joined first [] = sym (append-nil first)
joined first (entry ∷ entries) =
    ap (λ (rest : List ℕ). first ++ 32 ∷ rest) (joined (entry_text entry) entries)

pub journal-spelled : SpelledOnce → (count s : ℕ) (text : List ℕ) (journal : List Entry) → journal_in count s text ≡ Some journal → text ≡ journal_text (s, journal)
journal-spelled once count s text journal e = go (slice_split (λ b. eqb b 32) text) refl e
  where
    cut : List (List ℕ) → List ℕ
    cut fields = join_with_byte 32 fields

    named : (word shard : List ℕ) (fields : List (List ℕ)) (test : Bool) → (bytes_eq word (codes "journal") && bytes_eq (decimal s) shard) ≡ test
        → cond test (entries_of count fields) None ≡ Some journal → cut (word ∷ shard ∷ fields) ≡ journal_text (s, journal)
    named word shard fields false is e = absurd (let clash : None ≡ Some journal = e in cc)
    named word shard fields true is e =
        let both = and_parts (bytes_eq word (codes "journal")) (bytes_eq (decimal s) shard) is in
        let first : word ≡ codes "journal" = (bytes_eq-Decides word (codes "journal")).0 both.0 in
        let second : decimal s ≡ shard = (bytes_eq-Decides (decimal s) shard).0 both.1 in
        let rest : fields ≡ texts_of journal = entries-spelled once count fields journal e in
        ap (λ (w : List ℕ). w ++ 32 ∷ cut (shard ∷ fields)) first
        ∙ ap (λ (w : List ℕ). codes "journal" ++ 32 ∷ cut (w ∷ fields)) (sym second)
        ∙ ap (λ (fs : List (List ℕ)). codes "journal" ++ 32 ∷ cut (decimal s ∷ fs)) rest
        ∙ ap (λ (t : List ℕ). codes "journal" ++ 32 ∷ t) (joined (decimal s) journal)
        ∙ sym (append_assoc (codes "journal ") (decimal s) (flat_map (λ (entry : Entry). 32 ∷ entry_text entry) journal))

    go : (fields : List (List ℕ)) → slice_split (λ b. eqb b 32) text ≡ fields → from_fields count s (slice_split (λ b. eqb b 32) text) ≡ Some journal → text ≡ journal_text (s, journal)
    go [] is e = absurd (let clash : None ≡ Some journal = ap (from_fields count s) (sym is) ∙ e in cc)
    go (word ∷ []) is e = absurd (let clash : None ≡ Some journal = ap (from_fields count s) (sym is) ∙ e in cc)
    go (word ∷ shard ∷ fields) is e =
        sym (join_with_byte-slice_split 32 text) ∙ ap cut is
        ∙ named word shard fields (bytes_eq word (codes "journal") && bytes_eq (decimal s) shard) refl (ap (from_fields count s) (sym is) ∙ e)

-- ---- the journals of all shards

-- the line of a journal is there, ends, and is its text
line-spelled : SpelledOnce → (count s : ℕ) (line : Option Line) (journal : List Entry) → journal_of count s line ≡ Some journal → line ≡ Some (Some (journal_text (s, journal)))
line-spelled once count s None journal e = absurd (let clash : None ≡ Some journal = e in cc)
line-spelled once count s (Some None) journal e = absurd (let clash : None ≡ Some journal = e in cc)
line-spelled once count s (Some (Some text)) journal e = ap (λ (t : List ℕ). Some (Some t)) (journal-spelled once count s text journal e)

cut-journal : (line : ℕ) (o : Option (List Entry)) (later : Result (List (List Entry)) ℕ) (journals : List (List Entry)) → with_journal line o later ≡ Ok journals
    → (journal : List Entry) × (others : List (List Entry)) × (o ≡ Some journal) × (later ≡ Ok others) × (journals ≡ journal ∷ others)
cut-journal line None later journals e = absurd (let clash : Err line ≡ Ok journals = e in cc)
cut-journal line (Some journal) (Err k) journals e = absurd (let clash : Err k ≡ Ok journals = e in cc)
cut-journal line (Some journal) (Ok others) journals e = let same : journal ∷ others ≡ journals = cc in (journal, others, refl, refl, sym same)

get-drop : {X : Type 0} (xs : List X) (k : ℕ) → slice_get (drop 1 xs) k ≡ slice_get xs (suc k)
get-drop [] k = refl
get-drop (x ∷ xs) k = refl

-- one journal of each shard from one on, each on its line
pub record AreSpelledBy (count a n : ℕ) (lines : List Line) (journals : List (List Entry)) : Type 0 where
  pub many : length journals ≡ n
  pub spelled : (k : ℕ) → k < n → slice_get lines k ≡ option_map (λ journal. Some (journal_text (a + k, journal))) (slice_get journals k)

pub journals-spelled : SpelledOnce → (count a n : ℕ) (lines : List Line) (journals : List (List Entry)) → journals_of count (range_with_len a n) lines ≡ Ok journals
    → AreSpelledBy count a n lines journals
journals-spelled once count a zero lines journals e =
    let none : [] ≡ journals = cc in record { many = ap length (sym none); spelled = λ k below. absurd (omega (arith, below)) }
journals-spelled once count a (suc n) lines journals e =
    let cut = cut-journal (count + a + 1) (journal_of count a (slice_get lines 0)) (journals_of count (range_with_len (a + 1) n) (drop 1 lines)) journals e in
    let rest = journals-spelled once count (a + 1) n (drop 1 lines) cut.1 cut.3 in
    record { many = ap length cut.4 ∙ ap suc rest.many; spelled = each cut.0 cut.1 cut.4 (line-spelled once count a (slice_get lines 0) cut.0 cut.2) rest }
  where
    each : (first : List Entry) (others : List (List Entry)) → journals ≡ first ∷ others → slice_get lines 0 ≡ Some (Some (journal_text (a, first)))
        → AreSpelledBy count (a + 1) n (drop 1 lines) others
        → (k : ℕ) → k < suc n → slice_get lines k ≡ option_map (λ journal. Some (journal_text (a + k, journal))) (slice_get journals k)
    each first others is here rest zero below =
        let at : a ≡ a + 0 = omega arith in
        here ∙ ap (λ (m : ℕ). Some (Some (journal_text (m, first)))) at ∙ ap (λ js. option_map (λ journal. Some (journal_text (a + 0, journal))) (slice_get js 0)) (sym is)
    each first others is here rest (suc k) below =
        let at : a + 1 + k ≡ a + suc k = omega arith in
        sym (get-drop lines k) ∙ rest.spelled k (omega (arith, below))
        ∙ ap (λ (m : ℕ). option_map (λ journal. Some (journal_text (m, journal))) (slice_get others k)) at
        ∙ ap (λ js. option_map (λ journal. Some (journal_text (a + suc k, journal))) (slice_get js (suc k))) (sym is)

-- ---- their numbers

fields-some : (count s : ℕ) (fields : List (List ℕ)) (journal : List Entry) → from_fields count s fields ≡ Some journal → AreSome journal
fields-some count s [] journal e = absurd (let clash : None ≡ Some journal = e in cc)
fields-some count s (word ∷ []) journal e = absurd (let clash : None ≡ Some journal = e in cc)
fields-some count s (word ∷ shard ∷ fields) journal e = go (bytes_eq word (codes "journal") && bytes_eq (decimal s) shard) e
  where
    go : (test : Bool) → cond test (entries_of count fields) None ≡ Some journal → AreSome journal
    go true e = entries-some count fields journal e
    go false e = absurd (let clash : None ≡ Some journal = e in cc)

line-some : (count s : ℕ) (line : Option Line) (journal : List Entry) → journal_of count s line ≡ Some journal → AreSome journal
line-some count s None journal e = absurd (let clash : None ≡ Some journal = e in cc)
line-some count s (Some None) journal e = absurd (let clash : None ≡ Some journal = e in cc)
line-some count s (Some (Some text)) journal e = fields-some count s (slice_split (λ b. eqb b 32) text) journal e

pub journals-some : (count a n : ℕ) (lines : List Line) (journals : List (List Entry)) → journals_of count (range_with_len a n) lines ≡ Ok journals
    → All (λ journal. All (λ (entry : Entry). 1 ≤ number_in entry) journal) journals
journals-some count a zero lines journals e = let none : [] ≡ journals = cc in subst (All AreSome) none (All-nil AreSome)
journals-some count a (suc n) lines journals e =
    let cut = cut-journal (count + a + 1) (journal_of count a (slice_get lines 0)) (journals_of count (range_with_len (a + 1) n) (drop 1 lines)) journals e in
    subst (All AreSome) (sym cut.4)
    (All-cons AreSome cut.0 cut.1 (line-some count a (slice_get lines 0) cut.0 cut.2) (journals-some count (a + 1) n (drop 1 lines) cut.1 cut.3))
