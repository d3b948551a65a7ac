-- Printed lines spell one list of journals at most.
use Rattle.std.proofs.Common.{◌≡◌, ℕ, ◌<◌, ◌^◌, zero, suc, true, ltb, List, [], ◌∷◌, ◌++◌, length, map, drop, codes, Option, Some, None, sym, ap, ◌∙◌, refl, arith, subst}
use Rattle.std.specs.List.{flat_map, list_all, slice_get}
use Rattle.std.specs.Option.{option_map}
use Rattle.std.specs.Prelude.{All}
use Rattle.std.specs.Fmt.{decimal}
use Rattle.std.proofs.lemmas.Bool.{and_parts, ltb-true}
use Rattle.std.proofs.lemmas.Bool.Decides.{nat_tests}
use Rattle.std.proofs.lemmas.Fmt.{decimal_injective}
use Rattle.std.proofs.lemmas.List.Elements.{All-head, All-tail}
use Rattle.std.proofs.Math.Seq.{drop-append_seam}
use Rattle.trace_text.specs.Trace.{Trace}
use Rattle.cache_model.specs.declared.entry.Entry.{Entry}
use Rattle.cache_model.specs.declared.entry.Entry.TheVariants.{Done, Evicted}
use Rattle.cache_model.specs.Report.{entry_text, journal_text, number_of, HasNumbers, PrintsJournals}
use Rattle.cache_lemmas.proofs.TextLines.{IsHigh, decimal-high}

-- no byte is a space
abbrev IsWord : List ℕ → Type 0
IsWord text = list_all (λ b. ltb 32 b) text ≡ true

high-byte : (b : ℕ) → ltb 47 b ≡ true → ltb 32 b ≡ true
high-byte b is = grind (arith, nat_tests)

high-word : (text : List ℕ) → IsHigh text → IsWord text
high-word [] is = refl
high-word (b ∷ text) is =
    let parts = and_parts (ltb 47 b) (list_all (λ x. ltb 47 x) text) is in
    let here : ltb 32 b ≡ true = high-byte b parts.0 in
    let later : IsWord text = high-word text parts.1 in rw (here, later) refl

entry-word : (entry : Entry) → IsWord (entry_text entry)
entry-word (Done i) = high-word (decimal i) (decimal-high i)
entry-word (Evicted q) = high-word (decimal q) (decimal-high q)

no-space : (b : ℕ) → ltb 32 b ≡ true → b ≡ 32 → ⊥
no-space b is e = absurd (omega (arith, ltb-true 32 b is))

-- words are cut at the space behind them, or end with the text
abbrev pub spaced : List (List ℕ) → List ℕ
spaced words = flat_map (λ word. 32 ∷ word) words

same_word : (xs ys : List ℕ) (ws vs : List (List ℕ)) → IsWord xs → IsWord ys → xs ++ spaced ws ≡ ys ++ spaced vs → (xs ≡ ys) × (spaced ws ≡ spaced vs)
same_word [] [] ws vs p q e = (refl, e)
same_word [] (y ∷ ys) [] vs p q e = absurd (cc e)
same_word [] (y ∷ ys) (w ∷ ws) vs p q e =
    let first : 32 ≡ y = cc in
    absurd (no-space y (and_parts (ltb 32 y) (list_all (λ b. ltb 32 b) ys) q).0 (sym first))
same_word (x ∷ xs) [] ws [] p q e = absurd (cc e)
same_word (x ∷ xs) [] ws (v ∷ vs) p q e =
    let first : x ≡ 32 = cc in
    absurd (no-space x (and_parts (ltb 32 x) (list_all (λ b. ltb 32 b) xs) p).0 first)
same_word (x ∷ xs) (y ∷ ys) ws vs p q e =
    let first : x ≡ y = cc in
    let later : xs ++ spaced ws ≡ ys ++ spaced vs = cc in
    let rest = same_word xs ys ws vs (and_parts (ltb 32 x) (list_all (λ b. ltb 32 b) xs) p).1 (and_parts (ltb 32 y) (list_all (λ b. ltb 32 b) ys) q).1 later in
    let same : xs ≡ ys = rest.0 in
    (cc, rest.1)

first_high : (i : ℕ) (rest : List ℕ) → i < 2 ^ 32 → decimal i ≡ 33 ∷ rest → ⊥
first_high i rest small e =
    let high : IsHigh (33 ∷ rest) = subst IsHigh e (decimal-high i) in cc

same_entry : (a b : Entry) → number_of a < 2 ^ 32 → number_of b < 2 ^ 32 → entry_text a ≡ entry_text b → a ≡ b
same_entry (Done i) (Done j) p q e = ap Done (decimal_injective i j (omega (arith, p)) (omega (arith, q)) e)
same_entry (Done i) (Evicted j) p q e = absurd (first_high i (decimal j) p e)
same_entry (Evicted i) (Done j) p q e = absurd (first_high j (decimal i) q (sym e))
same_entry (Evicted i) (Evicted j) p q e = ap Evicted (decimal_injective i j (omega (arith, p)) (omega (arith, q)) (ap (drop 1) e))

spaced-entries : (journal : List Entry) → flat_map (λ entry. 32 ∷ entry_text entry) journal ≡ spaced (map entry_text journal)
spaced-entries [] = refl
spaced-entries (entry ∷ journal) = ap (λ rest. 32 ∷ entry_text entry ++ rest) (spaced-entries journal)

same_entries : (xs ys : List Entry) → HasNumbers xs → HasNumbers ys → spaced (map entry_text xs) ≡ spaced (map entry_text ys) → xs ≡ ys
same_entries [] [] p q e = refl
same_entries [] (y ∷ ys) p q e = absurd (cc e)
same_entries (x ∷ xs) [] p q e = absurd (cc e)
same_entries (x ∷ xs) (y ∷ ys) p q e =
    let Small : Entry → Type 0 = λ entry. number_of entry < 2 ^ 32 in
    let same = same_word (entry_text x) (entry_text y) (map entry_text xs) (map entry_text ys) (entry-word x) (entry-word y) (ap (drop 1) e) in
    let first : x ≡ y = same_entry x y (All-head Small x xs p) (All-head Small y ys q) same.0 in
    let rest : xs ≡ ys = same_entries xs ys (All-tail Small x xs p) (All-tail Small y ys q) same.1 in
    cc

pub same_journal : (s : ℕ) (xs ys : List Entry) → HasNumbers xs → HasNumbers ys → journal_text (s, xs) ≡ journal_text (s, ys) → xs ≡ ys
same_journal s xs ys p q e =
    let front = codes "journal " ++ decimal s in
    let these = flat_map (λ (entry : Entry). 32 ∷ entry_text entry) xs in
    let those = flat_map (λ (entry : Entry). 32 ∷ entry_text entry) ys in
    let joined : front ++ these ≡ front ++ those = e in
    let cut : these ≡ those = sym (drop-append_seam front these) ∙ ap (drop (length front)) joined ∙ drop-append_seam front those in
    same_entries xs ys p q (sym (spaced-entries xs) ∙ cut ∙ spaced-entries ys)

-- lists that are the same at each index
some-same : (s : ℕ) (x y : Option (List Entry)) → option_map (λ journal. journal_text (s, journal)) x ≡ option_map (λ journal. journal_text (s, journal)) y
    → ((a : List Entry) → x ≡ Some a → HasNumbers a) → ((b : List Entry) → y ≡ Some b → HasNumbers b) → x ≡ y
some-same s None None e p q = refl
some-same s None (Some y) e p q = absurd (cc e)
some-same s (Some x) None e p q = absurd (cc e)
some-same s (Some x) (Some y) e p q = ap Some (same_journal s x y (p x refl) (q y refl) (let same : journal_text (s, x) ≡ journal_text (s, y) = cc in same))

same-gets : (xs ys : List (List Entry)) → length xs ≡ length ys → ((s : ℕ) → s < length xs → slice_get xs s ≡ slice_get ys s) → xs ≡ ys
same-gets [] [] long same = refl
same-gets [] (y ∷ ys) long same = absurd (omega arith)
same-gets (x ∷ xs) [] long same = absurd (omega arith)
same-gets (x ∷ xs) (y ∷ ys) long same =
    let here : Some x ≡ Some y = same 0 (omega arith) in
    let first : x ≡ y = cc in
    let rest : xs ≡ ys = same-gets xs ys (omega arith) (λ s below. same (suc s) (omega arith)) in
    cc

got-numbers : (xs : List (List Entry)) (s : ℕ) (x : List Entry) → All HasNumbers xs → slice_get xs s ≡ Some x → HasNumbers x
got-numbers [] s x all e = absurd (cc e)
got-numbers (y ∷ ys) zero x all e = let same : y ≡ x = cc in subst HasNumbers same (All-head HasNumbers y ys all)
got-numbers (y ∷ ys) (suc s) x all e = got-numbers ys s x (All-tail HasNumbers y ys all) e

pub same_journals : (trace : Trace) (n : ℕ) (bytes : List ℕ) (xs ys : List (List Entry)) → PrintsJournals trace n bytes xs → PrintsJournals trace n bytes ys
    → All HasNumbers xs → All HasNumbers ys → xs ≡ ys
same_journals trace n bytes xs ys p q small small' =
    same-gets xs ys (p.shards ∙ sym q.shards)
    (λ s below.
    let within : s < n = subst (λ k. s < k) p.shards below in
    some-same s (slice_get xs s) (slice_get ys s) (sym (p.spelled s within) ∙ q.spelled s within)
    (λ a. got-numbers xs s a small) (λ b. got-numbers ys s b small'))
