-- The lines of a report.
use Rattle.std.proofs.Common.{◌≡◌, ℕ, ◌+◌, ◌/◌, ◌%◌, ◌<◌, suc, zero, Bool, true, false, not, cond, eqb, ltb, List, [], ◌∷◌, ◌++◌, length, map, append_assoc, append-nil, codes, arith, refl, sym, ap, ◌∙◌, zero-add}
use Rattle.std.specs.List.{flat_map, list_all, slice_get, enumerate_from}
use Rattle.std.specs.Option.{option_map}
use Rattle.std.specs.Prelude.{All}
use Rattle.std.specs.Fmt.{decimal, digits, digits_onto, digit_glyph}
use Rattle.std.proofs.lemmas.Bool.{and_parts}
use Rattle.std.proofs.lemmas.Bool.Decides.{nat_tests}
use Rattle.std.proofs.lemmas.List.{length-map}
use Rattle.std.proofs.lemmas.List.Elements.{All-head, All-tail}
use Rattle.std.proofs.lemmas.List.Folds.{list_all-append}
use Rattle.std.proofs.lemmas.List.Sums.{AllPass-from_list_all}
use Rattle.std.proofs.lemmas.List.Splits.{slice_split_at}
use Rattle.cache_model.specs.declared.entry.Entry.{Entry}
use Rattle.cache_model.specs.declared.entry.Entry.TheVariants.{Done, Evicted}
use Rattle.rows.specs.Apply.{Reply, Stored, Replaced, Value, Missing, Erased, Keys}
use Rattle.cache_model.specs.Report.{Occupancy, line, reply_text, answer_text, entry_text, journal_text, occupancy_text, report_of, text_lines}
use Rattle.cache_model.specs.Unbroken.{is_unbroken, IsUnbroken}

abbrev pub Unbroken : List ℕ → Type 0
Unbroken text = is_unbroken text ≡ true

unbroken-append : (front back : List ℕ) → Unbroken front → Unbroken back → Unbroken (front ++ back)
unbroken-append front back f b = rw (list_all-append (λ x. not (eqb x 10)) front back, f, b) refl

unbroken-cons : (b : ℕ) (text : List ℕ) → not (eqb b 10) ≡ true → Unbroken text → Unbroken (b ∷ text)
unbroken-cons b text here later = rw (here, later) refl

-- ---- numbers

-- each digit is above a space and a `!`
high : (d : ℕ) → ltb 47 (48 + d) ≡ true
high d = grind (arith, nat_tests)

higher : (d : ℕ) → ltb 47 (87 + d) ≡ true
higher d = grind (arith, nat_tests)

glyph-cond : (b : Bool) (d : ℕ) → ltb 47 (cond b (48 + d) (87 + d)) ≡ true
glyph-cond true d = high d
glyph-cond false d = higher d

glyph : (d : ℕ) → ltb 47 (digit_glyph false d) ≡ true
glyph d = glyph-cond (ltb d 10) d

abbrev pub IsHigh : List ℕ → Type 0
IsHigh text = list_all (λ b. ltb 47 b) text ≡ true

high-cond : (b : Bool) (x y : List ℕ) → IsHigh x → IsHigh y → IsHigh (cond b x y)
high-cond true x y p q = p
high-cond false x y p q = q

high-cons : (b : ℕ) (text : List ℕ) → ltb 47 b ≡ true → IsHigh text → IsHigh (b ∷ text)
high-cons b text here later = rw (here, later) refl

digits_onto-high : (k n : ℕ) (acc : List ℕ) → IsHigh acc → IsHigh (digits_onto k 10 false n acc)
digits_onto-high zero n acc is = is
digits_onto-high (suc k) n acc is =
    let more : IsHigh (digit_glyph false (n % 10) ∷ acc) = high-cons (digit_glyph false (n % 10)) acc (glyph (n % 10)) is in
    high-cond (eqb (n / 10) 0) (digit_glyph false (n % 10) ∷ acc) (digits_onto k 10 false (n / 10) (digit_glyph false (n % 10) ∷ acc))
    more (digits_onto-high k (n / 10) (digit_glyph false (n % 10) ∷ acc) more)

pub decimal-high : (n : ℕ) → IsHigh (decimal n)
unfolding digits
decimal-high n = digits_onto-high 64 n [] refl

high-byte : (b : ℕ) → ltb 47 b ≡ true → not (eqb b 10) ≡ true
high-byte b is = grind (arith, nat_tests)

high-unbroken : (text : List ℕ) → IsHigh text → Unbroken text
high-unbroken [] is = refl
high-unbroken (b ∷ text) is =
    let parts = and_parts (ltb 47 b) (list_all (λ x. ltb 47 x) text) is in
    unbroken-cons b text (high-byte b parts.0) (high-unbroken text parts.1)

decimal-unbroken : (n : ℕ) → Unbroken (decimal n)
decimal-unbroken n = high-unbroken (decimal n) (decimal-high n)

-- ---- texts

keys-unbroken : (keys : List (List ℕ)) → All (λ key. is_unbroken key ≡ true) keys → Unbroken (flat_map (λ key. 32 ∷ key) keys)
keys-unbroken [] all = refl
keys-unbroken (key ∷ keys) all =
    unbroken-append (32 ∷ key) (flat_map (λ k. 32 ∷ k) keys) (unbroken-cons 32 key refl (All-head Unbroken key keys all)) (keys-unbroken keys (All-tail Unbroken key keys all))

reply-unbroken : (reply : Reply) → IsUnbroken reply → Unbroken (reply_text reply)
reply-unbroken Stored holds = refl
reply-unbroken Replaced holds = refl
reply-unbroken (Value value) holds = unbroken-append (codes "value ") value refl holds
reply-unbroken Missing holds = refl
reply-unbroken Erased holds = refl
reply-unbroken (Keys keys) holds = unbroken-append (codes "keys") (flat_map (λ key. 32 ∷ key) keys) refl (keys-unbroken keys holds)

pub answer-unbroken : (answer : ℕ × Reply) → IsUnbroken answer.1 → Unbroken (answer_text answer)
answer-unbroken (number, reply) holds =
    unbroken-append (decimal number) (32 ∷ reply_text reply) (decimal-unbroken number) (unbroken-cons 32 (reply_text reply) refl (reply-unbroken reply holds))

entry-unbroken : (entry : Entry) → Unbroken (entry_text entry)
entry-unbroken (Done i) = decimal-unbroken i
entry-unbroken (Evicted q) = unbroken-append (codes "!") (decimal q) refl (decimal-unbroken q)

entries-unbroken : (journal : List Entry) → Unbroken (flat_map (λ entry. 32 ∷ entry_text entry) journal)
entries-unbroken [] = refl
entries-unbroken (entry ∷ journal) =
    unbroken-append (32 ∷ entry_text entry) (flat_map (λ e. 32 ∷ entry_text e) journal)
    (unbroken-cons 32 (entry_text entry) refl (entry-unbroken entry)) (entries-unbroken journal)

pub journal-unbroken : (journal : ℕ × List Entry) → Unbroken (journal_text journal)
journal-unbroken (shard, journal) =
    unbroken-append (codes "journal " ++ decimal shard) (flat_map (λ entry. 32 ∷ entry_text entry) journal)
    (unbroken-append (codes "journal ") (decimal shard) refl (decimal-unbroken shard)) (entries-unbroken journal)

field-unbroken : (front name : List ℕ) (n : ℕ) → Unbroken front → Unbroken name → Unbroken (front ++ name ++ decimal n)
field-unbroken front name n is name-is = unbroken-append (front ++ name) (decimal n) (unbroken-append front name is name-is) (decimal-unbroken n)

pub occupancy-unbroken : (occupancy : ℕ × Occupancy) → Unbroken (occupancy_text occupancy)
occupancy-unbroken (shard, o) =
    let shard-text = codes "shard " ++ decimal shard in
    let rows-text = shard-text ++ codes " rows " ++ decimal o.rows in
    let live-text = rows-text ++ codes " live " ++ decimal o.live in
    let lent-text = live-text ++ codes " lent " ++ decimal o.lent in
    let to-shard = unbroken-append (codes "shard ") (decimal shard) refl (decimal-unbroken shard) in
    let to-rows = field-unbroken shard-text (codes " rows ") o.rows to-shard refl in
    let to-live = field-unbroken rows-text (codes " live ") o.live to-rows refl in
    let to-lent = field-unbroken live-text (codes " lent ") o.lent to-live refl in
    field-unbroken lent-text (codes " back ") o.back to-lent refl

-- ---- lines

not-not : (b : Bool) → not b ≡ true → b ≡ false
not-not true e = cc
not-not false e = refl

first_line : (text rest : List ℕ) → Unbroken text → text_lines (line text ++ rest) ≡ text ∷ text_lines rest
first_line text rest is =
    rw (append_assoc text (10 ∷ []) rest)
    (slice_split_at (λ b. eqb b 10) text 10 rest (λ k d lt. not-not _ (AllPass-from_list_all (λ b. not (eqb b 10)) text is k d lt)) refl)

-- unbroken texts, each on its line
pub each_line : {X : Type 0} (text : X → List ℕ) (xs : List X) (rest : List ℕ) → All (λ x. Unbroken (text x)) xs
    → text_lines (flat_map (λ x. line (text x)) xs ++ rest) ≡ map text xs ++ text_lines rest
each_line text [] rest all = refl
each_line text (x ∷ xs) rest all =
    rw (append_assoc (line (text x)) (flat_map (λ y. line (text y)) xs) rest)
    (first_line (text x) (flat_map (λ y. line (text y)) xs ++ rest) (All-head (λ y. Unbroken (text y)) x xs all)
    ∙ ap (λ texts. text x ∷ texts) (each_line text xs rest (All-tail (λ y. Unbroken (text y)) x xs all)))

-- the lines of a report, and the empty piece behind the last LF
pub report_lines : (answers : List (ℕ × Reply)) (journals : List (List Entry)) (occupancies : List Occupancy) → All (λ answer. IsUnbroken answer.1) answers
    → text_lines (report_of answers journals occupancies)
    ≡ map answer_text answers ++ (map journal_text (enumerate_from 0 journals) ++ (map occupancy_text (enumerate_from 0 occupancies) ++ [] ∷ []))
report_lines answers journals occupancies unbroken =
    let last = flat_map (λ (occupancy : ℕ × Occupancy). line (occupancy_text occupancy)) (enumerate_from 0 occupancies) in
    let middle = flat_map (λ (journal : ℕ × List Entry). line (journal_text journal)) (enumerate_from 0 journals) in
    let first = flat_map (λ (answer : ℕ × Reply). line (answer_text answer)) answers in
    ap text_lines (append_assoc first middle last)
    ∙ each_line answer_text answers (middle ++ last) (λ i d below. answer-unbroken _ (unbroken i d below))
    ∙ ap (λ texts. map answer_text answers ++ texts)
    (each_line journal_text (enumerate_from 0 journals) last (λ i d below. journal-unbroken _)
    ∙ ap (λ texts. map journal_text (enumerate_from 0 journals) ++ texts)
    (ap text_lines (sym (append-nil last)) ∙ each_line occupancy_text (enumerate_from 0 occupancies) [] (λ i d below. occupancy-unbroken _)))

-- ---- the line of a journal

behind : {X : Type 0} (xs ys : List X) (n s : ℕ) → n ≡ length xs → slice_get (xs ++ ys) (n + s) ≡ slice_get ys s
behind [] ys n s is = let at : n + s ≡ s = omega arith in rw at refl
behind (x ∷ xs) ys n s is = let at : n + s ≡ suc (length xs + s) = omega arith in rw at (behind xs ys (length xs) s refl)

front : {X : Type 0} (xs ys : List X) (s : ℕ) → s < length xs → slice_get (xs ++ ys) s ≡ slice_get xs s
front [] ys s below = absurd (omega arith)
front (x ∷ xs) ys zero below = refl
front (x ∷ xs) ys (suc s) below = front xs ys s (omega arith)

numbered : {X Y : Type 0} (text : ℕ × X → Y) (k : ℕ) (xs : List X) (s : ℕ)
    → slice_get (map text (enumerate_from k xs)) s ≡ option_map (λ x. text (k + s, x)) (slice_get xs s)
numbered text k [] s = refl
numbered text k (x ∷ xs) zero = let at : k + 0 ≡ k = omega arith in rw at refl
numbered text k (x ∷ xs) (suc s) =
    let at : k + 1 + s ≡ k + suc s = omega arith in
    numbered text (k + 1) xs s ∙ rw at refl

length-numbered : {X Y : Type 0} (text : ℕ × X → Y) (k : ℕ) (xs : List X) → length (map text (enumerate_from k xs)) ≡ length xs
length-numbered text k [] = refl
length-numbered text k (x ∷ xs) = ap suc (length-numbered text (k + 1) xs)

pub journal_line : (answers : List (ℕ × Reply)) (journals : List (List Entry)) (occupancies : List Occupancy) (n s : ℕ)
    → All (λ answer. IsUnbroken answer.1) answers → n ≡ length answers → s < length journals
    → slice_get (text_lines (report_of answers journals occupancies)) (n + s) ≡ option_map (λ journal. journal_text (s, journal)) (slice_get journals s)
journal_line answers journals occupancies n s unbroken is below =
    let texts = map journal_text (enumerate_from 0 journals) in
    let within : s < length texts = omega (arith, length-numbered journal_text 0 journals) in
    ap (λ lines. slice_get lines (n + s)) (report_lines answers journals occupancies unbroken)
    ∙ behind (map answer_text answers) (texts ++ (map occupancy_text (enumerate_from 0 occupancies) ++ [] ∷ [])) n s (is ∙ sym (length-map answers answer_text))
    ∙ front texts (map occupancy_text (enumerate_from 0 occupancies) ++ [] ∷ []) s within
    ∙ numbered journal_text 0 journals s
    ∙ ap (λ (k : ℕ). option_map (λ journal. journal_text (k, journal)) (slice_get journals s)) (zero-add s)
