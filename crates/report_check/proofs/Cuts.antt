-- The lines of bytes, one cut at a time.
use Rattle.std.proofs.Common.{◌≡◌, ℕ, ◌+◌, ◌<◌, ◌≤◌, Bool, true, false, cond, eqb, List, [], ◌∷◌, ◌++◌, length, take, drop, map, Option, Some, None, arith, refl, sym, ap, ◌∙◌, append-nil}
use Rattle.std.specs.List.{flat_map, onto_first, position, position_or_len, slice_split}
use Rattle.std.specs.Prelude.{All}
use Rattle.std.proofs.lemmas.List.Splits.{slice_split-cons_no, slice_split-cons_yes, slice_split_first, slice_split_none}
use Rattle.std.proofs.lemmas.List.Sums.{fails_before_first, position_or_len_is}
use Rattle.std.proofs.lemmas.Bool.{false_from_ne_true, lt-ltb, le-ltb}
use Rattle.std.proofs.lemmas.Option.{cond_some}
use borrow.Author.Tests.{ltb-true, ltb-false}
use Rattle.memchr.specs.Find.{IsFirstByte}
use Rattle.cache_model.specs.Report.{line, text_lines}
use Rattle.cache_lemmas.proofs.TextLines.{Unbroken, each_line}
use Rattle.report_check.specs.Lines.{Line, before, ended, lines_of}
use Rattle.report_check.specs.inside.Spells.{fields_of}

some_not : {A : Type 0} (b : Bool) (x : A) → cond b (Some x) None ≡ None → b ≡ false
some_not true x e = cc
some_not false x e = refl

-- where a search for the first byte that passes ends
pub first_byte_position : (p : ℕ → Bool) (xs : List ℕ) (r : Option ℕ) → IsFirstByte p xs r → r ≡ position p xs
first_byte_position p xs None nowhere =
    let all : position_or_len p xs ≡ length xs = position_or_len_is p xs (length xs) 0 (omega arith)
    (λ k below. false_from_ne_true _ (nowhere k (omega arith) below)) (λ below. absurd (omega arith)) in
    rw (all, le-ltb (length xs) (length xs) (omega arith)) refl
first_byte_position p xs (Some i) (first, passes) =
    let here : position_or_len p xs ≡ i = position_or_len_is p xs i 0 (omega (arith, first.high))
    (λ k below. false_from_ne_true _ (first.before k (omega arith) below)) (λ below. passes) in
    rw (here, lt-ltb i (length xs) first.high) refl

-- a text with no such element is one part
pub split_none : (p : ℕ → Bool) (xs : List ℕ) → position p xs ≡ None → slice_split p xs ≡ xs ∷ []
split_none p xs e =
    let past : length xs ≤ position_or_len p xs = ltb-false _ _ (some_not _ _ e) in
    slice_split_none p xs (λ k d high. fails_before_first p xs k d (omega arith))

-- else the first part ends there
pub split_some : (p : ℕ → Bool) (xs : List ℕ) (i : ℕ) → position p xs ≡ Some i
    → slice_split p xs ≡ take i xs ∷ slice_split p (drop (i + 1) xs)
split_some p xs i e =
    let found = cond_some _ _ _ e in
    let within : position_or_len p xs < length xs = ltb-true _ _ found.0 in
    rw (← found.1) (slice_split_first p xs 0 within)

-- there is a part
pub split-more : (p : ℕ → Bool) (xs : List ℕ) → (first : List ℕ) × (others : List (List ℕ)) × (slice_split p xs ≡ first ∷ others)
split-more p [] = ([], [], refl)
split-more p (x ∷ xs) = go (p x) refl (split-more p xs)
  where
    go : (b : Bool) → p x ≡ b → (first : List ℕ) × (others : List (List ℕ)) × (slice_split p xs ≡ first ∷ others)
        → (first : List ℕ) × (others : List (List ℕ)) × (slice_split p (x ∷ xs) ≡ first ∷ others)
    go true is rest = ([], slice_split p xs, slice_split-cons_yes p x xs is)
    go false is rest = (x ∷ rest.0, rest.1, slice_split-cons_no p x xs is ∙ ap (onto_first x) rest.2)

-- ---- lines

-- bytes that don't end
pub lines-none : (bytes : List ℕ) → 0 < length bytes → position (λ b. eqb b 10) bytes ≡ None → lines_of bytes ≡ None ∷ []
lines-none [] some e = absurd (omega (arith, some))
lines-none (b ∷ bytes) some e = ap ended (split_none (λ x. eqb x 10) (b ∷ bytes) e)

-- a line, and those behind it
pub lines-some : (bytes : List ℕ) (at : ℕ) → position (λ b. eqb b 10) bytes ≡ Some at → lines_of bytes ≡ Some (take at bytes) ∷ lines_of (drop (at + 1) bytes)
lines-some bytes at e =
    let rest = drop (at + 1) bytes in
    let more = split-more (λ b. eqb b 10) rest in
    ap ended (split_some (λ b. eqb b 10) bytes at e)
    ∙ ap (λ (texts : List (List ℕ)). before (take at bytes) texts (ended (slice_split (λ b. eqb b 10) rest))) more.2

-- no line stands in no bytes alone
pub lines-empty : (bytes : List ℕ) → lines_of bytes ≡ [] → bytes ≡ []
lines-empty [] none = refl
lines-empty (b ∷ bytes) none = go (position (λ x. eqb x 10) (b ∷ bytes)) refl
  where
    go : (o : Option ℕ) → position (λ x. eqb x 10) (b ∷ bytes) ≡ o → b ∷ bytes ≡ []
    go None e = absurd (let clash : None ∷ [] ≡ [] = sym (lines-none (b ∷ bytes) (omega arith) e) ∙ none in cc)
    go (Some at) e = absurd (let clash : Some (take at (b ∷ bytes)) ∷ lines_of (drop (at + 1) (b ∷ bytes)) ≡ [] = sym (lines-some (b ∷ bytes) at e) ∙ none in cc)

-- texts that all end
pub ended-all : (texts : List (List ℕ)) → ended (texts ++ [] ∷ []) ≡ map {B = Line} (λ text. Some text) texts
ended-all [] = refl
ended-all (text ∷ []) = refl
ended-all (text ∷ next ∷ texts) = ap (λ (lines : List Line). Some text ∷ lines) (ended-all (next ∷ texts))

-- unbroken texts, each on its line
pub lines-each : {X : Type 0} (text : X → List ℕ) (xs : List X) → All (λ x. Unbroken (text x)) xs
    → lines_of (flat_map (λ x. line (text x)) xs) ≡ map {B = Line} (λ x. Some (text x)) xs
lines-each text xs all =
    let whole = flat_map (λ x. line (text x)) xs in
    ap (λ (bytes : List ℕ). ended (text_lines bytes)) (sym (append-nil whole))
    ∙ ap ended (each_line text xs [] all)
    ∙ ended-all (map text xs)
    ∙ each text xs
  where
    each : {X : Type 0} (f : X → List ℕ) (ys : List X) → map {B = Line} (λ t. Some t) (map f ys) ≡ map {B = Line} (λ y. Some (f y)) ys
    each f [] = refl
    each f (y ∷ ys) = ap (λ (lines : List Line). Some (f y) ∷ lines) (each f ys)

-- ---- fields

-- a field, and those behind its space
pub fields-none : (text : List ℕ) → position (λ b. eqb b 32) text ≡ None → fields_of (Some text) ≡ text ∷ fields_of None
fields-none text e = split_none (λ b. eqb b 32) text e

pub fields-some : (text : List ℕ) (at : ℕ) → position (λ b. eqb b 32) text ≡ Some at → fields_of (Some text) ≡ take at text ∷ fields_of (Some (drop (at + 1) text))
fields-some text at e = split_some (λ b. eqb b 32) text at e
