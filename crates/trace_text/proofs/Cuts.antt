-- The lines of a text, one cut at a time.
use Rattle.std.proofs.Common.{◌≡◌, ℕ, ◌+◌, ◌<◌, ◌≤◌, Bool, true, false, cond, eqb, List, [], ◌∷◌, length, take, drop, map, Option, Some, None, arith, refl, ap}
use Rattle.std.specs.List.{position, position_or_len, slice_split}
use Rattle.std.proofs.lemmas.List.Splits.{slice_split_none, slice_split_first}
use Rattle.std.proofs.lemmas.List.Sums.{fails_before_first, position_or_len_is}
use Rattle.std.proofs.lemmas.Bool.{false_from_ne_true, lt-ltb, le-ltb}
use Rattle.std.proofs.lemmas.Option.{cond_some}
use borrow.Author.Tests.{ltb-true, ltb-false}
use Rattle.memchr.specs.Find.{IsFirstByte}
use Rattle.trace_text.specs.Line.{cut_where, cut_at}
use Rattle.trace_text.specs.Reading.{lines, lines_from, strip_cr}

pub some_not : {A : Type 0} (b : Bool) (x : A) → cond b (Some x) None ≡ None → b ≡ false
some_not true x e = cc
some_not false x e = refl

-- where a search for the first byte that passes ends
pub first_byte_position : (p : ℕ → Bool) (xs : List ℕ) (r : Option ℕ) → IsFirstByte p xs r → r ≡ position p xs
first_byte_position p xs None nowhere =
    let all : position_or_len p xs ≡ length xs = position_or_len_is p xs (length xs) 0 (omega arith)
    (λ k below. false_from_ne_true _ (nowhere k (omega arith) below)) (λ below. absurd (omega arith)) in
    rw (all, le-ltb (length xs) (length xs) (omega arith)) refl
first_byte_position p xs (Some i) (first, passes) =
    let here : position_or_len p xs ≡ i = position_or_len_is p xs i 0 (omega (arith, first.high))
    (λ k below. false_from_ne_true _ (first.before k (omega arith) below)) (λ below. passes) in
    rw (here, lt-ltb i (length xs) first.high) refl

-- a text with no such element is one part
split_none : (p : ℕ → Bool) (xs : List ℕ) → position p xs ≡ None → slice_split p xs ≡ xs ∷ []
split_none p xs e =
    let past : length xs ≤ position_or_len p xs = ltb-false _ _ (some_not _ _ e) in
    slice_split_none p xs (λ k d high. fails_before_first p xs k d (omega arith))

-- else the first part ends there
pub split_some : (p : ℕ → Bool) (xs : List ℕ) (i : ℕ) → position p xs ≡ Some i
    → slice_split p xs ≡ take i xs ∷ slice_split p (drop (i + 1) xs)
split_some p xs i e =
    let found = cond_some _ _ _ e in
    let within : position_or_len p xs < length xs = ltb-true _ _ found.0 in
    rw (← found.1) (slice_split_first p xs 0 within)

-- the lines behind the first one
abbrev pub tail_lines : Option (List ℕ) → List (List ℕ)
tail_lines None = []
tail_lines (Some rest) = lines rest

lines_where : (text : List ℕ) (o : Option ℕ) → position (λ b. eqb b 10) text ≡ o
    → lines text ≡ strip_cr (cut_where o text).0 ∷ tail_lines (cut_where o text).1
lines_where text None e = ap (map strip_cr) (split_none (λ b. eqb b 10) text e)
lines_where text (Some i) e = ap (map strip_cr) (split_some (λ b. eqb b 10) text i e)

pub lines_cut : (text : List ℕ) → lines text ≡ strip_cr (cut_at 10 text).0 ∷ tail_lines (cut_at 10 text).1
lines_cut text = lines_where text (position (λ b. eqb b 10) text) refl

-- the lines of what stands behind a cut
abbrev pub later : Option (List ℕ) → List (List ℕ)
later None = lines []
later (Some rest) = lines rest

cut_lines_where : (line : ℕ) (text : List ℕ) (o : Option ℕ) → position (λ b. eqb b 10) text ≡ o
    → lines_from line (lines text) ≡ lines_from line (strip_cr (cut_where o text).0 ∷ later (cut_where o text).1)
cut_lines_where line text None e = ap (λ pieces. lines_from line (map strip_cr pieces)) (split_none (λ b. eqb b 10) text e)
cut_lines_where line text (Some i) e = ap (λ pieces. lines_from line (map strip_cr pieces)) (split_some (λ b. eqb b 10) text i e)

-- The lines that may be commands are the first, which stands before the first LF, and those behind it. Behind the last
-- line there is an empty one, which is passed over.
pub cut_lines : (line : ℕ) (text : List ℕ) → lines_from line (lines text) ≡ lines_from line (strip_cr (cut_at 10 text).0 ∷ later (cut_at 10 text).1)
cut_lines line text = cut_lines_where line text (position (λ b. eqb b 10) text) refl
