-- The first line at which two lists of lines differ, as they are gone over.
use Rattle.std.proofs.Common.{◌≡◌, ℕ, ◌+◌, ◌<◌, ◌≤◌, suc, Bool, true, false, cond, List, [], ◌∷◌, ◌++◌, length, map, slice_get, Option, Some, None, Result, Ok, arith, refl, sym, ap, subst, ◌∙◌, append_assoc, length-append, ◌-◌, drop}
use Rattle.std.specs.Str.{bytes_eq}
use Rattle.std.proofs.lemmas.List.{drop-drop}
use Rattle.std.proofs.lemmas.Slice.Eq.{bytes_eq-Decides}
use Rattle.report_check.specs.Lines.{Line, first_difference, is_same_line, lines_of}
use Rattle.report_check.specs.declared.comparing.Left.{Left}
use Rattle.report_check.specs.inside.Compared.{AreCompared, Differs, IsBehind, are_same}
use Rattle.report_check.proofs.Cuts.{lines-empty}

-- ---- one line more

pub same-line : (line : ℕ) (x y : Line) (xs ys : List Line) → is_same_line x y ≡ true → first_difference line (x ∷ xs) (y ∷ ys) ≡ first_difference (line + 1) xs ys
same-line line x y xs ys is = rw is refl

pub other-line : (line : ℕ) (x y : Line) (xs ys : List Line) → is_same_line x y ≡ false → first_difference line (x ∷ xs) (y ∷ ys) ≡ Some line
other-line line x y xs ys is = rw is refl

-- A text was compared as far as its rest, and the bytes as far as what is left of them.
pub record Comparing (bytes : List ℕ) (line : ℕ) (text rest : List ℕ) (left : Left) : Type 0 where
  pub same : (later : List Line) → first_difference line (lines_of bytes) (lines_of text ++ later)
      ≡ first_difference left.line (lines_of left.bytes.now) (lines_of rest ++ later)
  pub numbered : left.line + length (lines_of rest) ≡ line + length (lines_of text)
  pub least : line ≤ left.line
  pub behind : lines_of left.bytes.now ≡ drop (left.line - line) (lines_of bytes)
  pub shorter : left.line + length left.bytes.now ≤ line + length bytes

pub compared-first : (text : List ℕ) (left : Left) → Comparing left.bytes.now left.line text text left
compared-first text left =
    let none : left.line - left.line ≡ 0 = omega arith in
    record { same = λ later. refl; numbered = refl; least = omega arith; behind = rw none refl; shorter = omega arith }

-- a line is there on both sides, and the same
pub compared-more : (bytes : List ℕ) (line : ℕ) (text rest behind after : List ℕ) (left : Left) (found expected : Line) (next : Left)
    → Comparing bytes line text rest left → lines_of left.bytes.now ≡ found ∷ lines_of after → lines_of rest ≡ expected ∷ lines_of behind
    → is_same_line found expected ≡ true → length after < length left.bytes.now → next.line ≡ left.line + 1 → next.bytes.now ≡ after
    → Comparing bytes line text behind next
compared-more bytes line text rest behind after left found expected next so_far here wanted is fewer number left-is = record {
  same = λ later.
      so_far.same later
      ∙ ap (λ (lines : List Line). first_difference left.line lines (lines_of rest ++ later)) here
      ∙ ap (λ (lines : List Line). first_difference left.line (found ∷ lines_of after) (lines ++ later)) wanted
      ∙ same-line left.line found expected (lines_of after) (lines_of behind ++ later) is
      ∙ ap (λ (k : ℕ). first_difference k (lines_of after) (lines_of behind ++ later)) (sym number)
      ∙ ap (λ (b : List ℕ). first_difference next.line (lines_of b) (lines_of behind ++ later)) (sym left-is);
  numbered = let n = so_far.numbered in let w = ap length wanted in omega (arith, n, w, number);
  least = let l = so_far.least in omega (arith, l, number);
  behind =
      let l = so_far.least in
      let place : left.line - line + 1 ≡ next.line - line = omega (arith, l, number) in
      let one : lines_of after ≡ drop 1 (lines_of left.bytes.now) = ap (drop 1) (sym here) in
      ap lines_of left-is ∙ one ∙ ap (drop 1) so_far.behind ∙ drop-drop 1 (left.line - line) (lines_of bytes) ∙ ap (λ k. drop k (lines_of bytes)) place;
  shorter = let s = so_far.shorter in let same = ap length left-is in omega (arith, s, fewer, number, same);
}

-- another line is there, or none
pub compared-other : (bytes : List ℕ) (line : ℕ) (text rest behind after : List ℕ) (left : Left) (found expected : Line)
    → Comparing bytes line text rest left → lines_of left.bytes.now ≡ found ∷ lines_of after → lines_of rest ≡ expected ∷ lines_of behind
    → is_same_line found expected ≡ false → Differs bytes line (lines_of text) left.line
compared-other bytes line text rest behind after left found expected so_far here wanted is later =
    so_far.same later
    ∙ ap (λ (lines : List Line). first_difference left.line lines (lines_of rest ++ later)) here
    ∙ ap (λ (lines : List Line). first_difference left.line (found ∷ lines_of after) (lines ++ later)) wanted
    ∙ other-line left.line found expected (lines_of after) (lines_of behind ++ later) is

pub compared-none : (bytes : List ℕ) (line : ℕ) (text rest behind : List ℕ) (left : Left) (expected : Line)
    → Comparing bytes line text rest left → lines_of left.bytes.now ≡ [] → lines_of rest ≡ expected ∷ lines_of behind
    → Differs bytes line (lines_of text) left.line
compared-none bytes line text rest behind left expected so_far none wanted later =
    so_far.same later
    ∙ ap (λ (lines : List Line). first_difference left.line lines (lines_of rest ++ later)) none
    ∙ ap (λ (lines : List Line). first_difference left.line [] (lines ++ later)) wanted

-- the first of some lines
line-first : (lines : List Line) (x : Line) → slice_get lines 0 ≡ Some x → lines ≡ x ∷ drop 1 lines
line-first [] x here = absurd (let clash : None ≡ Some x = here in cc)
line-first (y ∷ lines) x here = let same : y ≡ x = cc in ap (λ (l : Line). l ∷ lines) same

no-line : (lines : List Line) → slice_get lines 0 ≡ None → lines ≡ []
no-line [] none = refl
no-line (y ∷ lines) none = absurd (let clash : Some y ≡ None = none in cc)

some-bytes : (bytes : List ℕ) (x : Line) → slice_get (lines_of bytes) 0 ≡ Some x → 0 < length bytes
some-bytes [] x here = absurd (let clash : None ≡ Some x = here in cc)
some-bytes (b ∷ bytes) x here = omega arith

-- one line of each, if it is there
module _ (bytes : List ℕ) (line : ℕ) (text rest behind after : List ℕ) (left : Left) (so-far : Comparing bytes line text rest left)
    (behind-is : lines_of behind ≡ drop 1 (lines_of rest)) (after-is : lines_of after ≡ drop 1 (lines_of left.bytes.now))
    (found expected : Option Line) (found-is : found ≡ slice_get (lines_of left.bytes.now) 0) (expected-is : expected ≡ slice_get (lines_of rest) 0) where
  pub tried-same : (next : Left) → (0 < length left.bytes.now → length after < length left.bytes.now) → are_same found expected ≡ true → next.line ≡ left.line + 1 → next.bytes.now ≡ after
      → Comparing bytes line text behind next
  tried-same next shorter is number left-is = go found expected (sym found-is) (sym expected-is) is
    where
      go : (f e : Option Line) → slice_get (lines_of left.bytes.now) 0 ≡ f → slice_get (lines_of rest) 0 ≡ e → are_same f e ≡ true → Comparing bytes line text behind next
      go None e a b same = absurd (let clash : false ≡ true = same in cc)
      go (Some x) None a b same = absurd (let clash : false ≡ true = same in cc)
      go (Some x) (Some y) a b same =
          compared-more bytes line text rest behind after left x y next so-far
          (line-first (lines_of left.bytes.now) x a ∙ ap (λ (ls : List Line). x ∷ ls) (sym after-is))
          (line-first (lines_of rest) y b ∙ ap (λ (ls : List Line). y ∷ ls) (sym behind-is))
          same (shorter (some-bytes left.bytes.now x a)) number left-is

  pub tried-other : 0 < length rest → are_same found expected ≡ false → Differs bytes line (lines_of text) left.line
  tried-other some is = go found expected (sym found-is) (sym expected-is) is
    where
      go : (f e : Option Line) → slice_get (lines_of left.bytes.now) 0 ≡ f → slice_get (lines_of rest) 0 ≡ e → are_same f e ≡ false → Differs bytes line (lines_of text) left.line
      go f None a b other = absurd (let none = ap length (lines-empty rest (no-line (lines_of rest) b)) in omega (arith, none, some))
      go None (Some y) a b other =
          compared-none bytes line text rest behind left y so-far (no-line (lines_of left.bytes.now) a)
          (line-first (lines_of rest) y b ∙ ap (λ (ls : List Line). y ∷ ls) (sym behind-is))
      go (Some x) (Some y) a b other =
          compared-other bytes line text rest behind after left x y so-far
          (line-first (lines_of left.bytes.now) x a ∙ ap (λ (ls : List Line). x ∷ ls) (sym after-is))
          (line-first (lines_of rest) y b ∙ ap (λ (ls : List Line). y ∷ ls) (sym behind-is))
          other

-- all lines of the text are there
pub compared-all : (bytes : List ℕ) (line : ℕ) (text rest : List ℕ) (left : Left) → Comparing bytes line text rest left → rest ≡ []
    → IsBehind bytes line (lines_of text) left
compared-all bytes line text rest left so_far none =
    let lines : lines_of rest ≡ [] = ap lines_of none in record {
      same = λ later. so_far.same later ∙ ap (λ (ls : List Line). first_difference left.line (lines_of left.bytes.now) (ls ++ later)) lines;
      numbered = let n = so_far.numbered in let w = ap length lines in omega (arith, n, w);
      behind = so_far.behind;
      shorter = so_far.shorter;
    }

-- ---- texts one behind another

-- behind some lines, and then behind others
pub behind-more : (bytes : List ℕ) (line : ℕ) (first second : List Line) (left next : Left) → IsBehind bytes line first left
    → IsBehind left.bytes.now left.line second next → IsBehind bytes line (first ++ second) next
behind-more bytes line first second left next one two = record {
  same = λ later.
      ap (first_difference line (lines_of bytes)) (append_assoc first second later)
      ∙ one.same (second ++ later)
      ∙ two.same later;
  numbered = let a = one.numbered in let b = two.numbered in let both = length-append first second in omega (arith, a, b, both);
  behind =
      let a = one.numbered in
      let b = two.numbered in
      let place : left.line - line + (next.line - left.line) ≡ next.line - line = omega (arith, a, b) in
      two.behind ∙ ap (drop (next.line - left.line)) one.behind ∙ drop-drop (next.line - left.line) (left.line - line) (lines_of bytes) ∙ ap (λ k. drop k (lines_of bytes)) place;
  shorter = let a = one.shorter in let b = two.shorter in omega (arith, a, b);
}

pub differs-more : (bytes : List ℕ) (line : ℕ) (first second : List Line) (left : Left) (at : ℕ) → IsBehind bytes line first left
    → Differs left.bytes.now left.line second at → (rest : List Line) → Differs bytes line (first ++ (second ++ rest)) at
differs-more bytes line first second left at one two rest later =
    ap (first_difference line (lines_of bytes)) (append_assoc first (second ++ rest) later)
    ∙ one.same ((second ++ rest) ++ later)
    ∙ ap (first_difference left.line (lines_of left.bytes.now)) (append_assoc second rest later)
    ∙ two (rest ++ later)

pub compared-behind : (bytes : List ℕ) (line : ℕ) (lines : List Line) (result : Result Left ℕ) (left : Left) → result ≡ Ok left → AreCompared bytes line lines result
    → IsBehind bytes line lines left
compared-behind bytes line lines result left is compared = subst (AreCompared bytes line lines) is compared

-- texts that stand on both sides
pub printed-same : (texts : List (List ℕ)) (line : ℕ) (xs ys : List Line)
    → first_difference line (map (λ text. Some text) texts ++ xs) (map (λ text. Some text) texts ++ ys) ≡ first_difference (line + length texts) xs ys
printed-same [] line xs ys = let same : line + 0 ≡ line = omega arith in rw same refl
printed-same (text ∷ texts) line xs ys =
    let is : bytes_eq text text ≡ true = (bytes_eq-Decides text text).1 refl in
    let further : line + 1 + length texts ≡ line + suc (length texts) = omega arith in
    rw is (printed-same texts (line + 1) xs ys) ∙ ap (λ (k : ℕ). first_difference k xs ys) further

-- behind all answers the bytes have the journals' lines, and then what is behind these
pub behind-printed : (bytes : List ℕ) (answered printed shards : List Line) (texts : List (List ℕ)) (left end : Left) → printed ≡ map (λ text. Some text) texts
    → IsBehind bytes 1 answered left → (behind : List ℕ) → drop (length answered) (lines_of bytes) ≡ printed ++ lines_of behind
    → end.bytes.now ≡ behind → end.line ≡ left.line + length texts
    → first_difference 1 (lines_of bytes) ((answered ++ printed) ++ shards) ≡ first_difference end.line (lines_of end.bytes.now) shards
behind-printed bytes answered printed shards texts left end are one behind stands end-is line-is =
    let number = one.numbered in
    let place : left.line - 1 ≡ length answered = omega (arith, number) in
    let rest : lines_of left.bytes.now ≡ map (λ text. Some text) texts ++ lines_of behind =
    one.behind ∙ ap (λ k. drop k (lines_of bytes)) place ∙ stands ∙ ap (λ (ls : List Line). ls ++ lines_of behind) are in
    ap (first_difference 1 (lines_of bytes)) (append_assoc answered printed shards)
    ∙ one.same (printed ++ shards)
    ∙ ap (λ (ls : List Line). first_difference left.line ls (printed ++ shards)) rest
    ∙ ap (λ (ls : List Line). first_difference left.line (map (λ text. Some text) texts ++ lines_of behind) (ls ++ shards)) are
    ∙ printed-same texts left.line (lines_of behind) shards
    ∙ ap (λ (k : ℕ). first_difference k (lines_of behind) shards) (sym line-is)
    ∙ ap (λ (b : List ℕ). first_difference end.line (lines_of b) shards) (sym end-is)

-- nothing is expected any more
pub ends-here : (left : Left) → left.bytes.now ≡ [] → first_difference left.line (lines_of left.bytes.now) [] ≡ None
ends-here left none = ap (λ (b : List ℕ). first_difference left.line (lines_of b) []) none

pub surplus : (left : Left) → (left.bytes.now ≡ [] → ⊥) → first_difference left.line (lines_of left.bytes.now) [] ≡ Some left.line
surplus left some = go (lines_of left.bytes.now) refl
  where
    go : (lines : List Line) → lines_of left.bytes.now ≡ lines → first_difference left.line lines [] ≡ Some left.line
    go [] is = absurd (some (lines-empty left.bytes.now is))
    go (x ∷ lines) is = refl

-- where no line differs, all are there and the same
pub none-differs : (line : ℕ) (xs ys : List Line) → first_difference line xs ys ≡ None → xs ≡ ys
none-differs line [] [] none = refl
none-differs line [] (y ∷ ys) none = absurd (let clash : Some line ≡ None = none in cc)
none-differs line (x ∷ xs) [] none = absurd (let clash : Some line ≡ None = none in cc)
none-differs line (Some x ∷ xs) (Some y ∷ ys) none = go (bytes_eq x y) refl (none-differs (line + 1) xs ys) none
  where
    go : (b : Bool) → bytes_eq x y ≡ b → (first_difference (line + 1) xs ys ≡ None → xs ≡ ys) → cond b (first_difference (line + 1) xs ys) (Some line) ≡ None
        → Some x ∷ xs ≡ Some y ∷ ys
    go true is later rest =
        let first : x ≡ y = (bytes_eq-Decides x y).0 is in
        let others : xs ≡ ys = later rest in
        rw (first, others) refl
    go false is later rest = absurd (let clash : Some line ≡ None = rest in cc)
none-differs line (Some x ∷ xs) (None ∷ ys) none = absurd (let clash : Some line ≡ None = none in cc)
none-differs line (None ∷ xs) (y ∷ ys) none = absurd (let clash : Some line ≡ None = none in cc)

-- lines that all end, and are the same
pub same-lines : (texts : List (List ℕ)) (line : ℕ) → first_difference line (map (λ text. Some text) texts) (map (λ text. Some text) texts) ≡ None
same-lines [] line = refl
same-lines (text ∷ texts) line =
    let is : bytes_eq text text ≡ true = (bytes_eq-Decides text text).1 refl in
    rw is (same-lines texts (line + 1))
