-- Bytes that a value may have: from a load to them, and from them to the fields of a line.
use Rattle.std.proofs.Common.{◌≡◌, ℕ, ◌+◌, ◌-◌, ◌%◌, ◌^◌, ◌<◌, ◌≤◌, eqb, Bool, true, false, not, ◌||◌, List, ◌∷◌, map, length, take, drop, get_or, Option, Some, None, Fits, w8, refl, sym, ap, subst, ◌∙◌, arith, inl, inr}
use Rattle.std.proofs.lemmas.Bool.{agree_below, agree_below_at, and_parts, cond-false, eq-eqb, lt-ltb, ne_eqb}
use Rattle.std.proofs.lemmas.Bool.Decides.{nat_tests}
use Rattle.std.proofs.lemmas.Simd.{map-map, mask_l-mod, length-chunk, first_set_mask_l, run_in_chunk_le, run_in_chunk_fails}
use Rattle.std.proofs.lemmas.List.{get_or-take, length-map, length-take-le, take_all}
use Rattle.std.proofs.lemmas.List.Elements.{All-drop, All-from_get_or}
use Rattle.std.proofs.lemmas.List.Sums.{AllPass-from_list_all, fails_before_first, list_all-from_AllPass, position_or_len_is}
use Rattle.std.proofs.lemmas.List.Quantifiers.{position-Some}
use Rattle.std.proofs.lemmas.Option.{slice_get_cases}
use Rattle.std.specs.List.{list_all, position, position_or_len, prefix_len}
use borrow.Author.Tests.{ltb-true, ltb-false}
use lib.Lanes.{chunk, mask_l, top}
use Rattle.trace_text.specs.inside.Found.{IsRestOf}
use Rattle.trace_text.specs.inside.Plain.{ArePlain, IsPlain, first_set}
use Rattle.trace_text.specs.Line.{cut_at, cut_where, is_key_byte, is_value_byte}
use Rattle.trace_text.specs.Reading.{is_cr, lines, lines_from, strip_cr}
use Rattle.trace_text.proofs.Cuts.{some_not, split_some}

-- the bytes before the first lane that is set pass, where each that fails has its lane set
pub passes_before : (q : ℕ → Bool) (d : List ℕ) (i n r : ℕ) (z : List ℕ) → i + n ≤ length d → n ≤ 64 → ((k : ℕ) → Fits w8 (get_or d k 0))
    → r ≡ first_set (mask_l (map (top 7) z) % 2 ^ 64) n → (f : ℕ → ℕ) → z ≡ map f (chunk i n d)
    → agree_below (λ x. top 7 (f x) || q x) (λ _. true) 256 ≡ true
    → (r ≤ n) × ((k : ℕ) → i ≤ k → k < i + r → q (get_or d k 0) ≡ true)
passes_before q d i n r z room few fits found f lanes all =
    let stops = λ (x : ℕ). top 7 (f x) in
    let v = chunk i n d in
    let long = length-chunk i n d room in
    let mask = ap (λ l. mask_l l % 2 ^ 64) (ap (map (top 7)) lanes ∙ map-map (top 7) f v) ∙ mask_l-mod (map stops v) 64 (omega (arith, length-map v stops, long)) in
    let counted : r ≡ prefix_len (λ x. not (stops x)) v = found ∙ ap (λ m. first_set m n) mask ∙ first_set_mask_l stops v n long few in (
      run_in_chunk_le stops d i n r 0 room counted,
      λ k from to. sym (ap (λ b. b || q (get_or d k 0)) (run_in_chunk_fails stops d i n r 0 room counted k from to))
          ∙ agree_below_at (λ x. stops x || q x) (λ _. true) 256 (get_or d k 0) all (fits k).fits,
    )

-- such a byte is neither LF nor CR
value_not : (b y : ℕ) → is_value_byte b ≡ true → y ≤ 31 → eqb b y ≡ false
value_not b y is small = let above : 31 < b = ltb-true 31 b (and_parts _ _ is).0 in ne_eqb b y (λ same. omega arith)

key_byte : (b : ℕ) → is_value_byte b ≡ true → eqb b 32 ≡ false → is_key_byte b ≡ true
key_byte b is other = grind (arith, nat_tests)

-- a front of the text, each byte of which passes
front_passes : (q : ℕ → Bool) (text : List ℕ) (n : ℕ) → n ≤ length text → ((k : ℕ) → k < n → q (get_or text k 0) ≡ true) → list_all q (take n text) ≡ true
front_passes q text n within each =
    let long = length-take-le n text within in
    list_all-from_AllPass q (take n text) (All-from_get_or (λ x. q x ≡ true) (take n text) 0
    (λ k inside. let below : k < n = omega (arith, long) in subst (λ x. q x ≡ true) (sym (get_or-take n text k 0 below)) (each k below)))

pub plain_front_is : (text : List ℕ) (end : ℕ) → end ≤ length text → ArePlain text 0 end → IsPlain (take end text)
plain_front_is text end within are = front_passes is_value_byte text end within (λ k below. are k (omega arith) below)

-- no CR ends it
plain_strip : (text : List ℕ) → IsPlain text → strip_cr text ≡ text
plain_strip text is = cond-false _ _ _ (elim (slice_get_cases text (length text - 1)).1 [
  | inl found ↦ ap is_cr found.2 ∙ value_not found.0 13 (subst (λ x. is_value_byte x ≡ true) found.3 (AllPass-from_list_all is_value_byte text is (length text - 1) found.0 found.1)) (omega arith)
  | inr past ↦ ap is_cr past.1
])

-- what stands before an LF that follows only such bytes is the first line
pub plain_cut : (text : List ℕ) (end : ℕ) → end < length text → ArePlain text 0 end → get_or text end 0 ≡ 10 → (line : ℕ)
    → lines_from line (lines text) ≡ lines_from line (take end text ∷ lines (drop (end + 1) text))
plain_cut text end within are lf line =
    let test = λ (b : ℕ). eqb b 10 in
    let here : position_or_len test text ≡ end = position_or_len_is test text end 0 (omega arith)
    (λ k below. value_not (get_or text k 0) 10 (are k (omega arith) below) (omega arith)) (λ below. eq-eqb _ _ lf) in
    let found : position test text ≡ Some end = rw (here, lt-ltb end (length text) within) refl in
    ap (λ pieces. lines_from line (map strip_cr pieces)) (split_some test text end found)
    ∙ ap (λ first. lines_from line (first ∷ lines (drop (end + 1) text))) (plain_strip (take end text) (plain_front_is text end (omega arith) are))

-- an end of it is of such bytes too
pub plain_rest : (text rest : List ℕ) → IsPlain text → IsRestOf text rest → IsPlain rest
plain_rest text rest is end =
    subst IsPlain end.1 (list_all-from_AllPass is_value_byte _ (All-drop (λ x. is_value_byte x ≡ true) (length text - length rest) text (AllPass-from_list_all is_value_byte text is)))

-- what stands before its first space may be a key
module _ (fields : List ℕ) (is : IsPlain fields) where
  abbrev is_space : ℕ → Bool
  is_space x = eqb x 32

  key_front : (n : ℕ) → n ≤ length fields → ((k : ℕ) → k < n → is_space (get_or fields k 0) ≡ false) → list_all is_key_byte (take n fields) ≡ true
  key_front n within others = front_passes is_key_byte fields n within
      (λ k below. key_byte (get_or fields k 0) (AllPass-from_list_all is_value_byte fields is k 0 (omega arith)) (others k below))

  key_where : (o : Option ℕ) → position is_space fields ≡ o → list_all is_key_byte (cut_where o fields).0 ≡ true
  key_where None e =
      let past : length fields ≤ position_or_len is_space fields = ltb-false _ _ (some_not _ _ e) in
      subst (λ xs. list_all is_key_byte xs ≡ true) (take_all (length fields) fields (omega arith))
      (key_front (length fields) (omega arith) (λ k below. fails_before_first is_space fields k 0 (omega arith)))
  key_where (Some i) e =
      let found = position-Some is_space fields i 0 e in
      key_front i (omega (arith, found.0)) (λ k below. found.2 k below)

  pub plain_key : list_all is_key_byte (cut_at 32 fields).0 ≡ true
  plain_key = key_where (position is_space fields) refl
