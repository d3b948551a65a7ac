-- A part of a value, from its pieces.
use Rattle.std.proofs.Common.{◌≡◌, ℕ, ◌+◌, ◌-◌, List, [], ◌++◌, append-nil, length, take, drop, arith, sym, ap, ◌∙◌, inl, inr}
use Rattle.std.proofs.lemmas.Bool.{cases_lt}
use Rattle.std.proofs.lemmas.List.{take-append-le, drop-append-le, take_all, length-take-le}
use Rattle.std.proofs.Math.Seq.{take-append-add, drop-append-add}
use Rattle.values_mode.proofs.Ends.{drop_past}

take_parts : (n : ℕ) (xs ys : List ℕ) → take n (xs ++ ys) ≡ take n xs ++ take (n - length xs) ys
take_parts n xs ys = elim (cases_lt n (length xs)) [
  | inl lt ↦
      let none : n - length xs ≡ 0 = omega (arith, lt) in
      take-append-le n xs ys (omega (arith, lt)) ∙ sym (append-nil (take n xs)) ∙ ap (λ m. take n xs ++ take m ys) (sym none)
  | inr le ↦
      let whole : n ≡ length xs + (n - length xs) = omega (arith, le) in
      ap (λ m. take m (xs ++ ys)) whole ∙ take-append-add xs ys (n - length xs) ∙ ap (λ l. l ++ take (n - length xs) ys) (sym (take_all n xs le))
]

drop_parts : (n : ℕ) (xs ys : List ℕ) → drop n (xs ++ ys) ≡ drop n xs ++ drop (n - length xs) ys
drop_parts n xs ys = elim (cases_lt n (length xs)) [
  | inl lt ↦
      let none : n - length xs ≡ 0 = omega (arith, lt) in drop-append-le n xs ys (omega (arith, lt)) ∙ ap (λ m. drop n xs ++ drop m ys) (sym none)
  | inr le ↦
      let whole : n ≡ length xs + (n - length xs) = omega (arith, le) in
      ap (λ m. drop m (xs ++ ys)) whole ∙ drop-append-add xs ys (n - length xs) ∙ ap (λ l. l ++ drop (n - length xs) ys) (sym (drop_past n xs le))
]

left_over : (n : ℕ) (xs : List ℕ) → n - length (take n xs) ≡ n - length xs
left_over n xs = elim (cases_lt n (length xs)) [
  | inl lt ↦ let cut = length-take-le n xs (omega (arith, lt)) in omega (arith, cut, lt)
  | inr le ↦ ap (λ l. n - length l) (take_all n xs le)
]

-- the first piece gives its part, and the others the rest
part_more : (skip left : ℕ) (piece others : List ℕ)
    → take left (drop skip (piece ++ others)) ≡ take left (drop skip piece) ++ take (left - length (take left (drop skip piece))) (drop (skip - length piece) others)
part_more skip left piece others =
    ap (take left) (drop_parts skip piece others) ∙ take_parts left (drop skip piece) (drop (skip - length piece) others)
    ∙ ap (λ m. take left (drop skip piece) ++ take m (drop (skip - length piece) others)) (sym (left_over left (drop skip piece)))

-- the same of a part that was cut from the first piece of all that are left
pub part_cut : (skip left : ℕ) (piece others part whole : List ℕ) → whole ≡ piece ++ others → part ≡ take left (drop skip piece)
    → take left (drop skip whole) ≡ part ++ take (left - length part) (drop (skip - length piece) others)
part_cut skip left piece others part whole e cut =
    ap (λ l. take left (drop skip l)) e ∙ part_more skip left piece others
    ∙ ap (λ (q : List ℕ). q ++ take (left - length q) (drop (skip - length piece) others)) (sym cut)

-- no piece is left
pub nothing_left : (skip left : ℕ) → take {A = ℕ} left (drop skip []) ≡ []
nothing_left skip left = ap (take left) (drop_past skip [] (omega arith)) ∙ take_all left [] (omega arith)
