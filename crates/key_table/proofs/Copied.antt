-- Rows that are put into slots of which each is empty at first.
use Rattle.std.proofs.Common.{◌≡◌, ◌≢◌, ℕ, zero, suc, ◌+◌, ◌-◌, ◌<◌, ◌≤◌, List, [], ◌∷◌, length, take, replicate, cond, refl, sym, ap, subst, ◌∙◌, arith}
use Rattle.std.proofs.lemmas.List.{length-replicate, length-map}
use Rattle.std.proofs.lemmas.List.Sums.{sum_by_more, sum_by-take-le, length-filter}
use Rattle.std.proofs.lemmas.List.Sorted.{length_permutation}
use Rattle.common_lemmas.proofs.Counts.{same-permutation}
use Rattle.common_lemmas.specs.Lists.{times}
use Rattle.key_table.specs.declared.entries.RowAt.{RowAt}
use Rattle.key_table.specs.Table.{rows_of, reach, AreSame}
use Rattle.key_table.specs.inside.Slots.{nothing, slot_at, holds, held, IsHeld, AreProbed, Within}
use Rattle.key_table.proofs.Held.{weight, weight_none, weight_some, times_held}

slot_at_empty : (n k : ℕ) → slot_at (replicate n nothing) k ≡ nothing
slot_at_empty zero zero = refl
slot_at_empty zero (suc k) = refl
slot_at_empty (suc n) zero = refl
slot_at_empty (suc n) (suc k) = slot_at_empty n k

pub held_empty : (n : ℕ) → held (replicate n nothing) ≡ []
held_empty zero = refl
held_empty (suc n) = held_empty n

pub none_held : (n k : ℕ) → IsHeld (replicate n nothing) k → ⊥
none_held n k is = is (ap (λ (s : RowAt). s.row) (slot_at_empty n k))

pub probed_empty : (mask n : ℕ) → mask + 1 + reach ≤ n → AreProbed mask (replicate n nothing)
probed_empty mask n more = record {
  some = subst (λ m. mask + 1 + reach ≤ m) (sym (length-replicate n nothing)) more;
  gaps = λ k. record { at = k; behind = omega arith; before = omega arith; vacant = ap (λ (s : RowAt). s.row) (slot_at_empty n k) };
  last = ap (λ (s : RowAt). s.row) (slot_at_empty n (length (replicate n nothing) - 1));
  behind = λ j h. absurd (none_held n j h);
  between = λ j k h low below. absurd (none_held n j h);
}

pub same_size : (xs ys : List ℕ) → AreSame xs ys → length xs ≡ length ys
same_size xs ys same = sym (length_permutation xs ys (same-permutation xs ys (λ n. sym (same n))))

pub length-rows : (kept : List RowAt) → length (rows_of kept) ≡ length kept
length-rows kept = length-map kept (λ (s : RowAt). s.row)

pub same_length : (xs ys : List RowAt) → AreSame (rows_of xs) (rows_of ys) → length xs ≡ length ys
same_length xs ys same = sym (length-rows xs) ∙ same_size (rows_of xs) (rows_of ys) same ∙ length-rows ys

pub one_more : (xs ys : List RowAt) (row : ℕ) → AreSame (rows_of xs) (row ∷ rows_of ys) → length xs ≡ length ys + 1
one_more xs ys row same =
    let sizes = same_size (rows_of xs) (row ∷ rows_of ys) same in
    let first = length-rows xs in
    let second = length-rows ys in
    omega (arith, sizes, first, second)

-- no more are held in the first slots than in all
pub fewer_held : (slots : List RowAt) (at : ℕ) → length (held (take at slots)) ≤ length (held slots)
fewer_held slots at =
    let part = sum_by-take-le (λ x. cond (holds x) 1 0) slots at in
    let some = length-filter holds (take at slots) in
    let all = length-filter holds slots in
    omega (arith, part, some, all)

times_more : (n : ℕ) (slots : List RowAt) (at : ℕ) → at < length slots → times n (rows_of (held (take (at + 1) slots))) ≡ times n (rows_of (held (take at slots))) + weight n (slot_at slots at)
times_more n slots at inside = times_held n (take (at + 1) slots) ∙ sum_by_more (weight n) slots at nothing inside ∙ ap (λ k. k + weight n (slot_at slots at)) (sym (times_held n (take at slots)))

pub rows_more : (from before after : List RowAt) (at : ℕ) (slot : RowAt) → at < length from → slot ≡ slot_at from at → slot.row ≢ 4294967295
    → AreSame (rows_of (held (take at from))) (rows_of (held before)) → AreSame (slot.row ∷ rows_of (held before)) (rows_of (held after))
    → AreSame (rows_of (held (take (at + 1) from))) (rows_of (held after))
rows_more from before after at slot inside is some same put n =
    let more = times_more n from at inside in
    let one = weight_some n slot some in
    let here : weight n slot ≡ weight n (slot_at from at) = ap (weight n) is in
    let s = same n in
    let p = put n in
    omega (arith, more, one, here, s, p)

pub rows_none : (from before : List RowAt) (at : ℕ) (slot : RowAt) → at < length from → slot ≡ slot_at from at → slot.row ≡ 4294967295
    → AreSame (rows_of (held (take at from))) (rows_of (held before)) → AreSame (rows_of (held (take (at + 1) from))) (rows_of (held before))
rows_none from before at slot inside is none same n =
    let more = times_more n from at inside in
    let no = weight_none n slot none in
    let here : weight n slot ≡ weight n (slot_at from at) = ap (weight n) is in
    let s = same n in
    omega (arith, more, no, here, s)

pub within_more : (from before after : List RowAt) (at : ℕ) (slot : RowAt) → slot ≡ slot_at from at → Within from before → Within (slot ∷ before) after → Within from after
within_more from before after at slot is inside put k h = go (put k h).0 (put k h).1
  where
    go : (j : ℕ) → slot_at (slot ∷ before) j ≡ slot_at after k → (j : ℕ) × (slot_at from j ≡ slot_at after k)
    go zero e = (at, sym is ∙ e)
    go (suc j) e = let f = inside j (subst (λ (s : RowAt). s.row ≢ 4294967295) (sym e) h) in (f.0, f.1 ∙ e)
