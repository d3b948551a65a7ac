-- How often a list has a number.
use Rattle.std.proofs.Common.{◌≡◌, ◌≢◌, ℕ, zero, suc, ◌+◌, ◌≤◌, inl, inr, Bool, true, false, List, [], ◌∷◌, length, map, filter, cond, eqb, IsPermutation, refl, sym, ap, subst, ◌∙◌, arith}
use Rattle.std.specs.Prelude.{All}
use Rattle.std.proofs.lemmas.Bool.Decides.{nat_tests, eqb_tells}
use Rattle.std.proofs.lemmas.Bool.{cases_eq}
use Rattle.std.proofs.lemmas.List.Elements.{All-nil, All-cons}
use Rattle.std.proofs.lemmas.List.Sorted.{IsPermutation-refl, IsPermutation-cons, IsPermutation-swap, IsPermutation-trans}
use Rattle.common_lemmas.specs.Lists.{times, delete}

pub absent_cons : (i x : ℕ) (xs : List ℕ) → times i (x ∷ xs) ≡ 0 → (x ≢ i) × (times i xs ≡ 0)
absent_cons i x xs h = grind (arith, nat_tests)

pub times_here : (x : ℕ) (xs : List ℕ) → times x (x ∷ xs) ≡ 1 + times x xs
times_here x xs = grind (arith, nat_tests)

pub times_there : (x y : ℕ) (xs : List ℕ) → y ≢ x → times x (y ∷ xs) ≡ times x xs
times_there x y xs h = grind (arith, nat_tests)

pub times_cons_le : (x y : ℕ) (xs : List ℕ) → times x xs ≤ times x (y ∷ xs)
times_cons_le x y xs = grind (arith, nat_tests)

-- what holds of each number that some things have holds of all of them
pub all_numbered : {X : Type 0} (number : X → ℕ) (P : ℕ → Type 0) (xs : List X) → ((n : ℕ) → 1 ≤ times n (map number xs) → P n) → All (λ x. P (number x)) xs
all_numbered number P [] is = All-nil (λ x. P (number x))
all_numbered number P (x ∷ xs) is =
    All-cons (λ x. P (number x)) x xs (is (number x) (let h = times_here (number x) (map number xs) in omega (arith, h)))
    (all_numbered number P xs (λ n h. is n (let more = times_cons_le n (number x) (map number xs) in omega (arith, more, h))))

pub delete_here : (x : ℕ) (xs : List ℕ) → delete x (x ∷ xs) ≡ xs
delete_here x xs = elim (eqb_tells x x) [ inl h ↦ ap (λ b. cond b xs (x ∷ delete x xs)) h.0 | inr h ↦ absurd (h.1 refl) ]

pub delete_there : (x y : ℕ) (xs : List ℕ) → y ≢ x → delete x (y ∷ xs) ≡ y ∷ delete x xs
delete_there x y xs h = elim (eqb_tells y x) [ inl e ↦ absurd (h e.1) | inr e ↦ ap (λ b. cond b xs (y ∷ delete x xs)) e.0 ]

pub times-delete_same : (x : ℕ) (xs : List ℕ) → 1 ≤ times x xs → times x (delete x xs) + 1 ≡ times x xs
times-delete_same x [] h = absurd (omega arith)
times-delete_same x (y ∷ ys) h =
    elim (cases_eq y x) [
      | inl e ↦ subst (λ z. times x (delete x (z ∷ ys)) + 1 ≡ times x (z ∷ ys)) (sym e) (rw (delete_here x ys, times_here x ys) (omega arith))
      | inr n ↦ rw (delete_there x y ys n, times_there x y ys n, times_there x y (delete x ys) n) (times-delete_same x ys (subst (λ t. 1 ≤ t) (times_there x y ys n) h))
    ]

pub times-delete_other : (x y : ℕ) (xs : List ℕ) → x ≢ y → times x (delete y xs) ≡ times x xs
times-delete_other x y [] h = refl
times-delete_other x y (z ∷ zs) h =
    elim (cases_eq z y) [
      | inl e ↦ subst (λ w. times x (delete y (w ∷ zs)) ≡ times x (w ∷ zs)) (sym e) (rw (delete_here y zs) (sym (times_there x y zs (λ q. h (sym q)))))
      | inr n ↦ rw (delete_there y z zs n) (ap (λ t. cond (eqb z x) 1 0 + t) (times-delete_other x y zs h))
    ]

pub length-delete : (x : ℕ) (xs : List ℕ) → 1 ≤ times x xs → length (delete x xs) + 1 ≡ length xs
length-delete x [] h = absurd (omega arith)
length-delete x (y ∷ ys) h =
    elim (cases_eq y x) [
      | inl e ↦ subst (λ z. length (delete x (z ∷ ys)) + 1 ≡ length (z ∷ ys)) (sym e) (rw (delete_here x ys) (omega arith))
      | inr n ↦ rw (delete_there x y ys n) (let ih = length-delete x ys (subst (λ t. 1 ≤ t) (times_there x y ys n) h) in omega (arith, ih))
    ]

delete_absent : (x : ℕ) (xs : List ℕ) → times x xs ≡ 0 → length xs ≤ length (delete x xs)
delete_absent x [] h = omega arith
delete_absent x (y ∷ ys) h =
    let a = absent_cons x y ys h in
    rw (delete_there x y ys a.0) (let ih = delete_absent x ys a.1 in omega (arith, ih))

-- places below a number that stand once in a list are no more than the number
pub length_below : (n : ℕ) (xs : List ℕ) → ((x : ℕ) → times x xs ≤ 1) → ((x : ℕ) → n ≤ x → times x xs ≡ 0) → length xs ≤ n
length_below zero [] once below = omega arith
length_below zero (x ∷ xs) once below = absurd (let h = times_here x xs in let b = below x (omega arith) in omega (arith, h, b))
length_below (suc n) xs once below =
    elim (cases_eq (times n xs) 0) [
      | inl e ↦ (let short = length_below n xs once (λ x h. elim (cases_eq x n) [ inl q ↦ subst (λ z. times z xs ≡ 0) (sym q) e | inr q ↦ below x (omega arith) ]) in omega (arith, short))
      | inr e ↦
          (let here : 1 ≤ times n xs = omega arith in
          let less : (x : ℕ) → times x (delete n xs) ≤ times x
          xs = (λ x. elim (cases_eq x n) [ inl q ↦ subst (λ z. times z (delete n xs) ≤ times z xs) (sym q) (let s = times-delete_same n xs here in omega (arith, s)) | inr q ↦ (let o = times-delete_other x n xs q in omega (arith, o)) ]) in
          let short = length_below n (delete n xs) (λ x. (let o = once x in let l = less x in omega (arith, o, l)))
          (λ x h. elim (cases_eq x n) [
            | inl q ↦ subst (λ z. times z (delete n xs) ≡ 0) (sym q) (let s = times-delete_same n xs here in let o = once n in omega (arith, s, o))
            | inr q ↦ times-delete_other x n xs q ∙ below x (omega arith)
          ]) in
          let l = length-delete n xs here in
          omega (arith, short, l))
    ]

-- ---- lists that have each number as often

times-filter : (p : ℕ → Bool) (x : ℕ) (xs : List ℕ) → times x (filter p xs) ≡ cond (p x) (times x xs) 0
times-filter p x [] = go (p x)
  where
    go : (b : Bool) → times x [] ≡ cond b (times x []) 0
    go true = refl
    go false = refl
times-filter p x (y ∷ ys) =
    elim (cases_eq y x) [
      | inl e ↦ subst (λ z. times x (filter p (z ∷ ys)) ≡ cond (p x) (times x (z ∷ ys)) 0) (sym e) (here (p x) (times-filter p x ys))
      | inr n ↦ rw (times_there x y ys n) (there n (p y) (times-filter p x ys))
    ]
  where
    here : (b : Bool) → times x (filter p ys) ≡ cond b (times x ys) 0 → times x (cond b (x ∷ filter p ys) (filter p ys)) ≡ cond b (times x (x ∷ ys)) 0
    here true ih = times_here x (filter p ys) ∙ (ap (λ k. 1 + k) ih ∙ sym (times_here x ys))
    here false ih = ih

    there : y ≢ x → (b : Bool) → times x (filter p ys) ≡ cond (p x) (times x ys) 0 → times x (cond b (y ∷ filter p ys) (filter p ys)) ≡ cond (p x) (times x ys) 0
    there n true ih = times_there x y (filter p ys) n ∙ ih
    there n false ih = ih

-- those that pass a test are there as often too
pub same-filter : (p : ℕ → Bool) (xs ys : List ℕ) → ((x : ℕ) → times x ys ≡ times x xs) → (x : ℕ) → times x (filter p ys) ≡ times x (filter p xs)
same-filter p xs ys same x = times-filter p x ys ∙ (ap (λ k. cond (p x) k 0) (same x) ∙ sym (times-filter p x xs))

from_front : (x : ℕ) (xs : List ℕ) → 1 ≤ times x xs → IsPermutation (x ∷ delete x xs) xs
from_front x [] h = absurd (omega arith)
from_front x (y ∷ ys) h =
    elim (cases_eq y x) [
      | inl e ↦ subst (λ z. IsPermutation (x ∷ delete x (z ∷ ys)) (z ∷ ys)) (sym e) (rw (delete_here x ys) (IsPermutation-refl (x ∷ ys)))
      | inr n ↦
          (let swapped = IsPermutation-swap (x ∷ y ∷ delete x ys) (y ∷ x ∷ delete x ys) 0 1 (omega arith) (omega arith) refl in
          let behind = IsPermutation-cons y (x ∷ delete x ys) ys (from_front x ys (subst (λ t. 1 ≤ t) (times_there x y ys n) h)) in
          rw (delete_there x y ys n) (IsPermutation-trans (x ∷ y ∷ delete x ys) (y ∷ x ∷ delete x ys) (y ∷ ys) swapped behind))
    ]

-- one is the other in some order
pub same-permutation : (xs ys : List ℕ) → ((x : ℕ) → times x ys ≡ times x xs) → IsPermutation xs ys
same-permutation [] [] same = IsPermutation-refl []
same-permutation [] (y ∷ ys) same = absurd (let here = times_here y ys in let none = same y in omega (arith, here, none))
same-permutation (x ∷ xs) ys same =
    let first = times_here x xs in
    let there : 1 ≤ times x ys = (let s = same x in omega (arith, s, first)) in
    let others : (z : ℕ) → times z (delete x ys) ≡ times z xs =
    λ z. elim (cases_eq z x) [
      | inl e ↦ subst (λ y. times y (delete x ys) ≡ times y xs) (sym e) (let s = same x in let d = times-delete_same x ys there in omega (arith, s, d, first))
      | inr n ↦ times-delete_other z x ys n ∙ (same z ∙ times_there z x xs (λ e. n (sym e)))
    ] in
    IsPermutation-trans (x ∷ xs) (x ∷ delete x ys) ys (IsPermutation-cons x xs (delete x ys) (same-permutation xs (delete x ys) others)) (from_front x ys there)
