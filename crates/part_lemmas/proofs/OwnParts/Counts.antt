-- Counts over the first of a list.
use Rattle.std.proofs.Common.{◌≡◌, ◌≢◌, ℕ, zero, suc, ◌+◌, ◌<◌, ◌≤◌, Bool, cond, List, [], ◌∷◌, length, take, drop, count_by, inl, inr, arith, refl}
use Rattle.std.proofs.lemmas.Bool.{cases_lt}
use Rattle.std.proofs.lemmas.List.Sums.{sum_by-cons}

pub counts_more : {X : Type 0} (p : X → Bool) (xs : List X) (m n : ℕ) → m ≤ n → count_by p (take m xs) ≤ count_by p (take n xs)
counts_more p xs zero n less = omega arith
counts_more p [] (suc m) zero less = absurd (omega (arith, less))
counts_more p [] (suc m) (suc n) less = omega arith
counts_more p (x ∷ xs) (suc m) zero less = absurd (omega (arith, less))
counts_more p (x ∷ xs) (suc m) (suc n) less =
    let rest = counts_more p xs m n (omega (arith, less)) in
    let a = sum_by-cons (λ y. cond (p y) 1 0) x (take m xs) in
    let b = sum_by-cons (λ y. cond (p y) 1 0) x (take n xs) in
    omega (arith, rest, a, b)

-- where more are counted, the front is longer
pub longer_front : {X : Type 0} (p : X → Bool) (xs : List X) (m n : ℕ) → count_by p (take m xs) < count_by p (take n xs) → m < n
longer_front p xs m n more = elim (cases_lt m n) [
  | inl less ↦ less
  | inr not ↦ absurd (let e = counts_more p xs n m not in omega (arith, e, more))
]

pub some_dropped : {X : Type 0} (xs : List X) → xs ≢ [] → length (drop 1 xs) + 1 ≡ length xs
some_dropped [] some = absurd (some refl)
some_dropped (x ∷ xs) some = omega arith
