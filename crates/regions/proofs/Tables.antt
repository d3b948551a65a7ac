-- Tables of segments.
use Rattle.std.proofs.Common.{◌≡◌, ℕ, zero, suc, ◌+◌, ◌<◌, Bool, true, false, cond, List, [], ◌∷◌, length, refl, sym, ap, ◌∙◌, arith, get_or}
use Rattle.std.specs.List.{count_by}
use Rattle.std.proofs.lemmas.List.Sums.{sum_by-cons}

-- where no element passes, none is counted
pub count-none : {X : Type 0} (p : X → Bool) (xs : List X) (d : X) → ((m : ℕ) → m < length xs → p (get_or xs m d) ≡ false) → count_by p xs ≡ 0
count-none p [] d none = refl
count-none p (x ∷ xs) d none =
    let first : p x ≡ false = none 0 (omega arith) in
    let rest = count-none p xs d (λ m w. none (suc m) (omega (arith, w))) in sum_by-cons (λ y. cond (p y) 1 0) x xs ∙ ap (λ b. cond b 1 0 + count_by p xs) first ∙ ap (λ n. 0 + n) rest

pub count-all : {X : Type 0} (p : X → Bool) (xs : List X) (d : X) → ((m : ℕ) → m < length xs → p (get_or xs m d) ≡ true) → count_by p xs ≡ length xs
count-all p [] d all = refl
count-all p (x ∷ xs) d all =
    let first : p x ≡ true = all 0 (omega arith) in
    let rest = count-all p xs d (λ m w. all (suc m) (omega (arith, w))) in
    let more : count_by p (x ∷ xs) ≡ 1 + count_by p xs = sum_by-cons (λ y. cond (p y) 1 0) x xs ∙ ap (λ b. cond b 1 0 + count_by p xs) first in omega (arith, more, rest)

-- what is found in the table, whatever is said of places outside
pub slot-is : {X : Type 0} (xs : List X) (n : ℕ) (x d : X) → n < length xs → x ≡ get_or xs n x → get_or xs n d ≡ x
slot-is [] n x d inside e = absurd (omega (arith, inside))
slot-is (y ∷ ys) zero x d inside e = sym e
slot-is (y ∷ ys) (suc n) x d inside e = slot-is ys n x d (omega (arith, inside)) e
