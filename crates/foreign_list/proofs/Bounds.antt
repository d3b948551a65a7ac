-- A list of numbers below n that has each at most once is no longer than n.
use Rattle.std.proofs.Common.{◌≡◌, ℕ, zero, suc, ◌+◌, ◌<◌, ◌≤◌, List, [], ◌∷◌, length, refl, ◌∙◌, arith}
use mathlib.Core.Logic.{dite}
use Rattle.layout.specs.Sizes as sizes
use native.Mathlib.Decide.{ℕ_discrete}
use Rattle.foreign_list.specs.declared.views.Ledger.{Ledger}
use Rattle.foreign_list.specs.declared.views.View.{View}
use Rattle.foreign_list.specs.inside.Words.{same, times}
use Rattle.foreign_list.specs.inside.Places.{IsOnce}
use Rattle.foreign_list.proofs.Chains.{same_here, same_is, same_not}
use Rattle.foreign_list.proofs.Once.{most, below}

-- the sum of f over the numbers below n
sum_below : (ℕ → ℕ) → ℕ → ℕ
sum_below f zero = 0
sum_below f (suc n) = f n + sum_below f n

sum_add : (f g : ℕ → ℕ) (n : ℕ) → sum_below (λ t. f t + g t) n ≡ sum_below f n + sum_below g n
unfolding sum_below
sum_add f g zero = omega arith
sum_add f g (suc n) = let r = sum_add f g n in omega arith

sum_most : (f : ℕ → ℕ) (n : ℕ) → ((t : ℕ) → f t ≤ 1) → sum_below f n ≤ n
unfolding sum_below
sum_most f zero h = omega arith
sum_most f (suc n) h = let r = sum_most f n h in let a = h n in omega arith

sum_none : (f : ℕ → ℕ) (n : ℕ) → ((t : ℕ) → t < n → f t ≡ 0) → sum_below f n ≡ 0
unfolding sum_below
sum_none f zero h = refl
sum_none f (suc n) h = let r = sum_none f n (λ t l. h t (omega arith)) in let a = h n (omega arith) in omega arith

sum_same : (n u : ℕ) → u < n → sum_below (λ t. same t u) n ≡ 1
unfolding sum_below
sum_same zero u h = absurd (omega arith)
sum_same (suc n) u h = dite (ℕ_discrete n u)
    (λ e. let a = same_is n u e in let r = sum_none (λ t. same t u) n (λ t l. same_not t u (λ d. omega arith)) in omega arith)
    (λ d. let a = same_not n u d in let r = sum_same n u (omega arith) in omega arith)

sum_times : (n : ℕ) (xs : List ℕ) → ((t : ℕ) → 0 < times t xs → t < n) → sum_below (λ t. times t xs) n ≡ length xs
sum_times n [] h = sum_none (λ t. times t []) n (λ t l. refl)
sum_times n (x ∷ xs) h = let one = sum_same n x (h x (let s = same_here x in omega arith)) in let rest = sum_times n xs (λ t p. h t (omega arith)) in
    sum_add (λ t. same t x) (λ t. times t xs) n ∙ (omega arith)

pub short : (n : ℕ) (xs : List ℕ) → ((t : ℕ) → times t xs ≤ 1) → ((t : ℕ) → 0 < times t xs → t < n) → length xs ≤ n
short n xs once low = let a = sum_times n xs low in let b = sum_most (λ t. times t xs) n once in omega arith

module _ (ledger : Ledger) (listed : List ℕ) (views : List View) (once : IsOnce ledger listed views) where
  pub list_short : length listed ≤ sizes.tickets
  list_short = short sizes.tickets listed (λ t. let m = most ledger listed views once t in omega arith) (λ t p. below ledger listed views once t (omega arith))

  pub walk_short : length ledger.walk ≤ sizes.tickets
  walk_short = short sizes.tickets ledger.walk (λ t. let m = most ledger listed views once t in omega arith) (λ t p. below ledger listed views once t (omega arith))
