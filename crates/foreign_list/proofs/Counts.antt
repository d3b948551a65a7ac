-- Sums over a list of views, and what has_slot of each view, after one of them changes.
use Rattle.std.proofs.Common.{◌≡◌, ◌≢◌, ℕ, zero, suc, ◌+◌, ◌≤◌, List, [], ◌∷◌, ◌++◌, set, sum_by, sym, refl, ap, subst, ⊎_elim, arith}
use Rattle.std.proofs.lemmas.List.Sums.{sum_by-cons, sum_by-append}
use mathlib.Core.Option.{some, some-injective, some-ne-none}
use lib.ListN.{get_elem?}
use Rattle.atomic_table.proofs.Lists.{at_set, at_snoc}

module _ {A : Type 0} where
  abbrev pub Each : (ℕ → A → Type 0) → List A → Type 0
  Each F l = (j : ℕ) (a : A) → get_elem? l j ≡ some a → F j a

  pub each_set : (F : ℕ → A → Type 0) (l : List A) (i : ℕ) (w : A) → F i w → ((j : ℕ) (u : A) → j ≢ i → get_elem? l j ≡ some u → F j u) → Each F (set l i w)
  each_set F l i w mine others j u e = ⊎_elim (λ (x : (j ≡ i) × (w ≡ u)). subst (λ (y : ℕ × A). F y.0 y.1) (λ k. (sym x.0 k, x.1 k)) mine)
      (λ (x : (j ≢ i) × (get_elem? l j ≡ some u)). others j u x.0 x.1) (at_set l i j w u e)

  pub each_snoc : (F : ℕ → A → Type 0) (l : List A) (w : A) → ((j : ℕ) → F j w) → Each F l → Each F (l ++ w ∷ [])
  each_snoc F l w last others j u e = ⊎_elim (λ x. others j u x) (λ (is : w ≡ u). subst (F j) is (last j)) (at_snoc l w u j e)

  module _ (f : A → ℕ) where
    pub sum_set : (l : List A) (i : ℕ) (a b : A) → get_elem? l i ≡ some a → sum_by f (set l i b) + f a ≡ sum_by f l + f b
    sum_set [] i a b e = absurd (some-ne-none a (sym e))
    sum_set (x ∷ l) zero a b e = let p = sum_by-cons f b l in let q = sum_by-cons f x l in let same : f x ≡ f a = ap f (some-injective x a e) in omega arith
    sum_set (x ∷ l) (suc i) a b e = let p = sum_by-cons f x (set l i b) in let q = sum_by-cons f x l in let r = sum_set l i a b e in omega arith

    pub sum_at : (l : List A) (i : ℕ) (a : A) → get_elem? l i ≡ some a → f a ≤ sum_by f l
    sum_at [] i a e = absurd (some-ne-none a (sym e))
    sum_at (x ∷ l) zero a e = let q = sum_by-cons f x l in let same : f x ≡ f a = ap f (some-injective x a e) in omega arith
    sum_at (x ∷ l) (suc i) a e = let q = sum_by-cons f x l in let r = sum_at l i a e in omega arith

    pub sum_two : (l : List A) (i j : ℕ) (a b : A) → i ≢ j → get_elem? l i ≡ some a → get_elem? l j ≡ some b → f a + f b ≤ sum_by f l
    sum_two [] i j a b n e h = absurd (some-ne-none a (sym e))
    sum_two (x ∷ l) zero zero a b n e h = absurd (n refl)
    sum_two (x ∷ l) zero (suc j) a b n e h = let q = sum_by-cons f x l in let same : f x ≡ f a = ap f (some-injective x a e) in let r = sum_at l j b h in omega arith
    sum_two (x ∷ l) (suc i) zero a b n e h = let q = sum_by-cons f x l in let same : f x ≡ f b = ap f (some-injective x b h) in let r = sum_at l i a e in omega arith
    sum_two (x ∷ l) (suc i) (suc j) a b n e h = let q = sum_by-cons f x l in let r = sum_two l i j a b (λ k. n (ap suc k)) e h in omega arith

    pub sum_snoc : (l : List A) (a : A) → sum_by f (l ++ a ∷ []) ≡ sum_by f l + f a
    sum_snoc l a = let p = sum_by-append f l (a ∷ []) in let q = sum_by-cons f a [] in omega arith
