-- Each step of a queue keeps its rule.
use Rattle.std.proofs.Common.{◌≡◌, ℕ, zero, suc, ◌+◌, List, [], ◌∷◌, ◌++◌, set, sum_by, sym, refl, ap, arith}
use Rattle.std.proofs.lemmas.List.Sums.{sum_by-cons, sum_by-append}
use mathlib.Core.Option.{some, some-injective, some-ne-none}
use lib.ListN.{get_elem?}
use Rattle.crossbeam_queue.specs.Fifo.{Pushes, Pops, Forks}
use Rattle.mailbox.specs.declared.rule.Hand.{Hand}
use Rattle.mailbox.specs.Hands.{hand, IsConserved}

-- a sum over all after a change of one
changed : (f : Hand → ℕ) (l : List Hand) (i : ℕ) (a b : Hand) → get_elem? l i ≡ some a → sum_by f (set l i b) + f a ≡ sum_by f l + f b
changed f [] i a b e = absurd (some-ne-none a (sym e))
changed f (x ∷ l) zero a b e = let p = sum_by-cons f b l in let q = sum_by-cons f x l in let same : f x ≡ f a = ap f (some-injective x a e) in omega arith
changed f (x ∷ l) (suc i) a b e = let p = sum_by-cons f x (set l i b) in let q = sum_by-cons f x l in let r = changed f l i a b e in omega arith

-- and with one more
snoc : {A : Type 0} (f : A → ℕ) (l : List A) (a : A) → sum_by f (l ++ a ∷ []) ≡ sum_by f l + f a
snoc f l a = let p = sum_by-append f l (a ∷ []) in let q = sum_by-cons f a [] in omega arith

abbrev put : (ℕ → ℕ) → Hand → ℕ
put weight v = sum_by weight v.pushed

abbrev got : (ℕ → ℕ) → Hand → ℕ
got weight v = sum_by weight v.popped

pub begins : IsConserved [] (hand [] [] ∷ [])
begins weight = refl

pub forks : (pass : ℕ) (v : Hand) → Forks IsConserved pass v v (hand [] [])
forks pass v left hands holds at weight =
    let was = holds weight in let p = changed (put weight) hands pass v v at in let q = changed (got weight) hands pass v v at in
    let r = snoc (put weight) (set hands pass v) (hand [] []) in let s = snoc (got weight) (set hands pass v) (hand [] []) in omega arith

pub pushes : (n pass : ℕ) (v : Hand) (x : ℕ) → Pushes IsConserved n pass v x (λ w. w ≡ hand (v.pushed ++ x ∷ []) v.popped)
pushes n pass v x left hands room holds at = let w = hand (v.pushed ++ x ∷ []) v.popped in (
  w,
  (λ weight.
      let was = holds weight in let p = changed (put weight) hands pass v w at in let q = changed (got weight) hands pass v w at in
      let r = snoc weight v.pushed x in let s = snoc weight left x in omega arith),
  refl,
)

pub pops : (pass : ℕ) (v : Hand) → Pops IsConserved pass v (λ x w. w ≡ hand v.pushed (v.popped ++ x ∷ []))
pops pass v x left hands holds at = let w = hand v.pushed (v.popped ++ x ∷ []) in (
  w,
  (λ weight.
      let was = holds weight in let p = changed (put weight) hands pass v w at in let q = changed (got weight) hands pass v w at in
      let r = snoc weight v.popped x in let s = sum_by-cons weight x left in omega arith),
  refl,
)
