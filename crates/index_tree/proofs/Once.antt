-- A place that is in a list once, by how often it is there and by where it stands.
use Rattle.std.proofs.Common.{◌≡◌, ℕ, zero, suc, ◌≤◌, inl, inr, List, [], ◌∷◌, Some, refl, sym, ap, subst, arith}
use Rattle.std.specs.List.{slice_get}
use Rattle.regions.specs.declared.place.Place.{Place}
use Rattle.index_tree.specs.Inserts.{times}
use Rattle.index_tree.proofs.Lists.{AreApart}
use Rattle.place_lemmas.proofs.Places.{place_tells, some_is, some_none}
use Rattle.index_tree.proofs.InsertRows.{times_here, times_own, times_past}

pub times_at : (p : Place) (xs : List Place) (i : ℕ) → slice_get xs i ≡ Some p → 1 ≤ times p xs
times_at p [] i at = some_none at refl
times_at p (x ∷ xs) zero at = subst (λ q. 1 ≤ times p (q ∷ xs)) (sym (some_is at)) (times_here p xs)
times_at p (x ∷ xs) (suc i) at = let more = times_at p xs i at in omega (arith, more)

pub stands_at : (p : Place) (xs : List Place) → 1 ≤ times p xs → (i : ℕ) × (slice_get xs i ≡ Some p)
stands_at p [] some = absurd (omega (arith, some))
stands_at p (x ∷ xs) some = elim (place_tells p x) [
  | inl h ↦ (0, ap (λ q. Some q) (sym h.1))
  | inr h ↦
      (let same = times_past p x xs h.1 in
      let there = stands_at p xs (omega (arith, same, some)) in
      (suc there.0, there.1))
]

pub once_of_apart : (xs : List Place) → AreApart xs → (p : Place) → times p xs ≤ 1
once_of_apart [] apart p = omega arith
once_of_apart (x ∷ xs) apart p =
    let rest = once_of_apart xs (λ i j q at_i at_j. (let e : suc i ≡ suc j = apart (suc i) (suc j) q at_i at_j in omega (arith, e))) p in
    elim (place_tells p x) [
      | inl h ↦
          (let none : times p xs ≡ 0 = absent (times p xs) refl h.1 in
          let same : times p (x ∷ xs) ≡ suc (times p xs) = subst (λ q. times p (q ∷ xs) ≡ suc (times p xs)) h.1 (times_own p xs) in
          omega (arith, none, same))
      | inr h ↦ (let same = times_past p x xs h.1 in omega (arith, same, rest))
    ]
  where
    absent : (n : ℕ) → times p xs ≡ n → p ≡ x → times p xs ≡ 0
    absent zero is here = is
    absent (suc n) is here =
        let there = stands_at p xs (omega (arith, is)) in
        absurd (let e : 0 ≡ suc there.0 = apart 0 (suc there.0) p (ap (λ q. Some q) (sym here)) there.1 in omega (arith, e))

pub apart_of_once : (xs : List Place) → ((p : Place) → times p xs ≤ 1) → AreApart xs
apart_of_once [] once i j p at_i at_j = some_none at_i refl
apart_of_once (x ∷ xs) once zero zero p at_i at_j = refl
apart_of_once (x ∷ xs) once zero (suc j) p at_i at_j =
    let low = once p in let more = times_at p xs j at_j in
    let own : times p (x ∷ xs) ≡ suc (times p xs) = subst (λ q. times p (q ∷ xs) ≡ suc (times p xs)) (sym (some_is at_i)) (times_own p xs) in
    absurd (omega (arith, low, more, own))
apart_of_once (x ∷ xs) once (suc i) zero p at_i at_j =
    let low = once p in let more = times_at p xs i at_i in
    let own : times p (x ∷ xs) ≡ suc (times p xs) = subst (λ q. times p (q ∷ xs) ≡ suc (times p xs)) (sym (some_is at_j)) (times_own p xs) in
    absurd (omega (arith, low, more, own))
apart_of_once (x ∷ xs) once (suc i) (suc j) p at_i at_j =
    let e = apart_of_once xs (λ q. (let low = once q in omega (arith, low))) i j p at_i at_j in omega (arith, e)
