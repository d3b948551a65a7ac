-- The list on which a span stands.
use Rattle.std.proofs.Common.{◌≡◌, ◌≢◌, ℕ, ◌≤◌, inl, inr, cond, List, [], ◌∷◌, slice_get, Option, Some, None, refl, sym, ap, subst, ◌∙◌, arith}
use Rattle.std.proofs.lemmas.Bool.Decides.{eqb_tells}
use Rattle.common_lemmas.specs.Lists.{times}
use Rattle.common_lemmas.proofs.Counts.{times_here}
use Rattle.common_lemmas.proofs.Options.{some_is}
use Rattle.small_pools.specs.inside.Tables.{list_of, stands_on}

pub stands_same : (k : ℕ) → stands_on (Some k) k ≡ 1
stands_same k = elim (eqb_tells k k) [ inl e ↦ ap (λ x. cond {A = ℕ} x 1 0) e.0 | inr e ↦ absurd (e.1 refl) ]

pub stands_other : (k j : ℕ) → k ≢ j → stands_on (Some k) j ≡ 0
stands_other k j n = elim (eqb_tells k j) [ inl e ↦ absurd (n e.1) | inr e ↦ ap (λ x. cond {A = ℕ} x 1 0) e.0 ]

pub on_list : (o : Option ℕ) (k : ℕ) → 1 ≤ stands_on o k → o ≡ Some k
on_list None k h = absurd (omega arith)
on_list (Some j) k h = elim (eqb_tells j k) [
  | inl e ↦ ap (λ z. Some z) e.1
  | inr e ↦ absurd (let z : stands_on (Some j) k ≡ 0 = stands_other j k e.1 in omega (arith, z, h))
]

pub list_of_full : (c : ℕ) → list_of (Some c) 0 ≡ None
list_of_full c = refl

pub list_of_room : (c m : ℕ) → m ≢ 0 → list_of (Some c) m ≡ Some c
list_of_room c m n = elim (eqb_tells m 0) [ inl e ↦ absurd (n e.1) | inr e ↦ ap (λ x. cond x None (Some c)) e.0 ]

-- a span on the list of a class is of it, and has a free slot
pub of_list : (o : Option ℕ) (m c : ℕ) → list_of o m ≡ Some c → (o ≡ Some c) × (m ≢ 0)
of_list None m c e = absurd (let clash : None ≡ Some c = e in cc)
of_list (Some d) m c e = elim (eqb_tells m 0) [
  | inl z ↦ absurd (let full : list_of (Some d) m ≡ None = ap (λ x. cond x None (Some d)) z.0 in let clash : None ≡ Some c = sym full ∙ e in cc)
  | inr z ↦ (sym (list_of_room d m z.1) ∙ e, z.1)
]

pub held_of_front : (xs : List ℕ) (x : ℕ) → slice_get xs 0 ≡ Some x → 1 ≤ times x xs
held_of_front [] x e = absurd (let clash : None ≡ Some x = e in cc)
held_of_front (y ∷ ys) x e = (let same : y ≡ x = some_is refl e in subst (λ z. 1 ≤ times x (z ∷ ys)) (sym same) (let t = times_here x ys in omega (arith, t)))

pub none_of_front : (xs : List ℕ) (x : ℕ) → slice_get xs 0 ≡ None → times x xs ≡ 0
none_of_front [] x e = refl
none_of_front (y ∷ ys) x e = absurd (let clash : Some y ≡ None = e in cc)
