use Rattle.std.proofs.Common.{◌≡◌, ℕ, List, ◌∷◌, None, is_some, refl, sym, subst, ap, ◌∙◌, inl, inr}
use Rattle.std.proofs.lemmas.Bool.{cases_eq}
use Rattle.std.specs.Ordering.{nat_cmp}
use Rattle.std.specs.FinMap as map
use Rattle.common_lemmas.proofs.Maps.{maps_same, get_inserted, get_past_insert, get_removed, get_past_remove}
use Rattle.memory_tests.specs.Given.{AreAllocated}
use Rattle.memory_tests.proofs.small_pools_tests.take_many.Goals as goal

allocated_more : (m m' : map.FinMap nat_cmp ℕ) (p n : ℕ) (xs ys : List ℕ) → map.get m p ≡ None → m' ≡ map.insert m p n → ys ≡ p ∷ xs → AreAllocated m xs → AreAllocated m' ys
allocated_more m m' p n xs ys none e l h =
    let same : map.remove (map.insert m p n) p ≡ m = maps_same _ _ (λ q. elim (cases_eq q p) [
      | inl qp ↦ get_removed _ p q qp ∙ sym none ∙ ap (map.get m) (sym qp)
      | inr d ↦ get_past_remove _ p q d ∙ get_past_insert m p n q d
    ]) in
    subst (AreAllocated m') (sym l) (subst (λ k. AreAllocated k (p ∷ xs)) (sym e) (ap is_some (get_inserted m p n p refl), subst (λ k. AreAllocated k xs) (sym same) h))

pub loop-count-preserved : goal.loop-count-preserved
loop-count-preserved c = (c.take.ensures.held, allocated_more _ _ c.in-Some.place _ _ _ c.in-Some.ensures.was_free c.in-Some.ensures.allocated c.in_ok-push_front.ensures.items c.loop-count.invariant.1)
