-- The index that a link of a ring leads to.
use Rattle.std.proofs.Common.{◌≡◌, ◌≢◌, ℕ, ◌+◌, ◌-◌, ◌<◌, ◌≤◌, ◌⊎◌, inl, inr, cond, Some, None, eq-eqb, ap, ◌∙◌, arith}
use Rattle.std.proofs.lemmas.Bool.{ne_eqb}
use Rattle.index_lists.specs.inside.Links.{leads_to, number_of}
use Rattle.index_lists.proofs.InMemory.{number_list, place_is_list, place_is_index}

pub leads_end : (s x : ℕ) → x ≡ s → leads_to s x ≡ None
leads_end s x e = ap (λ b. cond b None (Some x)) (eq-eqb x s e)

pub leads_on : (s x : ℕ) → x ≢ s → leads_to s x ≡ Some x
leads_on s x n = ap (λ b. cond b None (Some x)) (ne_eqb x s n)

-- the place of a list, and that of an index
pub at_list : (m n p k : ℕ) → k < m → p ≡ k → leads_to (n + k) (number_of m n p) ≡ None
at_list m n p k low e = leads_end (n + k) _ (ap (number_of m n) e ∙ number_list m n k low)

pub at_index : (m n p k : ℕ) → k < m → p ≢ k → (number_of m n p < n) ⊎ (number_of m n p ≡ n + k) → (m ≤ p) × (leads_to (n + k) (number_of m n p) ≡ Some (p - m))
at_index m n p k low d (inr e) = absurd (d (place_is_list m n p k low e))
at_index m n p k low d (inl l) = (let i = place_is_index m n p l in (i.0, leads_on (n + k) _ (λ e. absurd (omega (arith, e, l))) ∙ ap (λ z. Some z) i.2))
