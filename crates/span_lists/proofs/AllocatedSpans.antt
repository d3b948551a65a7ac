-- The allocated spans, as a map.
use Rattle.std.proofs.Common.{◌≡◌, ◌≢◌, ℕ, zero, suc, ◌+◌, ◌^◌, ◌<◌, inl, inr, cond, List, [], ◌∷◌, length, set, Some, None, refl, sym, ap, ◌∙◌, arith, get_or-set_other, get_or-set_same}
use Rattle.std.proofs.lemmas.Bool.{cases_eq}
use Rattle.std.proofs.lemmas.List.Sums.{sum_by-cons}
use Rattle.std.proofs.lemmas.Cmp.{nat_cmp_total}
use Rattle.std.specs.Prelude.{sum_by}
use Rattle.std.specs.Ordering.{nat_cmp}
use Rattle.std.specs.FinMap.{get, insert, remove, empty, find, values, from_entries, get-empty, get-from_entries}
use Rattle.common_lemmas.proofs.Maps.{tie_same, tie_apart, get_inserted, get_past_insert, get_removed, get_past_remove, maps_same}
use Rattle.common_lemmas.proofs.Sums.{sum_inserted, sum_of_none}
use Rattle.span_lists.specs.declared.spans.PageState.{PageState}
use Rattle.span_lists.specs.declared.spans.PageState.TheVariants.{Inside, Free, Allocated}
use Rattle.span_lists.specs.inside.Pages.{allocated_of, allocated_entries, allocated_order_of, allocated_pages_of, state_at}

found_here : (p k q : ℕ) (es : List (ℕ × ℕ)) → q ≡ p → find nat_cmp q ((p, k) ∷ es) ≡ Some k
found_here p k q es e = ap (λ b. cond b (Some k) (find nat_cmp q es)) (tie_same q p e)

found_later : (p k q : ℕ) (es : List (ℕ × ℕ)) → q ≢ p → find nat_cmp q ((p, k) ∷ es) ≡ find nat_cmp q es
found_later p k q es n = ap (λ b. cond b (Some k) (find nat_cmp q es)) (tie_apart q p n)

none_before : (q p : ℕ) (states : List PageState) → q < p → find nat_cmp q (allocated_entries p states) ≡ None
none_before q p [] h = refl
none_before q p (Inside ∷ states) h = none_before q (suc p) states (omega arith)
none_before q p (Free k ∷ states) h = none_before q (suc p) states (omega arith)
none_before q p (Allocated k ∷ states) h = found_later p k q _ (λ e. absurd (omega arith)) ∙ none_before q (suc p) states (omega arith)

found_at : (q p i : ℕ) (states : List PageState) → q ≡ p + i → find nat_cmp q (allocated_entries p states) ≡ allocated_order_of (state_at states i)
found_at q p i [] e = refl
found_at q p zero (Inside ∷ states) e = none_before q (suc p) states (omega arith)
found_at q p zero (Free k ∷ states) e = none_before q (suc p) states (omega arith)
found_at q p zero (Allocated k ∷ states) e = found_here p k q _ (omega arith)
found_at q p (suc i) (Inside ∷ states) e = found_at q (suc p) i states (omega arith)
found_at q p (suc i) (Free k ∷ states) e = found_at q (suc p) i states (omega arith)
found_at q p (suc i) (Allocated k ∷ states) e = found_later p k q _ (λ d. absurd (omega arith)) ∙ found_at q (suc p) i states (omega arith)

-- what the map has at a page
pub get-allocated_of : (states : List PageState) (q : ℕ) → get (allocated_of states) q ≡ allocated_order_of (state_at states q)
unfolding allocated_of
get-allocated_of states q = get-from_entries nat_cmp_total (allocated_entries 0 states) q ∙ found_at q 0 q states (omega arith)

-- the sum of its spans' lengths
sum_from : (p : ℕ) (states : List PageState) → sum_by (λ k. 2 ^ k) (values (from_entries {R = nat_cmp} (allocated_entries p states))) ≡ sum_by allocated_pages_of states
sum_from p [] = sum_of_none (λ k. 2 ^ k) empty (get-empty nat_cmp)
sum_from p (Inside ∷ states) = (let rest = sum_from (suc p) states in let one = sum_by-cons allocated_pages_of Inside states in omega (arith, rest, one))
sum_from p (Free k ∷ states) = (let rest = sum_from (suc p) states in let one = sum_by-cons allocated_pages_of (Free k) states in omega (arith, rest, one))
sum_from p (Allocated k ∷ states) =
    let rest = sum_from (suc p) states in
    let one = sum_by-cons allocated_pages_of (Allocated k) states in
    let more = sum_inserted (λ o. 2 ^ o) (from_entries (allocated_entries (suc p) states)) p k (get-from_entries nat_cmp_total (allocated_entries (suc p) states) p ∙ none_before p (suc p) states (omega arith)) in
    omega (arith, rest, one, more)

pub sum_allocated_of : (states : List PageState) → sum_by (λ k. 2 ^ k) (values (allocated_of states)) ≡ sum_by allocated_pages_of states
unfolding allocated_of
sum_allocated_of states = sum_from 0 states

-- ---- states that are written

pub state_same : (states : List PageState) (x y : ℕ) (v : PageState) → x < length states → y ≡ x → state_at (set states x v) y ≡ v
state_same states x y v h e = ap (λ z. state_at (set states x v) z) e ∙ get_or-set_same states x v Inside h

pub state_other : (states : List PageState) (x y : ℕ) (v : PageState) → y ≢ x → state_at (set states x v) y ≡ state_at states y
state_other states x y v n = get_or-set_other states x y v Inside n

-- a span is allocated
pub allocated_with : (states states' : List PageState) (x k : ℕ) → state_at states' x ≡ Allocated k → ((y : ℕ) → y ≢ x → allocated_order_of (state_at states' y) ≡ allocated_order_of (state_at states y)) → allocated_of states' ≡ insert (allocated_of states) x k
allocated_with states states' x k here others = maps_same _ _ (λ q. get-allocated_of states' q ∙
    (elim (cases_eq q x) [
      | inl e ↦ ap (λ z. allocated_order_of (state_at states' z)) e ∙ ap allocated_order_of here ∙ sym (get_inserted (allocated_of states) x k q e)
      | inr n ↦ others q n ∙ sym (get-allocated_of states q) ∙ sym (get_past_insert (allocated_of states) x k q n)
    ]))

-- a span comes back
pub allocated_without : (states states' : List PageState) (x : ℕ) → allocated_order_of (state_at states' x) ≡ None → ((y : ℕ) → y ≢ x → allocated_order_of (state_at states' y) ≡ allocated_order_of (state_at states y)) → allocated_of states' ≡ remove (allocated_of states) x
allocated_without states states' x here others = maps_same _ _ (λ q. get-allocated_of states' q ∙
    (elim (cases_eq q x) [
      | inl e ↦ ap (λ z. allocated_order_of (state_at states' z)) e ∙ here ∙ sym (get_removed (allocated_of states) x q e)
      | inr n ↦ others q n ∙ sym (get-allocated_of states q) ∙ sym (get_past_remove (allocated_of states) x q n)
    ]))

-- the state of an allocated span
pub state_of_allocated : (v : PageState) (k : ℕ) → allocated_order_of v ≡ Some k → v ≡ Allocated k
state_of_allocated Inside k e = absurd (let clash : None ≡ Some k = e in cc)
state_of_allocated (Free j) k e = absurd (let clash : None ≡ Some k = e in cc)
state_of_allocated (Allocated j) k e = (let same : Some j ≡ Some k = e in cc)
