-- Maps of what a function has below a number.
use Rattle.std.proofs.Common.{◌≡◌, ◌≢◌, ℕ, zero, suc, ◌<◌, ◌≤◌, inl, inr, Option, Some, None, refl, sym, ap, ◌∙◌, arith}
use Rattle.std.proofs.lemmas.Bool.{cases_eq}
use Rattle.std.specs.Ordering.{nat_cmp}
use Rattle.std.specs.FinMap as map
use Rattle.common_lemmas.proofs.Orders.{lt_or_ge}
use Rattle.common_lemmas.proofs.Orders.{lt_or_ge}
use Rattle.common_lemmas.proofs.Maps.{maps_same, get_inserted, get_past_insert, get_removed, get_past_remove}
use Rattle.small_pools.specs.inside.Tables.{map_below, with_entry}

pub get-with_entry_same : (m : map.FinMap nat_cmp ℕ) (k : ℕ) (o : Option ℕ) → map.get m k ≡ None → map.get (with_entry m k o) k ≡ o
get-with_entry_same m k None e = e
get-with_entry_same m k (Some v) e = get_inserted m k v k refl

get-with_entry_other : (m : map.FinMap nat_cmp ℕ) (k q : ℕ) (o : Option ℕ) → q ≢ k → map.get (with_entry m k o) q ≡ map.get m q
get-with_entry_other m k q None n = refl
get-with_entry_other m k q (Some v) n = get_past_insert m k v q n

pub get_beyond : (n : ℕ) (f : ℕ → Option ℕ) (q : ℕ) → n ≤ q → map.get (map_below n f) q ≡ None
unfolding map_below
get_beyond zero f q h = map.get-empty nat_cmp q
get_beyond (suc n) f q h = get-with_entry_other (map_below n f) n q (f n) (λ e. absurd (omega arith)) ∙ get_beyond n f q (omega arith)

pub get_below : (n : ℕ) (f : ℕ → Option ℕ) (q : ℕ) → q < n → map.get (map_below n f) q ≡ f q
unfolding map_below
get_below zero f q h = absurd (omega arith)
get_below (suc n) f q h = elim (cases_eq q n) [
  | inl e ↦ ap (map.get (with_entry (map_below n f) n (f n))) e ∙ get-with_entry_same (map_below n f) n (f n) (get_beyond n f n (omega arith)) ∙ ap f (sym e)
  | inr d ↦ get-with_entry_other (map_below n f) n q (f n) d ∙ get_below n f q (omega arith)
]

-- a function that has nothing from the number on is its map
pub get-map_below : (n : ℕ) (f : ℕ → Option ℕ) → ((q : ℕ) → n ≤ q → f q ≡ None) → (q : ℕ) → map.get (map_below n f) q ≡ f q
get-map_below n f none q = elim (lt_or_ge q n) [ inl l ↦ get_below n f q l | inr g ↦ get_beyond n f q g ∙ sym (none q g) ]

pub same_below : (n : ℕ) (f g : ℕ → Option ℕ) → ((q : ℕ) → q < n → g q ≡ f q) → map_below n g ≡ map_below n f
same_below n f g same = maps_same _ _ (λ q. elim (lt_or_ge q n) [ inl l ↦ get_below n g q l ∙ same q l ∙ sym (get_below n f q l) | inr h ↦ get_beyond n g q h ∙ sym (get_beyond n f q h) ])

pub insert_below : (n : ℕ) (f g : ℕ → Option ℕ) (k v : ℕ) → k < n → g k ≡ Some v → ((q : ℕ) → q ≢ k → g q ≡ f q) → map_below n g ≡ map.insert (map_below n f) k v
insert_below n f g k v inside here others = maps_same _ _ (λ q. elim (cases_eq q k) [
  | inl e ↦ get_below n g q (omega arith) ∙ ap g e ∙ here ∙ sym (get_inserted (map_below n f) k v q e)
  | inr d ↦ (elim (lt_or_ge q n) [ inl l ↦ get_below n g q l ∙ others q d ∙ sym (get_below n f q l) | inr h ↦ get_beyond n g q h ∙ sym (get_beyond n f q h) ]) ∙ sym (get_past_insert (map_below n f) k v q d)
])

pub remove_below : (n : ℕ) (f g : ℕ → Option ℕ) (k : ℕ) → k < n → g k ≡ None → ((q : ℕ) → q ≢ k → g q ≡ f q) → map_below n g ≡ map.remove (map_below n f) k
remove_below n f g k inside here others = maps_same _ _ (λ q. elim (cases_eq q k) [
  | inl e ↦ get_below n g q (omega arith) ∙ ap g e ∙ here ∙ sym (get_removed (map_below n f) k q e)
  | inr d ↦ (elim (lt_or_ge q n) [ inl l ↦ get_below n g q l ∙ others q d ∙ sym (get_below n f q l) | inr h ↦ get_beyond n g q h ∙ sym (get_beyond n f q h) ]) ∙ sym (get_past_remove (map_below n f) k q d)
])
