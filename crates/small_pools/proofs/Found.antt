-- What the masks and the lists tell of the spans.
use Rattle.std.proofs.Common.{◌≡◌, ◌≢◌, ℕ, zero, suc, ◌+◌, ◌/◌, ◌%◌, ◌^◌, ◌<◌, ◌≤◌, ◌⊎◌, inl, inr, length, slice_get, Option, Some, None, refl, sym, ap, subst, ◌∙◌, arith}
use Rattle.std.proofs.Math.Nat.{pow-suc}
use Rattle.std.proofs.lemmas.Bool.{cases_eq}
use Rattle.std.proofs.lemmas.Nat.{pow_pos}
use Rattle.std.proofs.lemmas.Nat.Bits.{bit_at_lowest, bit_at-suc, bit_at-zero, same_from_bits}
use Rattle.std.specs.Int.{bit_at}
use Rattle.index_lists.specs.Lists.{list_at}
use Rattle.common_lemmas.specs.Lists.{times}
use Rattle.common_lemmas.proofs.Orders.{lt_or_ge}
use Rattle.common_lemmas.proofs.Options.{some_or_none, none_of}
use Rattle.small_pools.specs.Classes.{order_of, capacity_of}
use Rattle.small_pools.specs.Objects.{slot_place, IsHeld, HasObject, HasRoom, IsUsedUp}
use Rattle.small_pools.specs.inside.Tables.{Tables, class_at, mask_at, objects_of, list_of, stands_on, IsConsistent}
use Rattle.small_pools.proofs.Places.{object_hit, object_free}
use Rattle.small_pools.proofs.Stands.{stands_same, on_list, of_list, list_of_room, held_of_front, none_of_front}
use Rattle.small_pools.proofs.Tables.{get_held, get_allocated, class_of_held}

below_power : (n : ℕ) → n < 2 ^ n
below_power zero = omega arith
below_power (suc n) = (let rest = below_power n in let two = pow-suc 2 n in omega (arith, rest, two))

bit_within : (k n : ℕ) → n < 2 ^ k → n ≢ 0 → (s : ℕ) × (bit_at n s ≡ 1)
bit_within zero n fits some = absurd (some (let one : 2 ^ 0 ≡ 1 = refl in omega (arith, one, fits)))
bit_within (suc k) n fits some = elim (cases_eq (n % 2) 1) [
  | inl odd ↦ (0, bit_at_lowest n ∙ odd)
  | inr even ↦
      (let two = pow-suc 2 k in
      let half = bit_within k (n / 2) (omega (arith, two, fits)) (λ z. some (omega arith)) in
      (suc half.0, bit_at-suc n half.0 ∙ half.1))
]

-- a number that is not 0 has a bit
some_bit : (n : ℕ) → n ≢ 0 → (s : ℕ) × (bit_at n s ≡ 1)
some_bit n some = bit_within n n (below_power n) some

-- a span with a free slot has room
pub room_of : {t : Tables} → IsConsistent t → (f c : ℕ) → class_at t f ≡ Some c → mask_at t f ≢ 0 → HasRoom (objects_of t) f c
room_of {t} h f c e n =
    let s = some_bit (mask_at t f) n in
    let free = s.1 in
    let within : s.0 < capacity_of c = (elim (lt_or_ge s.0 (capacity_of c)) [ inl l ↦ l | inr g ↦ absurd (let z = h.within f c s.0 e g in omega (arith, z, free)) ]) in
    (s.0, within, get_allocated h (slot_place f c s.0) ∙ object_free h f c s.0 e within free)

pub free_of_room : {t : Tables} → IsConsistent t → (f c : ℕ) → class_at t f ≡ Some c → HasRoom (objects_of t) f c → mask_at t f ≢ 0
free_of_room h f c e room n =
    let hit = object_hit h f c room.0 e room.1 (ap (λ m. bit_at m room.0) n ∙ bit_at-zero room.0) in
    some_or_none hit (sym (get_allocated h (slot_place f c room.0)) ∙ room.2)

-- a span whose slots are all free has no allocated object, and one with another mask has one
pub no_object : {t : Tables} → IsConsistent t → (f c : ℕ) → class_at t f ≡ Some c → ((slot : ℕ) → slot < capacity_of c → bit_at (mask_at t f) slot ≡ 1) → ¬ HasObject (objects_of t) f c
no_object h f c e free object =
    let gone = object_free h f c object.0 e object.1 (free object.0 object.1) in
    some_or_none object.2 (get_allocated h (slot_place f c object.0) ∙ gone)

bit_cases : (n i : ℕ) → (bit_at n i ≡ 0) ⊎ (bit_at n i ≡ 1)
bit_cases n i = grind arith

-- each slot below a number is free, or one is not
search_slots : (n m : ℕ) → ((s : ℕ) → s < n → bit_at m s ≡ 1) ⊎ ((s : ℕ) × (s < n) × (bit_at m s ≡ 0))
search_slots zero m = inl (λ s h. absurd (omega arith))
search_slots (suc n) m = elim (search_slots n m) [
  | inr p ↦ (let l = p.1 in inr (p.0, omega arith, p.2))
  | inl all ↦ elim (bit_cases m n) [
    | inl e ↦ inr (n, omega arith, e)
    | inr e ↦ inl (λ s h. elim (cases_eq s n) [ inl q ↦ ap (bit_at m) q ∙ e | inr d ↦ all s (omega arith) ])
  ]
]

pub some_object : {t : Tables} → IsConsistent t → (f c m : ℕ) → class_at t f ≡ Some c → ((s : ℕ) → s < capacity_of c → bit_at m s ≡ 1) → ((s : ℕ) → capacity_of c ≤ s → bit_at m s ≡ 0)
    → mask_at t f ≢ m → HasObject (objects_of t) f c
some_object {t} h f c m e free none n = elim (search_slots (capacity_of c) (mask_at t f)) [
  | inl all ↦ absurd (n (same_from_bits _ _ (λ i. elim (lt_or_ge i (capacity_of c)) [ inl l ↦ all i l ∙ sym (free i l) | inr g ↦ h.within f c i e g ∙ sym (none i g) ])))
  | inr p ↦ (p.0, p.1, get_allocated h (slot_place f c p.0) ∙ object_hit h f c p.0 e p.1 p.2)
]

pub all_free_of_none : {t : Tables} → IsConsistent t → (f c : ℕ) → class_at t f ≡ Some c → ¬ HasObject (objects_of t) f c → (s : ℕ) → s < capacity_of c → bit_at (mask_at t f) s ≡ 1
all_free_of_none {t} h f c e none s within = elim (bit_cases (mask_at t f) s) [
  | inr one ↦ one
  | inl zero' ↦ absurd (none (s, within, get_allocated h (slot_place f c s) ∙ object_hit h f c s e within zero'))
]

-- ---- what stands in front of a list

pub in_front : {t : Tables} → IsConsistent t → (f c : ℕ) → c < 37 → slice_get (list_at t.lists c) 0 ≡ Some f → (class_at t f ≡ Some c) × (mask_at t f ≢ 0)
in_front {t} h f c small e =
    let held = held_of_front (list_at t.lists c) f e in
    of_list (class_at t f) (mask_at t f) c (on_list _ c (subst (λ n. 1 ≤ n) (h.listed c f small) held))

pub used_up : {t : Tables} → IsConsistent t → (c : ℕ) → c < 37 → slice_get (list_at t.lists c) 0 ≡ None → IsUsedUp (objects_of t) c
used_up {t} h c small none f slot held within =
    let e = class_of_held h f c held in
    let full : mask_at t f ≡ 0 = (elim (cases_eq (mask_at t f) 0) [
      | inl z ↦ z
      | inr n ↦ absurd (let on : times f (list_at t.lists c) ≡ 1 = h.listed c f small ∙ ap (λ o. stands_on (list_of o (mask_at t f)) c) e ∙ ap (λ o. stands_on o c) (list_of_room c (mask_at t f) n) ∙ stands_same c in
          let z = none_of_front (list_at t.lists c) f none in omega (arith, on, z))
    ]) in
    get_allocated h (slot_place f c slot) ∙ object_hit h f c slot e within (ap (λ m. bit_at m slot) full ∙ bit_at-zero slot)

-- where a span stands before it is moved
pub stands_before : {t : Tables} → IsConsistent t → (f c : ℕ) (o : Option ℕ) → class_at t f ≡ Some c → o ≡ list_of (Some c) (mask_at t f) → (k : ℕ) → k < length t.lists.lists → times f (list_at t.lists k) ≡ stands_on o k
stands_before {t} h f c o e oe k s =
    h.listed k f (let l = h.lists_len in omega arith) ∙ ap (λ w. stands_on (list_of w (mask_at t f)) k) e ∙ ap (λ w. stands_on w k) (sym oe)

-- a page that no span has is on no list
pub not_listed : {t : Tables} → IsConsistent t → (f o : ℕ) → ((g d : ℕ) → IsHeld (objects_of t) g d → (g + 2 ^ order_of d ≤ f) ⊎ (f + 2 ^ o ≤ g)) → (k : ℕ) → k < length t.lists.lists → times f (list_at t.lists k) ≡ 0
not_listed {t} h f o clear k l =
    let none : class_at t f ≡ None = none_of _ (λ d e. absurd (elim (clear f d (get_held h f ∙ e)) [ inl a ↦ (let p = pow_pos (order_of d) in omega arith) | inr a ↦ (let p = pow_pos o in omega arith) ])) in
    h.listed k f (let ll = h.lists_len in omega arith) ∙ ap (λ w. stands_on (list_of w (mask_at t f)) k) none
