-- A put is moved, and the ring stands for the store of all puts.
use Rattle.std.proofs.Common.{◌≡◌, ◌≢◌, ℕ, suc, ◌+◌, ◌-◌, ◌%◌, ◌^◌, ◌<◌, ◌⊎◌, inl, inr, cond, true, false, ◌&&◌, length, Option, Some, None, refl, sym, ap, subst, ◌∙◌, arith}
use Rattle.std.specs.Prelude.{◌==◌, slice_get, slice_set, IfSome, IsSome, option_map}
use Rattle.std.proofs.lemmas.Bool.{cases_eq}
use Rattle.std.proofs.lemmas.Bool.Decides.{leb_tells, eqb_tells}
use Rattle.std.proofs.lemmas.List.{length-set}
use Rattle.rows.specs.Row.{Row}
use Rattle.regions.specs.Contents.{Item}
use Rattle.regions.specs.Stores.{Live, StandsFor, store_of, found, is_place, less, renamed}
use Rattle.regions.specs.declared.place.Place.{Place}
use Rattle.dirty_region.specs.inside.Rings.{RingState, IsRing, IsRingOf, HasPut, IsPutOf, slot, position, place_of, bare}
use Rattle.dirty_region.proofs.Slots.{slot_inside, slot_apart}
use Rattle.dirty_region.proofs.Rings.{some_same, some_none, place_cases, got_set, got_past_set, same_older}

-- ---- the places of names

pub place_there : (r : RingState) (k : ℕ) → k < r.count → place_of r k ≡ slice_get r.places (slot r k)
place_there r k low = elim (leb_tells (suc k) r.count) [ inl h ↦ ap (λ b. cond b (slice_get r.places (slot r k)) None) h.0 | inr h ↦ absurd (let l = h.1 in omega (arith, l, low)) ]

there_low : (r : RingState) (k : ℕ) (p : Place) → place_of r k ≡ Some p → k < r.count
there_low r k p e = elim (leb_tells (suc k) r.count) [ inl h ↦ (let l = h.1 in omega (arith, l)) | inr h ↦ some_none e (ap (λ b. cond b (slice_get r.places (slot r k)) None) h.0) ]

pub ring_stands : (r : RingState) (live : Live) → IsRingOf r live → StandsFor bare (store_of bare (place_of r) live) (place_of r) live
ring_stands r live of =
    let at : (k : ℕ) (low : k < r.count) → place_of r k ≡ Some (of.puts k low).place = λ k low. place_there r k low ∙ (of.puts k low).placed in
    record {
      placed = λ k i e. elim (leb_tells (suc k) r.count) [
        | inl h ↦ (let low : k < r.count = (let l = h.1 in omega (arith, l)) in ((of.puts k low).place, at k low, sym (ap (found bare live) (at k low)) ∙ e))
        | inr h ↦ some_none e (ap (λ b. found bare live (cond b (slice_get r.places (slot r k)) None)) h.0)
      ];
      known = λ k p e. (let low = there_low r k p e in
          subst (λ o. IsSome (found bare live o)) (sym (at k low)) (subst (λ o. IsSome (option_map bare o)) (sym (of.puts k low).is_live) refl));
      apart = λ j k p ej ek. (let lj = there_low r j p ej in let lk = there_low r k p ek in
          same_older r live of j k lj lk (some_same (at j lj) ej ∙ sym (some_same (at k lk) ek)));
      every = λ p i e. (let w = of.every p i e in let there : place_of r w.0 ≡ Some p = place_there r w.0 w.1 ∙ w.2 in
          (w.0, there, ap (found bare live) there ∙ ap (option_map bare) e));
    }

-- ---- one put is moved

abbrev at_fields : ℕ → ℕ → Place
at_fields s a = record { segment = s; at = a }

place_tells : (p q : Place) → ((is_place p q ≡ true) × (p ≡ q)) ⊎ ((is_place p q ≡ false) × (p ≢ q))
place_tells p q = elim (eqb_tells p.segment q.segment) [
  | inl a ↦
      elim (eqb_tells p.at q.at) [
        | inl b ↦ inl (ap (λ x. x && (p.at == q.at)) a.0 ∙ b.0, ap (λ (s : ℕ). at_fields s p.at) a.1 ∙ ap (λ (x : ℕ). at_fields q.segment x) b.1)
        | inr b ↦ inr (ap (λ x. x && (p.at == q.at)) a.0 ∙ b.0, λ e. b.1 (ap (λ (x : Place). x.at) e))
      ]
  | inr a ↦ inr (ap (λ x. x && (p.at == q.at)) a.0, λ e. a.1 (ap (λ (x : Place). x.segment) e))
]

less_here : (p : Place) (live : Live) → less p live p ≡ None
less_here p live = elim (place_tells p p) [ inl h ↦ ap (λ b. cond b None (live p)) h.0 | inr h ↦ absurd (h.1 refl) ]

less_past : (p q : Place) (live : Live) → p ≢ q → less p live q ≡ live q
less_past p q live far = elim (place_tells p q) [ inl h ↦ absurd (far h.1) | inr h ↦ ap (λ b. cond b None (live q)) h.0 ]

renamed_here : (from to : Place) → renamed from to from ≡ to
renamed_here from to = elim (place_tells from from) [ inl h ↦ ap (λ b. cond b to from) h.0 | inr h ↦ absurd (h.1 refl) ]

renamed_past : (from to p : Place) → from ≢ p → renamed from to p ≡ p
renamed_past from to p far = elim (place_tells from p) [ inl h ↦ absurd (far h.1) | inr h ↦ ap (λ b. cond b to p) h.0 ]

abbrev pub set_place : RingState → ℕ → Place → RingState
set_place r k to = record r { places = slice_set r.places (slot r k) to }

-- the put that is moved
pub record IsMoved (r : RingState) (live : Live) (from to : Place) (i : Item) : Type 0 where
  pub k : ℕ
  pub low : k < r.count
  pub put : Row
  pub is_put : IsPutOf i (position r k) put
  pub ring_of : IsRingOf (set_place r k to) (less from live)
  pub names : (n : ℕ) → place_of (set_place r k to) n ≡ option_map (renamed from to) (place_of r n)

pub put_moved : (r : RingState) (live : Live) (from to : Place) (i : Item) → IsRingOf r (less to live) → from ≢ to → live from ≡ Some i → live to ≡ Some i → IsMoved r live from to i
put_moved r live from to i of apart here there =
    let at_from : less to live from ≡ Some i = less_past to from live (λ e. apart (sym e)) ∙ here in
    let w = of.every from i at_from in let k = w.0 in let h = of.puts k w.1 in
    let at : h.place ≡ from = some_same h.placed w.2 in
    let item : h.item ≡ i = some_same h.is_live (ap (less to live) at ∙ at_from) in
    let is_put : IsPutOf i (position r k) h.put = subst (λ (x : Item). IsPutOf x (position r k) h.put) item h.is_put in
    let long = of.numbers.long in let few = of.numbers.few in let kl = w.1 in
    let inside : slot r k < length r.places = (let s = slot_inside r k of.numbers (omega (arith, kl, few)) in omega (arith, s, long)) in
    let other : (j : ℕ) → j < r.count → j ≢ k → slot r j ≢ slot r k = λ j low far e. far (slot_apart r j k of.numbers (omega (arith, low, few)) (omega (arith, kl, few)) e) in
    let away : (j : ℕ) (low : j < r.count) → j ≢ k → from ≢ (of.puts j low).place = λ j low far e. far (same_older r (less to live) of j k low w.1 (sym e ∙ sym at)) in
    let beside : (j : ℕ) (low : j < r.count) → to ≢ (of.puts j low).place = λ j low e. some_none (ap (less to live) e ∙ (of.puts j low).is_live) (less_here to live) in
    let places = slice_set r.places (slot r k) to in
    let stays : (j : ℕ) (low : j < r.count) → j ≢ k → HasPut (less from live) places (slot r j) (position r j) =
    λ j low far. (let g = of.puts j low in record {
      place = g.place;
      placed = got_past_set r.places (slot r k) (slot r j) to (other j low far) ∙ g.placed;
      item = g.item;
      is_live = less_past from g.place live (away j low far) ∙ (sym (less_past to g.place live (beside j low)) ∙ g.is_live);
      put = g.put;
      is_put = g.is_put;
    }) in
    let moved : HasPut (less from live) places (slot r k) (position r k) = record {
      place = to;
      placed = got_set r.places (slot r k) to inside;
      item = i;
      is_live = less_past from to live apart ∙ there;
      put = h.put;
      is_put = is_put;
    } in
    record {
      k = k;
      low = w.1;
      put = h.put;
      is_put = is_put;
      ring_of = record {
        numbers = record {
          small = of.numbers.small;
          long = length-set r.places (slot r k) to ∙ long;
          few = of.numbers.few;
          head = of.numbers.head;
          begins = of.numbers.begins;
          first = of.numbers.first;
        };
        puts = λ j low. elim (cases_eq j k) [ inl e ↦ subst (λ n. HasPut (less from live) places (slot r n) (position r n)) (sym e) moved | inr far ↦ stays j low far ];
        every = λ q x e. elim (place_cases q to) [
          | inl same ↦ (k, w.1, got_set r.places (slot r k) to inside ∙ ap (λ y. Some y) (sym same))
          | inr far ↦
              (let not_from : from ≢ q = λ f. some_none (ap (less from live) f ∙ e) (less_here from live) in
              let v = of.every q x (less_past to q live (λ f. far (sym f)) ∙ (sym (less_past from q live not_from) ∙ e)) in
              let j_far : v.0 ≢ k = λ f. not_from (some_same w.2 (ap (λ n. slice_get r.places (slot r n)) (sym f) ∙ v.2)) in
              (v.0, v.1, got_past_set r.places (slot r k) (slot r v.0) to (other v.0 v.1 j_far) ∙ v.2))
        ];
      };
      names = λ n. elim (leb_tells (suc n) r.count) [
        | inl b ↦
            (let low : n < r.count = (let l = b.1 in omega (arith, l)) in
            ap (λ x. cond x (slice_get places (slot r n)) None) b.0
            ∙ ((elim (cases_eq n k) [
              | inl e ↦
                  subst (λ x. slice_get places (slot r x) ≡ option_map (renamed from to) (slice_get r.places (slot r x))) (sym e)
                  (got_set r.places (slot r k) to inside ∙ sym (ap (option_map (renamed from to)) w.2 ∙ ap (λ x. Some x) (renamed_here from to)))
              | inr far ↦
                  (let g = of.puts n low in
                  got_past_set r.places (slot r k) (slot r n) to (other n low far)
                  ∙ (g.placed ∙ sym (ap (option_map (renamed from to)) g.placed ∙ ap (λ x. Some x) (renamed_past from to g.place (away n low far)))))
            ]) ∙ ap (option_map (renamed from to)) (sym (place_there r n low))))
        | inr b ↦ ap (λ x. cond x (slice_get places (slot r n)) None) b.0 ∙ sym (ap (λ x. option_map (renamed from to) (cond x (slice_get r.places (slot r n)) None)) b.0)
      ];
    }

-- how far a position is behind the first one
pub behind_first : (r : RingState) (k : ℕ) → IsRing r → k < r.count → (position r k + (2 ^ 32 - r.first)) % 2 ^ 32 ≡ k
behind_first r k is low = (let few = is.few in let small = is.small in let first = is.first in omega (arith, low, few, small, first))

pub of_some : {A : Type 0} (P : A → Type 0) (o : Option A) (x : A) → IfSome o P → o ≡ Some x → P x
of_some {A} P o x h e = subst (λ q. IfSome q P) e h
