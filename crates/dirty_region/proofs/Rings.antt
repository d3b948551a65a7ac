-- What the ring of live objects is, where a put comes or goes.
use Rattle.std.proofs.Common.{◌≡◌, ◌≢◌, ℕ, zero, suc, ◌+◌, ◌-◌, ◌<◌, ◌≤◌, ◌⊎◌, inl, inr, Bool, true, false, List, [], ◌∷◌, ◌++◌, length, Option, Some, None, sym, ap, subst, ◌∙◌, arith}
use Rattle.std.specs.Prelude.{slice_get, slice_set, option_map}
use Rattle.std.proofs.lemmas.Bool.{cases_eq}
use Rattle.std.proofs.lemmas.Bool.Decides.{leb_tells}
use Rattle.std.proofs.lemmas.List.{length-set, get_or-set_same, get_or-set_other}
use Rattle.std.proofs.lemmas.Option.{slice_get-get_or, slice_get_past}
use Rattle.std.proofs.Math.Nat.{eq-or-lt_of_le}
use Rattle.rows.specs.Row.{Row}
use Rattle.row_bytes.specs.Rows.{number_in, row_in}
use Rattle.regions.specs.Contents.{Item, Standing, item_if_live, if_live}
use Rattle.regions.specs.Stores.{Live}
use Rattle.regions.specs.declared.place.Place.{Place}
use Rattle.dirty_region.specs.inside.Rings.{RingState, IsRingOf, HasPut, AddsPut, Drops, slot, position, pushed, popped, content_of, content_at, put_at, nth, puts_in, listed}
use Rattle.dirty_region.proofs.Listed.{listed_same, listed_grown}
use Rattle.dirty_region.proofs.Slots.{slot_inside, slot_apart, slot_next, position_next, position_apart, ring_of_popped}

-- ---- options

pub some_same : {A : Type 0} {a b : A} {o : Option A} → o ≡ Some a → o ≡ Some b → a ≡ b
some_same {A} {a} {b} {o} p q = (let e : Some a ≡ Some b = sym p ∙ q in cc)

pub some_none : {A : Type 0} {P : Type 0} {a : A} {o : Option A} → o ≡ Some a → o ≡ None → P
some_none {A} {P} {a} {o} p q = absurd (let clash : Some a ≡ None = sym p ∙ q in cc)

-- ---- places

abbrev at_fields : ℕ → ℕ → Place
at_fields s a = record { segment = s; at = a }

pub place_cases : (p q : Place) → (p ≡ q) ⊎ (p ≢ q)
place_cases p q = elim (cases_eq p.segment q.segment) [
  | inl a ↦
      elim (cases_eq p.at q.at) [
        | inl b ↦ inl (ap (λ (s : ℕ). at_fields s p.at) a ∙ ap (λ (x : ℕ). at_fields q.segment x) b)
        | inr b ↦ inr (λ e. b (ap (λ (x : Place). x.at) e))
      ]
  | inr a ↦ inr (λ e. a (ap (λ (x : Place). x.segment) e))
]

pub got_set : {A : Type 0} (xs : List A) (n : ℕ) (p : A) → n < length xs → slice_get (slice_set xs n p) n ≡ Some p
got_set xs n p h = slice_get-get_or (slice_set xs n p) n p (let e = length-set xs n p in omega (arith, e, h)) ∙ ap (λ x. Some x) (get_or-set_same xs n p p h)

pub got_past_set : {A : Type 0} (xs : List A) (n m : ℕ) (p : A) → m ≢ n → slice_get (slice_set xs n p) m ≡ slice_get xs m
got_past_set xs n m p far =
    let len = length-set xs n p in
    elim (leb_tells (length xs) m) [
      | inl h ↦ (let g = h.1 in slice_get_past (slice_set xs n p) m (omega (arith, len, g)) ∙ sym (slice_get_past xs m g))
      | inr h ↦ (let g = h.1 in slice_get-get_or (slice_set xs n p) m p (omega (arith, len, g)) ∙ (ap (λ x. Some x) (get_or-set_other xs n m p p far) ∙ sym (slice_get-get_or xs m p g)))
    ]

-- ---- one put

content_live : (live : Bool) (item i : Item) (bytes : List ℕ) → if_live live item ≡ Some i → Some item.content ≡ Some bytes → bytes ≡ i.content
content_live false item i bytes e b = absurd (let clash : None ≡ Some i = e in cc)
content_live true item i bytes e b = (let same : item ≡ i = (let s : Some item ≡ Some i = e in cc) in let c : item.content ≡ bytes = (let s : Some item.content ≡ Some bytes = b in cc) in sym c ∙ ap (λ (x : Item). x.content) same)

pub content_standing : (o : Option Standing) (i : Item) (bytes : List ℕ) → item_if_live o ≡ Some i → option_map (λ (s : Standing). s.item.content) o ≡ Some bytes → bytes ≡ i.content
content_standing None i bytes e b = absurd (let clash : None ≡ Some i = e in cc)
content_standing (Some s) i bytes e b = content_live s.live s.item i bytes e b

pub put_is : (live : Live) (places : List Place) (n k : ℕ) (h : HasPut live places n k) → put_at live places n ≡ h.put
put_is live places n k h = ap (λ (o : Option Place). row_in (content_at live o)) h.placed ∙ (ap (λ (o : Option Item). row_in (content_of o)) h.is_live ∙ h.is_put.read)

-- a put as it stands elsewhere
pub put_elsewhere : (live after : Live) (places others : List Place) (n m k : ℕ) (h : HasPut live places n k) (p : Place)
    → slice_get others m ≡ Some p → after p ≡ Some h.item → (x : HasPut after others m k) × (put_at after others m ≡ put_at live places n)
put_elsewhere live after places others n m k h p placed is =
    let x : HasPut after others m k = record { place = p; placed = placed; item = h.item; is_live = is; put = h.put; is_put = h.is_put } in
    (x, put_is after others m k x ∙ sym (put_is live places n k h))

-- two puts at one place are one
pub same_older : (r : RingState) (live : Live) (of : IsRingOf r live) (j k : ℕ) (jl : j < r.count) (kl : k < r.count) → (of.puts j jl).place ≡ (of.puts k kl).place → j ≡ k
same_older r live of j k jl kl e =
    let hj = of.puts j jl in let hk = of.puts k kl in
    let item : hj.item ≡ hk.item = some_same hj.is_live (ap live e ∙ hk.is_live) in
    let few = of.numbers.few in let small = of.numbers.small in
    position_apart r j k (omega (arith, jl, few, small)) (omega (arith, kl, few, small))
    (sym hj.is_put.number ∙ (ap (λ (i : Item). number_in i.content) item ∙ hk.is_put.number))

-- ---- a put comes

pub record IsPushed (r : RingState) (p : Place) (put : Row) (live after : Live) : Type 0 where
  pub ring_of : IsRingOf (pushed p r) after
  pub old : (k : ℕ) → k < r.count → nth (pushed p r) after k ≡ nth r live k
  pub new : nth (pushed p r) after r.count ≡ put

pub ring_pushed : (r : RingState) (live after : Live) (p : Place) (put : Row) → IsRingOf r live → r.count < r.room → AddsPut p (position r r.count) put live after → IsPushed r p put live after
ring_pushed r live after p put of room adds =
    let places = slice_set r.places (slot r r.count) p in
    let long = of.numbers.long in let few = of.numbers.few in
    let inside : slot r r.count < length r.places = (let s = slot_inside r r.count of.numbers room in omega (arith, s, long)) in
    let other : (k : ℕ) → k < r.count → slot r k ≢ slot r r.count = λ k low e. (let same = slot_apart r k r.count of.numbers (omega (arith, low, room)) room e in omega (arith, same, low)) in
    let old : (k : ℕ) → k < r.count → (x : HasPut after places (slot r k) (position r k)) × (put_at after places (slot r k) ≡ put_at live r.places (slot r k)) =
    λ k low. (let h = of.puts k low in
    let far : h.place ≢ p = λ e. some_none (sym (ap live e) ∙ h.is_live) adds.absent in
    put_elsewhere live after r.places places (slot r k) (slot r k) (position r k) h h.place (got_past_set r.places (slot r r.count) (slot r k) p (other k low) ∙ h.placed) (adds.others h.place far ∙ h.is_live))
    in
    let last : HasPut after places (slot r r.count) (position r r.count) =
    record { place = p; placed = got_set r.places (slot r r.count) p inside; item = adds.item; is_live = adds.here; put = put; is_put = adds.is_put } in
    record {
      ring_of = record {
        numbers = record {
          small = of.numbers.small;
          long = length-set r.places (slot r r.count) p ∙ long;
          few = omega (arith, room);
          head = of.numbers.head;
          begins = of.numbers.begins;
          first = of.numbers.first;
        };
        puts = λ k low. elim (eq-or-lt_of_le (let l : k ≤ r.count = omega (arith, low) in l)) [
          | inl e ↦ subst (λ n. HasPut after places (slot r n) (position r n)) (sym e) last
          | inr less ↦ (old k less).0
        ];
        every = λ q i e. elim (place_cases q p) [
          | inl same ↦ (r.count, omega arith, got_set r.places (slot r r.count) p inside ∙ ap (λ x. Some x) (sym same))
          | inr far ↦
              (let w = of.every q i (sym (adds.others q far) ∙ e) in
              (w.0, (let l = w.1 in omega (arith, l)), got_past_set r.places (slot r r.count) (slot r w.0) p (other w.0 w.1) ∙ w.2))
        ];
      };
      old = λ k low. (old k low).1;
      new = put_is after places (slot r r.count) (position r r.count) last;
    }

pub puts_pushed : (r : RingState) (live after : Live) (p : Place) (put : Row) → IsPushed r p put live after → puts_in (pushed p r) after ≡ puts_in r live ++ put ∷ []
puts_pushed r live after p put is =
    ap (listed (nth (pushed p r) after)) (let e : r.count + 1 ≡ suc r.count = omega arith in e)
    ∙ (listed_grown (nth (pushed p r) after) r.count
    ∙ (ap (λ (rs : List Row). rs ++ nth (pushed p r) after r.count ∷ []) (listed_same (nth (pushed p r) after) (nth r live) r.count is.old)
    ∙ ap (λ (x : Row). puts_in r live ++ x ∷ []) is.new))

-- ---- the oldest put goes

pub record IsPopped (r : RingState) (live after : Live) : Type 0 where
  pub ring_of : IsRingOf (popped r) after
  pub behind : (k : ℕ) → suc k < r.count → nth (popped r) after k ≡ nth r live (suc k)

pub ring_popped : (r : RingState) (live after : Live) (p : Place) → IsRingOf r live → 1 ≤ r.count → slice_get r.places (slot r 0) ≡ Some p → Drops p live after → IsPopped r live after
ring_popped r live after p of some here drops =
    let few = of.numbers.few in
    let least : 0 < r.count = omega (arith, some) in
    let first = of.puts 0 least in
    let at : first.place ≡ p = some_same first.placed here in
    let next : (k : ℕ) → suc k < r.count → (x : HasPut after r.places (slot (popped r) k) (position (popped r) k)) × (nth (popped r) after k ≡ nth r live (suc k)) =
    λ k low. (let h = of.puts (suc k) low in
    let far : h.place ≢ p = λ e. absurd (let same = same_older r live of (suc k) 0 low least (e ∙ sym at) in omega (arith, same)) in
    let slots = slot_next r k of.numbers (omega (arith, low, few)) in
    let x = put_elsewhere live after r.places r.places (slot r (suc k)) (slot (popped r) k) (position r (suc k)) h h.place (ap (slice_get r.places) slots ∙ h.placed) (drops.others h.place far ∙ h.is_live) in
    (subst (λ n. HasPut after r.places (slot (popped r) k) n) (sym (position_next r k)) x.0, x.1))
    in
    record {
      ring_of = record {
        numbers = ring_of_popped r of.numbers some;
        puts = λ k low. (next k (omega (arith, low))).0;
        every = λ q i e. elim (place_cases q p) [
          | inl same ↦ some_none (sym (ap after same) ∙ e) drops.here
          | inr far ↦ elim_older (of.every q i (sym (drops.others q far) ∙ e)) far
        ];
      };
      behind = λ k low. (next k low).1;
    }
  where
    elim_older : {q : Place} → ((k : ℕ) × (k < r.count) × (slice_get r.places (slot r k) ≡ Some q)) → q ≢ p → (k : ℕ) × (k < r.count - 1) × (slice_get r.places (slot (popped r) k) ≡ Some q)
    elim_older {q} (zero, low, is) far = absurd (far (some_same is here))
    elim_older {q} (suc k, low, is) far = (k, omega (arith, low), ap (slice_get r.places) (slot_next r k of.numbers (let few = of.numbers.few in omega (arith, low, few))) ∙ is)

pub puts_popped : (r : RingState) (live after : Live) → 1 ≤ r.count → IsPopped r live after → puts_in r live ≡ nth r live 0 ∷ puts_in (popped r) after
puts_popped r live after some is =
    ap (listed (nth r live)) (let e : r.count ≡ suc (r.count - 1) = omega (arith, some) in e)
    ∙ ap (λ (rs : List Row). nth r live 0 ∷ rs) (sym (listed_same (nth (popped r) after) (λ k. nth r live (suc k)) (r.count - 1) (λ k low. is.behind k (omega (arith, low)))))
