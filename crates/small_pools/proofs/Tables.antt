-- What each step leaves of the tables, and of what is allocated.
use Rattle.std.proofs.Common.{◌≡◌, ◌≢◌, ℕ, ◌+◌, ◌*◌, ◌^◌, ◌<◌, ◌≤◌, ◌⊎◌, inl, inr, List, length, get_or, set, Option, Some, None, refl, sym, ap, subst, ◌∙◌, arith, get_or-set_same, get_or-set_other}
use Rattle.std.proofs.Math.ListN.{length-set}
use Rattle.std.proofs.Math.Nat.{mul-le-mul_right}
use Rattle.std.proofs.lemmas.List.{get_or_past}
use Rattle.std.proofs.lemmas.Nat.{pow_pos}
use Rattle.std.proofs.lemmas.Bool.{cases_eq}
use Rattle.std.specs.FinMap as map
use Rattle.std.specs.Int.{bit_at}
use Rattle.layout.specs.Sizes.{page}
use Rattle.index_lists.specs.Lists.{Lists, list_at}
use Rattle.common_lemmas.specs.Lists.{times}
use Rattle.common_lemmas.proofs.Orders.{lt_or_ge, trichotomy}
use Rattle.common_lemmas.proofs.Options.{some_is, some_or_none, none_of, same_option}
use Rattle.small_pools.specs.Classes.{size_of, order_of, capacity_of}
use Rattle.small_pools.specs.Objects.{slot_place, IsHeld, AreObjects}
use Rattle.small_pools.specs.inside.Tables.{Tables, class_at, mask_at, object_at, objects_of, list_of, stands_on, IsRelisted, IsConsistent}
use Rattle.small_pools.proofs.ClassFacts.{is_class}
use Rattle.small_pools.proofs.Maps.{get-map_below, same_below, insert_below, remove_below}
use Rattle.small_pools.proofs.Places.{IsAllocatedAt, slot_within, object_hit, object_is, object_free, object_stays}

-- ---- what callers see

pub first_within : {t : Tables} → IsConsistent t → (f c : ℕ) → class_at t f ≡ Some c → f < t.pages
first_within h f c e = (let s = (h.spans f c e).1 in let pos = pow_pos (order_of c) in omega arith)

pub get_held : {t : Tables} → IsConsistent t → (f : ℕ) → map.get (objects_of t).held f ≡ class_at t f
get_held {t} h f = get-map_below t.pages (class_at t) (λ q g. get_or_past t.classes q None (let l = h.classes_len in omega arith)) f

pub class_of_held : {t : Tables} → IsConsistent t → (f c : ℕ) → IsHeld (objects_of t) f c → class_at t f ≡ Some c
class_of_held h f c held = sym (get_held h f) ∙ held

slot_below : {t : Tables} → IsConsistent t → (f c s : ℕ) → class_at t f ≡ Some c → s < capacity_of c → slot_place f c s + size_of c ≤ page * t.pages
slot_below h f c s e within =
    let p = h.spans f c e in
    let w = slot_within f c s p.0 within in
    let inside = p.1 in let high = w.1 in omega arith

pub place_below : {t : Tables} → IsConsistent t → (f c s : ℕ) → class_at t f ≡ Some c → s < capacity_of c → slot_place f c s < page * t.pages
place_below h f c s e within =
    let b = slot_below h f c s e within in
    let k = (is_class c (h.spans f c e).0).size_least in omega arith

nothing_past : {t : Tables} → IsConsistent t → (q : ℕ) → page * t.pages ≤ q → object_at t q ≡ None
nothing_past {t} h q g = none_of _ (λ n e. (let o = object_is t q n e in
    let b = place_below h o.first o.class o.slot o.held o.in_slot in
    let at = o.at in
    absurd (omega arith)))

pub get_allocated : {t : Tables} → IsConsistent t → (p : ℕ) → map.get (objects_of t).allocated p ≡ object_at t p
get_allocated {t} h p = get-map_below (page * t.pages) (object_at t) (nothing_past h) p

-- two slots of which one is before the other do not overlap
apart_slots : {t : Tables} → IsConsistent t → (f c i g d j : ℕ) → class_at t f ≡ Some c → class_at t g ≡ Some d → i < capacity_of c → j < capacity_of d
    → slot_place f c i < slot_place g d j → slot_place f c i + size_of c ≤ slot_place g d j
apart_slots {t} h f c i g d j ec ed si sj l =
    let cs = (h.spans f c ec).0 in let ds = (h.spans g d ed).0 in
    let wf = slot_within f c i cs si in let wg = slot_within g d j ds sj in
    let wf1 = wf.1 in let wg0 = wg.0 in let wf0 = wf.0 in let wg1 = wg.1 in
    let kd = (is_class d ds).size_least in
    elim (trichotomy f g) [
      | inl e ↦
          (let cd : c ≡ d = some_is ec (ap (class_at t) e ∙ ed) in
          let s : slot_place g d j ≡ slot_place f c j = ap (λ z. slot_place z d j) (sym e) ∙ ap (λ z. slot_place f z j) (sym cd) in
          let l' : i * size_of c < j * size_of c = omega (arith, s, l) in
          let ij : i + 1 ≤ j = (elim (lt_or_ge i j) [ inl b ↦ omega arith | inr b ↦ absurd (let m = mul-le-mul_right (size_of c) b in omega (arith, m, l')) ]) in
          let m : (i + 1) * size_of c ≤ j * size_of c = mul-le-mul_right (size_of c) ij in
          omega (arith, m, s))
      | inr (inl b) ↦ (let a = h.apart f g c d ec ed b in omega (arith, a, wf1, wg0))
      | inr (inr b) ↦ absurd (let a = h.apart g f d c ed ec b in omega (arith, a, wg1, wf0, kd))
    ]

pub are_objects : {t : Tables} → IsConsistent t → AreObjects (objects_of t)
are_objects {t} h =
    let allocated : (p n : ℕ) → map.get (objects_of t).allocated p ≡ Some n → IsAllocatedAt t p n = λ p n e. object_is t p n (sym (get_allocated h p) ∙ e) in
    let before : (p q m n : ℕ) → IsAllocatedAt t p m → IsAllocatedAt t q n → p < q → p + m ≤ q =
    (λ p q m n a b l. (let l' : slot_place a.first a.class a.slot < slot_place b.first b.class b.slot = subst (λ z. z < slot_place b.first b.class b.slot) a.at (subst (λ z. p < z) b.at l) in
    let r = apart_slots h a.first a.class a.slot b.first b.class b.slot a.held b.held a.in_slot b.in_slot l' in
    let pa = a.at in let ma = a.size_is in let qb = b.at in
    omega arith)) in
    record {
      blocks = record {
        within = λ p n e. (let o = allocated p n e in
            let b = slot_below h o.first o.class o.slot o.held o.in_slot in
            let k = (is_class o.class (h.spans o.first o.class o.held).0).size_least in
            let at = o.at in let size = o.size_is in
            (omega arith, omega arith));
        disjoint = λ p q m n ep eq d. elim (trichotomy p q) [
          | inl e ↦ absurd (d e)
          | inr (inl l) ↦ inl (before p q m n (allocated p m ep) (allocated q n eq) l)
          | inr (inr l) ↦ inr (before q p n m (allocated q n eq) (allocated p m ep) l)
        ];
      };
      slots = λ p n e. (let o = allocated p n e in
          let w = slot_within o.first o.class o.slot (h.spans o.first o.class o.held).0 o.in_slot in
          let at = o.at in let size = o.size_is in let low = w.0 in let high = w.1 in
          record { first = o.first; class = o.class; slot = o.slot; held = get_held h o.first ∙ o.held; in_slot = o.in_slot; at = o.at; size_is = o.size_is; from = omega arith; to = omega arith });
      spans = λ f c e. (let s = h.spans f c (class_of_held h f c e) in (is_class c s.0, s.1));
      apart = λ p q c d ep eq l. h.apart p q c d (class_of_held h p c ep) (class_of_held h q d eq) l;
    }

-- ---- tables in which a span has other free slots

abbrev pub with_mask : Tables → ℕ → ℕ → Lists → Tables
with_mask t f m lists = record { pages = t.pages; classes = t.classes; firsts = t.firsts; masks = set t.masks f m; lists = lists }

mask_same : (t : Tables) (f g m : ℕ) → f < length t.masks → g ≡ f → get_or (set t.masks f m) g 0 ≡ m
mask_same t f g m h e = ap (λ z. get_or (set t.masks f m) z 0) e ∙ get_or-set_same t.masks f m 0 h

mask_other : (t : Tables) (f g m : ℕ) → g ≢ f → get_or (set t.masks f m) g 0 ≡ mask_at t g
mask_other t f g m n = get_or-set_other t.masks f g m 0 n

in_masks : {t : Tables} → IsConsistent t → (f c : ℕ) → class_at t f ≡ Some c → f < length t.masks
in_masks h f c e = (let l = h.masks_len in let w = first_within h f c e in omega arith)

pub consistent_mask : {t : Tables} → IsConsistent t → (f c m : ℕ) (lists : Lists) → class_at t f ≡ Some c → ((slot : ℕ) → capacity_of c ≤ slot → bit_at m slot ≡ 0)
    → IsRelisted t.lists lists f (list_of (Some c) m) → IsConsistent (with_mask t f m lists)
consistent_mask {t} h f c m lists e within moved =
    let inside = in_masks h f c e in
    let ll = h.lists_len in let nl = moved.lists in
    record {
      small = h.small;
      classes_len = h.classes_len;
      firsts_len = h.firsts_len;
      masks_len = length-set t.masks f m ∙ h.masks_len;
      indices = moved.indices ∙ h.indices;
      lists_len = moved.lists ∙ h.lists_len;
      spans = h.spans;
      apart = h.apart;
      owners = h.owners;
      within = λ g d slot q l. elim (cases_eq g f) [
        | inl gf ↦ ap (λ z. bit_at z slot) (mask_same t f g m inside gf) ∙ within slot (subst (λ z. capacity_of z ≤ slot) (some_is (sym (ap (class_at t) gf) ∙ q) e) l)
        | inr n ↦ ap (λ z. bit_at z slot) (mask_other t f g m n) ∙ h.within g d slot q l
      ];
      listed = λ k x s. elim (cases_eq x f) [
        | inl xf ↦ ap (λ w. times w (list_at lists k)) xf ∙ moved.stands k (omega arith)
            ∙ sym (ap (λ o. stands_on (list_of o (get_or (set t.masks f m) x 0)) k) (ap (class_at t) xf ∙ e) ∙ ap (λ z. stands_on (list_of (Some c) z) k) (mask_same t f x m inside xf))
        | inr n ↦ moved.others k x n ∙ h.listed k x s ∙ sym (ap (λ z. stands_on (list_of (class_at t x) z) k) (mask_other t f x m n))
      ];
    }

-- the slots of a mask other than one are those of another mask
abbrev pub AreOthers : ℕ → ℕ → ℕ → Type 0
AreOthers m m' s = (other : ℕ) → other ≢ s → bit_at m' other ≡ bit_at m other

-- what is allocated in tables of which one slot differs is allocated in the others too
elsewhere : {t t' : Tables} → IsConsistent t' → (f c s : ℕ) → ((g d : ℕ) → class_at t g ≡ Some d → class_at t' g ≡ Some d) → class_at t f ≡ Some c
    → ((g : ℕ) → g ≢ f → mask_at t' g ≡ mask_at t g) → AreOthers (mask_at t f) (mask_at t' f) s → (q n : ℕ) → q ≢ slot_place f c s → IsAllocatedAt t q n → object_at t' q ≡ Some n
elsewhere {t} {t'} h f c s classes e masks others q n nq o =
    object_stays h q n o (classes o.first o.class o.held)
    (elim (cases_eq o.first f) [
      | inr d ↦ ap (λ z. bit_at z o.slot) (masks o.first d) ∙ o.taken
      | inl of ↦
          (let oc : o.class ≡ c = some_is o.held (ap (class_at t) of ∙ e) in
          let ns : o.slot ≢ s = (λ z. nq (o.at ∙ ap (λ y. slot_place y o.class o.slot) of ∙ ap (λ y. slot_place f y o.slot) oc ∙ ap (λ y. slot_place f c y) z)) in
          ap (λ y. bit_at (mask_at t' y) o.slot) of ∙ others o.slot ns ∙ ap (λ y. bit_at (mask_at t y) o.slot) (sym of) ∙ o.taken)
    ])

-- a slot is allocated
pub record IsTaken (t t' : Tables) (f c s : ℕ) : Type 0 where
  pub consistent : IsConsistent t'
  pub in_slot : s < capacity_of c
  pub was_free : map.get (objects_of t).allocated (slot_place f c s) ≡ None
  pub allocated : (objects_of t').allocated ≡ map.insert (objects_of t).allocated (slot_place f c s) (size_of c)

pub slot_taken : {t : Tables} → IsConsistent t → (f c s m : ℕ) (lists : Lists) → class_at t f ≡ Some c → bit_at (mask_at t f) s ≡ 1 → bit_at m s ≡ 0 → AreOthers (mask_at t f) m s
    → IsRelisted t.lists lists f (list_of (Some c) m) → IsTaken t (with_mask t f m lists) f c s
slot_taken {t} h f c s m lists e free taken others moved =
    let inside = in_masks h f c e in
    let t' = with_mask t f m lists in
    let now : mask_at t' f ≡ m = mask_same t f f m inside refl in
    let within : s < capacity_of c = (elim (lt_or_ge s (capacity_of c)) [ inl l ↦ l | inr g ↦ absurd (let none = h.within f c s e g in omega (arith, none, free)) ]) in
    let h' : IsConsistent t' = consistent_mask h f c m lists e (λ slot l. others slot (λ q. absurd (omega arith)) ∙ h.within f c slot e l) moved in
    let was : object_at t (slot_place f c s) ≡ None = object_free h f c s e within free in
    let here : object_at t' (slot_place f c s) ≡ Some (size_of c) = object_hit h' f c s e within (ap (λ z. bit_at z s) now ∙ taken) in
    record {
      consistent = h';
      in_slot = within;
      was_free = get_allocated h (slot_place f c s) ∙ was;
      allocated = insert_below (page * t.pages) (object_at t) (object_at t') (slot_place f c s) (size_of c) (place_below h f c s e within) here
          (λ q nq. same_option _ _
          (λ n w. elsewhere h f c s (λ g d x. x) e (λ g d. sym (mask_other t f g m d)) (λ o d. sym (ap (λ z. bit_at z o) now ∙ others o d)) q n nq (object_is t' q n w))
          (λ n w. elsewhere h' f c s (λ g d x. x) e (λ g d. mask_other t f g m d) (λ o d. ap (λ z. bit_at z o) now ∙ others o d) q n nq (object_is t q n w)));
    }

-- a slot comes back
pub record IsReleased (t t' : Tables) (f c s : ℕ) : Type 0 where
  pub consistent : IsConsistent t'
  pub allocated : (objects_of t').allocated ≡ map.remove (objects_of t).allocated (slot_place f c s)

pub slot_released : {t : Tables} → IsConsistent t → (f c s m : ℕ) (lists : Lists) → class_at t f ≡ Some c → s < capacity_of c → bit_at m s ≡ 1 → AreOthers (mask_at t f) m s
    → IsRelisted t.lists lists f (list_of (Some c) m) → IsReleased t (with_mask t f m lists) f c s
slot_released {t} h f c s m lists e within free others moved =
    let inside = in_masks h f c e in
    let t' = with_mask t f m lists in
    let now : mask_at t' f ≡ m = mask_same t f f m inside refl in
    let h' : IsConsistent t' = consistent_mask h f c m lists e (λ slot l. others slot (λ q. absurd (omega arith)) ∙ h.within f c slot e l) moved in
    record {
      consistent = h';
      allocated = remove_below (page * t.pages) (object_at t) (object_at t') (slot_place f c s) (place_below h f c s e within) (object_free h' f c s e within (ap (λ z. bit_at z s) now ∙ free))
          (λ q nq. same_option _ _
          (λ n w. elsewhere h f c s (λ g d x. x) e (λ g d. sym (mask_other t f g m d)) (λ o d. sym (ap (λ z. bit_at z o) now ∙ others o d)) q n nq (object_is t' q n w))
          (λ n w. elsewhere h' f c s (λ g d x. x) e (λ g d. mask_other t f g m d) (λ o d. ap (λ z. bit_at z o) now ∙ others o d) q n nq (object_is t q n w)));
    }

-- ---- a span comes to the pools, or leaves them

class_same : (t : Tables) (f g : ℕ) (o : Option ℕ) → f < length t.classes → g ≡ f → get_or (set t.classes f o) g None ≡ o
class_same t f g o h e = ap (λ z. get_or (set t.classes f o) z None) e ∙ get_or-set_same t.classes f o None h

class_other : (t : Tables) (f g : ℕ) (o : Option ℕ) → g ≢ f → get_or (set t.classes f o) g None ≡ class_at t g
class_other t f g o n = get_or-set_other t.classes f g o None n

-- no span of the pools meets the pages
abbrev pub IsClear : Tables → ℕ → ℕ → Type 0
IsClear t f order = (g d : ℕ) → class_at t g ≡ Some d → (g + 2 ^ order_of d ≤ f) ⊎ (f + 2 ^ order ≤ g)

abbrev pub with_span : Tables → ℕ → ℕ → List ℕ → ℕ → Lists → Tables
with_span t f c firsts m lists = record { pages = t.pages; classes = set t.classes f (Some c); firsts = firsts; masks = set t.masks f m; lists = lists }

-- the span's pages are its own, and the others as they were
pub record IsOwned (old new : List ℕ) (f count : ℕ) : Type 0 where
  pub len : length new ≡ length old
  pub mine : (x : ℕ) → f ≤ x → x < f + count → get_or new x 0 ≡ f
  pub others : (x : ℕ) → (x < f) ⊎ (f + count ≤ x) → get_or new x 0 ≡ get_or old x 0

pub record IsAdded (t t' : Tables) (f c : ℕ) : Type 0 where
  pub consistent : IsConsistent t'
  pub allocated : (objects_of t').allocated ≡ (objects_of t).allocated
  pub held : (objects_of t').held ≡ map.insert (objects_of t).held f c

pub span_added : {t : Tables} → IsConsistent t → (f c m : ℕ) (firsts : List ℕ) (lists : Lists) → c < 37 → f + 2 ^ order_of c ≤ t.pages → IsClear t f (order_of c)
    → IsOwned t.firsts firsts f (2 ^ order_of c) → ((slot : ℕ) → slot < capacity_of c → bit_at m slot ≡ 1) → ((slot : ℕ) → capacity_of c ≤ slot → bit_at m slot ≡ 0)
    → IsRelisted t.lists lists f (list_of (Some c) m) → IsAdded t (with_span t f c firsts m lists) f c
span_added {t} h f c m firsts lists small inside clear owned free none moved =
    let pos = pow_pos (order_of c) in
    let cl = h.classes_len in let ml = h.masks_len in let ll = h.lists_len in let nl = moved.lists in
    let in_classes : f < length t.classes = omega arith in
    let in_mask : f < length t.masks = omega arith in
    let t' = with_span t f c firsts m lists in
    let now : class_at t' f ≡ Some c = class_same t f f (Some c) in_classes refl in
    let was : class_at t f ≡ None = none_of _ (λ d e. absurd (elim (clear f d e) [ inl a ↦ (let p = pow_pos (order_of d) in omega arith) | inr a ↦ omega arith ])) in
    let at_f : (g d : ℕ) → g ≡ f → class_at t' g ≡ Some d → c ≡ d = λ g d gf e. some_is (class_same t f g (Some c) in_classes gf) e in
    let other : (g d : ℕ) → g ≢ f → class_at t' g ≡ Some d → class_at t g ≡ Some d = λ g d n e. sym (class_other t f g (Some c) n) ∙ e in
    let not_f : (g d : ℕ) → class_at t g ≡ Some d → g ≢ f = λ g d e gf. some_or_none e (ap (class_at t) gf ∙ was) in
    let h' : IsConsistent t' = record {
      small = h.small;
      classes_len = length-set t.classes f (Some c) ∙ cl;
      firsts_len = owned.len ∙ h.firsts_len;
      masks_len = length-set t.masks f m ∙ ml;
      indices = moved.indices ∙ h.indices;
      lists_len = moved.lists ∙ h.lists_len;
      spans = λ g d e. elim (cases_eq g f) [
        | inl gf ↦ subst (λ z. (z < 37) × (g + 2 ^ order_of z ≤ t.pages)) (at_f g d gf e) (small, subst (λ z. z + 2 ^ order_of c ≤ t.pages) (sym gf) inside)
        | inr n ↦ h.spans g d (other g d n e)
      ];
      apart = λ p q a b ep eq l. elim (cases_eq p f) [
        | inl pf ↦ (let ca = at_f p a pf ep in
            let nq : q ≢ f = (λ z. absurd (omega arith)) in
            elim (clear q b (other q b nq eq)) [
              | inl z ↦ absurd (let pb = pow_pos (order_of b) in omega arith)
              | inr z ↦ subst (λ w. p + 2 ^ order_of w ≤ q) ca (omega arith)
            ])
        | inr np ↦ elim (cases_eq q f) [
          | inl qf ↦ elim (clear p a (other p a np ep)) [
            | inl z ↦ omega arith
            | inr z ↦ absurd (omega arith)
          ]
          | inr nq ↦ h.apart p q a b (other p a np ep) (other q b nq eq) l
        ]
      ];
      owners = λ g d x e l u. elim (cases_eq g f) [
        | inl gf ↦ owned.mine x (omega arith) (subst (λ w. x < f + 2 ^ order_of w) (sym (at_f g d gf e)) (subst (λ w. x < w + 2 ^ order_of d) gf u)) ∙ sym gf
        | inr n ↦ (let e' = other g d n e in
            owned.others x (elim (clear g d e') [ inl z ↦ inl (omega arith) | inr z ↦ inr (omega arith) ]) ∙ h.owners g d x e' l u)
      ];
      within = λ g d slot e l. elim (cases_eq g f) [
        | inl gf ↦ ap (λ z. bit_at z slot) (mask_same t f g m in_mask gf) ∙ none slot (subst (λ w. capacity_of w ≤ slot) (sym (at_f g d gf e)) l)
        | inr n ↦ ap (λ z. bit_at z slot) (mask_other t f g m n) ∙ h.within g d slot (other g d n e) l
      ];
      listed = λ k x s. elim (cases_eq x f) [
        | inl xf ↦ ap (λ w. times w (list_at lists k)) xf ∙ moved.stands k (omega arith)
            ∙ sym (ap (λ o. stands_on (list_of o (mask_at t' x)) k) (class_same t f x (Some c) in_classes xf) ∙ ap (λ z. stands_on (list_of (Some c) z) k) (mask_same t f x m in_mask xf))
        | inr n ↦ moved.others k x n ∙ h.listed k x s ∙ sym (ap (λ o. stands_on (list_of o (mask_at t' x)) k) (class_other t f x (Some c) n) ∙ ap (λ z. stands_on (list_of (class_at t x) z) k) (mask_other t f x m n))
      ];
    } in
    record {
      consistent = h';
      allocated = same_below (page * t.pages) (object_at t) (object_at t') (λ q _. same_option _ _
          (λ n w. (let o = object_is t' q n w in
          elim (cases_eq o.first f) [
            | inl of ↦ absurd (let one = free o.slot (subst (λ w. o.slot < capacity_of w) (sym (at_f o.first o.class of o.held)) o.in_slot) in
                let zero = sym (ap (λ z. bit_at z o.slot) (mask_same t f o.first m in_mask of)) ∙ o.taken in
                omega (arith, one, zero))
            | inr nf ↦ object_stays h q n o (other o.first o.class nf o.held) (sym (ap (λ z. bit_at z o.slot) (mask_other t f o.first m nf)) ∙ o.taken)
          ]))
          (λ n w. (let o = object_is t q n w in
          let nf = not_f o.first o.class o.held in
          object_stays h' q n o (class_other t f o.first (Some c) nf ∙ o.held) (ap (λ z. bit_at z o.slot) (mask_other t f o.first m nf) ∙ o.taken))));
      held = insert_below t.pages (class_at t) (class_at t') f c (omega arith) now (λ q n. class_other t f q (Some c) n);
    }

abbrev pub without_span : Tables → ℕ → Lists → Tables
without_span t f lists = record { pages = t.pages; classes = set t.classes f None; firsts = t.firsts; masks = t.masks; lists = lists }

pub record IsRemoved (t t' : Tables) (f : ℕ) : Type 0 where
  pub consistent : IsConsistent t'
  pub allocated : (objects_of t').allocated ≡ (objects_of t).allocated
  pub held : (objects_of t').held ≡ map.remove (objects_of t).held f

pub span_removed : {t : Tables} → IsConsistent t → (f c : ℕ) (lists : Lists) → class_at t f ≡ Some c → ((slot : ℕ) → slot < capacity_of c → bit_at (mask_at t f) slot ≡ 1)
    → IsRelisted t.lists lists f None → IsRemoved t (without_span t f lists) f
span_removed {t} h f c lists e free moved =
    let w = first_within h f c e in
    let cl = h.classes_len in let ll = h.lists_len in let nl = moved.lists in
    let in_classes : f < length t.classes = omega arith in
    let t' = without_span t f lists in
    let now : class_at t' f ≡ None = class_same t f f None in_classes refl in
    let not_f : (g d : ℕ) → class_at t' g ≡ Some d → g ≢ f = λ g d q gf. some_or_none q (class_same t f g None in_classes gf) in
    let other : (g d : ℕ) → class_at t' g ≡ Some d → class_at t g ≡ Some d = λ g d q. sym (class_other t f g None (not_f g d q)) ∙ q in
    let h' : IsConsistent t' = record {
      small = h.small;
      classes_len = length-set t.classes f None ∙ cl;
      firsts_len = h.firsts_len;
      masks_len = h.masks_len;
      indices = moved.indices ∙ h.indices;
      lists_len = moved.lists ∙ h.lists_len;
      spans = λ g d q. h.spans g d (other g d q);
      apart = λ p q a b ep eq l. h.apart p q a b (other p a ep) (other q b eq) l;
      owners = λ g d x q l u. h.owners g d x (other g d q) l u;
      within = λ g d slot q l. h.within g d slot (other g d q) l;
      listed = λ k x s. elim (cases_eq x f) [
        | inl xf ↦ ap (λ y. times y (list_at lists k)) xf ∙ moved.stands k (omega arith) ∙ sym (ap (λ o. stands_on (list_of o (mask_at t x)) k) (class_same t f x None in_classes xf))
        | inr n ↦ moved.others k x n ∙ h.listed k x s ∙ sym (ap (λ o. stands_on (list_of o (mask_at t x)) k) (class_other t f x None n))
      ];
    } in
    record {
      consistent = h';
      allocated = same_below (page * t.pages) (object_at t) (object_at t') (λ q _. same_option _ _
          (λ n v. (let o = object_is t' q n v in object_stays h q n o (other o.first o.class o.held) o.taken))
          (λ n v. (let o = object_is t q n v in
          let nf : o.first ≢ f = (λ of. absurd (let oc : o.class ≡ c = some_is o.held (ap (class_at t) of ∙ e) in
          let one = free o.slot (subst (λ y. o.slot < capacity_of y) oc o.in_slot) in
          let zero = sym (ap (λ y. bit_at (mask_at t y) o.slot) of) ∙ o.taken in
          omega (arith, one, zero))) in
          object_stays h' q n o (class_other t f o.first None nf ∙ o.held) o.taken)));
      held = remove_below t.pages (class_at t) (class_at t') f w now (λ q n. class_other t f q None n);
    }
