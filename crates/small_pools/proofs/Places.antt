-- What is allocated at a place, by the tables.
use Rattle.std.proofs.Common.{◌≡◌, ℕ, suc, ◌+◌, ◌-◌, ◌*◌, ◌/◌, ◌^◌, ◌<◌, ◌≤◌, inl, inr, Bool, true, false, cond, eqb, ltb, ◌&&◌, Option, Some, None, refl, sym, ap, subst, ◌∙◌, arith}
use Rattle.std.proofs.Math.Nat.{mul-le-mul_right, mul-div_cancel}
use Rattle.std.proofs.lemmas.Nat.{le-div, div_below}
use Rattle.std.proofs.lemmas.Bool.Decides.{eqb_tells, leb_tells}
use Rattle.std.specs.Int.{bit_at}
use Rattle.layout.specs.Sizes.{page}
use Rattle.common_lemmas.proofs.Options.{some_is, none_of}
use Rattle.small_pools.specs.Classes.{size_of, order_of, capacity_of}
use Rattle.small_pools.specs.Objects.{slot_place}
use Rattle.small_pools.specs.inside.Tables.{Tables, class_at, first_of, mask_at, object_in, object_at, IsConsistent}
use Rattle.small_pools.proofs.ClassFacts.{is_class}

-- a slot of a span lies in its pages
pub slot_within : (first class slot : ℕ) → class < 37 → slot < capacity_of class → (page * first ≤ slot_place first class slot) × (slot_place first class slot + size_of class ≤ page * (first + 2 ^ order_of class))
slot_within first class slot c s =
    let fits = (is_class class c).fits in
    let more : (slot + 1) * size_of class ≤ capacity_of class * size_of class = mul-le-mul_right (size_of class) (omega arith) in
    (omega arith, omega (arith, more, fits))

pub slot_page : (first class slot : ℕ) → class < 37 → slot < capacity_of class → (first ≤ slot_place first class slot / page) × (slot_place first class slot / page < first + 2 ^ order_of class)
slot_page first class slot c s =
    let w = slot_within first class slot c s in
    let k = (is_class class c).size_least in
    let low = w.0 in let high = w.1 in
    (le-div first (slot_place first class slot) 4096 (omega arith) (omega arith), div_below (slot_place first class slot) 4096 (first + 2 ^ order_of class) (omega arith) (omega arith))

pub slot_back : (first class slot : ℕ) → class < 37 → (slot_place first class slot - page * first) / size_of class ≡ slot
slot_back first class slot c =
    let k = (is_class class c).size_least in
    let e : slot_place first class slot - page * first ≡ slot * size_of class = omega arith in
    ap (λ n. n / size_of class) e ∙ mul-div_cancel slot (omega arith)

pub owner_is : {t : Tables} → IsConsistent t → (first class slot : ℕ) → class_at t first ≡ Some class → slot < capacity_of class → first_of t (slot_place first class slot / page) ≡ first
owner_is h first class slot e s =
    let p = slot_page first class slot (h.spans first class e).0 s in
    h.owners first class (slot_place first class slot / page) e p.0 p.1

eqb_same : (a b : ℕ) → a ≡ b → eqb a b ≡ true
eqb_same a b e = elim (eqb_tells a b) [ inl h ↦ h.0 | inr h ↦ absurd (h.1 e) ]

of_eqb : (a b : ℕ) → eqb a b ≡ true → a ≡ b
of_eqb a b e = elim (eqb_tells a b) [ inl h ↦ h.1 | inr h ↦ absurd (let clash : false ≡ true = sym h.0 ∙ e in cc) ]

ltb_same : (a b : ℕ) → a < b → ltb a b ≡ true
ltb_same a b l = elim (leb_tells (suc a) b) [ inl h ↦ h.0 | inr h ↦ absurd (let g = h.1 in omega (arith, g)) ]

of_ltb : (a b : ℕ) → ltb a b ≡ true → a < b
of_ltb a b e = elim (leb_tells (suc a) b) [ inl h ↦ (let g = h.1 in omega (arith, g)) | inr h ↦ absurd (let clash : false ≡ true = sym h.0 ∙ e in cc) ]

where_all_hold : (a b c : Bool) (n : ℕ) → a ≡ true → b ≡ true → c ≡ true → cond (a && (b && c)) (Some n) None ≡ Some n
where_all_hold a b c n ea eb ec = ap (λ x. cond (x && (b && c)) (Some n) None) ea ∙ ap (λ x. cond (x && c) (Some n) None) eb ∙ ap (λ x. cond x (Some n) None) ec

all_hold : (a b c : Bool) (n m : ℕ) → cond (a && (b && c)) (Some n) None ≡ Some m → (a ≡ true) × (b ≡ true) × (c ≡ true) × (n ≡ m)
all_hold true true true n m e = (refl, refl, refl, some_is refl e)
all_hold true true false n m e = absurd (let clash : None ≡ Some m = e in cc)
all_hold true false c n m e = absurd (let clash : None ≡ Some m = e in cc)
all_hold false b c n m e = absurd (let clash : None ≡ Some m = e in cc)

-- a slot that is not free is allocated
pub object_hit : {t : Tables} → IsConsistent t → (first class slot : ℕ) → class_at t first ≡ Some class → slot < capacity_of class → bit_at (mask_at t first) slot ≡ 0
    → object_at t (slot_place first class slot) ≡ Some (size_of class)
object_hit {t} h first class slot e s taken =
    let c = (h.spans first class e).0 in
    let p = slot_place first class slot in
    let owner = owner_is h first class slot e s in
    let back = slot_back first class slot c in
    ap (λ f. object_in (mask_at t f) p f (class_at t f)) owner ∙ ap (object_in (mask_at t first) p first) e
    ∙ where_all_hold _ _ _ (size_of class)
    (eqb_same _ _ (ap (λ n. slot_place first class n) back))
    (ltb_same _ _ (subst (λ n. n < capacity_of class) (sym back) s))
    (eqb_same _ _ (ap (bit_at (mask_at t first)) back ∙ taken))

-- what is allocated is in a slot that is not free
pub record IsAllocatedAt (t : Tables) (place size : ℕ) : Type 0 where
  pub first : ℕ
  pub class : ℕ
  pub slot : ℕ
  pub held : class_at t first ≡ Some class
  pub in_slot : slot < capacity_of class
  pub at : place ≡ slot_place first class slot
  pub taken : bit_at (mask_at t first) slot ≡ 0
  pub size_is : size ≡ size_of class
  pub owner : first_of t (place / page) ≡ first

object_in_is : (mask place first n : ℕ) (o : Option ℕ) → object_in mask place first o ≡ Some n
    → (class : ℕ) × (slot : ℕ) × (o ≡ Some class) × (slot < capacity_of class) × (place ≡ slot_place first class slot) × (bit_at mask slot ≡ 0) × (n ≡ size_of class)
object_in_is mask place first n None e = absurd (let clash : None ≡ Some n = e in cc)
object_in_is mask place first n (Some class) e =
    let slot = (place - page * first) / size_of class in
    let a = all_hold (eqb (slot_place first class slot) place) (ltb slot (capacity_of class)) (eqb (bit_at mask slot) 0) (size_of class) n e in
    (class, slot, refl, of_ltb _ _ a.1, sym (of_eqb _ _ a.0), of_eqb _ _ a.2, sym a.3)

pub object_is : (t : Tables) (place n : ℕ) → object_at t place ≡ Some n → IsAllocatedAt t place n
object_is t place n e =
    let first = first_of t (place / page) in
    let o = object_in_is (mask_at t first) place first n (class_at t first) e in
    record { first = first; class = o.0; slot = o.1; held = o.2; in_slot = o.3; at = o.4; taken = o.5; size_is = o.6; owner = refl }

-- two slots at one place are one
pub same_slot : {t : Tables} → IsConsistent t → (f c i g d j : ℕ) → class_at t f ≡ Some c → class_at t g ≡ Some d → i < capacity_of c → j < capacity_of d → slot_place f c i ≡ slot_place g d j → (f ≡ g) × (c ≡ d) × (i ≡ j)
same_slot {t} h f c i g d j ec ed si sj e =
    let fg : f ≡ g = sym (owner_is h f c i ec si) ∙ ap (λ p. first_of t (p / page)) e ∙ owner_is h g d j ed sj in
    let cd : c ≡ d = some_is ec (ap (class_at t) fg ∙ ed) in
    let small = (h.spans f c ec).0 in
    (fg, cd, sym (slot_back f c i small) ∙ ap (λ p. (p - page * f) / size_of c) (e ∙ ap (λ z. slot_place z d j) (sym fg) ∙ ap (λ z. slot_place f z j) (sym cd)) ∙ slot_back f c j small)

-- a slot that is free is not allocated
pub object_free : {t : Tables} → IsConsistent t → (first class slot : ℕ) → class_at t first ≡ Some class → slot < capacity_of class → bit_at (mask_at t first) slot ≡ 1 → object_at t (slot_place first class slot) ≡ None
object_free {t} h first class slot e s free = none_of _ (λ n q.
    (let o = object_is t (slot_place first class slot) n q in
    let same = same_slot h first class slot o.first o.class o.slot e o.held s o.in_slot o.at in
    let clash : bit_at (mask_at t first) slot ≡ 0 = ap (λ z. bit_at (mask_at t z) slot) same.0 ∙ ap (bit_at (mask_at t o.first)) same.2 ∙ o.taken in
    absurd (omega (arith, free, clash))))

-- what is allocated stays so in other tables in which its slot is not free
pub object_stays : {t t' : Tables} → IsConsistent t' → (q n : ℕ) (o : IsAllocatedAt t q n) → class_at t' o.first ≡ Some o.class → bit_at (mask_at t' o.first) o.slot ≡ 0 → object_at t' q ≡ Some n
object_stays {t} {t'} h q n o held taken = ap (object_at t') o.at ∙ object_hit h o.first o.class o.slot held o.in_slot taken ∙ ap (λ z. Some z) (sym o.size_is)
