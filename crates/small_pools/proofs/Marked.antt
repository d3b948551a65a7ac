-- Which spans have an allocated object still, and which may have none.
use Rattle.std.proofs.Common.{◌≡◌, ◌≢◌, ℕ, zero, suc, ◌<◌, ◌⊎◌, inl, inr, Bool, true, false, cond, List, [], ◌∷◌, length, Some, None, refl, sym, ap, subst, ◌∙◌, arith}
use Rattle.std.specs.Prelude.{slice_set}
use Rattle.std.specs.Ordering.{nat_cmp}
use Rattle.std.specs.FinMap as map
use Rattle.std.proofs.lemmas.Bool.{cases_eq}
use Rattle.std.proofs.lemmas.List.{get_or_past, get_or-set_other, length-set}
use Rattle.std.proofs.lemmas.List.Sums.{sum_by-cons, sum_by-set}
use Rattle.common_lemmas.proofs.Orders.{lt_or_ge, trichotomy}
use Rattle.common_lemmas.proofs.Maps.{get_past_insert, get_past_remove}
use Rattle.common_lemmas.proofs.Options.{some_or_none}
use Rattle.number_set.specs.Numbers.{has, size}
use Rattle.small_pools.specs.Classes.{size_of, capacity_of}
use Rattle.small_pools.specs.Objects.{Objects, slot_place, IsHeld, HasObject, AreObjects, AreUsed}
use Rattle.small_pools.specs.inside.Marks.{AreMarked}
use Rattle.small_pools.proofs.Places.{slot_within}

-- slots of two spans begin at different bytes
slots_apart : (s : Objects) (f c g d i j : ℕ) → AreObjects s → IsHeld s f c → IsHeld s g d → f ≢ g → i < capacity_of c → j < capacity_of d → slot_place f c i ≢ slot_place g d j
slots_apart s f c g d i j are hf hg far li lj same =
    let kf = (are.spans f c hf).0 in let kg = (are.spans g d hg).0 in
    let wf = slot_within f c i kf.within li in let wg = slot_within g d j kg.within lj in
    let lf = wf.0 in let uf = wf.1 in let lg = wg.0 in let ug = wg.1 in let sf = kf.size_least in let sg = kg.size_least in
    elim (trichotomy f g) [
      | inl q ↦ far q
      | inr (inl l) ↦ (let apart = are.apart f g c d hf hg l in omega (arith, same, uf, lg, apart, sf))
      | inr (inr l) ↦ (let apart = are.apart g f d c hg hf l in omega (arith, same, ug, lf, apart, sg))
    ]

-- an object that is given back leaves those of other spans
pub others_used : (old new : Objects) (f c g d j : ℕ) → AreObjects old → IsHeld old f c → IsHeld old g d → f ≢ g → j < capacity_of d → new.allocated ≡ map.remove old.allocated (slot_place g d j)
    → HasObject old f c → HasObject new f c
others_used old new f c g d j are hf hg far lj e object = (
  object.0,
  object.1,
  ap (λ m. map.get m (slot_place f c object.0)) e
      ∙ get_past_remove old.allocated (slot_place g d j) (slot_place f c object.0) (slots_apart old f c g d object.0 j are hf hg far object.1 lj)
      ∙ object.2,
)

-- one that is taken leaves all others
pub more_used : (old new : Objects) (f c place size : ℕ) → map.get old.allocated place ≡ None → new.allocated ≡ map.insert old.allocated place size → HasObject old f c → HasObject new f c
more_used old new f c place size free e object =
    let other : slot_place f c object.0 ≢ place = (λ q. (let clash : Some (size_of c) ≡ None = sym object.2 ∙ ap (map.get old.allocated) q ∙ free in cc)) in
    (object.0, object.1, ap (λ m. map.get m (slot_place f c object.0)) e ∙ get_past_insert old.allocated place size (slot_place f c object.0) other ∙ object.2)

-- ---- marks

pub marked_none : (s : Objects) (marks : List Bool) → s.held ≡ map.empty → length marks ≡ s.pages → AreObjects s → AreMarked s marks
marked_none s marks none long objects = record { pages = long; others = λ f c h _. absurd (some_or_none (sym (ap (λ m. map.get m f) none) ∙ h) (map.get-empty nat_cmp f)); objects = objects }

pub none_marked : (marks : List Bool) → size marks ≡ 0 → (n : ℕ) → has marks n ≡ false
none_marked [] e n = refl
none_marked (true ∷ marks) e n = absurd (let step = sum_by-cons (λ (b : Bool). cond b 1 0) true marks in omega (arith, step, e))
none_marked (false ∷ marks) e zero = refl
none_marked (false ∷ marks) e (suc n) = none_marked marks (let step = sum_by-cons (λ (b : Bool). cond b 1 0) false marks in omega (arith, step, e)) n

pub all_used : (s : Objects) (marks : List Bool) → AreMarked s marks → size marks ≡ 0 → AreUsed s
all_used s marks h none = λ f c held. h.others f c held (none_marked marks none f)

pub marked_more : (old new : Objects) (marks : List Bool) (place n : ℕ) → AreMarked old marks → new.pages ≡ old.pages → map.get old.allocated place ≡ None → new.allocated ≡ map.insert old.allocated place n
    → ((f c : ℕ) → IsHeld new f c → IsHeld old f c ⊎ HasObject new f c) → AreObjects new → AreMarked new marks
marked_more old new marks place n h pages free e come objects = record {
  pages = h.pages ∙ sym pages;
  others = λ f c held off. elim (come f c held) [ inl was ↦ more_used old new f c place n free e (h.others f c was off) | inr object ↦ object ];
  objects = objects;
}

-- a span was looked at, and its mark goes
pub marked_less : (old new : Objects) (marks : List Bool) (first : ℕ) → AreMarked old marks → new.pages ≡ old.pages → new.allocated ≡ old.allocated → ((f c : ℕ) → IsHeld new f c → IsHeld old f c)
    → ((c : ℕ) → IsHeld new first c → HasObject new first c) → AreObjects new → AreMarked new (slice_set marks first false)
marked_less old new marks first h pages same kept used objects = record {
  pages = length-set marks first false ∙ h.pages ∙ sym pages;
  others = λ f c held off. elim (cases_eq f first) [
    | inl here ↦ subst (λ g. HasObject new g c) (sym here) (used c (subst (λ g. IsHeld new g c) here held))
    | inr far ↦
        let object = h.others f c (kept f c held) (sym (get_or-set_other marks first f false false far) ∙ off) in
        (object.0, object.1, ap (λ m. map.get m (slot_place f c object.0)) same ∙ object.2)
  ];
  objects = objects;
}

pub fewer_marks : (marks : List Bool) (first : ℕ) → has marks first ≡ true → size (slice_set marks first false) < size marks
fewer_marks marks first there =
    let inside : first < length marks = elim (lt_or_ge first (length marks)) [ inl l ↦ l | inr past ↦ absurd (let clash : false ≡ true = sym (get_or_past marks first false past) ∙ there in cc) ] in
    let sums = sum_by-set (λ (b : Bool). cond b 1 0) marks first false false inside in
    let one = ap (λ (b : Bool). let n : ℕ = cond b 1 0 in n) there in omega (arith, sums, one)
