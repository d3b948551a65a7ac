-- What is known of a closed segment.
use Rattle.std.proofs.Common.{◌≡◌, ◌≢◌, ℕ, zero, suc, ◌<◌, true, false, not, ◌&&◌, List, [], ◌∷◌, length, refl, sym, ap, ◌∙◌, subst, arith, eq-eqb}
use Rattle.std.specs.Prelude.{Option, None, Some, is_some}
use Rattle.std.proofs.lemmas.Bool.{and_parts, eqb-true}
use Rattle.std.proofs.lemmas.List.{length-map}
use Rattle.regions.specs.Segments.{RegionState}
use Rattle.regions.specs.Shapes.{Slot, slots_of, slot_at, shape, is_begun, is_number, is_closed_of, group_of, active_of, guards_in, guards_of, guards_at, IsClosed, IsClosedIn}
use Rattle.regions.specs.Counts.{live_counts}

number-is : (o : Option ℕ) (n : ℕ) → is_number o n ≡ true → o ≡ Some n
number-is None n e = absurd (let clash : false ≡ true = e in cc)
number-is (Some m) n e = ap (λ k. Some k) (sym (eqb-true n m e))

is-number : (o : Option ℕ) (n : ℕ) → o ≡ Some n → is_number o n ≡ true
is-number o n e = subst (λ a. is_number a n ≡ true) (sym e) (eq-eqb n n refl)

-- in the group of which it is
pub closed-of : (r : RegionState) (g n : ℕ) → IsClosed r n → group_of r n ≡ Some g → IsClosedIn r g n
closed-of r g n shut of = ap (λ b. b && not (is_number (active_of r g) n)) (is-number (group_of r n) g of) ∙ (sym (ap (λ o. is_closed_of (shape r).groups o n) of) ∙ shut)

-- it is of some group
pub closed-parts : (r : RegionState) (n : ℕ) → IsClosed r n → (g : ℕ) × (group_of r n ≡ Some g) × IsClosedIn r g n
closed-parts r n shut = of-group (group_of r n) refl where
  of-group : (o : Option ℕ) → group_of r n ≡ o → (g : ℕ) × (group_of r n ≡ Some g) × IsClosedIn r g n
  of-group None is = absurd (let clash : false ≡ true = sym (ap (λ o. is_closed_of (shape r).groups o n) is) ∙ shut in cc)
  of-group (Some g) is = (g, is, closed-of r g n shut is)

pub group-of-closed : (r : RegionState) (g n : ℕ) → IsClosedIn r g n → group_of r n ≡ Some g
group-of-closed r g n shut = number-is (group_of r n) g (and_parts (is_number (group_of r n) g) (not (is_number (active_of r g) n)) shut).0

-- what is closed in a group is closed
pub closed-in : (r : RegionState) (g n : ℕ) → IsClosedIn r g n → IsClosed r n
closed-in r g n shut =
    ap (λ o. is_closed_of (shape r).groups o n) (group-of-closed r g n shut) ∙ (and_parts (is_number (group_of r n) g) (not (is_number (active_of r g) n)) shut).1

-- where each group keeps what is closed in it
pub closed-kept : (old new : RegionState) → ((h m : ℕ) → IsClosedIn old h m → IsClosedIn new h m) → (m : ℕ) → IsClosed old m → IsClosed new m
closed-kept old new kept m shut = let p = closed-parts old m shut in closed-in new p.0 m (kept p.0 m p.2)

-- the active segment of a group is none
pub not-active : (r : RegionState) (g n m : ℕ) → IsClosed r n → active_of r g ≡ Some m → group_of r m ≡ Some g → n ≢ m
not-active r g n m shut active of same =
    absurd (let clash : false ≡ true = sym (ap not (is-number (active_of r g) n (active ∙ ap (λ k. Some k) (sym same)))) ∙ (sym (ap (λ o. is_closed_of (shape r).groups o n) (ap (group_of r) same ∙ of)) ∙ shut) in cc)

-- its guards are those of its group
pub guards-of-closed : (r : RegionState) (g n : ℕ) → IsClosedIn r g n → guards_at r n ≡ guards_of r g
guards-of-closed r g n shut = ap (guards_in (shape r).groups) (group-of-closed r g n shut)

begun-within : (slots : List (Option Slot)) (n : ℕ) → is_begun (slot_at slots n) ≡ true → n < length slots
begun-within [] n e = absurd (let clash : false ≡ true = e in cc)
begun-within (s ∷ ss) zero e = omega arith
begun-within (s ∷ ss) (suc n) e = let rest = begun-within ss n e in omega (arith, rest)

-- its number is one of those that are counted
pub within-live : (r : RegionState) (n : ℕ) → IsClosed r n → n < length (live_counts r)
within-live r n shut =
    let slots = slots_of r.segments in
    let inside = begun-within slots n (ap is_some (closed-parts r n shut).1) in
    let long : length slots ≡ length r.segments = length-map r.segments _ in
    let counts : length (live_counts r) ≡ length r.segments = length-map r.segments _ in omega (arith, inside, long, counts)
