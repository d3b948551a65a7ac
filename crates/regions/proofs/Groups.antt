-- Which segments are of a group, and closed in it, and what a group is by its fields.
use Rattle.std.proofs.Common.{◌≡◌, ◌≢◌, ℕ, zero, suc, ◌-◌, ◌<◌, inl, inr, Bool, true, false, not, cond, ◌&&◌, List, [], ◌∷◌, length, refl, sym, ap, ◌∙◌, subst, arith, eq-eqb}
use Rattle.std.specs.Prelude.{Option, None, Some, IsSome, is_some, slice_index, slice_set}
use Rattle.std.proofs.lemmas.Bool.{cases_eq, cases_Bool, ne_eqb, eqb-true}
use Rattle.std.proofs.lemmas.List.{get_or-set_same, get_or-set_other}
use Rattle.std.proofs.Math.Seq.{map-set_same}
use Rattle.regions.specs.Segments.{GroupState, group_at}
use Rattle.regions.specs.Shapes.{Slot, slot_at, group_in, active_in, is_free, is_held, is_begun, is_number, is_closed, is_closed_of, is_closed_in}
use Rattle.regions.specs.inside.Consistent.{GroupFields, states, fields_at, unused, lost}

-- the number that is there
pub number-is : (o : Option ℕ) (n : ℕ) → is_number o n ≡ true → o ≡ Some n
number-is None n e = absurd (let clash : false ≡ true = e in cc)
number-is (Some m) n e = ap (λ k. Some k) (sym (eqb-true n m e))

pub is-number : (o : Option ℕ) (n : ℕ) → o ≡ Some n → is_number o n ≡ true
is-number o n e = subst (λ a. is_number a n ≡ true) (sym e) (eq-eqb n n refl)

pub other-number : (o : Option ℕ) (m n : ℕ) → o ≡ Some n → m ≢ n → is_number o m ≡ false
other-number o m n e far = subst (λ a. is_number a m ≡ false) (sym e) (ne_eqb m n far)

pub none-there : (o : Option ℕ) → is_some o ≡ false → o ≡ None
none-there None e = refl
none-there (Some g) e = absurd (let clash : true ≡ false = e in cc)

not-false : (b : Bool) → not b ≡ true → b ≡ false
not-false true e = absurd (let clash : false ≡ true = e in cc)
not-false false e = refl

-- closed in the group with the number: of the group, and not its active segment
pub closed-in-from : (gs : List GroupState) (slots : List (Option Slot)) (g n : ℕ) → group_in (slot_at slots n) ≡ Some g → is_number (active_in gs g) n ≡ false → is_closed_in gs slots g n ≡ true
closed-in-from gs slots g n of other = rw (is-number (group_in (slot_at slots n)) g of, other) refl

pub closed-in-parts : (gs : List GroupState) (slots : List (Option Slot)) (g n : ℕ) → is_closed_in gs slots g n ≡ true → (group_in (slot_at slots n) ≡ Some g) × (is_number (active_in gs g) n ≡ false)
closed-in-parts gs slots g n =
    elim (cases_Bool (is_number (group_in (slot_at slots n)) g)) [
      | inl of ↦ λ e. (number-is (group_in (slot_at slots n)) g of, not-false (is_number (active_in gs g) n) (sym (ap (λ b. b && not (is_number (active_in gs g) n)) of) ∙ e))
      | inr other ↦ λ e. absurd (let clash : false ≡ true = sym (ap (λ b. b && not (is_number (active_in gs g) n)) other) ∙ e in cc)
    ]

-- closed in some group
pub closed-from : (gs : List GroupState) (slots : List (Option Slot)) (g n : ℕ) → group_in (slot_at slots n) ≡ Some g → is_number (active_in gs g) n ≡ false → is_closed gs slots n ≡ true
closed-from gs slots g n of other = ap (λ o. is_closed_of gs o n) of ∙ ap not other

pub closed-parts : (gs : List GroupState) (slots : List (Option Slot)) (n : ℕ) → is_closed gs slots n ≡ true → (g : ℕ) × (group_in (slot_at slots n) ≡ Some g) × (is_number (active_in gs g) n ≡ false)
closed-parts gs slots n e = of-group (group_in (slot_at slots n)) refl where
  of-group : (o : Option ℕ) → group_in (slot_at slots n) ≡ o → (g : ℕ) × (group_in (slot_at slots n) ≡ Some g) × (is_number (active_in gs g) n ≡ false)
  of-group None is = absurd (let clash : false ≡ true = sym (ap (λ o. is_closed_of gs o n) is) ∙ e in cc)
  of-group (Some g) is = (g, is, not-false (is_number (active_in gs g) n) (sym (ap (λ o. is_closed_of gs o n) is) ∙ e))

-- not closed in a group of which it is not, and not where it is active
pub open-of : (gs : List GroupState) (slots : List (Option Slot)) (g n : ℕ) (o : Option ℕ) → group_in (slot_at slots n) ≡ o → is_number o g ≡ false → is_closed_in gs slots g n ≡ false
open-of gs slots g n o is other = ap (λ q. is_number q g && not (is_number (active_in gs g) n)) is ∙ ap (λ b. b && not (is_number (active_in gs g) n)) other

and-false : (b : Bool) → (b && false) ≡ false
and-false true = refl
and-false false = refl

pub open-active : (gs : List GroupState) (slots : List (Option Slot)) (g n : ℕ) → active_in gs g ≡ Some n → is_closed_in gs slots g n ≡ false
open-active gs slots g n now = ap (λ b. is_number (group_in (slot_at slots n)) g && not b) (is-number (active_in gs g) n now) ∙ and-false (is_number (group_in (slot_at slots n)) g)

-- what is closed in a group goes by its active segment and the segment's group
pub closed-in-same : (gs hs : List GroupState) (slots others : List (Option Slot)) (g n : ℕ) → active_in hs g ≡ active_in gs g → group_in (slot_at others n) ≡ group_in (slot_at slots n)
    → is_closed_in hs others g n ≡ is_closed_in gs slots g n
closed-in-same gs hs slots others g n a s = ap (λ o. is_number o g && not (is_number (active_in hs g) n)) s ∙ ap (λ q. is_number (group_in (slot_at slots n)) g && not (is_number q n)) a

pub closed-same : (gs hs : List GroupState) (slots others : List (Option Slot)) (n : ℕ) → ((g : ℕ) → active_in hs g ≡ active_in gs g) → group_in (slot_at others n) ≡ group_in (slot_at slots n)
    → is_closed hs others n ≡ true → is_closed gs slots n ≡ true
closed-same gs hs slots others n a s e =
    let p = closed-parts hs others n e in closed-from gs slots p.0 n (sym s ∙ p.1) (ap (λ q. is_number q n) (sym (a p.0)) ∙ p.2)

-- one where it is, and none where not
abbrev pub counted-as : Bool → ℕ
counted-as b = cond b 1 0

-- what is begun or free is there
pub begun-held : (s : Option Slot) → is_begun s ≡ true → is_held s ≡ true
begun-held None e = absurd (let clash : false ≡ true = e in cc)
begun-held (Some b) e = refl

pub of-begun : (s : Option Slot) (g : ℕ) → group_in s ≡ Some g → is_begun s ≡ true
of-begun s g e = ap is_some e

pub held-within : (slots : List (Option Slot)) (n : ℕ) → is_held (slot_at slots n) ≡ true → n < length slots
held-within [] n e = absurd (let clash : false ≡ true = e in cc)
held-within (s ∷ ss) zero e = omega arith
held-within (s ∷ ss) (suc n) e = let rest = held-within ss n e in omega (arith, rest)

pub free-held : (s : Option Slot) → is_free s ≡ true → is_held s ≡ true
free-held None e = absurd (let clash : false ≡ true = e in cc)
free-held (Some b) e = refl

pub free-unbegun : (s : Option Slot) → is_free s ≡ true → is_begun s ≡ false
free-unbegun None e = refl
free-unbegun (Some b) e = not-false (is_some b.group) e

-- an object that dies leaves the group its active segment and its guards
pub lost-state : (n k : ℕ) (f : GroupFields) → (lost n k f).state ≡ f.state
lost-state n k f =
    elim (is_number f.state.active n) as (λ b. (let x : GroupFields = cond b (record f { live = f.live - k }) (record f { table = slice_set f.table n (slice_index f.table n - k) }) in x).state ≡ f.state) [
      | true ↦ refl
      | false ↦ refl
    ]

-- what a group is, by its fields
pub states-at : (groups : List GroupFields) (g : ℕ) → group_at (states groups) g ≡ (fields_at groups g).state
states-at [] g = refl
states-at (f ∷ fs) zero = refl
states-at (f ∷ fs) (suc g) = states-at fs g

pub active-at : (groups : List GroupFields) (g : ℕ) → active_in (states groups) g ≡ (fields_at groups g).state.active
active-at groups g = ap (λ (s : GroupState). s.active) (states-at groups g)

-- a group with an active segment is there
pub group-within : (groups : List GroupFields) (g : ℕ) → IsSome (active_in (states groups) g) → g < length groups
group-within [] g e = absurd (let clash : false ≡ true = e in cc)
group-within (f ∷ fs) zero e = omega arith
group-within (f ∷ fs) (suc g) e = let rest = group-within fs g e in omega (arith, rest)

-- one group has other fields
module _ (groups : List GroupFields) (g : ℕ) (f new : GroupFields) (is : fields_at groups g ≡ f) (w : g < length groups) where
  pub fields-here : fields_at (slice_set groups g new) g ≡ new
  fields-here = get_or-set_same groups g new (unused 0) w

  pub fields-other : (h : ℕ) → h ≢ g → fields_at (slice_set groups g new) h ≡ fields_at groups h
  fields-other h far = get_or-set_other groups g h new (unused 0) far

  pub states-kept : new.state ≡ f.state → states (slice_set groups g new) ≡ states groups
  states-kept e = map-set_same (λ (f : GroupFields). f.state) groups g new (unused 0) (e ∙ ap (λ (f : GroupFields). f.state) (sym is))

  pub active-here : active_in (states (slice_set groups g new)) g ≡ new.state.active
  active-here = active-at (slice_set groups g new) g ∙ ap (λ (f : GroupFields). f.state.active) fields-here

  pub active-other : (h : ℕ) → h ≢ g → active_in (states (slice_set groups g new)) h ≡ active_in (states groups) h
  active-other h far = active-at (slice_set groups g new) h ∙ ap (λ (f : GroupFields). f.state.active) (fields-other h far) ∙ sym (active-at groups h)

  pub table-kept : new.table ≡ f.table → (h : ℕ) → (fields_at (slice_set groups g new) h).table ≡ (fields_at groups h).table
  table-kept e h =
      elim (cases_eq h g) [
        | inl same ↦ subst (λ k. (fields_at (slice_set groups g new) k).table ≡ (fields_at groups k).table) (sym same) (ap (λ (f : GroupFields). f.table) fields-here ∙ e ∙ ap (λ (f : GroupFields). f.table) (sym is))
        | inr far ↦ ap (λ (f : GroupFields). f.table) (fields-other h far)
      ]

  pub live-kept : new.live ≡ f.live → (h : ℕ) → (fields_at (slice_set groups g new) h).live ≡ (fields_at groups h).live
  live-kept e h =
      elim (cases_eq h g) [
        | inl same ↦ subst (λ k. (fields_at (slice_set groups g new) k).live ≡ (fields_at groups k).live) (sym same) (ap (λ (f : GroupFields). f.live) fields-here ∙ e ∙ ap (λ (f : GroupFields). f.live) (sym is))
        | inr far ↦ ap (λ (f : GroupFields). f.live) (fields-other h far)
      ]
