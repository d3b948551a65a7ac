use Rattle.std.proofs.Common.{rules, ◌≡◌, ◌≢◌, ◌-◌, ◌<◌, inl, inr, ℕ, List, true, false, not, length, get_or, refl, sym, ap, ◌∙◌, subst, arith}
use Rattle.std.specs.Prelude.{Option, None, Some, IsSome, IfSome, is_some, slice_set}
use Rattle.std.specs.List.{sum}
use Rattle.std.proofs.lemmas.Bool.{cases_eq}
use Rattle.std.proofs.lemmas.List.{map-set}
use Rattle.layout.specs.Sizes.{segment, greatest_object}
use Rattle.regions.specs.Segments.{GroupState, RegionState, group_at}
use Rattle.regions.specs.Shapes.{Shape, shape, slots_of, slot_at, group_in, active_in, is_free, is_number, is_closed_in, activated, active_of, IsClosedIn, IsLeastFree, free_count, held_count, pieces}
use Rattle.regions.specs.inside.Consistent.{GroupFields, states, begun}
use Rattle.regions.specs.Counts.{used_counts, live_counts, used_in_each, live_in_each, left, left_of}
use Rattle.regions.proofs.Tables as tables
use Rattle.regions.proofs.Updates.{used-same, live-same}
use Rattle.regions.proofs.Groups.{counted-as, closed-in-parts, other-number, active-at, states-at, active-here, active-other}
use Rattle.regions.proofs.Regions.{Fields, activates-in, active-tabled, closed-now, free-group, group-in, group-is, group-there, live-unused, slots-activated, pieces-same, held-same, used-there}
use Rattle.regions.proofs.Members.{counted-change, says-free, free-in, free-at, free-there}
use Rattle.regions.proofs.Totals.{total-same}
use Rattle.regions.proofs.region.Region.next_active.Goals as goal

pub segment_mut-requires : goal.segment_mut-requires
segment_mut-requires c =
    let i = c.self.inside in let slots = i.slots.items in let n = c.least_of-number.result in let v = c.self.invariant.0 in let f = c.least_of-number.ensures in
    subst (λ s. IsSome s) (tables.slot-is slots n c.index_mut.result.now None (free-in slots i.held i.free v.held v.free n f.0) c.index_mut.ensures.value)
    (free-there (get_or slots n None) (free-at slots i.held i.free v.held v.free n f.0))

pub begin-requires : goal.begin-requires
begin-requires c =
    let i = c.self.inside in let slots = i.slots.items in let n = c.least_of-number.result in let v = c.self.invariant.0 in let f = c.least_of-number.ensures in
    let inside = free-in slots i.held i.free v.held v.free n f.0 in
    free-group (get_or slots n None) c.segment_mut.result.now (tables.slot-is slots n c.index_mut.result.now None inside c.index_mut.ensures.value ∙ c.segment_mut.ensures.value) (free-at slots i.held i.free v.held v.free n f.0)

pub index_mut-requires-2 : goal.index_mut-requires-2
index_mut-requires-2 c = let i = c.self.inside in let w = group-in i.most i.groups.items i.slots.items c.args.self.now c.args.group c.self.view_is c.requires.group in search rules

pub begin-requires-2 : goal.begin-requires-2
begin-requires-2 c =
    let i = c.self.inside in let g = c.args.group in let v = c.self.invariant.0 in
    let w = group-in i.most i.groups.items i.slots.items c.args.self.now g c.self.view_is c.requires.group in
    let f = c.index_mut-2.result.now in let there = group-there i.groups.items g f w c.index_mut-2.ensures.value in
    active-tabled i.most i.groups.items i.held i.free i.slots.items v g f there w

-- the number is that of a free segment, which was begun
record Known (c : goal.After-self-2-1) : Type 0 where
  pub inside : c.least_of-number.result < length c.self.inside.slots.items
  pub is : get_or c.self.inside.slots.items c.least_of-number.result None ≡ Some c.segment_mut.result.now
  pub was : c.segment_mut.result.now.group ≡ None

known : (c : goal.After-self-2-1) → Known c
known c =
    let i = c.self.inside in let slots = i.slots.items in let n = c.least_of-number.result in let v = c.self.invariant.0 in let f = c.least_of-number.ensures in
    let inside = free-in slots i.held i.free v.held v.free n f.0 in
    let is : get_or slots n None ≡ Some c.segment_mut.result.now = tables.slot-is slots n c.index_mut.result.now None inside c.index_mut.ensures.value ∙ c.segment_mut.ensures.value in record {
      inside = inside;
      is = is;
      was = free-group (get_or slots n None) c.segment_mut.result.now is (free-at slots i.held i.free v.held v.free n f.0);
    }

abbrev before : goal.After-self-2-1 → RegionState
before c = let i = c.self.inside in record { most = i.most; groups = states i.groups.items; segments = i.slots.items }

pub invariant_of-self : goal.invariant_of-self
invariant_of-self c =
    let i = c.self.inside in let slots = i.slots.items in let n = c.least_of-number.result in let k = known c in let e = c.begin.ensures in let g = c.args.group in
    let w = group-in i.most i.groups.items slots c.args.self.now g c.self.view_is c.requires.group in
    let f = c.index_mut-2.result.now in let there = group-there i.groups.items g f w c.index_mut-2.ensures.value in
    let h = c.segment_mut.result.now in
    let full : IsSome f.state.active → left_of (used_in_each slots) f.state.active < greatest_object =
    subst (λ o. IsSome o → left_of (used_in_each slots) o < greatest_object) (active-at i.groups.items g ∙ ap (λ (x : GroupFields). x.state.active) there)
    (subst (λ q. IsSome (active_of q g) → left q g < greatest_object) (sym c.self.view_is) c.requires.full) in
    let same = live-same slots n h c.begin.new.self k.is (live-unused c.begin.new.self e.unused.1 ∙ sym (live-unused h e.unused.0)) in (
      subst (λ x. Fields i.most (slice_set i.groups.items g x) i.held c.remove.new.self (slice_set slots n (Some c.begin.new.self))) (sym c.begin-2.ensures)
          (subst (λ x. Fields i.most (slice_set i.groups.items g (begun n f)) i.held x (slice_set slots n (Some c.begin.new.self))) (sym c.remove.ensures)
          (activates-in i.most i.groups.items i.held i.free slots c.self.invariant.0 n h c.begin.new.self k.is g f there w k.was e.slot e.unused.0 e.unused.1 full)),
      total-same i.live (live_in_each slots) _ c.self.invariant.1 same,
    )

-- the groups afterwards
abbrev after : goal.After-self-2-1 → List GroupState
after c = states (slice_set c.self.inside.groups.items c.args.group c.begin-2.new.self)

after-is : (c : goal.After-self-2-1) → after c ≡ slice_set (states c.self.inside.groups.items) c.args.group (record { active = Some c.least_of-number.result; guards = (group_at (states c.self.inside.groups.items) c.args.group).guards })
after-is c =
    let i = c.self.inside in let slots = i.slots.items in let n = c.least_of-number.result in let k = known c in let e = c.begin.ensures in let g = c.args.group in
    let w = group-in i.most i.groups.items slots c.args.self.now g c.self.view_is c.requires.group in
    let f = c.index_mut-2.result.now in let there = group-there i.groups.items g f w c.index_mut-2.ensures.value in
    map-set (λ (x : GroupFields). x.state) i.groups.items g c.begin-2.new.self
    ∙ ap (slice_set (states i.groups.items) g) (ap (λ (x : GroupFields). x.state) c.begin-2.ensures
    ∙ ap (λ k. let s : GroupState = record { active = Some n; guards = k } in s) (ap (λ (x : GroupFields). x.state.guards) (sym there) ∙ sym (ap (λ (s : GroupState). s.guards) (states-at i.groups.items g))))

after-here : (c : goal.After-self-2-1) → active_in (after c) c.args.group ≡ Some c.least_of-number.result
after-here c =
    let i = c.self.inside in let slots = i.slots.items in let n = c.least_of-number.result in let k = known c in let e = c.begin.ensures in let g = c.args.group in
    let w = group-in i.most i.groups.items slots c.args.self.now g c.self.view_is c.requires.group in
    let f = c.index_mut-2.result.now in let there = group-there i.groups.items g f w c.index_mut-2.ensures.value in
    active-here i.groups.items g f c.begin-2.new.self there w ∙ ap (λ (x : GroupFields). x.state.active) c.begin-2.ensures

pub returns-clause-activated : goal.returns-clause-activated
returns-clause-activated c =
    let i = c.self.inside in let slots = i.slots.items in let n = c.least_of-number.result in let v = c.self.invariant.0 in let f = c.least_of-number.ensures in let k = known c in
    let at = says-free slots i.held i.free v.held v.free in
    let least : IsLeastFree (before c) n = (sym (at n) ∙ f.0, λ m low g. (let clash : false ≡ true = sym (f.1 m low) ∙ at m ∙ g in cc)) in
    let shaped : shape (record { most = i.most; groups = after c; segments = slice_set slots n (Some c.begin.new.self) }) ≡ activated c.args.group n (shape (before c)) =
    ap (λ gs. shape (record { most = i.most; groups = gs; segments = slice_set slots n (Some c.begin.new.self) })) (after-is c)
    ∙ ap (λ s. let t : Shape = record { most = i.most; groups = slice_set (states i.groups.items) c.args.group (record { active = Some n; guards = (group_at (states i.groups.items) c.args.group).guards }); slots = s } in t)
    (slots-activated slots n c.segment_mut.result.now c.begin.new.self k.is c.args.group c.begin.ensures.slot) in
    (n, subst (λ q. IsLeastFree q n) c.self.view_is least, shaped ∙ ap (λ q. activated c.args.group n (shape q)) c.self.view_is)

-- what was of a group, and is not the new segment, is closed in it where it is not the group's active one
closed-after : (c : goal.After-self-2-1) (h m : ℕ) → group_in (slot_at (slots_of c.self.inside.slots.items) m) ≡ Some h → (h ≢ c.args.group → is_number (active_in (states c.self.inside.groups.items) h) m ≡ false)
    → is_closed_in (after c) (slots_of (slice_set c.self.inside.slots.items c.least_of-number.result (Some c.begin.new.self))) h m ≡ true
closed-after c h m of shut =
    let i = c.self.inside in let slots = i.slots.items in let n = c.least_of-number.result in let k = known c in let e = c.begin.ensures in let g = c.args.group in
    let w = group-in i.most i.groups.items slots c.args.self.now g c.self.view_is c.requires.group in
    let f = c.index_mut-2.result.now in let there = group-there i.groups.items g f w c.index_mut-2.ensures.value in
    let far : m ≢ n = λ same. (let clash : None ≡ Some h = sym (group-is i.most i.groups.items i.held i.free slots c.self.invariant.0 n c.segment_mut.result.now c.segment_mut.result.now k.is ∙ k.was) ∙ subst (λ j. group_in (slot_at (slots_of slots) j) ≡ Some h) same of in cc) in
    closed-now slots n c.segment_mut.result.now c.begin.new.self k.is (after c) h m of k.was
    (elim (cases_eq h g) [
      | inl mine ↦ other-number (active_in (after c) h) m n (subst (λ j. active_in (after c) j ≡ Some n) (sym mine) (after-here c)) far
      | inr away ↦ ap (λ o. is_number o m) (active-other i.groups.items g f c.begin-2.new.self there w h away) ∙ shut away
    ])

pub returns-clause-closed : goal.returns-clause-closed
returns-clause-closed c h m was-closed =
    let i = c.self.inside in let slots = i.slots.items in
    let shut : is_closed_in (states i.groups.items) (slots_of slots) h m ≡ true = subst (λ q. IsClosedIn q h m) (sym c.self.view_is) was-closed in
    let parts = closed-in-parts (states i.groups.items) (slots_of slots) h m shut in closed-after c h m parts.0 (λ _. parts.1)

pub returns-clause-ended : goal.returns-clause-ended
returns-clause-ended c =
    let i = c.self.inside in let g = c.args.group in
    subst (λ o. IfSome o (λ m. is_closed_in (after c) (slots_of (slice_set i.slots.items c.least_of-number.result (Some c.begin.new.self))) g m ≡ true)) (ap (λ q. active_of q g) c.self.view_is)
    (of-active (active_in (states i.groups.items) g) (λ m now. closed-after c g m ((c.self.invariant.0).active g m now) (λ away. absurd (away refl)))) where
      of-active : {P : ℕ → Type 0} (o : Option ℕ) → ((m : ℕ) → o ≡ Some m → P m) → IfSome o P
      of-active None all = tt
      of-active (Some m) all = all m refl

pub returns-clause-pieces : goal.returns-clause-pieces
returns-clause-pieces c =
    pieces-same c.self.inside.slots.items c.least_of-number.result c.segment_mut.result.now c.begin.new.self (known c).is (ap (λ b. b.piece) c.begin.ensures.slot) ∙ ap pieces c.self.view_is

pub returns-clause-left : goal.returns-clause-left
returns-clause-left c =
    let slots = c.self.inside.slots.items in let n = c.least_of-number.result in
    let there = used-there slots n c.segment_mut.result.now c.begin.new.self (known c).is in
    ap (left_of (used_in_each (slice_set slots n (Some c.begin.new.self)))) (after-here c) ∙ ap (λ u. segment - u) (there ∙ c.begin.ensures.unused.1)

pub returns-clause-held : goal.returns-clause-held
returns-clause-held c = held-same c.self.inside.slots.items c.least_of-number.result c.segment_mut.result.now c.begin.new.self (known c).is ∙ ap held_count c.self.view_is

pub returns-clause-free : goal.returns-clause-free
returns-clause-free c =
    let slots = c.self.inside.slots.items in let n = c.least_of-number.result in let k = known c in
    let changed = counted-change is_free slots n (Some c.segment_mut.result.now) (Some c.begin.new.self) k.inside k.is in
    let one : counted-as (not (is_some c.segment_mut.result.now.group)) ≡ 1 = ap (λ o. counted-as (not (is_some o))) k.was in
    let none : counted-as (not (is_some c.begin.new.self.group)) ≡ 0 = ap (λ s. counted-as (not (is_some s.group))) c.begin.ensures.slot in omega (arith, changed, one, none) ∙ ap free_count c.self.view_is

pub returns-clause-counts : goal.returns-clause-counts
returns-clause-counts c =
    let slots = c.self.inside.slots.items in let n = c.least_of-number.result in let k = known c in let e = c.begin.ensures in let h = c.segment_mut.result.now in (
      used-same slots n h c.begin.new.self k.is (e.unused.1 ∙ sym e.unused.0) ∙ ap used_counts c.self.view_is,
      live-same slots n h c.begin.new.self k.is (live-unused c.begin.new.self e.unused.1 ∙ sym (live-unused h e.unused.0)) ∙ ap live_counts c.self.view_is,
    )

pub returns-clause-live_total : goal.returns-clause-live_total
returns-clause-live_total c = ap sum (returns-clause-counts c).1
