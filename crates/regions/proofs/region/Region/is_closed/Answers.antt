use Rattle.std.proofs.Common.{rules, ◌≡◌, ◌<◌, ◌≤◌, ℕ, zero, suc, not, List, [], ◌∷◌, length, refl, sym, ap, ◌∙◌, arith}
use Rattle.std.specs.Prelude.{Option, None, option_map}
use Rattle.std.proofs.lemmas.List.{length-map}
use Rattle.regions.specs.Shapes.{Slot, shape, slot_of, slots_of, slot_at, group_in, is_number, is_closed, is_closed_of}
use Rattle.regions.specs.Counts.{used_in_each, live_in_each}
use Rattle.regions.specs.inside.Consistent.{GroupFields, states}
use Rattle.regions.proofs.Tables as tables
use Rattle.regions.proofs.Updates.{slot-is}
use Rattle.regions.proofs.Groups.{active-at}
use Rattle.regions.proofs.Consistency.{of-within}
use Rattle.regions.proofs.Regions.{group-there}
use Rattle.regions.proofs.region.Region.is_closed.Goals as goal

-- behind the end no segment is
none-beyond : (slots : List (Option Slot)) (n : ℕ) → length slots ≤ n → group_in (slot_at slots n) ≡ None
none-beyond [] n w = refl
none-beyond (s ∷ ss) zero w = absurd (omega (arith, w))
none-beyond (s ∷ ss) (suc n) w = none-beyond ss n (omega (arith, w))

pub index-requires : goal.index-requires
index-requires c =
    let i = c.self.inside in let slots = i.slots.items in let n = c.args.segment in let v = c.self.invariant.0 in
    let few : n < i.most = omega (arith, c.if-segment-self.false) in
    let k = v.long in let l = length-map slots (λ s. option_map slot_of s) in let inside : n < length slots = omega (arith, few, k, l) in
    search rules

pub index-requires-in-Some : goal.index-requires-in-Some
index-requires-in-Some c =
    let i = c.self.inside in let slots = i.slots.items in let n = c.args.segment in let v = c.self.invariant.0 in
    let few : n < i.most = omega (arith, c.if-segment-self.false) in
    let k = v.long in let l = length-map slots (λ s. option_map slot_of s) in let inside : n < length slots = omega (arith, few, k, l) in
    let at = tables.slot-is slots n c.index.result.now None inside c.index.ensures in
    let is : group_in (slot_at (slots_of slots) n) ≡ c.group_in.result = ap group_in (slot-is slots n) ∙ ap (λ s. group_in (option_map slot_of s)) at ∙ sym c.group_in.ensures in
    let g = c.in-Some.group in let w = of-within i.most i.groups.items i.held i.free (slots_of slots) (used_in_each slots) (live_in_each slots) v g n (is ∙ c.in-Some.is) in
    search rules

pub returns-in-Some : goal.returns-in-Some
returns-in-Some c =
    let i = c.self.inside in let slots = i.slots.items in let n = c.args.segment in let v = c.self.invariant.0 in
    let few : n < i.most = omega (arith, c.if-segment-self.false) in
    let k = v.long in let l = length-map slots (λ s. option_map slot_of s) in let inside : n < length slots = omega (arith, few, k, l) in
    let at = tables.slot-is slots n c.index.result.now None inside c.index.ensures in
    let is : group_in (slot_at (slots_of slots) n) ≡ c.group_in.result = ap group_in (slot-is slots n) ∙ ap (λ s. group_in (option_map slot_of s)) at ∙ sym c.group_in.ensures in
    let g = c.in-Some.group in let w = of-within i.most i.groups.items i.held i.free (slots_of slots) (used_in_each slots) (live_in_each slots) v g n (is ∙ c.in-Some.is) in
    let there = group-there i.groups.items g c.index-in-Some.result.now w c.index-in-Some.ensures in
    let active-now = ap (λ (f : GroupFields). f.state.active) (sym there) ∙ sym (active-at i.groups.items g) in
    ap not (c.is_active.ensures ∙ ap (λ o. is_number o n) active-now) ∙ ap (λ o. is_closed_of (states i.groups.items) o n) (sym (is ∙ c.in-Some.is))
    ∙ ap (λ q. is_closed (shape q).groups (shape q).slots n) c.self.view_is

pub returns-in-None : goal.returns-in-None
returns-in-None c =
    let i = c.self.inside in let slots = i.slots.items in let n = c.args.segment in let v = c.self.invariant.0 in
    let few : n < i.most = omega (arith, c.if-segment-self.false) in
    let k = v.long in let l = length-map slots (λ s. option_map slot_of s) in let inside : n < length slots = omega (arith, few, k, l) in
    let at = tables.slot-is slots n c.index.result.now None inside c.index.ensures in
    let is : group_in (slot_at (slots_of slots) n) ≡ c.group_in.result = ap group_in (slot-is slots n) ∙ ap (λ s. group_in (option_map slot_of s)) at ∙ sym c.group_in.ensures in
    ap (λ o. is_closed_of (states i.groups.items) o n) (sym (is ∙ c.in-None.is)) ∙ ap (λ q. is_closed (shape q).groups (shape q).slots n) c.self.view_is

pub returns-then-segment-self : goal.returns-then-segment-self
returns-then-segment-self c =
    let i = c.self.inside in let slots = i.slots.items in let n = c.args.segment in let v = c.self.invariant.0 in let k = v.long in
    let high : length (slots_of slots) ≤ n = omega (arith, k, c.if-segment-self.true) in
    ap (λ o. is_closed_of (states i.groups.items) o n) (sym (none-beyond (slots_of slots) n high)) ∙ ap (λ q. is_closed (shape q).groups (shape q).slots n) c.self.view_is
