use Rattle.std.proofs.Common.{rules, ◌≡◌, ◌<◌, inl, inr, true, cond, length, sym, ap, ◌∙◌, subst, arith}
use Rattle.std.specs.Prelude.{None, Some, option_map, slice_index}
use Rattle.std.proofs.lemmas.Bool.{cases_Bool}
use Rattle.std.proofs.lemmas.List.{length-map}
use Rattle.regions.specs.Shapes.{slot_of, slots_of, slot_at, group_in, active_in, is_held, is_number, IsHeld}
use Rattle.regions.specs.Counts.{used_in_each, live_in_each, live_bytes_at}
use Rattle.regions.specs.inside.Consistent.{GroupFields, states, not_closed}
use Rattle.regions.proofs.Tables as tables
use Rattle.regions.proofs.Updates.{slot-is}
use Rattle.regions.proofs.Groups.{held-within, active-at, number-is, closed-in-from}
use Rattle.regions.proofs.Consistency.{of-within}
use Rattle.regions.proofs.Regions.{group-there}
use Rattle.regions.proofs.region.Region.live_in.Goals as goal

pub index-requires-in-Some : goal.index-requires-in-Some
index-requires-in-Some c =
    let i = c.self.inside in let slots = i.slots.items in let n = c.args.segment in let v = c.self.invariant.0 in let g = c.in-Some.group in
    let held-is : is_held (slot_at (slots_of slots) n) ≡ true = subst (λ q. IsHeld q n) (sym c.self.view_is) c.requires in
    let low = held-within (slots_of slots) n held-is in let l = length-map slots (λ s. option_map slot_of s) in
    let inside : n < length slots = omega (arith, low, l) in
    let at = tables.slot-is slots n c.index.result.now None inside c.index.ensures in
    let of : group_in (slot_at (slots_of slots) n) ≡ Some g = ap group_in (slot-is slots n) ∙ ap (λ s. group_in (option_map slot_of s)) at ∙ sym c.group_in.ensures ∙ c.in-Some.is in
    let w = of-within i.most i.groups.items i.held i.free (slots_of slots) (used_in_each slots) (live_in_each slots) v g n of in
    search rules

pub live_in-requires : goal.live_in-requires
live_in-requires c =
    let i = c.self.inside in let slots = i.slots.items in let n = c.args.segment in let v = c.self.invariant.0 in let g = c.in-Some.group in
    let held-is : is_held (slot_at (slots_of slots) n) ≡ true = subst (λ q. IsHeld q n) (sym c.self.view_is) c.requires in
    let low = held-within (slots_of slots) n held-is in let l = length-map slots (λ s. option_map slot_of s) in
    let inside : n < length slots = omega (arith, low, l) in
    let at = tables.slot-is slots n c.index.result.now None inside c.index.ensures in
    let of : group_in (slot_at (slots_of slots) n) ≡ Some g = ap group_in (slot-is slots n) ∙ ap (λ s. group_in (option_map slot_of s)) at ∙ sym c.group_in.ensures ∙ c.in-Some.is in
    let w = of-within i.most i.groups.items i.held i.free (slots_of slots) (used_in_each slots) (live_in_each slots) v g n of in
    let f = c.index-in-Some.result.now in let there = group-there i.groups.items g f w c.index-in-Some.ensures in
    let active-now : f.state.active ≡ active_in (states i.groups.items) g = ap (λ (x : GroupFields). x.state.active) (sym there) ∙ sym (active-at i.groups.items g) in
    let k = v.long in
    let long : length f.table ≡ i.most = ap (λ (x : GroupFields). length x.table) (sym there) ∙ v.tabled g w in omega (arith, low, k, long)

pub returns-in-Some : goal.returns-in-Some
returns-in-Some c =
    let i = c.self.inside in let slots = i.slots.items in let n = c.args.segment in let v = c.self.invariant.0 in let g = c.in-Some.group in
    let held-is : is_held (slot_at (slots_of slots) n) ≡ true = subst (λ q. IsHeld q n) (sym c.self.view_is) c.requires in
    let low = held-within (slots_of slots) n held-is in let l = length-map slots (λ s. option_map slot_of s) in
    let inside : n < length slots = omega (arith, low, l) in
    let at = tables.slot-is slots n c.index.result.now None inside c.index.ensures in
    let of : group_in (slot_at (slots_of slots) n) ≡ Some g = ap group_in (slot-is slots n) ∙ ap (λ s. group_in (option_map slot_of s)) at ∙ sym c.group_in.ensures ∙ c.in-Some.is in
    let w = of-within i.most i.groups.items i.held i.free (slots_of slots) (used_in_each slots) (live_in_each slots) v g n of in
    let f = c.index-in-Some.result.now in let there = group-there i.groups.items g f w c.index-in-Some.ensures in
    let active-now : f.state.active ≡ active_in (states i.groups.items) g = ap (λ (x : GroupFields). x.state.active) (sym there) ∙ sym (active-at i.groups.items g) in
    let k = v.long in
    let few : n < i.most = omega (arith, low, k) in
    c.live_in.ensures ∙ elim (cases_Bool (is_number f.state.active n)) [
      | inl like ↦
          ap (λ b. cond b f.live (slice_index f.table n)) like ∙ ap (λ (x : GroupFields). x.live) (sym there) ∙ v.active_live g n (sym active-now ∙ number-is f.state.active n like)
      | inr unlike ↦
          ap (λ b. cond b f.live (slice_index f.table n)) unlike ∙ ap (λ (x : GroupFields). slice_index x.table n) (sym there) ∙ v.table g n w few
          ∙ ap (λ b. cond b (slice_index (live_in_each slots) n) not_closed) (closed-in-from (states i.groups.items) (slots_of slots) g n of (ap (λ o. is_number o n) (sym active-now) ∙ unlike))
    ] ∙ ap (λ q. live_bytes_at q n) c.self.view_is
