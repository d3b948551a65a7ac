use Rattle.std.proofs.Common.{rules, ◌≡◌, sym, ◌∙◌, subst, ap, refl, None, Some}
use Rattle.std.specs.Prelude.{IsSome, is_some}
use Rattle.regions.specs.Shapes.{slots_of, slot_at, active_in}
use Rattle.regions.specs.inside.Consistent.{states}
use Rattle.regions.proofs.Tables.{slot-is}
use Rattle.regions.proofs.Groups.{begun-held}
use Rattle.regions.proofs.Regions.{active-within, active-there, group-in, group-there, held-there}
use Rattle.regions.proofs.region.Region.left.Goals as goal

pub index-requires : goal.index-requires
index-requires c = let i = c.self.inside in let w = group-in i.most i.groups.items i.slots.items c.args.self.now c.args.group c.self.view_is c.requires in search rules

-- the group's active segment
now-active : (c : goal.In-Some) → active_in (states c.self.inside.groups.items) c.args.group ≡ Some c.in-Some.segment
now-active c =
    let i = c.self.inside in let g = c.args.group in let w = group-in i.most i.groups.items i.slots.items c.args.self.now g c.self.view_is c.requires in
    active-there i.groups.items g c.index.result.now c.active.result (group-there i.groups.items g c.index.result.now w c.index.ensures) c.active.ensures ∙ c.in-Some.is

pub index-requires-2 : goal.index-requires-2
index-requires-2 c = let i = c.self.inside in let w = active-within i.most i.groups.items i.held i.free i.slots.items c.self.invariant.0 c.args.group c.in-Some.segment (now-active c) in search rules

pub segment_in-requires : goal.segment_in-requires
segment_in-requires c =
    let i = c.self.inside in let slots = i.slots.items in let n = c.in-Some.segment in let v = c.self.invariant.0 in
    let g = c.args.group in let w = group-in i.most i.groups.items slots c.args.self.now g c.self.view_is c.requires in
    let now : active_in (states i.groups.items) g ≡ Some n = active-there i.groups.items g c.index.result.now c.active.result (group-there i.groups.items g c.index.result.now w c.index.ensures) c.active.ensures ∙ c.in-Some.is in
    let inside = active-within i.most i.groups.items i.held i.free slots v g n now in
    let it = held-there i.most i.groups.items i.held i.free slots v n (begun-held (slot_at (slots_of slots) n) (ap is_some (v.active g n now))) in
    subst (λ s. IsSome s) (sym it.1 ∙ slot-is slots n c.index-2.result.now None inside c.index-2.ensures) refl
