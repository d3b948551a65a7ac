use Rattle.std.proofs.Common.{rules, ◌≡◌, ◌<◌, inl, inr, true, length, cond, sym, ap, ◌∙◌, subst, arith}
use Rattle.std.specs.Prelude.{slice_index}
use Rattle.std.proofs.lemmas.Bool.{cases_Bool}
use Rattle.std.proofs.lemmas.List.{length-map}
use Rattle.regions.specs.Segments.{RegionState}
use Rattle.regions.specs.Shapes.{slot_of, slots_of, is_closed_in, IsClosedIn}
use Rattle.std.specs.Prelude.{option_map, is_some}
use Rattle.regions.specs.Counts.{live_in_each, live_bytes_at}
use Rattle.regions.specs.inside.Consistent.{GroupFields, states, not_closed}
use Rattle.regions.proofs.Groups.{closed-in-parts}
use Rattle.regions.proofs.Regions.{begun-within, group-in, group-there}
use Rattle.regions.proofs.region.Region.closed_live.Goals as goal

pub index-requires : goal.index-requires
index-requires c = let i = c.self.inside in let w = group-in i.most i.groups.items i.slots.items c.args.self.now c.args.group c.self.view_is c.requires in search rules

pub returns-clause-length : goal.returns-clause-length
returns-clause-length c =
    let i = c.self.inside in let slots = i.slots.items in let g = c.args.group in let v = c.self.invariant.0 in let w = group-in i.most i.groups.items slots c.args.self.now g c.self.view_is c.requires in
    let there = group-there i.groups.items g c.index.result.now w c.index.ensures in
    ap length c.closed_live.ensures ∙ ap (λ (f : GroupFields). length f.table) (sym there) ∙ v.tabled g w ∙ ap (λ (q : RegionState). q.most) c.self.view_is

pub returns-clause-closed : goal.returns-clause-closed
returns-clause-closed c n was =
    let i = c.self.inside in let slots = i.slots.items in let g = c.args.group in let v = c.self.invariant.0 in let w = group-in i.most i.groups.items slots c.args.self.now g c.self.view_is c.requires in
    let there = group-there i.groups.items g c.index.result.now w c.index.ensures in
    let shut : is_closed_in (states i.groups.items) (slots_of slots) g n ≡ true = subst (λ q. IsClosedIn q g n) (sym c.self.view_is) was in
    let inside = begun-within i.most i.groups.items i.held i.free slots v n (ap is_some (closed-in-parts (states i.groups.items) (slots_of slots) g n shut).0) in
    let l = length-map slots (λ s. option_map slot_of s) in let k = v.long in
    let few : n < i.most = omega (arith, inside, l, k) in (
      subst (λ (q : RegionState). n < q.most) c.self.view_is few,
      ap (λ t. slice_index t n) (c.closed_live.ensures ∙ ap (λ (f : GroupFields). f.table) (sym there)) ∙ v.table g n w few
          ∙ ap (λ b. cond b (slice_index (live_in_each slots) n) not_closed) shut ∙ ap (λ q. live_bytes_at q n) c.self.view_is,
    )

pub returns-clause-others : goal.returns-clause-others
returns-clause-others c n few other =
    let i = c.self.inside in let slots = i.slots.items in let g = c.args.group in let v = c.self.invariant.0 in let w = group-in i.most i.groups.items slots c.args.self.now g c.self.view_is c.requires in
    let there = group-there i.groups.items g c.index.result.now w c.index.ensures in
    let low : n < i.most = subst (λ (q : RegionState). n < q.most) (sym c.self.view_is) few in
    ap (λ t. slice_index t n) (c.closed_live.ensures ∙ ap (λ (f : GroupFields). f.table) (sym there)) ∙ v.table g n w low
    ∙ elim (cases_Bool (is_closed_in (states i.groups.items) (slots_of slots) g n)) [
      | inl shut ↦ absurd (other (subst (λ q. IsClosedIn q g n) c.self.view_is shut))
      | inr open-one ↦ ap (λ b. cond b (slice_index (live_in_each slots) n) not_closed) open-one
    ]
