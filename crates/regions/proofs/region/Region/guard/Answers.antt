use Rattle.std.proofs.Common.{rules, ◌≡◌, ◌+◌, ◌<◌, sym, ap, ◌∙◌, subst}
use Rattle.std.specs.Prelude.{slice_set}
use Rattle.std.proofs.lemmas.List.{map-set}
use Rattle.regions.specs.Segments.{GroupState, RegionState, group_at, with_guards}
use Rattle.regions.specs.Shapes.{guards_of}
use Rattle.regions.specs.inside.Consistent.{GroupFields, states}
use Rattle.regions.specs.Shapes.{slots_of}
use Rattle.regions.specs.Counts.{used_in_each, live_in_each}
use Rattle.regions.proofs.Groups.{states-at}
use Rattle.regions.proofs.Consistency.{guarded}
use Rattle.regions.proofs.Regions.{Fields, group-in, group-there}
use Rattle.regions.proofs.region.Region.guard.Goals as goal

pub index_mut-requires : goal.index_mut-requires
index_mut-requires c = let i = c.self.inside in let w = group-in i.most i.groups.items i.slots.items c.args.self.now c.args.group c.self.view_is c.requires.group in search rules

pub guard-requires : goal.guard-requires
guard-requires c =
    let i = c.self.inside in let g = c.args.group in let w = group-in i.most i.groups.items i.slots.items c.args.self.now g c.self.view_is c.requires.group in
    let there = group-there i.groups.items g c.index_mut.result.now w c.index_mut.ensures.value in
    subst (λ n. n < 1000000) (sym (ap (λ q. guards_of q g) c.self.view_is) ∙ ap (λ (s : GroupState). s.guards) (states-at i.groups.items g) ∙ ap (λ (f : GroupFields). f.state.guards) there) c.requires.few

pub invariant_of-self : goal.invariant_of-self
invariant_of-self c =
    let i = c.self.inside in let slots = i.slots.items in let g = c.args.group in let w = group-in i.most i.groups.items slots c.args.self.now g c.self.view_is c.requires.group in
    let f = c.index_mut.result.now in let there = group-there i.groups.items g f w c.index_mut.ensures.value in (
      subst (λ x. Fields i.most (slice_set i.groups.items g x) i.held i.free slots) (sym c.guard.ensures)
          (guarded i.most i.groups.items i.held i.free (slots_of slots) (used_in_each slots) (live_in_each slots) c.self.invariant.0 g (f.state.guards + 1) f there w),
      c.self.invariant.1,
    )

pub returns-clause-guards : goal.returns-clause-guards
returns-clause-guards c =
    let i = c.self.inside in let slots = i.slots.items in let g = c.args.group in let w = group-in i.most i.groups.items slots c.args.self.now g c.self.view_is c.requires.group in
    let f = c.index_mut.result.now in let there = group-there i.groups.items g f w c.index_mut.ensures.value in
    let state : group_at (states i.groups.items) g ≡ f.state = states-at i.groups.items g ∙ ap (λ (x : GroupFields). x.state) there in
    ap (λ gs. let r : RegionState = record { most = i.most; groups = gs; segments = slots } in r)
    (map-set (λ (x : GroupFields). x.state) i.groups.items g c.guard.new.self ∙ ap (slice_set (states i.groups.items) g)
    (ap (λ (x : GroupFields). x.state) c.guard.ensures ∙ ap (λ (s : GroupState). let t : GroupState = record { active = s.active; guards = s.guards + 1 } in t) (sym state)))
    ∙ ap (λ q. with_guards q g (guards_of q g + 1)) c.self.view_is
