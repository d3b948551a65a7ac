use Rattle.std.proofs.Common.{rules, ◌≡◌, ◌++◌, take, drop, map, length, sym, ap, ◌∙◌, subst}
use Rattle.std.specs.Prelude.{option_map}
use Rattle.std.proofs.lemmas.List.{length-map, take_at}
use Rattle.regions.specs.Segments.{RegionState, ended, all_emptied}
use Rattle.regions.specs.Shapes.{slot_of}
use Rattle.regions.specs.Counts.{live_in_each}
use Rattle.regions.specs.inside.Consistent.{cleared, states}
use Rattle.regions.proofs.Regions.{Fields}
use Rattle.regions.proofs.Emptied.{emptied-all, emptied-fields, emptied-live-each, cleared-unused, cleared-states}
use Rattle.regions.proofs.Totals.{total-zeros}
use Rattle.regions.proofs.region.Region.empty.Goals as goal

pub invariant_of-self : goal.invariant_of-self
invariant_of-self c =
    let i = c.self.inside in let slots = i.slots.items in let v = c.self.invariant.0 in let rest = drop (length c.clear_all.new.slots) slots in
    let left-as : take i.slots.len (c.clear_all.new.slots ++ rest) ≡ emptied-all slots =
    (let long : length c.clear_all.new.slots ≡ i.slots.len = search rules in take_at c.clear_all.new.slots rest i.slots.len long) ∙ c.clear_all.ensures ∙ ap emptied-all c.deref_mut-2.ensures.value in
    let old-groups = i.groups.items in let rest-groups = drop (length c.clear_groups.new.groups) old-groups in
    let groups-as : take i.groups.len (c.clear_groups.new.groups ++ rest-groups) ≡ map cleared old-groups =
    (let long : length c.clear_groups.new.groups ≡ i.groups.len = search rules in take_at c.clear_groups.new.groups rest-groups i.groups.len long) ∙ c.clear_groups.ensures ∙ ap (map cleared) c.deref_mut.ensures.value in (
      subst (λ g. Fields i.most g i.held c.copy_from.new.self (take i.slots.len (c.clear_all.new.slots ++ rest))) (sym groups-as)
          (subst (λ s. Fields i.most (map cleared old-groups) i.held c.copy_from.new.self s) (sym left-as)
          (subst (λ f. Fields i.most (map cleared old-groups) i.held f (emptied-all slots)) (sym c.copy_from.ensures)
          (emptied-fields i.most (map cleared old-groups) i.held slots v.few (sym (length-map slots (λ s. option_map slot_of s)) ∙ v.long) v.held (cleared-unused i.most old-groups v.some_group v.few_groups v.tabled)))),
      total-zeros (length slots) _ (ap live_in_each left-as ∙ emptied-live-each slots),
    )

pub returns : goal.returns
returns c =
    let i = c.self.inside in let slots = i.slots.items in let rest = drop (length c.clear_all.new.slots) slots in
    let left-as : take i.slots.len (c.clear_all.new.slots ++ rest) ≡ emptied-all slots =
    (let long : length c.clear_all.new.slots ≡ i.slots.len = search rules in take_at c.clear_all.new.slots rest i.slots.len long) ∙ c.clear_all.ensures ∙ ap emptied-all c.deref_mut-2.ensures.value in
    let old-groups = i.groups.items in let rest-groups = drop (length c.clear_groups.new.groups) old-groups in
    let groups-as : take i.groups.len (c.clear_groups.new.groups ++ rest-groups) ≡ map cleared old-groups =
    (let long : length c.clear_groups.new.groups ≡ i.groups.len = search rules in take_at c.clear_groups.new.groups rest-groups i.groups.len long) ∙ c.clear_groups.ensures ∙ ap (map cleared) c.deref_mut.ensures.value in
    ap (λ gs. let r : RegionState = record { most = i.most; groups = gs; segments = take i.slots.len (c.clear_all.new.slots ++ rest) } in r) (ap states groups-as ∙ cleared-states old-groups)
    ∙ ap (λ s. let r : RegionState = record { most = i.most; groups = map ended (states old-groups); segments = s } in r) left-as ∙ ap all_emptied c.self.view_is
