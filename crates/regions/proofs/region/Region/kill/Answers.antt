use Rattle.std.proofs.Common.{rules, ◌≡◌, ◌-◌, ◌<◌, length, arith, get_or, sym, ap, ◌∙◌, subst}
use Rattle.std.specs.Prelude.{None, Some, IsSome, IfSome, option_map, slice_set}
use Rattle.std.proofs.lemmas.List.{length-map, length-set}
use Rattle.regions.specs.Segments.{RegionState}
use Rattle.regions.specs.inside.Consistent.{GroupFields, states}
use Rattle.regions.specs.Shapes.{shape}
use Rattle.regions.specs.Counts.{used_counts, live_counts, live_in, live_in_each, plus}
use Rattle.regions.specs.Contents.{standing_in, standing_at, item_if_live, live_at, size_of, dead, ChangesIn, ChangesAt}
use Rattle.regions.proofs.Updates.{slots-same, used-same, live-minus}
use Rattle.regions.proofs.Groups.{states-kept, lost-state}
use Rattle.regions.proofs.Consistency.{enough-active, enough-closed}
use Rattle.regions.proofs.Regions.{Fields, found-there, live-within, live-enough, begun-group, begun-read, group-is, group-known, group-there, killed-in, size-lost, changes-set}
use Rattle.regions.proofs.Sums.{sum-lost}
use Rattle.regions.proofs.Totals.{in-sum, total-less}
use Rattle.regions.proofs.region.Region.kill.Goals as goal

pub group_begun-group-requires : goal.group_begun-group-requires
group_begun-group-requires c =
    let i = c.self.inside in let slots = i.slots.items in let n = c.args.place.segment in let at = c.args.place.at in let e = c.kill-size.ensures in
    let alive : IsSome (item_if_live (standing_in (get_or slots n None) at)) = subst (λ r. IsSome (live_at r c.args.place)) (sym c.self.view_is) c.requires in
    let is = found-there slots n c.index_mut.result.now c.segment_mut.result.now (live-within slots n at alive) c.index_mut.ensures.value c.segment_mut.ensures.value in
    begun-read slots n c.segment_mut.result.now c.kill-size.new.self c.index.result.now (live-within slots n at alive) c.index.ensures e.begun e.slot

pub index_mut-requires-2 : goal.index_mut-requires-2
index_mut-requires-2 c =
    let i = c.self.inside in let slots = i.slots.items in let n = c.args.place.segment in let at = c.args.place.at in let e = c.kill-size.ensures in
    let alive : IsSome (item_if_live (standing_in (get_or slots n None) at)) = subst (λ r. IsSome (live_at r c.args.place)) (sym c.self.view_is) c.requires in
    let is = found-there slots n c.index_mut.result.now c.segment_mut.result.now (live-within slots n at alive) c.index_mut.ensures.value c.segment_mut.ensures.value in
    let g = c.group_begun-group.result in let h = c.segment_mut.result.now in
    let of : h.group ≡ Some g = begun-group slots n h c.kill-size.new.self c.index.result.now g (live-within slots n at alive) c.index.ensures c.group_begun-group.ensures e.slot in
    let w = group-known i.most i.groups.items i.held i.free slots c.self.invariant.0 n h h is g of in
    search rules

pub lose-requires-clause-active : goal.lose-requires-clause-active
lose-requires-clause-active c =
    let i = c.self.inside in let slots = i.slots.items in let n = c.args.place.segment in let at = c.args.place.at in let e = c.kill-size.ensures in
    let alive : IsSome (item_if_live (standing_in (get_or slots n None) at)) = subst (λ r. IsSome (live_at r c.args.place)) (sym c.self.view_is) c.requires in
    let is = found-there slots n c.index_mut.result.now c.segment_mut.result.now (live-within slots n at alive) c.index_mut.ensures.value c.segment_mut.ensures.value in
    let g = c.group_begun-group.result in let h = c.segment_mut.result.now in
    let of : h.group ≡ Some g = begun-group slots n h c.kill-size.new.self c.index.result.now g (live-within slots n at alive) c.index.ensures c.group_begun-group.ensures e.slot in
    let w = group-known i.most i.groups.items i.held i.free slots c.self.invariant.0 n h h is g of in
    let f = c.index_mut-2.result.now in let there = group-there i.groups.items g f w c.index_mut-2.ensures.value in
    λ like. enough-active i.most i.groups.items i.held i.free _ _ (live_in_each slots) c.self.invariant.0 g f there w n c.kill-size.result
    (live-enough i.most i.groups.items i.held i.free slots c.self.invariant.0 n h c.kill-size.new.self is c.kill-size.result e.live) like

pub lose-requires-clause-closed : goal.lose-requires-clause-closed
lose-requires-clause-closed c =
    let i = c.self.inside in let slots = i.slots.items in let n = c.args.place.segment in let at = c.args.place.at in let e = c.kill-size.ensures in
    let alive : IsSome (item_if_live (standing_in (get_or slots n None) at)) = subst (λ r. IsSome (live_at r c.args.place)) (sym c.self.view_is) c.requires in
    let is = found-there slots n c.index_mut.result.now c.segment_mut.result.now (live-within slots n at alive) c.index_mut.ensures.value c.segment_mut.ensures.value in
    let g = c.group_begun-group.result in let h = c.segment_mut.result.now in
    let of : h.group ≡ Some g = begun-group slots n h c.kill-size.new.self c.index.result.now g (live-within slots n at alive) c.index.ensures c.group_begun-group.ensures e.slot in
    let w = group-known i.most i.groups.items i.held i.free slots c.self.invariant.0 n h h is g of in
    let f = c.index_mut-2.result.now in let there = group-there i.groups.items g f w c.index_mut-2.ensures.value in
    λ unlike. enough-closed i.most i.groups.items i.held i.free _ _ (live_in_each slots) c.self.invariant.0 g f there w n c.kill-size.result
    (live-enough i.most i.groups.items i.held i.free slots c.self.invariant.0 n h c.kill-size.new.self is c.kill-size.result e.live)
    (group-is i.most i.groups.items i.held i.free slots c.self.invariant.0 n h h is ∙ of) unlike

pub overflow_sub-self : goal.overflow_sub-self
overflow_sub-self c =
    let i = c.self.inside in let slots = i.slots.items in let n = c.args.place.segment in let at = c.args.place.at in let h = c.segment_mut.result.now in
    let alive : IsSome (item_if_live (standing_in (get_or slots n None) at)) = subst (λ r. IsSome (live_at r c.args.place)) (sym c.self.view_is) c.requires in
    let is = found-there slots n c.index_mut.result.now h (live-within slots n at alive) c.index_mut.ensures.value c.segment_mut.ensures.value in
    let enough = live-enough i.most i.groups.items i.held i.free slots c.self.invariant.0 n h c.kill-size.new.self is c.kill-size.result c.kill-size.ensures.live in
    let most = in-sum (live_in_each slots) n in let sums = (c.self.invariant.1).summed in let from = c.from.ensures in omega (arith, enough, most, sums, from)

pub invariant_of-self : goal.invariant_of-self
invariant_of-self c =
    let i = c.self.inside in let slots = i.slots.items in let n = c.args.place.segment in let at = c.args.place.at in let e = c.kill-size.ensures in
    let alive : IsSome (item_if_live (standing_in (get_or slots n None) at)) = subst (λ r. IsSome (live_at r c.args.place)) (sym c.self.view_is) c.requires in
    let is = found-there slots n c.index_mut.result.now c.segment_mut.result.now (live-within slots n at alive) c.index_mut.ensures.value c.segment_mut.ensures.value in
    let g = c.group_begun-group.result in let h = c.segment_mut.result.now in
    let of : h.group ≡ Some g = begun-group slots n h c.kill-size.new.self c.index.result.now g (live-within slots n at alive) c.index.ensures c.group_begun-group.ensures e.slot in
    let w = group-known i.most i.groups.items i.held i.free slots c.self.invariant.0 n h h is g of in
    let f = c.index_mut-2.result.now in let there = group-there i.groups.items g f w c.index_mut-2.ensures.value in
    let after = slice_set slots n (Some c.kill-size.new.self) in
    let counted : n < length (live_in_each after) = (let l = length-map after live_in in let s = length-set slots n (Some c.kill-size.new.self) in let inside = live-within slots n at alive in omega (arith, l, s, inside)) in (
      subst (λ x. Fields i.most (slice_set i.groups.items g x) i.held i.free (slice_set slots n (Some c.kill-size.new.self))) (sym c.lose.ensures)
          (killed-in i.most i.groups.items i.held i.free slots c.self.invariant.0 n h c.kill-size.new.self is g c.kill-size.result f there w of e.slot e.used e.live),
      total-less i.live (i.live - c.from.result) (live_in_each slots) (live_in_each after) n c.kill-size.result c.self.invariant.1 counted (live-minus slots n h c.kill-size.new.self is c.kill-size.result e.live)
          (ap (λ k. i.live - k) c.from.ensures),
    )

pub returns-clause-killed : goal.returns-clause-killed
returns-clause-killed c =
    let i = c.self.inside in let slots = i.slots.items in let n = c.args.place.segment in let at = c.args.place.at in let e = c.kill-size.ensures in
    let alive : IsSome (item_if_live (standing_in (get_or slots n None) at)) = subst (λ r. IsSome (live_at r c.args.place)) (sym c.self.view_is) c.requires in
    let is = found-there slots n c.index_mut.result.now c.segment_mut.result.now (live-within slots n at alive) c.index_mut.ensures.value c.segment_mut.ensures.value in
    let r : RegionState = record { most = i.most; groups = states i.groups.items; segments = slots } in
    let ch : ChangesIn at (option_map dead (standing_in (get_or slots n None) at)) (get_or slots n None) (Some c.kill-size.new.self) =
    subst (λ s. ChangesIn at (option_map dead (standing_in s at)) s (Some c.kill-size.new.self)) (sym is) e.killed in
    let g = c.group_begun-group.result in let h = c.segment_mut.result.now in
    let of : h.group ≡ Some g = begun-group slots n h c.kill-size.new.self c.index.result.now g (live-within slots n at alive) c.index.ensures c.group_begun-group.ensures e.slot in
    let w = group-known i.most i.groups.items i.held i.free slots c.self.invariant.0 n h h is g of in
    let f = c.index_mut-2.result.now in let there = group-there i.groups.items g f w c.index_mut-2.ensures.value in
    let same = states-kept i.groups.items g f c.lose.new.self there w (ap (λ (x : GroupFields). x.state) c.lose.ensures ∙ lost-state n c.kill-size.result f) in
    subst (λ q. ChangesAt c.args.place (option_map dead (standing_at q c.args.place)) q (record { most = i.most; groups = states (slice_set i.groups.items g c.lose.new.self); segments = slice_set slots n (Some c.kill-size.new.self) })) c.self.view_is
    (subst (λ gs. ChangesAt c.args.place (option_map dead (standing_at r c.args.place)) r (record { most = i.most; groups = gs; segments = slice_set slots n (Some c.kill-size.new.self) })) (sym same)
    (changes-set r n at (option_map dead (standing_at r c.args.place)) (Some c.kill-size.new.self) (live-within slots n at alive) ch))

pub returns-clause-used : goal.returns-clause-used
returns-clause-used c =
    let i = c.self.inside in let slots = i.slots.items in let n = c.args.place.segment in let at = c.args.place.at in let e = c.kill-size.ensures in
    let alive : IsSome (item_if_live (standing_in (get_or slots n None) at)) = subst (λ r. IsSome (live_at r c.args.place)) (sym c.self.view_is) c.requires in
    let is = found-there slots n c.index_mut.result.now c.segment_mut.result.now (live-within slots n at alive) c.index_mut.ensures.value c.segment_mut.ensures.value in
    used-same slots n c.segment_mut.result.now c.kill-size.new.self is e.used ∙ ap used_counts c.self.view_is

pub returns-clause-live : goal.returns-clause-live
returns-clause-live c =
    let i = c.self.inside in let slots = i.slots.items in let n = c.args.place.segment in let at = c.args.place.at in let e = c.kill-size.ensures in
    let alive : IsSome (item_if_live (standing_in (get_or slots n None) at)) = subst (λ r. IsSome (live_at r c.args.place)) (sym c.self.view_is) c.requires in
    let is = found-there slots n c.index_mut.result.now c.segment_mut.result.now (live-within slots n at alive) c.index_mut.ensures.value c.segment_mut.ensures.value in
    let less = live-minus slots n c.segment_mut.result.now c.kill-size.new.self is c.kill-size.result e.live in
    let size : IfSome (standing_in (get_or slots n None) at) (λ s. c.kill-size.result ≡ size_of s.item) = subst (λ s. IfSome (standing_in s at) (λ s. c.kill-size.result ≡ size_of s.item)) (sym is) e.size in
    subst (λ q. IfSome (standing_at q c.args.place) (λ s. live_counts q ≡ plus n (size_of s.item) (live_in_each (slice_set slots n (Some c.kill-size.new.self))))) c.self.view_is
    (size-lost (standing_in (get_or slots n None) at) n c.kill-size.result (live_in_each slots) (live_in_each (slice_set slots n (Some c.kill-size.new.self))) size less)

pub returns-clause-shape : goal.returns-clause-shape
returns-clause-shape c =
    let i = c.self.inside in let slots = i.slots.items in let n = c.args.place.segment in let at = c.args.place.at in let e = c.kill-size.ensures in
    let alive : IsSome (item_if_live (standing_in (get_or slots n None) at)) = subst (λ r. IsSome (live_at r c.args.place)) (sym c.self.view_is) c.requires in
    let is = found-there slots n c.index_mut.result.now c.segment_mut.result.now (live-within slots n at alive) c.index_mut.ensures.value c.segment_mut.ensures.value in
    let r : RegionState = record { most = i.most; groups = states i.groups.items; segments = slots } in
    let g = c.group_begun-group.result in let h = c.segment_mut.result.now in
    let of : h.group ≡ Some g = begun-group slots n h c.kill-size.new.self c.index.result.now g (live-within slots n at alive) c.index.ensures c.group_begun-group.ensures e.slot in
    let w = group-known i.most i.groups.items i.held i.free slots c.self.invariant.0 n h h is g of in
    let f = c.index_mut-2.result.now in let there = group-there i.groups.items g f w c.index_mut-2.ensures.value in
    let same = states-kept i.groups.items g f c.lose.new.self there w (ap (λ (x : GroupFields). x.state) c.lose.ensures ∙ lost-state n c.kill-size.result f) in
    ap (λ gs. shape (record { most = i.most; groups = gs; segments = slice_set slots n (Some c.kill-size.new.self) })) same
    ∙ ap (λ s. record (shape r) { slots = s }) (slots-same slots n c.segment_mut.result.now c.kill-size.new.self is e.slot) ∙ ap shape c.self.view_is

pub returns-clause-live_total : goal.returns-clause-live_total
returns-clause-live_total c =
    let i = c.self.inside in let slots = i.slots.items in let n = c.args.place.segment in let at = c.args.place.at in
    let alive : IsSome (item_if_live (standing_in (get_or slots n None) at)) = subst (λ r. IsSome (live_at r c.args.place)) (sym c.self.view_is) c.requires in
    let inside = live-within slots n at alive in
    let after = slice_set slots n (Some c.kill-size.new.self) in
    let counted : n < length (live_in_each after) = (let l = length-map after live_in in let s = length-set slots n (Some c.kill-size.new.self) in omega (arith, l, s, inside)) in
    sum-lost (standing_at c.args.self.now c.args.place) n (live_counts c.args.self.now) (live_in_each after) counted (returns-clause-live c)
