use Rattle.std.proofs.Common.{◌≡◌, ◌+◌, ◌-◌, ◌<◌, ◌≤◌, length, sym, ap, ◌∙◌, subst, arith}
use Rattle.std.specs.Prelude.{Some, slice_index, slice_set}
use Rattle.std.specs.List.{sum}
use Rattle.std.proofs.lemmas.List.{length-map}
use Rattle.layout.specs.Sizes.{segment}
use Rattle.object_log.specs.Contents.{bytes_of, padded}
use Rattle.regions.specs.Segments.{RegionState}
use Rattle.regions.specs.inside.Consistent.{GroupFields, states}
use Rattle.regions.specs.Shapes.{shape, active_in, active_of}
use Rattle.regions.specs.Counts.{used_counts, live_counts, used_in, live_in, live_in_each, plus}
use Rattle.regions.specs.Contents.{holding, ChangesIn, ChangesAt}
use Rattle.regions.proofs.Updates.{live-is, slots-same, used-plus, live-plus}
use Rattle.regions.proofs.Regions.{Fields, active-within, group-in, group-there, group-is, found-there, placed-in, changes-set}
use Rattle.regions.proofs.Groups.{states-kept}
use Rattle.regions.proofs.Sums.{sum-plus}
use Rattle.regions.proofs.Totals.{total-more, total-small}
use Rattle.regions.proofs.region.Region.place_in.Goals as goal

pub gain-requires : goal.gain-requires
gain-requires c =
    let i = c.self.inside in let slots = i.slots.items in let n = c.args.segment in let e = c.append-at.ensures in
    let g = c.args.group in let w = group-in i.most i.groups.items slots c.args.self.now g c.self.view_is c.requires.group in
    let now : active_in (states i.groups.items) g ≡ Some n = subst (λ q. active_of q g ≡ Some n) (sym c.self.view_is) c.requires.active in
    let inside = active-within i.most i.groups.items i.held i.free slots c.self.invariant.0 g n now in
    let is = found-there slots n c.index_mut.result.now c.segment_mut.result.now inside c.index_mut.ensures.value c.segment_mut.ensures.value in
    let f = c.index_mut-2.result.now in let at = group-there i.groups.items g f w c.index_mut-2.ensures.value in
    let mine : f.live ≡ live_in (Some c.segment_mut.result.now) = ap (λ (x : GroupFields). x.live) (sym at) ∙ (c.self.invariant.0).active_live g n now ∙ live-is slots n ∙ ap live_in is in
    let live = e.live in let most = e.inside in omega (arith, mine, live, most)

pub overflow_add-self : goal.overflow_add-self
overflow_add-self c =
    let i = c.self.inside in let small = total-small i.most i.groups.items i.held i.free i.slots.items i.live c.self.invariant.0 c.self.invariant.1 in
    let size = c.requires.size.1 in let from = c.from.ensures in omega (arith, small, size, from)

pub invariant_of-self : goal.invariant_of-self
invariant_of-self c =
    let i = c.self.inside in let slots = i.slots.items in let n = c.args.segment in let e = c.append-at.ensures in
    let g = c.args.group in let w = group-in i.most i.groups.items slots c.args.self.now g c.self.view_is c.requires.group in
    let now : active_in (states i.groups.items) g ≡ Some n = subst (λ q. active_of q g ≡ Some n) (sym c.self.view_is) c.requires.active in
    let inside = active-within i.most i.groups.items i.held i.free slots c.self.invariant.0 g n now in
    let is = found-there slots n c.index_mut.result.now c.segment_mut.result.now inside c.index_mut.ensures.value c.segment_mut.ensures.value in
    let f = c.index_mut-2.result.now in let at = group-there i.groups.items g f w c.index_mut-2.ensures.value in
    let counted : n < length (live_in_each slots) = (let l = length-map slots live_in in omega (arith, l, inside)) in
    let room : slice_index (live_in_each slots) n + c.args.size ≤ segment = (let was = live-is slots n ∙ ap live_in is in let live = e.live in let most = e.inside in omega (arith, was, live, most)) in (
      subst (λ x. Fields i.most (slice_set i.groups.items g x) i.held i.free (slice_set slots n (Some c.append-at.new.self))) (sym c.gain.ensures)
          (placed-in i.most i.groups.items i.held i.free slots c.self.invariant.0 n c.segment_mut.result.now c.append-at.new.self is g c.args.size f at w now e.slot e.used e.live),
      total-more i.live (i.live + c.from.result) (live_in_each slots) _ n c.args.size c.self.invariant.1 counted room (live-plus slots n c.segment_mut.result.now c.append-at.new.self is c.args.size e.live)
          (ap (λ k. i.live + k) c.from.ensures),
    )

pub returns-clause-added : goal.returns-clause-added
returns-clause-added c =
    let i = c.self.inside in let slots = i.slots.items in let n = c.args.segment in let e = c.append-at.ensures in
    let g = c.args.group in let w = group-in i.most i.groups.items slots c.args.self.now g c.self.view_is c.requires.group in
    let now : active_in (states i.groups.items) g ≡ Some n = subst (λ q. active_of q g ≡ Some n) (sym c.self.view_is) c.requires.active in
    let inside = active-within i.most i.groups.items i.held i.free slots c.self.invariant.0 g n now in
    let is = found-there slots n c.index_mut.result.now c.segment_mut.result.now inside c.index_mut.ensures.value c.segment_mut.ensures.value in
    let r : RegionState = record { most = i.most; groups = states i.groups.items; segments = slots } in
    let of : c.segment_mut.result.now.group ≡ Some g = sym (group-is i.most i.groups.items i.held i.free slots c.self.invariant.0 n c.segment_mut.result.now c.segment_mut.result.now is) ∙ (c.self.invariant.0).active g n now in
    let ws = padded (c.args.size - 8) (bytes_of c.args.content) in let new = holding (Some g) c.args.kind ws in
    let f = c.index_mut-2.result.now in let at = group-there i.groups.items g f w c.index_mut-2.ensures.value in
    let same = states-kept i.groups.items g f c.gain.new.self at w (ap (λ (x : GroupFields). x.state) c.gain.ensures) in
    subst (λ q. ChangesAt (record { segment = n; at = c.append-at.result }) (Some new) q (record { most = i.most; groups = states (slice_set i.groups.items g c.gain.new.self); segments = slice_set slots n (Some c.append-at.new.self) })) c.self.view_is
    (subst (λ gs. ChangesAt (record { segment = n; at = c.append-at.result }) (Some new) r (record { most = i.most; groups = gs; segments = slice_set slots n (Some c.append-at.new.self) })) (sym same)
    (changes-set r n c.append-at.result (Some new) (Some c.append-at.new.self) inside
    (subst (λ s. ChangesIn c.append-at.result (Some new) s (Some c.append-at.new.self)) (sym is)
    (subst (λ o. ChangesIn c.append-at.result (Some (holding o c.args.kind ws)) (Some c.segment_mut.result.now) (Some c.append-at.new.self)) of e.added))))

pub returns-clause-used : goal.returns-clause-used
returns-clause-used c =
    let i = c.self.inside in let slots = i.slots.items in let n = c.args.segment in let e = c.append-at.ensures in
    let g = c.args.group in let w = group-in i.most i.groups.items slots c.args.self.now g c.self.view_is c.requires.group in
    let now : active_in (states i.groups.items) g ≡ Some n = subst (λ q. active_of q g ≡ Some n) (sym c.self.view_is) c.requires.active in
    let inside = active-within i.most i.groups.items i.held i.free slots c.self.invariant.0 g n now in
    let is = found-there slots n c.index_mut.result.now c.segment_mut.result.now inside c.index_mut.ensures.value c.segment_mut.ensures.value in
    used-plus slots n c.segment_mut.result.now c.append-at.new.self is c.args.size e.used ∙ ap (λ q. plus n c.args.size (used_counts q)) c.self.view_is

pub returns-clause-live : goal.returns-clause-live
returns-clause-live c =
    let i = c.self.inside in let slots = i.slots.items in let n = c.args.segment in let e = c.append-at.ensures in
    let g = c.args.group in let w = group-in i.most i.groups.items slots c.args.self.now g c.self.view_is c.requires.group in
    let now : active_in (states i.groups.items) g ≡ Some n = subst (λ q. active_of q g ≡ Some n) (sym c.self.view_is) c.requires.active in
    let inside = active-within i.most i.groups.items i.held i.free slots c.self.invariant.0 g n now in
    let is = found-there slots n c.index_mut.result.now c.segment_mut.result.now inside c.index_mut.ensures.value c.segment_mut.ensures.value in
    live-plus slots n c.segment_mut.result.now c.append-at.new.self is c.args.size e.live ∙ ap (λ q. plus n c.args.size (live_counts q)) c.self.view_is

pub returns-clause-shape : goal.returns-clause-shape
returns-clause-shape c =
    let i = c.self.inside in let slots = i.slots.items in let n = c.args.segment in let e = c.append-at.ensures in
    let g = c.args.group in let w = group-in i.most i.groups.items slots c.args.self.now g c.self.view_is c.requires.group in
    let now : active_in (states i.groups.items) g ≡ Some n = subst (λ q. active_of q g ≡ Some n) (sym c.self.view_is) c.requires.active in
    let inside = active-within i.most i.groups.items i.held i.free slots c.self.invariant.0 g n now in
    let is = found-there slots n c.index_mut.result.now c.segment_mut.result.now inside c.index_mut.ensures.value c.segment_mut.ensures.value in
    let f = c.index_mut-2.result.now in let at = group-there i.groups.items g f w c.index_mut-2.ensures.value in
    let same = states-kept i.groups.items g f c.gain.new.self at w (ap (λ (x : GroupFields). x.state) c.gain.ensures) in
    ap (λ gs. shape (record { most = i.most; groups = gs; segments = slice_set slots n (Some c.append-at.new.self) })) same
    ∙ ap (λ s. record (shape (record { most = i.most; groups = states i.groups.items; segments = slots })) { slots = s }) (slots-same slots n c.segment_mut.result.now c.append-at.new.self is e.slot) ∙ ap shape c.self.view_is

pub returns-clause-live_total : goal.returns-clause-live_total
returns-clause-live_total c =
    let i = c.self.inside in let slots = i.slots.items in let n = c.args.segment in
    let g = c.args.group in let w = group-in i.most i.groups.items slots c.args.self.now g c.self.view_is c.requires.group in
    let now : active_in (states i.groups.items) g ≡ Some n = subst (λ q. active_of q g ≡ Some n) (sym c.self.view_is) c.requires.active in
    let inside = active-within i.most i.groups.items i.held i.free slots c.self.invariant.0 g n now in
    let counted : n < length (live_counts c.args.self.now) = subst (λ q. n < length (live_counts q)) c.self.view_is (let l = length-map slots live_in in omega (arith, l, inside)) in
    ap sum (returns-clause-live c) ∙ sum-plus (live_counts c.args.self.now) n c.args.size counted

pub returns-clause-used_total : goal.returns-clause-used_total
returns-clause-used_total c =
    let i = c.self.inside in let slots = i.slots.items in let n = c.args.segment in
    let g = c.args.group in let w = group-in i.most i.groups.items slots c.args.self.now g c.self.view_is c.requires.group in
    let now : active_in (states i.groups.items) g ≡ Some n = subst (λ q. active_of q g ≡ Some n) (sym c.self.view_is) c.requires.active in
    let inside = active-within i.most i.groups.items i.held i.free slots c.self.invariant.0 g n now in
    let counted : n < length (used_counts c.args.self.now) = subst (λ q. n < length (used_counts q)) c.self.view_is (let l = length-map slots used_in in omega (arith, l, inside)) in
    ap sum (returns-clause-used c) ∙ sum-plus (used_counts c.args.self.now) n c.args.size counted
