use Rattle.std.proofs.Common.{◌≡◌, true, ◌+◌, ◌-◌, ◌<◌, ◌≤◌, length, get_or, sym, ap, ◌∙◌, subst, arith}
use Rattle.std.specs.Prelude.{None, Some, IfSome, is_some, option_map, slice_index, slice_set}
use Rattle.std.specs.List.{sum}
use Rattle.std.proofs.lemmas.List.{length-map}
use Rattle.layout.specs.Sizes.{segment}
use Rattle.regions.specs.Segments.{RegionState}
use Rattle.regions.specs.inside.Consistent.{GroupFields, states}
use Rattle.regions.specs.Shapes.{shape, slots_of, active_in, active_of, group_in, is_closed}
use Rattle.regions.specs.Counts.{used_counts, live_counts, used_in, live_in, used_in_each, live_in_each, left, left_of, plus}
use Rattle.regions.specs.Contents.{standing_in, standing_at, live_at, item_if_live, size_of, holding, ChangesIn, ChangesAt}
use Rattle.regions.specs.declared.place.Place.{Place}
use Rattle.regions.proofs.Updates.{slot-is, used-is, live-is, slots-same, used-plus, live-plus}
use Rattle.regions.proofs.Regions.{Fields, active-within, group-in, group-there, group-is, placed-in, changes-set, live-within}
use Rattle.regions.proofs.Groups.{states-kept}
use Rattle.regions.proofs.Sums.{sum-plus}
use Rattle.regions.proofs.Totals.{total-more, total-small}
use Rattle.regions.proofs.CopiedWhole.{begun-room, begun-there, closed-apart, some-there}
use Rattle.regions.proofs.region.Region.copy_in.Goals as goal

-- ---- the segment of the group has room, and the object stands in another

pub append_copy-at-requires-clause-whole : goal.append_copy-at-requires-clause-whole
append_copy-at-requires-clause-whole c = subst (λ q. option_map size_of (live_at q c.args.from) ≡ Some c.args.size) (sym c.self.view_is) c.requires.live

pub append_copy-at-requires-clause-live : goal.append_copy-at-requires-clause-live
append_copy-at-requires-clause-live c =
    some-there size_of (item_if_live (standing_in (get_or c.self.inside.slots.items c.args.from.segment None) c.args.from.at)) c.args.size (append_copy-at-requires-clause-whole c)

pub append_copy-at-requires-clause-inside : goal.append_copy-at-requires-clause-inside
append_copy-at-requires-clause-inside c =
    let i = c.self.inside in let slots = i.slots.items in let n = c.args.segment in let g = c.args.group in
    let now : active_in (states i.groups.items) g ≡ Some n = subst (λ q. active_of q g ≡ Some n) (sym c.self.view_is) c.requires.active in
    (active-within i.most i.groups.items i.held i.free slots c.self.invariant.0 g n now, live-within slots c.args.from.segment c.args.from.at (append_copy-at-requires-clause-live c))

pub append_copy-at-requires-clause-apart : goal.append_copy-at-requires-clause-apart
append_copy-at-requires-clause-apart c =
    let i = c.self.inside in let n = c.args.segment in let g = c.args.group in
    let now : active_in (states i.groups.items) g ≡ Some n = subst (λ q. active_of q g ≡ Some n) (sym c.self.view_is) c.requires.active in
    closed-apart (states i.groups.items) (slots_of i.slots.items) g c.args.from.segment n
    (subst (λ q. is_closed (shape q).groups (shape q).slots c.args.from.segment ≡ true) (sym c.self.view_is) c.requires.closed) now ((c.self.invariant.0).active g n now)

pub append_copy-at-requires-clause-held : goal.append_copy-at-requires-clause-held
append_copy-at-requires-clause-held c =
    let i = c.self.inside in let slots = i.slots.items in let n = c.args.segment in let g = c.args.group in
    let now : active_in (states i.groups.items) g ≡ Some n = subst (λ q. active_of q g ≡ Some n) (sym c.self.view_is) c.requires.active in
    begun-there (get_or slots n None) (ap is_some (sym (ap group_in (slot-is slots n)) ∙ (c.self.invariant.0).active g n now))

pub append_copy-at-requires-clause-room : goal.append_copy-at-requires-clause-room
append_copy-at-requires-clause-room c =
    let i = c.self.inside in let slots = i.slots.items in let n = c.args.segment in let g = c.args.group in
    let now : active_in (states i.groups.items) g ≡ Some n = subst (λ q. active_of q g ≡ Some n) (sym c.self.view_is) c.requires.active in
    let begun = ap is_some (sym (ap group_in (slot-is slots n)) ∙ (c.self.invariant.0).active g n now) in
    let room : c.args.size ≤ left_of (used_in_each slots) (active_in (states i.groups.items) g) = subst (λ q. c.args.size ≤ left q g) (sym c.self.view_is) c.requires.room in
    let is : left_of (used_in_each slots) (active_in (states i.groups.items) g) ≡ segment - slice_index (used_in_each slots) n = ap (left_of (used_in_each slots)) now in
    let used = used-is slots n in let some = c.requires.size.0 in
    begun-room (get_or slots n None) c.args.size begun (omega (arith, room, is, used, some))

-- ---- the copy

pub gain-requires : goal.gain-requires
gain-requires c =
    let i = c.self.inside in let slots = i.slots.items in let n = c.args.segment in let e = c.append_copy-at.ensures in
    let g = c.args.group in let w = group-in i.most i.groups.items slots c.args.self.now g c.self.view_is c.requires.group in
    let now : active_in (states i.groups.items) g ≡ Some n = subst (λ q. active_of q g ≡ Some n) (sym c.self.view_is) c.requires.active in
    let inside = active-within i.most i.groups.items i.held i.free slots c.self.invariant.0 g n now in
    let is = e.there in
    let f = c.index_mut.result.now in let at = group-there i.groups.items g f w c.index_mut.ensures.value in
    let mine : f.live ≡ live_in (Some e.was) = ap (λ (x : GroupFields). x.live) (sym at) ∙ (c.self.invariant.0).active_live g n now ∙ live-is slots n ∙ ap live_in is in
    let live = e.live in let most = e.inside in omega (arith, mine, live, most)

pub overflow_add-self : goal.overflow_add-self
overflow_add-self c =
    let i = c.self.inside in let small = total-small i.most i.groups.items i.held i.free i.slots.items i.live c.self.invariant.0 c.self.invariant.1 in
    let size = c.requires.size.1 in let from = c.from.ensures in omega (arith, small, size, from)

pub invariant_of-self : goal.invariant_of-self
invariant_of-self c =
    let i = c.self.inside in let slots = i.slots.items in let n = c.args.segment in let e = c.append_copy-at.ensures in
    let g = c.args.group in let w = group-in i.most i.groups.items slots c.args.self.now g c.self.view_is c.requires.group in
    let now : active_in (states i.groups.items) g ≡ Some n = subst (λ q. active_of q g ≡ Some n) (sym c.self.view_is) c.requires.active in
    let inside = active-within i.most i.groups.items i.held i.free slots c.self.invariant.0 g n now in
    let is = e.there in
    let f = c.index_mut.result.now in let at = group-there i.groups.items g f w c.index_mut.ensures.value in
    let counted : n < length (live_in_each slots) = (let l = length-map slots live_in in omega (arith, l, inside)) in
    let room : slice_index (live_in_each slots) n + c.args.size ≤ segment = (let was = live-is slots n ∙ ap live_in is in let live = e.live in let most = e.inside in omega (arith, was, live, most)) in (
      subst (λ t. Fields i.most (slice_set i.groups.items g c.gain.new.self) i.held i.free t) (sym e.set) (subst (λ x. Fields i.most (slice_set i.groups.items g x) i.held i.free (slice_set slots n (Some e.now))) (sym c.gain.ensures)
          (placed-in i.most i.groups.items i.held i.free slots c.self.invariant.0 n e.was e.now is g c.args.size f at w now e.slot e.used e.live)),
      total-more i.live (i.live + c.from.result) (live_in_each slots) _ n c.args.size c.self.invariant.1 counted room (ap live_in_each e.set ∙ live-plus slots n e.was e.now is c.args.size e.live)
          (ap (λ k. i.live + k) c.from.ensures),
    )

pub returns-clause-added : goal.returns-clause-added
returns-clause-added c =
    let i = c.self.inside in let slots = i.slots.items in let n = c.args.segment in let e = c.append_copy-at.ensures in
    let g = c.args.group in let w = group-in i.most i.groups.items slots c.args.self.now g c.self.view_is c.requires.group in
    let now : active_in (states i.groups.items) g ≡ Some n = subst (λ q. active_of q g ≡ Some n) (sym c.self.view_is) c.requires.active in
    let inside = active-within i.most i.groups.items i.held i.free slots c.self.invariant.0 g n now in
    let is = e.there in
    let r : RegionState = record { most = i.most; groups = states i.groups.items; segments = slots } in
    let of : e.was.group ≡ Some g = sym (group-is i.most i.groups.items i.held i.free slots c.self.invariant.0 n e.was e.was is) ∙ (c.self.invariant.0).active g n now in
    let item = e.item in let new = holding (Some g) c.args.kind item.content in let p : Place = record { segment = n; at = c.append_copy-at.result } in
    let f = c.index_mut.result.now in let at = group-there i.groups.items g f w c.index_mut.ensures.value in
    let same = states-kept i.groups.items g f c.gain.new.self at w (ap (λ (x : GroupFields). x.state) c.gain.ensures) in
    let after : RegionState = record { most = i.most; groups = states (slice_set i.groups.items g c.gain.new.self); segments = c.append_copy-at.new.slots.items } in
    let changed : ChangesAt p (Some new) r after =
    subst (λ t. ChangesAt p (Some new) r (record { most = i.most; groups = states (slice_set i.groups.items g c.gain.new.self); segments = t })) (sym e.set)
    (subst (λ gs. ChangesAt p (Some new) r (record { most = i.most; groups = gs; segments = slice_set slots n (Some e.now) })) (sym same)
    (changes-set r n p.at (Some new) (Some e.now) inside
    (subst (λ s. ChangesIn p.at (Some new) s (Some e.now)) (sym is)
    (subst (λ o. ChangesIn p.at (Some (holding o c.args.kind item.content)) (Some e.was) (Some e.now)) of e.added)))) in
    subst (λ q. IfSome (live_at q c.args.from) (λ i. ChangesAt p (Some (holding (Some g) c.args.kind i.content)) q after)) c.self.view_is
    (subst (λ o. IfSome o (λ i. ChangesAt p (Some (holding (Some g) c.args.kind i.content)) r after)) (sym e.is_source) changed)

pub returns-clause-unused : goal.returns-clause-unused
returns-clause-unused c =
    let e = c.append_copy-at.ensures in let at = c.append_copy-at.result in
    subst (λ q. standing_at q (record { segment = c.args.segment; at = at }) ≡ None) c.self.view_is (ap (λ s. standing_in s at) e.there ∙ e.unused)

pub returns-clause-used : goal.returns-clause-used
returns-clause-used c =
    let i = c.self.inside in let slots = i.slots.items in let n = c.args.segment in let e = c.append_copy-at.ensures in
    let g = c.args.group in let w = group-in i.most i.groups.items slots c.args.self.now g c.self.view_is c.requires.group in
    let now : active_in (states i.groups.items) g ≡ Some n = subst (λ q. active_of q g ≡ Some n) (sym c.self.view_is) c.requires.active in
    let inside = active-within i.most i.groups.items i.held i.free slots c.self.invariant.0 g n now in
    let is = e.there in
    ap used_in_each e.set ∙ used-plus slots n e.was e.now is c.args.size e.used ∙ ap (λ q. plus n c.args.size (used_counts q)) c.self.view_is

pub returns-clause-live : goal.returns-clause-live
returns-clause-live c =
    let i = c.self.inside in let slots = i.slots.items in let n = c.args.segment in let e = c.append_copy-at.ensures in
    let g = c.args.group in let w = group-in i.most i.groups.items slots c.args.self.now g c.self.view_is c.requires.group in
    let now : active_in (states i.groups.items) g ≡ Some n = subst (λ q. active_of q g ≡ Some n) (sym c.self.view_is) c.requires.active in
    let inside = active-within i.most i.groups.items i.held i.free slots c.self.invariant.0 g n now in
    let is = e.there in
    ap live_in_each e.set ∙ live-plus slots n e.was e.now is c.args.size e.live ∙ ap (λ q. plus n c.args.size (live_counts q)) c.self.view_is

pub returns-clause-shape : goal.returns-clause-shape
returns-clause-shape c =
    let i = c.self.inside in let slots = i.slots.items in let n = c.args.segment in let e = c.append_copy-at.ensures in
    let g = c.args.group in let w = group-in i.most i.groups.items slots c.args.self.now g c.self.view_is c.requires.group in
    let now : active_in (states i.groups.items) g ≡ Some n = subst (λ q. active_of q g ≡ Some n) (sym c.self.view_is) c.requires.active in
    let inside = active-within i.most i.groups.items i.held i.free slots c.self.invariant.0 g n now in
    let is = e.there in
    let f = c.index_mut.result.now in let at = group-there i.groups.items g f w c.index_mut.ensures.value in
    let same = states-kept i.groups.items g f c.gain.new.self at w (ap (λ (x : GroupFields). x.state) c.gain.ensures) in
    ap (λ t. shape (record { most = i.most; groups = states (slice_set i.groups.items g c.gain.new.self); segments = t })) e.set
    ∙ ap (λ gs. shape (record { most = i.most; groups = gs; segments = slice_set slots n (Some e.now) })) same
    ∙ ap (λ s. record (shape (record { most = i.most; groups = states i.groups.items; segments = slots })) { slots = s }) (slots-same slots n e.was e.now is e.slot) ∙ ap shape c.self.view_is

pub returns-clause-live_total : goal.returns-clause-live_total
returns-clause-live_total c =
    let i = c.self.inside in let slots = i.slots.items in let n = c.args.segment in
    let g = c.args.group in let w = group-in i.most i.groups.items slots c.args.self.now g c.self.view_is c.requires.group in
    let now : active_in (states i.groups.items) g ≡ Some n = subst (λ q. active_of q g ≡ Some n) (sym c.self.view_is) c.requires.active in
    let inside = active-within i.most i.groups.items i.held i.free slots c.self.invariant.0 g n now in
    let counted : n < length (live_counts c.args.self.now) = subst (λ q. n < length (live_counts q)) c.self.view_is (let l = length-map slots live_in in omega (arith, l, inside)) in
    ap sum (returns-clause-live c) ∙ sum-plus (live_counts c.args.self.now) n c.args.size counted

pub returns-clause-used_total : goal.returns-clause-used_total
returns-clause-used_total c =
    let i = c.self.inside in let slots = i.slots.items in let n = c.args.segment in
    let g = c.args.group in let w = group-in i.most i.groups.items slots c.args.self.now g c.self.view_is c.requires.group in
    let now : active_in (states i.groups.items) g ≡ Some n = subst (λ q. active_of q g ≡ Some n) (sym c.self.view_is) c.requires.active in
    let inside = active-within i.most i.groups.items i.held i.free slots c.self.invariant.0 g n now in
    let counted : n < length (used_counts c.args.self.now) = subst (λ q. n < length (used_counts q)) c.self.view_is (let l = length-map slots used_in in omega (arith, l, inside)) in
    ap sum (returns-clause-used c) ∙ sum-plus (used_counts c.args.self.now) n c.args.size counted
