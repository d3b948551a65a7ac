use Rattle.std.proofs.Common.{◌≡◌, ◌<◌, length, get_or, sym, ap, ◌∙◌, subst}
use Rattle.std.specs.Prelude.{None, Some, IsSome, IfSome, option_map, slice_set}
use Rattle.std.specs.List.{sum}
use Rattle.std.proofs.lemmas.List.{set-get_or}
use Rattle.regions.specs.Segments.{RegionState, with_segment}
use Rattle.regions.specs.Shapes.{shape, slots_of}
use Rattle.regions.specs.Counts.{used_counts, live_counts, used_in_each, live_in_each}
use Rattle.regions.specs.Contents.{standing_in, standing_at, item_if_live, live_at, with_bytes, ChangesIn, ChangesAt}
use Rattle.regions.specs.inside.Consistent.{states, IsConsistent}
use Rattle.regions.proofs.Tables as tables
use Rattle.regions.proofs.Updates.{slots-same, used-same, live-same}
use Rattle.regions.proofs.Regions.{live-within, set-set, kept-in, changes-set, if-some}
use Rattle.regions.proofs.Totals.{total-same}
use Rattle.regions.proofs.region.Region.copy.Goals as goal

abbrev before : goal.Joined-index_mut-target → RegionState
before c = let i = c.self.inside in record { most = i.most; groups = states i.groups.items; segments = i.slots.items }

-- the segment of the second object was taken out and is put back
record Known (c : goal.Joined-index_mut-target) : Type 0 where
  pub inside : c.args.to.segment < length c.self.inside.slots.items
  pub is : get_or c.self.inside.slots.items c.args.to.segment None ≡ Some c.segment_mut.result.now
  pub left-as : slice_set (slice_set c.self.inside.slots.items c.args.to.segment c.replace-target.new.dest) c.args.to.segment (Some c.copy_into.new.target) ≡ slice_set c.self.inside.slots.items c.args.to.segment (Some c.copy_into.new.target)
  pub was : slice_set c.as_slice.result.now c.args.to.segment (Some c.segment_mut.result.now) ≡ c.self.inside.slots.items

known : (c : goal.Joined-index_mut-target) → Known c
known c =
    let slots = c.self.inside.slots.items in let n = c.args.to.segment in
    let alive : IsSome (item_if_live (standing_in (get_or slots n None) c.args.to.at)) = subst (λ r. IsSome (live_at r c.args.to)) (sym c.self.view_is) c.requires.to in
    let inside = live-within slots n c.args.to.at alive in
    let is = tables.slot-is slots n c.index_mut.result.now None inside c.index_mut.ensures.value ∙ sym c.replace-target.ensures.value ∙ c.segment_mut.ensures.value in record {
      inside = inside;
      is = is;
      left-as = set-set slots n c.replace-target.new.dest (Some c.copy_into.new.target);
      was = ap (λ s. slice_set s n (Some c.segment_mut.result.now)) c.as_slice.ensures.value ∙ set-set slots n c.replace-target.new.dest (Some c.segment_mut.result.now) ∙ ap (slice_set slots n) (sym is) ∙ set-get_or slots n None;
    }

pub invariant_of-self : goal.invariant_of-self
invariant_of-self c =
    let i = c.self.inside in let k = known c in let e = c.copy_into.ensures in (
      subst (λ s. IsConsistent i.most i.groups.items i.held i.free (slots_of s) (used_in_each s) (live_in_each s)) (sym k.left-as)
          (kept-in i.most i.groups.items i.held i.free i.slots.items c.self.invariant.0 c.args.to.segment c.segment_mut.result.now c.copy_into.new.target k.is e.slot e.used e.live),
      total-same i.live (live_in_each i.slots.items) _ c.self.invariant.1 (ap live_in_each k.left-as ∙ live-same i.slots.items c.args.to.segment c.segment_mut.result.now c.copy_into.new.target k.is e.live),
    )

pub returns-clause-used : goal.returns-clause-used
returns-clause-used c =
    let k = known c in ap used_in_each k.left-as ∙ used-same c.self.inside.slots.items c.args.to.segment c.segment_mut.result.now c.copy_into.new.target k.is c.copy_into.ensures.used ∙ ap used_counts c.self.view_is

pub returns-clause-live : goal.returns-clause-live
returns-clause-live c =
    let k = known c in ap live_in_each k.left-as ∙ live-same c.self.inside.slots.items c.args.to.segment c.segment_mut.result.now c.copy_into.new.target k.is c.copy_into.ensures.live ∙ ap live_counts c.self.view_is

pub returns-clause-live_total : goal.returns-clause-live_total
returns-clause-live_total c = ap sum (returns-clause-live c)

pub returns-clause-shape : goal.returns-clause-shape
returns-clause-shape c =
    let k = known c in let r = before c in
    ap (λ s. record (shape r) { slots = slots_of s }) k.left-as
    ∙ ap (λ s. record (shape r) { slots = s }) (slots-same c.self.inside.slots.items c.args.to.segment c.segment_mut.result.now c.copy_into.new.target k.is c.copy_into.ensures.slot) ∙ ap shape c.self.view_is

pub returns-clause-copied : goal.returns-clause-copied
returns-clause-copied c =
    let k = known c in let r = before c in let n = c.args.to.segment in let at = c.args.to.at in let from = c.args.from in let now = c.copy_into.new.target in
    let changed : IfSome (live_at r from) (λ i. ChangesAt c.args.to (option_map (with_bytes i.content) (standing_at r c.args.to)) r (with_segment r n (Some now))) =
    if-some (live_at r from) (λ i. ChangesIn at (option_map (with_bytes i.content) (standing_in (Some c.segment_mut.result.now) at)) (Some c.segment_mut.result.now) (Some now)) _
    (λ i ch. changes-set r n at (option_map (with_bytes i.content) (standing_at r c.args.to)) (Some now) k.inside (subst (λ s. ChangesIn at (option_map (with_bytes i.content) (standing_in s at)) s (Some now)) (sym k.is) ch))
    (subst (λ s. IfSome (item_if_live (standing_in (get_or s from.segment None) from.at)) (λ i. ChangesIn at (option_map (with_bytes i.content) (standing_in (Some c.segment_mut.result.now) at)) (Some c.segment_mut.result.now) (Some now))) k.was c.copy_into.ensures.copied) in
    subst (λ t. IfSome (live_at c.args.self.now from) (λ i. ChangesAt c.args.to (option_map (with_bytes i.content) (standing_at c.args.self.now c.args.to)) c.args.self.now (record r { segments = t }))) (sym k.left-as)
    (subst (λ q. IfSome (live_at q from) (λ i. ChangesAt c.args.to (option_map (with_bytes i.content) (standing_at q c.args.to)) q (with_segment r n (Some now)))) c.self.view_is changed)
