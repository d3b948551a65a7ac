use Rattle.std.proofs.Common.{◌≡◌, ◌+◌, ◌<◌, true, false, length, get_or, sym, ap, ◌∙◌, subst, refl, arith}
use Rattle.std.specs.Prelude.{None, Some, option_map, slice_set}
use Rattle.std.specs.List.{sum, count_by}
use Rattle.regions.specs.Segments.{RegionState, segment_at, with_segment, fresh}
use Rattle.regions.specs.inside.Consistent.{states}
use Rattle.regions.specs.Shapes.{slots_of, slot_of, is_held, is_free, free_count, held_count, IsGreatestFree}
use Rattle.regions.specs.Counts.{used_counts, live_counts, live_in_each}
use Rattle.regions.proofs.Tables as tables
use Rattle.regions.proofs.Regions.{Fields, taken-in, used-taken, live-taken}
use Rattle.regions.proofs.Members.{counted-change, says-free, free-in, free-at}
use Rattle.regions.proofs.Totals.{total-same}
use Rattle.regions.proofs.region.Region.take_free.Goals as goal

pub piece_of-requires : goal.piece_of-requires
piece_of-requires c =
    let i = c.self.inside in let slots = i.slots.items in let n = c.greatest_of-number.result in let v = c.self.invariant.0 in let f = c.greatest_of-number.ensures in
    let inside = free-in slots i.held i.free v.held v.free n f.0 in
    ap (λ s. is_free (option_map slot_of s)) (c.replace-taken.ensures.value ∙ sym (tables.slot-is slots n c.index_mut.result.now None inside c.index_mut.ensures.value)) ∙ free-at slots i.held i.free v.held v.free n f.0

-- the number is that of a free segment, on the piece
record Known (c : goal.After-piece_of) : Type 0 where
  pub inside : c.greatest_of-number.result < length c.self.inside.slots.items
  pub is : get_or c.self.inside.slots.items c.greatest_of-number.result None ≡ Some (fresh c.piece_of.result)

known : (c : goal.After-piece_of) → Known c
known c =
    let i = c.self.inside in let slots = i.slots.items in let n = c.greatest_of-number.result in let v = c.self.invariant.0 in
    let inside = free-in slots i.held i.free v.held v.free n c.greatest_of-number.ensures.0 in record {
      inside = inside;
      is = tables.slot-is slots n c.index_mut.result.now None inside c.index_mut.ensures.value ∙ sym c.replace-taken.ensures.value ∙ c.piece_of.ensures;
    }

abbrev before : goal.After-piece_of → RegionState
before c = let i = c.self.inside in record { most = i.most; groups = states i.groups.items; segments = i.slots.items }

pub invariant_of-self : goal.invariant_of-self
invariant_of-self c =
    let i = c.self.inside in let slots = i.slots.items in let n = c.greatest_of-number.result in let k = known c in let d = c.replace-taken.new.dest in
    let same : live_in_each (slice_set slots n d) ≡ live_in_each slots =
    ap (λ s. live_in_each (slice_set slots n s)) c.replace-taken.ensures.after ∙ live-taken slots n (fresh c.piece_of.result) k.is refl in (
      subst (λ h. Fields i.most i.groups.items h c.remove-2.new.self (slice_set slots n d)) (sym c.remove.ensures)
          (subst (λ f. Fields i.most i.groups.items (slice_set i.held n false) f (slice_set slots n d)) (sym c.remove-2.ensures)
          (subst (λ s. Fields i.most i.groups.items (slice_set i.held n false) (slice_set i.free n false) (slice_set slots n s)) (sym c.replace-taken.ensures.after)
          (taken-in i.most i.groups.items i.held i.free slots c.self.invariant.0 n (fresh c.piece_of.result) k.is refl refl))),
      total-same i.live (live_in_each slots) _ c.self.invariant.1 same,
    )

pub returns-clause-taken : goal.returns-clause-taken
returns-clause-taken c =
    let i = c.self.inside in let slots = i.slots.items in let n = c.greatest_of-number.result in let v = c.self.invariant.0 in let f = c.greatest_of-number.ensures in let k = known c in
    let at = says-free slots i.held i.free v.held v.free in
    let greatest : IsGreatestFree (before c) n = (sym (at n) ∙ f.0, λ m far g. (let clash : false ≡ true = sym (f.1 m far) ∙ at m ∙ g in cc)) in (
      n,
      subst (λ q. IsGreatestFree q n) c.self.view_is greatest,
      subst (λ q. segment_at q n ≡ Some (fresh c.piece_of.result)) c.self.view_is k.is,
      ap (λ s. with_segment (before c) n s) c.replace-taken.ensures.after ∙ ap (λ q. with_segment q n None) c.self.view_is,
    )

pub returns-clause-held : goal.returns-clause-held
returns-clause-held c some =
    let slots = c.self.inside.slots.items in let n = c.greatest_of-number.result in let k = known c in
    let fewer : count_by is_held (slots_of (slice_set slots n None)) + 1 ≡ count_by is_held (slots_of slots) + 0 = counted-change is_held slots n (Some (fresh c.piece_of.result)) None k.inside k.is in
    ap (λ s. held_count (with_segment (before c) n s) + 1) c.replace-taken.ensures.after ∙ omega (arith, fewer) ∙ ap held_count c.self.view_is

pub returns-clause-free : goal.returns-clause-free
returns-clause-free c some =
    let slots = c.self.inside.slots.items in let n = c.greatest_of-number.result in let k = known c in
    let fewer : count_by is_free (slots_of (slice_set slots n None)) + 1 ≡ count_by is_free (slots_of slots) + 0 = counted-change is_free slots n (Some (fresh c.piece_of.result)) None k.inside k.is in
    ap (λ s. free_count (with_segment (before c) n s) + 1) c.replace-taken.ensures.after ∙ omega (arith, fewer) ∙ ap free_count c.self.view_is

pub returns-clause-counts : goal.returns-clause-counts
returns-clause-counts c =
    let slots = c.self.inside.slots.items in let n = c.greatest_of-number.result in let k = known c in (
      ap (λ s. used_counts (with_segment (before c) n s)) c.replace-taken.ensures.after ∙ used-taken slots n (fresh c.piece_of.result) k.is refl ∙ ap used_counts c.self.view_is,
      ap (λ s. live_counts (with_segment (before c) n s)) c.replace-taken.ensures.after ∙ live-taken slots n (fresh c.piece_of.result) k.is refl ∙ ap live_counts c.self.view_is,
    )

pub returns-clause-live_total : goal.returns-clause-live_total
returns-clause-live_total c = ap sum (returns-clause-counts c).1
