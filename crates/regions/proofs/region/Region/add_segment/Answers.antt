use Rattle.std.proofs.Common.{◌≡◌, ◌+◌, ◌<◌, true, false, length, get_or, sym, ap, ◌∙◌, subst, refl, arith}
use Rattle.std.specs.Prelude.{None, Some, option_map, slice_set}
use Rattle.std.specs.List.{sum, count_by}
use Rattle.std.proofs.lemmas.List.{length-map}
use Rattle.std.proofs.Math.Seq.{map-set_same}
use Rattle.regions.specs.Segments.{RegionState, with_segment, fresh}
use Rattle.regions.specs.inside.Consistent.{states}
use Rattle.regions.specs.Shapes.{slots_of, slot_of, slot_at, is_held, is_free, free_count, held_count, IsLeastUnused}
use Rattle.regions.specs.Counts.{used_counts, live_counts, used_in, live_in, live_in_each}
use Rattle.regions.specs.Contents.{standing_in, standing_at}
use Rattle.regions.proofs.Regions.{Fields, added-in, keeps-set, nothing-stands}
use Rattle.regions.proofs.Members.{counted-change, says-held, held-long, unheld-at}
use Rattle.regions.proofs.Totals.{total-same}
use Rattle.regions.proofs.region.Region.add_segment.Goals as goal

-- the number is one of a place without a segment
record Known (c : goal.After-insert-2) : Type 0 where
  pub inside : c.least_absent_from-number.result < length c.self.inside.slots.items
  pub unheld : is_held (slot_at (slots_of c.self.inside.slots.items) c.least_absent_from-number.result) ≡ false
  pub none : get_or c.self.inside.slots.items c.least_absent_from-number.result None ≡ None

known : (c : goal.After-insert-2) → Known c
known c =
    let i = c.self.inside in let slots = i.slots.items in let n = c.least_absent_from-number.result in let v = c.self.invariant.0 in let f = c.least_absent_from-number.ensures in
    let long = held-long slots i.held i.free v.held v.free in record {
      inside = omega (arith, long, f.0);
      unheld = sym (says-held slots i.held i.free v.held v.free n) ∙ f.1;
      none = unheld-at slots i.held i.free v.held v.free n f.1;
    }

abbrev before : goal.After-insert-2 → RegionState
before c = let i = c.self.inside in record { most = i.most; groups = states i.groups.items; segments = i.slots.items }

pub invariant_of-self : goal.invariant_of-self
invariant_of-self c =
    let i = c.self.inside in let slots = i.slots.items in let n = c.least_absent_from-number.result in let k = known c in
    let same : live_in_each (slice_set slots n (Some c.new.result)) ≡ live_in_each slots =
    ap (λ h. live_in_each (slice_set slots n (Some h))) c.new.ensures ∙ map-set_same live_in slots n (Some (fresh c.args.piece)) None (sym (ap live_in k.none)) in (
      subst (λ h. Fields i.most i.groups.items h c.insert-2.new.self (slice_set slots n (Some c.new.result))) (sym c.insert.ensures)
          (subst (λ f. Fields i.most i.groups.items (slice_set i.held n true) f (slice_set slots n (Some c.new.result))) (sym c.insert-2.ensures)
          (subst (λ h. Fields i.most i.groups.items (slice_set i.held n true) (slice_set i.free n true) (slice_set slots n (Some h))) (sym c.new.ensures)
          (added-in i.most i.groups.items i.held i.free slots c.self.invariant.0 n (fresh c.args.piece) k.inside k.unheld refl refl))),
      total-same i.live (live_in_each slots) _ c.self.invariant.1 same,
    )

pub returns-clause-added : goal.returns-clause-added
returns-clause-added c =
    let i = c.self.inside in let slots = i.slots.items in let n = c.least_absent_from-number.result in let v = c.self.invariant.0 in let k = known c in
    let at = says-held slots i.held i.free v.held v.free in let long = length-map slots (λ s. option_map slot_of s) in
    let least : IsLeastUnused (before c) n = (omega (arith, k.inside, long, v.long), (λ h. (let clash : false ≡ true = sym k.unheld ∙ h in cc)), λ m low. sym (at m) ∙ c.least_absent_from-number.ensures.2 m low) in
    (n, subst (λ q. IsLeastUnused q n) c.self.view_is least, ap (λ h. with_segment (before c) n (Some h)) c.new.ensures ∙ ap (λ q. with_segment q n (Some (fresh c.args.piece))) c.self.view_is)

pub returns-clause-objects : goal.returns-clause-objects
returns-clause-objects c p =
    let n = c.least_absent_from-number.result in let k = known c in
    ap (λ h. standing_at (with_segment (before c) n (Some h)) p) c.new.ensures
    ∙ keeps-set (before c) n (Some (fresh c.args.piece)) k.inside (λ a. nothing-stands (fresh c.args.piece) a refl ∙ sym (ap (λ s. standing_in s a) k.none)) p ∙ ap (λ q. standing_at q p) c.self.view_is

pub returns-clause-held : goal.returns-clause-held
returns-clause-held c =
    let slots = c.self.inside.slots.items in let n = c.least_absent_from-number.result in let k = known c in
    let more : count_by is_held (slots_of (slice_set slots n (Some (fresh c.args.piece)))) + 0 ≡ count_by is_held (slots_of slots) + 1 = counted-change is_held slots n None (Some (fresh c.args.piece)) k.inside k.none in
    ap (λ h. held_count (with_segment (before c) n (Some h))) c.new.ensures ∙ omega (arith, more) ∙ ap (λ q. held_count q + 1) c.self.view_is

pub returns-clause-free : goal.returns-clause-free
returns-clause-free c =
    let slots = c.self.inside.slots.items in let n = c.least_absent_from-number.result in let k = known c in
    let more : count_by is_free (slots_of (slice_set slots n (Some (fresh c.args.piece)))) + 0 ≡ count_by is_free (slots_of slots) + 1 = counted-change is_free slots n None (Some (fresh c.args.piece)) k.inside k.none in
    ap (λ h. free_count (with_segment (before c) n (Some h))) c.new.ensures ∙ omega (arith, more) ∙ ap (λ q. free_count q + 1) c.self.view_is

pub returns-clause-counts : goal.returns-clause-counts
returns-clause-counts c =
    let slots = c.self.inside.slots.items in let n = c.least_absent_from-number.result in let k = known c in (
      ap (λ h. used_counts (with_segment (before c) n (Some h))) c.new.ensures ∙ map-set_same used_in slots n (Some (fresh c.args.piece)) None (sym (ap used_in k.none)) ∙ ap used_counts c.self.view_is,
      ap (λ h. live_counts (with_segment (before c) n (Some h))) c.new.ensures ∙ map-set_same live_in slots n (Some (fresh c.args.piece)) None (sym (ap live_in k.none)) ∙ ap live_counts c.self.view_is,
    )

pub returns-clause-live_total : goal.returns-clause-live_total
returns-clause-live_total c = ap sum (returns-clause-counts c).1
