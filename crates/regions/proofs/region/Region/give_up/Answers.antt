use Rattle.std.proofs.Common.{◌≡◌, ◌+◌, ◌<◌, List, true, false, length, replicate, get_or, sym, ap, ◌∙◌, subst, refl, arith}
use Rattle.std.specs.Prelude.{Option, None, Some, option_map, slice_set}
use Rattle.std.specs.List.{sum, count_by}
use Rattle.std.proofs.lemmas.List.{length-map, length-set}
use Rattle.regions.specs.Segments.{SegmentState, RegionState, segment_at, with_segment, fresh, all_emptied}
use Rattle.regions.specs.inside.Consistent.{states}
use Rattle.regions.specs.Shapes.{slots_of, slot_of, is_free, is_held, held_count, IsGreatestHeld}
use Rattle.regions.specs.Counts.{used_counts, live_counts, used_in_each, live_in_each}
use Rattle.regions.specs.Contents.{standing_at}
use Rattle.regions.specs.declared.place.Place.{Place}
use Rattle.regions.proofs.Tables as tables
use Rattle.regions.proofs.Regions.{Fields, taken-in, live-taken, nothing-emptied, nothing-less}
use Rattle.regions.proofs.Members.{counted-change, says-held}
use Rattle.regions.proofs.Emptied.{emptied-all, emptied-place, emptied-held, emptied-counts, emptied-less, emptied-used-each, emptied-live-each, emptied-long}
use Rattle.regions.proofs.Sums.{sum-zeros}
use Rattle.regions.proofs.Totals.{total-same}
use Rattle.regions.proofs.region.Region.give_up.Goals as goal

-- ---- where no segment is held

pub returns-in_err-number-clause-objects : goal.returns-in_err-number-clause-objects
returns-in_err-number-clause-objects c p = subst (λ r. standing_at r p ≡ None) (sym c.empty.ensures) (nothing-emptied c.args.self.now p)

pub returns-in_err-number-clause-used : goal.returns-in_err-number-clause-used
returns-in_err-number-clause-used c =
    let long = emptied-long c.args.self.now c.self.inside.slots.items c.self.inside.most (c.self.invariant.0).long (ap (λ q. q.segments) c.self.view_is) (ap (λ q. q.most) c.self.view_is) in
    ap used_counts c.empty.ensures ∙ emptied-used-each c.args.self.now.segments ∙ ap (λ k. replicate k 0) long

pub returns-in_err-number-clause-live : goal.returns-in_err-number-clause-live
returns-in_err-number-clause-live c =
    let long = emptied-long c.args.self.now c.self.inside.slots.items c.self.inside.most (c.self.invariant.0).long (ap (λ q. q.segments) c.self.view_is) (ap (λ q. q.most) c.self.view_is) in
    ap live_counts c.empty.ensures ∙ emptied-live-each c.args.self.now.segments ∙ ap (λ k. replicate k 0) long

pub returns-in_err-number-clause-live_total : goal.returns-in_err-number-clause-live_total
returns-in_err-number-clause-live_total c = ap sum (returns-in_err-number-clause-live c) ∙ sum-zeros c.args.self.now.most

-- ---- where one is given

pub piece_of-requires : goal.piece_of-requires
piece_of-requires c =
    let was = c.self.inside in let slots = c.self-2.inside.slots.items in let n = c.in_ok-number.number in
    let all : slots ≡ emptied-all was.slots.items = ap (λ q. q.segments) (c.self-2.view_is ∙ c.empty.ensures ∙ ap all_emptied (sym c.self.view_is)) in
    let place = emptied-place was.slots.items slots was.held n all (c.self.invariant.0).held c.in_ok-number.ensures.greatest.0 in
    ap (λ s. is_free (option_map slot_of s)) (c.replace-taken.ensures.value ∙ sym (tables.slot-is slots n c.index_mut.result.now None place.0 c.index_mut.ensures.value)) ∙ place.1

-- every segment is emptied, and the one with the number is on the piece
record Known (c : goal.After-piece_of) : Type 0 where
  pub all : c.self-2.inside.slots.items ≡ emptied-all c.self.inside.slots.items
  pub inside : c.in_ok-number.number < length c.self-2.inside.slots.items
  pub is : get_or c.self-2.inside.slots.items c.in_ok-number.number None ≡ Some (fresh c.piece_of.result)
  pub rest : slice_set c.self-2.inside.slots.items c.in_ok-number.number c.replace-taken.new.dest ≡ emptied-all (slice_set c.self.inside.slots.items c.in_ok-number.number None)
  pub long : length (slice_set c.self.inside.slots.items c.in_ok-number.number None) ≡ c.args.self.now.most

known : (c : goal.After-piece_of) → Known c
known c =
    let was = c.self.inside in let slots = c.self-2.inside.slots.items in let n = c.in_ok-number.number in
    let all : slots ≡ emptied-all was.slots.items = ap (λ q. q.segments) (c.self-2.view_is ∙ c.empty.ensures ∙ ap all_emptied (sym c.self.view_is)) in
    let place = emptied-place was.slots.items slots was.held n all (c.self.invariant.0).held c.in_ok-number.ensures.greatest.0 in record {
      all = all;
      inside = place.0;
      is = tables.slot-is slots n c.index_mut.result.now None place.0 c.index_mut.ensures.value ∙ sym c.replace-taken.ensures.value ∙ c.piece_of.ensures;
      rest = ap (slice_set slots n) c.replace-taken.ensures.after ∙ ap (λ s. slice_set s n None) all ∙ emptied-less was.slots.items n;
      long = length-set was.slots.items n None ∙ sym (length-map was.slots.items (λ s. option_map slot_of s)) ∙ (c.self.invariant.0).long ∙ ap (λ q. q.most) c.self.view_is;
    }

abbrev before : goal.After-piece_of → RegionState
before c = let i = c.self.inside in record { most = i.most; groups = states i.groups.items; segments = i.slots.items }

abbrev after : goal.After-piece_of → RegionState
after c = let i = c.self-2.inside in record { most = i.most; groups = states i.groups.items; segments = i.slots.items }

pub invariant_of-self : goal.invariant_of-self
invariant_of-self c =
    let i = c.self-2.inside in let slots = i.slots.items in let n = c.in_ok-number.number in let k = known c in let d = c.replace-taken.new.dest in
    let same : live_in_each (slice_set slots n d) ≡ live_in_each slots =
    ap (λ s. live_in_each (slice_set slots n s)) c.replace-taken.ensures.after ∙ live-taken slots n (fresh c.piece_of.result) k.is refl in (
      subst (λ h. Fields i.most i.groups.items h c.remove-2.new.self (slice_set slots n d)) (sym c.remove.ensures)
          (subst (λ f. Fields i.most i.groups.items (slice_set i.held n false) f (slice_set slots n d)) (sym c.remove-2.ensures)
          (subst (λ s. Fields i.most i.groups.items (slice_set i.held n false) (slice_set i.free n false) (slice_set slots n s)) (sym c.replace-taken.ensures.after)
          (taken-in i.most i.groups.items i.held i.free slots c.self-2.invariant.0 n (fresh c.piece_of.result) k.is refl refl))),
      total-same i.live (live_in_each slots) _ c.self-2.invariant.1 same,
    )

pub returns-clause-given : goal.returns-clause-given
returns-clause-given c =
    let i = c.self.inside in let slots = i.slots.items in let n = c.in_ok-number.number in let v = c.self.invariant.0 in let f = c.in_ok-number.ensures.greatest in let k = known c in
    let at = says-held slots i.held i.free v.held v.free in
    let greatest : IsGreatestHeld (before c) n = (sym (at n) ∙ f.0, λ m far h. (let clash : false ≡ true = sym (f.1 m far) ∙ at m ∙ h in cc)) in
    let now : after c ≡ all_emptied c.args.self.now = c.self-2.view_is ∙ c.empty.ensures in (
      n,
      subst (λ q. IsGreatestHeld q n) c.self.view_is greatest,
      subst (λ q. segment_at q n ≡ Some (fresh c.piece_of.result)) now k.is,
      ap (with_segment (after c) n) c.replace-taken.ensures.after ∙ ap (λ q. with_segment q n None) now,
    )

pub returns-clause-objects : goal.returns-clause-objects
returns-clause-objects c p =
    let nothing : (q : Place) → standing_at (after c) q ≡ None = λ q. ap (λ s. standing_at s q) (c.self-2.view_is ∙ c.empty.ensures) ∙ nothing-emptied c.args.self.now q in
    subst (λ d. standing_at (with_segment (after c) c.in_ok-number.number d) p ≡ None) (sym c.replace-taken.ensures.after) (nothing-less (after c) c.in_ok-number.number nothing p)

pub returns-clause-held : goal.returns-clause-held
returns-clause-held c some =
    let slots = c.self-2.inside.slots.items in let n = c.in_ok-number.number in let k = known c in
    let fewer : count_by is_held (slots_of (slice_set slots n None)) + 1 ≡ count_by is_held (slots_of slots) + 0 = counted-change is_held slots n (Some (fresh c.piece_of.result)) None k.inside k.is in
    ap (λ s. held_count (with_segment (after c) n s) + 1) c.replace-taken.ensures.after ∙ omega (arith, fewer)
    ∙ ap (λ s. count_by is_held (slots_of s)) k.all ∙ emptied-held c.self.inside.slots.items ∙ ap held_count c.self.view_is

pub returns-clause-free : goal.returns-clause-free
returns-clause-free c =
    let k = known c in let left : List (Option SegmentState) = slice_set c.self.inside.slots.items c.in_ok-number.number None in
    ap (λ s. count_by is_free (slots_of s)) k.rest ∙ emptied-counts left ∙ sym (emptied-held left) ∙ sym (ap (λ s. count_by is_held (slots_of s)) k.rest)

pub returns-clause-used : goal.returns-clause-used
returns-clause-used c =
    let k = known c in ap used_in_each k.rest ∙ emptied-used-each (slice_set c.self.inside.slots.items c.in_ok-number.number None) ∙ ap (λ m. replicate m 0) k.long

pub returns-clause-live : goal.returns-clause-live
returns-clause-live c =
    let k = known c in ap live_in_each k.rest ∙ emptied-live-each (slice_set c.self.inside.slots.items c.in_ok-number.number None) ∙ ap (λ m. replicate m 0) k.long

pub returns-clause-live_total : goal.returns-clause-live_total
returns-clause-live_total c = ap sum (returns-clause-live c) ∙ sum-zeros c.args.self.now.most
