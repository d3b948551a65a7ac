use Rattle.std.proofs.Common.{rules, ◌≡◌, ◌≢◌, ◌+◌, ◌<◌, ◌≤◌, ℕ, inl, inr, length, true, false, not, get_or, sym, ap, ◌∙◌, subst, refl, arith}
use Rattle.std.specs.Prelude.{None, Some, is_some, option_map, slice_set}
use Rattle.std.specs.List.{sum}
use Rattle.std.proofs.lemmas.Bool.{cases_Bool}
use Rattle.std.proofs.lemmas.Option.{same_Some}
use Rattle.std.proofs.lemmas.List.{get_or-set_other, map-set, length-map}
use Rattle.regions.specs.Segments.{SegmentState, RegionState, segment_at, with_segment, emptied}
use Rattle.regions.specs.Shapes.{Slot, shape, freed, slots_of, slot_of, slot_at, group_in, active_in, is_free, is_begun, is_number, is_closed, is_closed_in, IsClosed, IsClosedIn, guards_at, free_count, held_count, pieces}
use Rattle.regions.specs.Counts.{used_counts, live_counts, used_in_each, live_in_each, live_bytes_at, used_in, live_in, left, left_of}
use Rattle.regions.specs.Contents.{standing_in, standing_at}
use Rattle.regions.specs.inside.Consistent.{GroupFields, states, not_closed}
use Rattle.regions.proofs.Tables as tables
use Rattle.regions.proofs.Updates.{slot-is, live-is, live-same}
use Rattle.regions.proofs.Groups.{counted-as, begun-held, closed-parts, closed-in-parts, closed-in-from, of-begun, number-is, states-kept}
use Rattle.regions.proofs.Consistency.{of-within, active-of}
use Rattle.regions.proofs.Regions.{Fields, held-there, begun-within, group-is, group-known, group-there, frees-in, live-unused, pieces-same, held-same, slot-there, slot-elsewhere, left-same}
use Rattle.regions.proofs.Members.{counted-change}
use Rattle.regions.proofs.Sums.{sum-cleared}
use Rattle.regions.proofs.Totals.{total-same}
use Rattle.regions.proofs.region.Region.free_closed.Goals as goal

pub group_begun-group-requires : goal.group_begun-group-requires
group_begun-group-requires c =
    let i = c.self.inside in let slots = i.slots.items in let n = c.args.segment in
    let closed : is_closed (states i.groups.items) (slots_of slots) n ≡ true = subst (λ q. IsClosed q n) (sym c.self.view_is) c.requires.closed in
    let part = closed-parts (states i.groups.items) (slots_of slots) n closed in
    let begun = of-begun (slot_at (slots_of slots) n) part.0 part.1 in
    let inside = begun-within i.most i.groups.items i.held i.free slots c.self.invariant.0 n begun in
    let at = tables.slot-is slots n c.index.result.now None inside c.index.ensures in
    ap (λ s. is_begun (option_map slot_of s)) (sym at) ∙ ap is_begun (sym (slot-is slots n)) ∙ begun

pub index_mut-requires-2 : goal.index_mut-requires-2
index_mut-requires-2 c =
    let i = c.self.inside in let slots = i.slots.items in let n = c.args.segment in
    let closed : is_closed (states i.groups.items) (slots_of slots) n ≡ true = subst (λ q. IsClosed q n) (sym c.self.view_is) c.requires.closed in
    let part = closed-parts (states i.groups.items) (slots_of slots) n closed in
    let begun = of-begun (slot_at (slots_of slots) n) part.0 part.1 in
    let inside = begun-within i.most i.groups.items i.held i.free slots c.self.invariant.0 n begun in
    let at = tables.slot-is slots n c.index.result.now None inside c.index.ensures in
    let of : group_in (slot_at (slots_of slots) n) ≡ Some c.group_begun-group.result = ap group_in (slot-is slots n) ∙ ap (λ s. group_in (option_map slot_of s)) at ∙ c.group_begun-group.ensures in
    let g = c.group_begun-group.result in
    let w = of-within i.most i.groups.items i.held i.free (slots_of slots) (used_in_each slots) (live_in_each slots) c.self.invariant.0 g n of in
    search rules

pub unclose-requires-clause-table : goal.unclose-requires-clause-table
unclose-requires-clause-table c =
    let i = c.self.inside in let slots = i.slots.items in let n = c.args.segment in
    let closed : is_closed (states i.groups.items) (slots_of slots) n ≡ true = subst (λ q. IsClosed q n) (sym c.self.view_is) c.requires.closed in
    let part = closed-parts (states i.groups.items) (slots_of slots) n closed in
    let begun = of-begun (slot_at (slots_of slots) n) part.0 part.1 in
    let inside = begun-within i.most i.groups.items i.held i.free slots c.self.invariant.0 n begun in
    let at = tables.slot-is slots n c.index.result.now None inside c.index.ensures in
    let of : group_in (slot_at (slots_of slots) n) ≡ Some c.group_begun-group.result = ap group_in (slot-is slots n) ∙ ap (λ s. group_in (option_map slot_of s)) at ∙ c.group_begun-group.ensures in
    let g = c.group_begun-group.result in
    let w = of-within i.most i.groups.items i.held i.free (slots_of slots) (used_in_each slots) (live_in_each slots) c.self.invariant.0 g n of in
    let f = c.index_mut-2.result.now in let there = group-there i.groups.items g f w c.index_mut-2.ensures.value in
    let long : length f.table ≡ i.most = ap (λ (x : GroupFields). length x.table) (sym there) ∙ (c.self.invariant.0).tabled g w in
    let l = length-map slots (λ s. option_map slot_of s) in let k = (c.self.invariant.0).long in omega (arith, inside, l, k, long)

-- the segment was closed, none of its bytes is live, and it is emptied
record Known (c : goal.After-self-2-1) : Type 0 where
  pub closed : is_closed (states c.self.inside.groups.items) (slots_of c.self.inside.slots.items) c.args.segment ≡ true
  pub inside : c.args.segment < length c.self.inside.slots.items
  pub was : SegmentState
  pub is : get_or c.self.inside.slots.items c.args.segment None ≡ Some was
  pub emptied-is : c.clear.new.slot ≡ Some (emptied was)
  pub group : ℕ
  pub of : was.group ≡ Some group
  pub group-there : group < length c.self.inside.groups.items
  pub in-it : is_closed_in (states c.self.inside.groups.items) (slots_of c.self.inside.slots.items) group c.args.segment ≡ true
  pub dead : live_in (Some was) ≡ 0

known : (c : goal.After-self-2-1) → Known c
known c =
    let i = c.self.inside in let slots = i.slots.items in let n = c.args.segment in
    let closed : is_closed (states i.groups.items) (slots_of slots) n ≡ true = subst (λ q. IsClosed q n) (sym c.self.view_is) c.requires.closed in
    let part = closed-parts (states i.groups.items) (slots_of slots) n closed in
    let begun = of-begun (slot_at (slots_of slots) n) part.0 part.1 in
    let there = held-there i.most i.groups.items i.held i.free slots c.self.invariant.0 n (begun-held (slot_at (slots_of slots) n) begun) in
    let inside = begun-within i.most i.groups.items i.held i.free slots c.self.invariant.0 n begun in
    let of : (there.0).group ≡ Some part.0 = sym (group-is i.most i.groups.items i.held i.free slots c.self.invariant.0 n there.0 there.0 there.1) ∙ part.1 in record {
      closed = closed;
      inside = inside;
      was = there.0;
      is = there.1;
      emptied-is = c.clear.ensures.cleared ∙ ap (λ s. option_map emptied s) (sym (tables.slot-is slots n c.index_mut.result.now None inside c.index_mut.ensures.value) ∙ there.1);
      group = part.0;
      of = of;
      group-there = group-known i.most i.groups.items i.held i.free slots c.self.invariant.0 n there.0 there.0 there.1 part.0 of;
      in-it = closed-in-from (states i.groups.items) (slots_of slots) part.0 n part.1 part.2;
      dead = sym (live-is slots n ∙ ap live_in there.1) ∙ subst (λ q. live_bytes_at q n ≡ 0) (sym c.self.view_is) c.requires.dead;
    }

abbrev before : goal.After-self-2-1 → RegionState
before c = let i = c.self.inside in record { most = i.most; groups = states i.groups.items; segments = i.slots.items }

pub invariant_of-self : goal.invariant_of-self
invariant_of-self c =
    let i = c.self.inside in let slots = i.slots.items in let n = c.args.segment in let k = known c in
    let g = c.group_begun-group.result in
    let mine : g ≡ k.group = same_Some g k.group (sym (subst (λ s. group_in (option_map slot_of s) ≡ Some g) (sym (tables.slot-is slots n c.index.result.now None k.inside c.index.ensures) ∙ k.is) c.group_begun-group.ensures) ∙ k.of) in
    let w : g < length i.groups.items = subst (λ j. j < length i.groups.items) (sym mine) k.group-there in
    let f = c.index_mut-2.result.now in let there = group-there i.groups.items g f w c.index_mut-2.ensures.value in
    let same = states-kept i.groups.items g f c.unclose.new.group there w (ap (λ (x : GroupFields). x.state) c.unclose.ensures.group) in
    let alive : live_in_each (slice_set slots n c.clear.new.slot) ≡ live_in_each slots =
    ap (λ s. live_in_each (slice_set slots n s)) k.emptied-is ∙ live-same slots n k.was (emptied k.was) k.is (live-unused (emptied k.was) refl ∙ sym k.dead) in (
      subst (λ x. Fields i.most x i.held c.unclose.new.free (slice_set slots n c.clear.new.slot)) (ap (slice_set i.groups.items g) (sym c.unclose.ensures.group))
          (subst (λ x. Fields i.most (slice_set i.groups.items g (record f { table = slice_set f.table n not_closed })) i.held x (slice_set slots n c.clear.new.slot)) (sym c.unclose.ensures.free)
          (subst (λ s. Fields i.most (slice_set i.groups.items g (record f { table = slice_set f.table n not_closed })) i.held (slice_set i.free n true) (slice_set slots n s)) (sym k.emptied-is)
          (frees-in i.most i.groups.items i.held i.free slots c.self.invariant.0 n k.was (emptied k.was) k.is g f there w (subst (λ j. is_closed_in (states i.groups.items) (slots_of slots) j n ≡ true) (sym mine) k.in-it) k.dead refl refl))),
      total-same i.live (live_in_each slots) _ c.self.invariant.1 alive,
    )

pub returns-clause-is_free : goal.returns-clause-is_free
returns-clause-is_free c =
    let slots = c.self.inside.slots.items in let n = c.args.segment in let k = known c in
    subst (λ s. is_free (slot_at (slots_of (slice_set slots n s)) n) ≡ true) (sym k.emptied-is) (ap is_free (slot-there slots n k.was (emptied k.was) k.is))

pub returns-clause-closed : goal.returns-clause-closed
returns-clause-closed c h m far shut =
    let i = c.self.inside in let slots = i.slots.items in let n = c.args.segment in let k = known c in
    let g = c.group_begun-group.result in
    let mine : g ≡ k.group = same_Some g k.group (sym (subst (λ s. group_in (option_map slot_of s) ≡ Some g) (sym (tables.slot-is slots n c.index.result.now None k.inside c.index.ensures) ∙ k.is) c.group_begun-group.ensures) ∙ k.of) in
    let w : g < length i.groups.items = subst (λ j. j < length i.groups.items) (sym mine) k.group-there in
    let f = c.index_mut-2.result.now in let there = group-there i.groups.items g f w c.index_mut-2.ensures.value in
    let same = states-kept i.groups.items g f c.unclose.new.group there w (ap (λ (x : GroupFields). x.state) c.unclose.ensures.group) in
    let parts = closed-in-parts (states i.groups.items) (slots_of slots) h m (subst (λ q. IsClosedIn q h m) (sym c.self.view_is) shut) in
    subst (λ gs. is_closed_in gs (slots_of (slice_set slots n c.clear.new.slot)) h m ≡ true) (sym same)
    (subst (λ s. is_closed_in (states i.groups.items) (slots_of (slice_set slots n s)) h m ≡ true) (sym k.emptied-is)
    (closed-in-from (states i.groups.items) (slots_of (slice_set slots n (Some (emptied k.was)))) h m (ap group_in (slot-elsewhere slots n k.was (emptied k.was) k.is m far) ∙ parts.0) parts.1))

pub returns-clause-freed : goal.returns-clause-freed
returns-clause-freed c =
    let i = c.self.inside in let slots = i.slots.items in let n = c.args.segment in let k = known c in
    let g = c.group_begun-group.result in
    let mine : g ≡ k.group = same_Some g k.group (sym (subst (λ s. group_in (option_map slot_of s) ≡ Some g) (sym (tables.slot-is slots n c.index.result.now None k.inside c.index.ensures) ∙ k.is) c.group_begun-group.ensures) ∙ k.of) in
    let w : g < length i.groups.items = subst (λ j. j < length i.groups.items) (sym mine) k.group-there in
    let f = c.index_mut-2.result.now in let there = group-there i.groups.items g f w c.index_mut-2.ensures.value in
    let same = states-kept i.groups.items g f c.unclose.new.group there w (ap (λ (x : GroupFields). x.state) c.unclose.ensures.group) in
    ap (λ gs. let r : RegionState = record { most = i.most; groups = gs; segments = slice_set slots n c.clear.new.slot } in r) same
    ∙ ap (λ s. with_segment (before c) n s) (k.emptied-is ∙ ap (option_map emptied) (sym k.is)) ∙ ap (λ q. with_segment q n (option_map emptied (segment_at q n))) c.self.view_is

-- the segment's group has no guard
pub returns-clause-stay : goal.returns-clause-stay
returns-clause-stay c = λ p guarded.
    let n = c.args.segment in let old = c.args.self.now in
    let far : p.segment ≢ n = λ same. (
    let none : guards_at old n ≡ 0 = c.requires.guards in let some : 1 ≤ guards_at old n = subst (λ k. 1 ≤ guards_at old k) same guarded in
    omega (arith, none, some)) in
    ap (λ q. standing_at q p) (returns-clause-freed c) ∙ ap (λ s. standing_in s p.at) (get_or-set_other old.segments n p.segment (option_map emptied (segment_at old n)) None far)

pub returns-clause-pieces : goal.returns-clause-pieces
returns-clause-pieces c =
    let k = known c in
    ap (λ s. pieces (with_segment (before c) c.args.segment s)) k.emptied-is ∙ pieces-same c.self.inside.slots.items c.args.segment k.was (emptied k.was) k.is refl ∙ ap pieces c.self.view_is

pub returns-clause-left : goal.returns-clause-left
returns-clause-left c h =
    let i = c.self.inside in let slots = i.slots.items in let n = c.args.segment in let k = known c in
    let g = c.group_begun-group.result in
    let mine : g ≡ k.group = same_Some g k.group (sym (subst (λ s. group_in (option_map slot_of s) ≡ Some g) (sym (tables.slot-is slots n c.index.result.now None k.inside c.index.ensures) ∙ k.is) c.group_begun-group.ensures) ∙ k.of) in
    let w : g < length i.groups.items = subst (λ j. j < length i.groups.items) (sym mine) k.group-there in
    let f = c.index_mut-2.result.now in let there = group-there i.groups.items g f w c.index_mut-2.ensures.value in
    let same = states-kept i.groups.items g f c.unclose.new.group there w (ap (λ (x : GroupFields). x.state) c.unclose.ensures.group) in
    let gs = states i.groups.items in
    let other : is_number (active_in gs h) n ≡ false =
    elim (cases_Bool (is_number (active_in gs h) n)) [
      | inl like ↦ absurd (
          let now = number-is (active_in gs h) n like in let parts = closed-in-parts gs (slots_of slots) k.group n k.in-it in
          let one : h ≡ k.group = active-of i.most i.groups.items i.held i.free (slots_of slots) (used_in_each slots) (live_in_each slots) c.self.invariant.0 k.group h n parts.0 now in
          let clash : false ≡ true = sym parts.1 ∙ subst (λ j. is_number (active_in gs j) n ≡ true) one like in cc)
      | inr unlike ↦ unlike
    ] in
    ap (λ s. left_of (used_in_each (slice_set slots n s)) (active_in (states (slice_set i.groups.items g c.unclose.new.group)) h)) k.emptied-is
    ∙ ap (λ x. left_of (used_in_each (slice_set slots n (Some (emptied k.was)))) (active_in x h)) same
    ∙ ap (λ u. left_of u (active_in gs h)) (map-set used_in slots n (Some (emptied k.was)))
    ∙ left-same (used_in_each slots) (active_in gs h) n other ∙ ap (λ q. left q h) c.self.view_is

pub returns-clause-held : goal.returns-clause-held
returns-clause-held c =
    let k = known c in
    ap (λ s. held_count (with_segment (before c) c.args.segment s)) k.emptied-is ∙ held-same c.self.inside.slots.items c.args.segment k.was (emptied k.was) k.is ∙ ap held_count c.self.view_is

pub returns-clause-free : goal.returns-clause-free
returns-clause-free c =
    let slots = c.self.inside.slots.items in let n = c.args.segment in let k = known c in
    let changed = counted-change is_free slots n (Some k.was) (Some (emptied k.was)) k.inside k.is in
    let none : counted-as (not (is_some k.was.group)) ≡ 0 = ap (λ o. counted-as (not (is_some o))) k.of in
    ap (λ s. free_count (with_segment (before c) n s)) k.emptied-is ∙ omega (arith, changed, none) ∙ ap (λ q. free_count q + 1) c.self.view_is

pub returns-clause-used : goal.returns-clause-used
returns-clause-used c =
    let slots = c.self.inside.slots.items in let n = c.args.segment in let k = known c in
    ap (λ s. used_counts (with_segment (before c) n s)) k.emptied-is ∙ map-set used_in slots n (Some (emptied k.was)) ∙ ap (λ q. slice_set (used_counts q) n 0) c.self.view_is

pub returns-clause-live : goal.returns-clause-live
returns-clause-live c =
    let slots = c.self.inside.slots.items in let n = c.args.segment in let k = known c in
    ap (λ s. live_counts (with_segment (before c) n s)) k.emptied-is ∙ live-same slots n k.was (emptied k.was) k.is (live-unused (emptied k.was) refl ∙ sym k.dead) ∙ ap live_counts c.self.view_is

pub returns-clause-live_total : goal.returns-clause-live_total
returns-clause-live_total c = ap sum (returns-clause-live c)

pub returns-clause-used_total : goal.returns-clause-used_total
returns-clause-used_total c =
    let slots = c.self.inside.slots.items in let n = c.args.segment in let k = known c in
    let counted : n < length (used_counts c.args.self.now) = subst (λ q. n < length (used_counts q)) c.self.view_is (let l = length-map slots used_in in omega (arith, l, k.inside)) in
    let sums = sum-cleared (used_counts c.args.self.now) n counted in
    let e = ap sum (returns-clause-used c) in
    omega (arith, e, sums)

pub returns-clause-shape : goal.returns-clause-shape
returns-clause-shape c =
    let i = c.self.inside in let slots = i.slots.items in let n = c.args.segment in let k = known c in
    let g = c.group_begun-group.result in
    let mine : g ≡ k.group = same_Some g k.group (sym (subst (λ s. group_in (option_map slot_of s) ≡ Some g) (sym (tables.slot-is slots n c.index.result.now None k.inside c.index.ensures) ∙ k.is) c.group_begun-group.ensures) ∙ k.of) in
    let w : g < length i.groups.items = subst (λ j. j < length i.groups.items) (sym mine) k.group-there in
    let f = c.index_mut-2.result.now in let there = group-there i.groups.items g f w c.index_mut-2.ensures.value in
    let same = states-kept i.groups.items g f c.unclose.new.group there w (ap (λ (x : GroupFields). x.state) c.unclose.ensures.group) in
    ap (λ gs. shape (record { most = i.most; groups = gs; segments = slice_set slots n c.clear.new.slot })) same
    ∙ ap (λ s. shape (with_segment (before c) n s)) k.emptied-is
    ∙ ap (λ s. record (shape (before c)) { slots = s }) (map-set (λ s. option_map slot_of s) slots n (Some (emptied k.was))
    ∙ ap (slice_set (slots_of slots) n) (sym (ap (option_map (λ (b : Slot). record b { group = None })) (slot-is slots n ∙ ap (λ s. option_map slot_of s) k.is))))
    ∙ ap (λ q. freed n (shape q)) c.self.view_is
