-- Segments that come and go.
use Rattle.std.proofs.Common.{◌≡◌, ℕ, zero, suc, ◌+◌, ◌<◌, true, List, [], ◌∷◌, length, map, Option, Some, None, refl, sym, ap, subst, ◌∙◌, arith}
use Rattle.std.specs.Prelude.{◌↔◌, slice_get, slice_set, slice_index_or, option_map, IfSome, IsNone, IsSome}
use Rattle.std.proofs.lemmas.List.{map-set, length-map, length-set, get_or-set_same}
use Rattle.raw_range.specs.Memory.{Lent}
use Rattle.rows.specs.Row.{live}
use Rattle.regions.specs.Segments.{SegmentState, GroupState, RegionState, segment_at, with_segment, fresh, emptied, all_emptied, ended, group_at, idle}
use Rattle.regions.specs.Shapes.{Slot, Shape, identity, slot_of, slots_of, slot_at, shape, is_held, pieces, pieces_in, active_of, activated, group_count, guards_of, held_count, free_count, IsGreatestHeld}
use Rattle.regions.specs.Counts.{live_total}
use Rattle.regions.specs.Contents.{Keeps, item_if_live, live_at, standing_at}
use Rattle.regions.specs.Stores.{Live}
use Rattle.regions.specs.declared.place.Place.{Place}
use Rattle.segmented_store.specs.Segments.{GivesUp}
use Rattle.dirty_region.specs.inside.PutRows.{PutRows}
use Rattle.dirty_region.specs.inside.Rings.{RingState, IsRingOf, listed, nth, puts_in, key_at}
use Rattle.dirty_region.specs.inside.Indexed.{IsIndexOf}
use Rattle.dirty_region.specs.inside.Consistent.{HasSpare, IsStored}
use Rattle.dirty_region.proofs.Rings.{some_none}
use Rattle.dirty_region.proofs.Stored.{segments_same}
use Rattle.dirty_region.proofs.Indexes.{moves}

-- ---- where no object changes

pub same_live : (r s : RegionState) → Keeps r s → live_at s ≡ live_at r
same_live r s keeps = λ i p. item_if_live (keeps p i)

pub puts_kept : (ring : RingState) (r s : RegionState) → Keeps r s → puts_in ring (live_at s) ≡ puts_in ring (live_at r)
puts_kept ring r s keeps = ap (puts_in ring) (same_live r s keeps)

pub stored_kept : (ring : RingState) (index : PutRows) (r s : RegionState) → IsStored ring index r → Keeps r s → live_total s ≡ live_total r → HasSpare s → IsStored ring index s
stored_kept ring index r s h keeps total spare =
    let same = same_live r s keeps in record {
      ring_of = subst (IsRingOf ring) (sym same) h.ring_of;
      index_of = subst (λ l. IsIndexOf ring l index) (sym same) h.index_of;
      sizes = ap live (puts_kept ring r s keeps) ∙ (h.sizes ∙ sym total);
      spare = spare;
    }

-- ---- a segment comes

pub pieces_with : (r : RegionState) (n : ℕ) (piece : Lent) → pieces (with_segment r n (Some (fresh piece))) ≡ slice_set (pieces r) n (Some (identity piece))
pieces_with r n piece =
    ap (map (λ s. option_map (λ (b : Slot). b.piece) s)) (map-set (λ s. option_map slot_of s) r.segments n (Some (fresh piece)))
    ∙ map-set (λ s. option_map (λ (b : Slot). b.piece) s) (slots_of r.segments) n (Some (slot_of (fresh piece)))

-- a segment more is free, and the groups are as they were
pub spare_grown : (r s : RegionState) (n : ℕ) (piece : Lent) → HasSpare r → s ≡ with_segment r n (Some (fresh piece)) → held_count s ≡ held_count r + 1 → free_count s ≡ free_count r + 1 → HasSpare s
spare_grown r s n piece spare is held free = record {
  most = (let m = spare.most in let e = ap (λ (x : RegionState). (shape x).most) is in omega (arith, m, e));
  one = ap (λ (x : RegionState). group_count x) is ∙ spare.one;
  guards = ap (λ (x : RegionState). guards_of x 0) is ∙ spare.guards;
  begun = λ none. (let b = spare.begun (sym (ap (λ (x : RegionState). active_of x 0) is) ∙ none) in omega (arith, b, held, free));
  free = λ _. omega (arith, free);
}

-- it is active in the group that had no active one
pub spare_begun : (r s t : RegionState) (n m : ℕ) (piece : Lent) → HasSpare r → s ≡ with_segment r n (Some (fresh piece)) → held_count s ≡ held_count r + 1 → free_count s ≡ free_count r + 1
    → active_of s 0 ≡ None → shape t ≡ activated 0 m (shape s) → held_count t ≡ held_count s → free_count t + 1 ≡ free_count s → HasSpare t
spare_begun r s t n m piece spare is held free none begun same fewer =
    let old = spare_grown r s n piece spare is held free in
    let group : GroupState = record { active = Some m; guards = (group_at (shape s).groups 0).guards } in
    let groups : (shape t).groups ≡ slice_set (shape s).groups 0 group = ap (λ (x : Shape). x.groups) begun in
    let one = old.one in
    let some : 0 < length (shape s).groups = omega (arith, one) in
    let at : group_at (shape t).groups 0 ≡ group = ap (λ gs. group_at gs 0) groups ∙ get_or-set_same (shape s).groups 0 group idle some in
    record {
      most = (let m = old.most in let e = ap (λ (x : Shape). x.most) begun in omega (arith, m, e));
      one = ap (λ gs. length gs) groups ∙ (length-set (shape s).groups 0 group ∙ old.one);
      guards = ap (λ (g : GroupState). g.guards) at ∙ old.guards;
      begun = λ no. absurd (let clash : Some m ≡ None = sym (ap (λ (g : GroupState). g.active) at) ∙ no in cc);
      free = λ two. (let b = spare.begun (sym (ap (λ (x : RegionState). active_of x 0) is) ∙ none) in omega (arith, b, held, free, same, fewer, two));
    }

-- ---- a segment is given up

pieces-emptied : (segments : List (Option SegmentState)) → pieces_in (slots_of (map (λ s. option_map emptied s) segments)) ≡ pieces_in (slots_of segments)
pieces-emptied [] = refl
pieces-emptied (None ∷ segments) = ap (λ ps. None ∷ ps) (pieces-emptied segments)
pieces-emptied (Some h ∷ segments) = ap (λ ps. Some (identity h.piece) ∷ ps) (pieces-emptied segments)

piece-there : (segments : List (Option SegmentState)) (n : ℕ) (piece : Lent) → slice_index_or segments n None ≡ Some (fresh piece) → slice_get (pieces_in (slots_of segments)) n ≡ Some (Some (identity piece))
piece-there [] n piece e = absurd (let clash : None ≡ Some (fresh piece) = e in cc)
piece-there (s ∷ segments) zero piece e = ap (λ (o : Option SegmentState). Some (option_map (λ (b : Slot). b.piece) (option_map slot_of o))) e
piece-there (s ∷ segments) (suc n) piece e = piece-there segments n piece e

pieces-without : (r : RegionState) (n : ℕ) → pieces (with_segment r n None) ≡ slice_set (pieces r) n None
pieces-without r n =
    ap (map (λ s. option_map (λ (b : Slot). b.piece) s)) (map-set (λ s. option_map slot_of s) r.segments n None)
    ∙ map-set (λ s. option_map (λ (b : Slot). b.piece) s) (slots_of r.segments) n None

pub kept_pieces : (old r new : RegionState) → shape r ≡ shape old → new ≡ all_emptied r → pieces new ≡ pieces old
kept_pieces old r new shapes is = ap (λ (x : RegionState). pieces x) is ∙ (pieces-emptied r.segments ∙ ap (λ (s : Shape). pieces_in s.slots) shapes)

-- the segment with the greatest number, in the words of the region before its objects went
pub given_up : (old r new : RegionState) → shape r ≡ shape old → (piece : Lent)
    → (n : ℕ) × IsGreatestHeld r n × (segment_at (all_emptied r) n ≡ Some (fresh piece)) × (new ≡ with_segment (all_emptied r) n None)
    → (n : ℕ) × IsGreatestHeld old n × (slice_get (pieces old) n ≡ Some (Some (identity piece))) × (pieces new ≡ slice_set (pieces old) n None)
given_up old r new shapes piece h =
    let n = h.0 in
    let same : pieces (all_emptied r) ≡ pieces old = pieces-emptied r.segments ∙ ap (λ (s : Shape). pieces_in s.slots) shapes in (
      n,
      subst (λ (s : Shape). (is_held (slot_at s.slots n) ≡ true) × ((m : ℕ) → n < m → ¬ (is_held (slot_at s.slots m) ≡ true))) shapes h.1,
      ap (λ ps. slice_get ps n) (sym same) ∙ piece-there (all_emptied r).segments n piece h.2,
      ap (λ (x : RegionState). pieces x) h.3 ∙ (pieces-without (all_emptied r) n ∙ ap (λ ps. slice_set ps n None) same),
    )

-- what a region says of the piece that it gives
abbrev IsGiven : RegionState → RegionState → Option Lent → Type 0
IsGiven r new o = IfSome o (λ piece. (n : ℕ) × IsGreatestHeld r n × (segment_at (all_emptied r) n ≡ Some (fresh piece)) × (new ≡ with_segment (all_emptied r) n None))

pub groups_given : (o : Option Lent) (r new : RegionState) → (IsNone o → new ≡ all_emptied r) → IsGiven r new o
    → ((shape new).most ≡ (shape r).most) × ((shape new).groups ≡ map ended (shape r).groups)
groups_given None r new none some = (ap (λ (x : RegionState). (shape x).most) (none refl), ap (λ (x : RegionState). (shape x).groups) (none refl))
groups_given (Some p) r new none some = (ap (λ (x : RegionState). (shape x).most) some.3, ap (λ (x : RegionState). (shape x).groups) some.3)

piece_given : (o : Option Lent) (old r new : RegionState) → shape r ≡ shape old → IsGiven r new o
    → IfSome o (λ piece. (n : ℕ) × IsGreatestHeld old n × (slice_get (pieces old) n ≡ Some (Some (identity piece))) × (pieces new ≡ slice_set (pieces old) n None))
piece_given None old r new shapes given = tt
piece_given (Some p) old r new shapes given = given_up old r new shapes p given

pub gives_up : (o : Option Lent) (old r new : RegionState) → shape r ≡ shape old → (IsNone o ↔ (held_count r ≡ 0)) → IsGiven r new o → (IsSome o → held_count new + 1 ≡ held_count r)
    → (shape new).most ≡ (shape r).most → guards_of new 0 ≡ guards_of old 0 → GivesUp old new o
gives_up o old r new shapes none given fewer most guards =
    let same = segments_same old r shapes in record {
      none = subst (λ n. IsNone o ↔ (n ≡ 0)) same.held none;
      given = piece_given o old r new shapes given;
      held = λ some. fewer some ∙ same.held;
      most = most ∙ same.most;
      guards = guards;
    }

guards-ended : (groups : List GroupState) → (group_at (map ended groups) 0).guards ≡ (group_at groups 0).guards
guards-ended [] = refl
guards-ended (g ∷ groups) = refl

pub spare_emptied : (r new : RegionState) → HasSpare r → (shape new).most ≡ (shape r).most → (shape new).groups ≡ map ended (shape r).groups → free_count new ≡ held_count new → HasSpare new
spare_emptied r new spare most groups free = record {
  most = (let m = spare.most in omega (arith, m, most));
  one = ap (λ gs. length gs) groups ∙ (length-map (shape r).groups ended ∙ spare.one);
  guards = ap (λ gs. (group_at gs 0).guards) groups ∙ (guards-ended (shape r).groups ∙ spare.guards);
  begun = λ _. omega (arith, free);
  free = λ two. omega (arith, free, two);
}

pub no_puts_left : (ring : RingState) (l : Live) → ring.count ≡ 0 → puts_in ring l ≡ []
no_puts_left ring l none = ap (listed (nth ring l)) none

pub stored_emptied : (ring : RingState) (index : PutRows) (r s : RegionState) → IsStored ring index r → ring.count ≡ 0 → ((p : Place) → standing_at s p ≡ None)
    → live_total s ≡ 0 → HasSpare s → IsStored ring index s
stored_emptied ring index r s h none objects total spare =
    record {
      ring_of = record {
        numbers = h.ring_of.numbers;
        puts = λ k low. absurd (omega (arith, low, none));
        every = λ p i e. some_none e (ap item_if_live (objects p));
      };
      index_of = record {
        room = h.index_of.room;
        keyed = moves index (key_at (live_at r) ring.places) (key_at (live_at s) ring.places) (λ n has. absurd (let w = h.index_of.has.only n has in let l = w.2 in omega (arith, l, none))) h.index_of.keyed;
        once = h.index_of.once;
        has = record {
          only = λ n has. absurd (let w = h.index_of.has.only n has in let l = w.2 in omega (arith, l, none));
          those = λ k low high. absurd (omega (arith, high, none));
        };
      };
      sizes = ap live (no_puts_left ring (live_at s) none) ∙ sym total;
      spare = spare;
    }
