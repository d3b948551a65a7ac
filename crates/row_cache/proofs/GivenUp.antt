-- The pieces of a region that gave one up.
use Rattle.std.proofs.Common.{◌≡◌, ◌<◌, ℕ, zero, suc, List, [], ◌∷◌, map, refl, sym, ap, ◌∙◌, subst, true}
use Rattle.std.specs.Prelude.{Option, None, Some, slice_get, slice_set, slice_index_or, option_map, IfSome}
use Rattle.std.proofs.lemmas.List.{map-set}
use Rattle.raw_range.specs.Memory.{Lent}
use Rattle.regions.specs.Segments.{SegmentState, RegionState, segment_at, with_segment, fresh, emptied, all_emptied}
use Rattle.regions.specs.Shapes.{Slot, Shape, identity, slot_of, slots_of, slot_at, shape, is_held, pieces, pieces_in, IsGreatestHeld}

pieces-emptied : (segments : List (Option SegmentState)) → pieces_in (slots_of (map (λ s. option_map emptied s) segments)) ≡ pieces_in (slots_of segments)
pieces-emptied [] = refl
pieces-emptied (None ∷ segments) = ap (λ ps. None ∷ ps) (pieces-emptied segments)
pieces-emptied (Some h ∷ segments) = ap (λ ps. Some (identity h.piece) ∷ ps) (pieces-emptied segments)

piece-there : (segments : List (Option SegmentState)) (n : ℕ) (piece : Lent) → slice_index_or segments n None ≡ Some (fresh piece) → slice_get (pieces_in (slots_of segments)) n ≡ Some (Some (identity piece))
piece-there [] n piece e = absurd (let clash : None ≡ Some (fresh piece) = e in cc)
piece-there (s ∷ segments) zero piece e = ap (λ (o : Option SegmentState). Some (option_map (λ (b : Slot). b.piece) (option_map slot_of o))) e
piece-there (s ∷ segments) (suc n) piece e = piece-there segments n piece e

pieces-without : (r : RegionState) (n : ℕ) → pieces (with_segment r n None) ≡ slice_set (pieces r) n None
pieces-without r n =
    ap (map (λ s. option_map (λ (b : Slot). b.piece) s)) (map-set (λ s. option_map slot_of s) r.segments n None)
    ∙ map-set (λ s. option_map (λ (b : Slot). b.piece) s) (slots_of r.segments) n None

module _ (old r new : RegionState) (shapes : shape r ≡ shape old) (piece : Lent) (n : ℕ) (there : segment_at (all_emptied r) n ≡ Some (fresh piece)) (is : new ≡ with_segment (all_emptied r) n None) where
  same : pieces (all_emptied r) ≡ pieces old
  same = pieces-emptied r.segments ∙ ap (λ (s : Shape). pieces_in s.slots) shapes

  was-held : slice_get (pieces old) n ≡ Some (Some (identity piece))
  was-held = ap (λ ps. slice_get ps n) (sym same) ∙ piece-there (all_emptied r).segments n piece there

  held-no-more : pieces new ≡ slice_set (pieces old) n None
  held-no-more = ap (λ (x : RegionState). pieces x) is ∙ pieces-without (all_emptied r) n ∙ ap (λ ps. slice_set ps n None) same

greatest-still : (old r : RegionState) → shape r ≡ shape old → (n : ℕ) → IsGreatestHeld r n → IsGreatestHeld old n
greatest-still old r shapes n h = subst (λ (s : Shape). (is_held (slot_at s.slots n) ≡ true) × ((m : ℕ) → n < m → ¬ (is_held (slot_at s.slots m) ≡ true))) shapes h

-- the segment with the greatest number, in the words of the region before its objects went
pub given-up : (old r new : RegionState) → shape r ≡ shape old → (given : Option Lent)
    → IfSome given (λ piece. (n : ℕ) × IsGreatestHeld r n × (segment_at (all_emptied r) n ≡ Some (fresh piece)) × (new ≡ with_segment (all_emptied r) n None))
    → IfSome given (λ piece. (n : ℕ) × IsGreatestHeld old n × (slice_get (pieces old) n ≡ Some (Some (identity piece))) × (pieces new ≡ slice_set (pieces old) n None))
given-up old r new shapes None h = h
given-up old r new shapes (Some piece) h = (h.0, greatest-still old r shapes h.0 h.1, was-held old r new shapes piece h.0 h.2 h.3, held-no-more old r new shapes piece h.0 h.2 h.3)
