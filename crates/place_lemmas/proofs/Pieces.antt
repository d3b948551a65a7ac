-- The pieces of a region as a segment comes, and as one goes once all objects are gone.
use Rattle.std.proofs.Common.{◌≡◌, ℕ, zero, suc, List, [], ◌∷◌, map, Option, Some, None, refl, sym, ap, ◌∙◌}
use Rattle.std.specs.Prelude.{slice_get, slice_index_or, slice_set, option_map, IfSome, IsNone}
use Rattle.std.proofs.lemmas.List.{map-set}
use Rattle.raw_range.specs.Memory.{Lent}
use Rattle.regions.specs.Segments.{GroupState, RegionState, SegmentState, all_emptied, emptied, ended, fresh, group_at, segment_at, with_segment}
use Rattle.regions.specs.Shapes.{Slot, IsGreatestHeld, guards_of, identity, pieces, pieces_in, shape, slot_of, slots_of}

pub added_piece : (r s : RegionState) (n : ℕ) (piece : Lent) → pieces s ≡ pieces (with_segment r n (Some (fresh piece))) → pieces s ≡ slice_set (pieces r) n (Some (identity piece))
added_piece r s n piece is =
    is
    ∙ (ap (map (λ t. option_map (λ (b : Slot). b.piece) t)) (map-set (λ t. option_map slot_of t) r.segments n (Some (fresh piece)))
    ∙ map-set (λ t. option_map (λ (b : Slot). b.piece) t) (slots_of r.segments) n (Some (slot_of (fresh piece))))

emptied_pieces : (segments : List (Option SegmentState)) → pieces_in (slots_of (map (λ s. option_map emptied s) segments)) ≡ pieces_in (slots_of segments)
emptied_pieces [] = refl
emptied_pieces (None ∷ segments) = ap (λ ps. None ∷ ps) (emptied_pieces segments)
emptied_pieces (Some h ∷ segments) = ap (λ ps. Some (identity h.piece) ∷ ps) (emptied_pieces segments)

there : (segments : List (Option SegmentState)) (n : ℕ) (piece : Lent) → slice_index_or segments n None ≡ Some (fresh piece) → slice_get (pieces_in (slots_of segments)) n ≡ Some (Some (identity piece))
there [] n piece e = absurd (let clash : None ≡ Some (fresh piece) = e in cc)
there (s ∷ segments) zero piece e = ap (λ (o : Option SegmentState). Some (option_map (λ (b : Slot). b.piece) (option_map slot_of o))) e
there (s ∷ segments) (suc n) piece e = there segments n piece e

pub given_piece : (r : RegionState) (n : ℕ) (piece : Lent) → segment_at (all_emptied r) n ≡ Some (fresh piece) → slice_get (pieces r) n ≡ Some (Some (identity piece))
given_piece r n piece e = ap (λ ps. slice_get ps n) (sym (emptied_pieces r.segments)) ∙ there (all_emptied r).segments n piece e

pub left_pieces : (r s : RegionState) (n : ℕ) → s ≡ with_segment (all_emptied r) n None → pieces s ≡ slice_set (pieces r) n None
left_pieces r s n is =
    ap (λ (x : RegionState). pieces x) is
    ∙ (ap (map (λ t. option_map (λ (b : Slot). b.piece) t)) (map-set (λ t. option_map slot_of t) (all_emptied r).segments n None)
    ∙ (map-set (λ t. option_map (λ (b : Slot). b.piece) t) (slots_of (all_emptied r).segments) n None
    ∙ ap (λ ps. slice_set ps n None) (emptied_pieces r.segments)))

ended_guards : (groups : List GroupState) → (group_at (map ended groups) 0).guards ≡ (group_at groups 0).guards
ended_guards [] = refl
ended_guards (g ∷ groups) = refl

pub guards_left : (r s : RegionState) (n : ℕ) → s ≡ with_segment (all_emptied r) n None → guards_of s 0 ≡ guards_of r 0
guards_left r s n is = ap (λ (x : RegionState). guards_of x 0) is ∙ ended_guards r.groups

pub most_left : (r s : RegionState) (n : ℕ) → s ≡ with_segment (all_emptied r) n None → (shape s).most ≡ (shape r).most
most_left r s n is = ap (λ (x : RegionState). (shape x).most) is

-- what a region says of the piece that it gives
abbrev pub IsGiven : RegionState → RegionState → Option Lent → Type 0
IsGiven r s o = IfSome o (λ piece. (n : ℕ) × IsGreatestHeld r n × (segment_at (all_emptied r) n ≡ Some (fresh piece)) × (s ≡ with_segment (all_emptied r) n None))

pub pieces_given : (o : Option Lent) (r s : RegionState) → IsGiven r s o
    → IfSome o (λ piece. (n : ℕ) × IsGreatestHeld r n × (slice_get (pieces r) n ≡ Some (Some (identity piece))) × (pieces s ≡ slice_set (pieces r) n None))
pieces_given None r s given = tt
pieces_given (Some p) r s given = (given.0, given.1, given_piece r given.0 p given.2, left_pieces r s given.0 given.3)

pub most_given : (o : Option Lent) (r s : RegionState) → (IsNone o → s ≡ all_emptied r) → IsGiven r s o → (shape s).most ≡ (shape r).most
most_given None r s none given = ap (λ (x : RegionState). (shape x).most) (none refl)
most_given (Some p) r s none given = most_left r s given.0 given.3

pub guards_given : (o : Option Lent) (r s : RegionState) → (IsNone o → s ≡ all_emptied r) → IsGiven r s o → guards_of s 0 ≡ guards_of r 0
guards_given None r s none given = ap (λ (x : RegionState). guards_of x 0) (none refl) ∙ ended_guards r.groups
guards_given (Some p) r s none given = guards_left r s given.0 given.3
