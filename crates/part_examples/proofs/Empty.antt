-- A region in which no segment is held.
use Rattle.std.proofs.Common.{◌≡◌, ℕ, zero, suc, Option, None, refl, ap, ◌∙◌, replicate, get_or}
use Rattle.std.specs.List.{count_by}
use Rattle.regions.specs.Contents.{standing_at, standing_in}
use Rattle.regions.specs.Segments.{RegionState, SegmentState}
use Rattle.regions.specs.Shapes.{is_held, slots_of}
use Rattle.regions.specs.declared.place.Place.{Place}

pub none_held : (n : ℕ) → count_by is_held (slots_of (replicate n None)) ≡ 0
none_held zero = refl
none_held (suc n) = none_held n

no-slot : (n k : ℕ) → get_or (replicate n (let none : Option SegmentState = None in none)) k None ≡ None
no-slot zero k = refl
no-slot (suc n) zero = refl
no-slot (suc n) (suc k) = no-slot n k

-- nothing stands in it
pub none-stands : (r : RegionState) (n : ℕ) (p : Place) → r.segments ≡ replicate n None → standing_at r p ≡ None
none-stands r n p e = ap (λ segs. standing_in (get_or segs p.segment None) p.at) e ∙ ap (λ s. standing_in s p.at) (no-slot n p.segment)
