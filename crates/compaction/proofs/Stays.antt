-- What a segment that was freed leaves as it was.
use Rattle.std.proofs.Common.{◌≡◌, ◌≢◌, ℕ, ap, ◌∙◌, arith}
use Rattle.std.specs.Prelude.{Option, None, IsSome, option_map}
use Rattle.std.proofs.lemmas.List.{get_or-set_other}
use Rattle.regions.specs.Segments.{SegmentState, RegionState, with_segment}
use Rattle.regions.specs.Shapes.{guards_of, guards_at, IsClosedIn}
use Rattle.regions.specs.Contents.{standing_in, standing_at}
use Rattle.regions.specs.Stores.{Bare, without_references}
use Rattle.regions.specs.declared.place.Place.{Place}
use Rattle.compaction.specs.Emptied.{IsSameAt, GuardedStay}
use Rattle.compaction.specs.inside.Drained.{IsDrained}
use Rattle.compaction.proofs.Shut.{guards-of-closed}

standing-other : (r : RegionState) (n : ℕ) (s : Option SegmentState) (p : Place) → p.segment ≢ n → standing_at (with_segment r n s) p ≡ standing_at r p
standing-other r n s p far = ap (λ h. standing_in h p.at) (get_or-set_other r.segments n p.segment s None far)

-- what stood in another segment as it was drained
pub freed-kept : (bare : Bare) (n : ℕ) (s : Option SegmentState) (old now new : RegionState) → IsDrained bare n old now → new ≡ with_segment now n s → (p : Place) → p.segment ≢ n → IsSome (standing_at old p) → IsSameAt bare old new p
freed-kept bare n s old now new drained freed p far there =
    ap (option_map (without_references bare)) (ap (λ r. standing_at r p) freed ∙ standing-other now n s p far) ∙ drained.kept p far there

-- and so what stood under a guard, as its group has none
pub guarded-stay : (bare : Bare) (g n : ℕ) (old new : RegionState) → IsClosedIn old g n → guards_of old g ≡ 0 → ((p : Place) → p.segment ≢ n → IsSome (standing_at old p) → IsSameAt bare old new p) → GuardedStay bare old new
guarded-stay bare g n old new shut free kept p guarded there =
    kept p (λ e. let here = ap (guards_at old) e in let of = guards-of-closed old g n shut in omega (arith, guarded, here, of, free)) there
