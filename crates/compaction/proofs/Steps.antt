-- A pass goes on by one segment.
use Rattle.std.proofs.Common.{◌≡◌, List, [], ◌∷◌, refl, subst}
use Rattle.regions.specs.Segments.{RegionState}
use Rattle.regions.specs.Shapes.{free_count}
use Rattle.regions.specs.Stores.{Bare}
use Rattle.compaction.specs.Passes.{Passes, FreesOne}

pub passes-on : (bare : Bare) (old now new : RegionState) (states : List RegionState) → Passes bare old states now → free_count now ≡ 1 → FreesOne bare now new → (more : List RegionState) × Passes bare old more new
passes-on bare old now new [] same free one = (new ∷ [], (subst (λ r. free_count r ≡ 1) same free, subst (λ r. FreesOne bare r new) same one, refl))
passes-on bare old now new (r ∷ rs) steps free one = let rest = passes-on bare r now new rs steps.2 free one in (r ∷ rest.0, (steps.0, steps.1, rest.1))
