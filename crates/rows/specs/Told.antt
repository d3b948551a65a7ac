-- What whoever is told of evictions was told.
use Rattle.std.specs.Prelude.{◌≡◌, ℕ, List, [], ◌∷◌}

-- from what it was to what it is these tags were told, one after another, and nothing else happened to it
abbrev pub AreTold : {E : Type 0} → (E → ℕ → E → Type 0) → E → List ℕ → E → Type 0
AreTold tells old [] new = new ≡ old
AreTold {E} tells old (tag ∷ tags) new = (mid : E) × tells old tag mid × AreTold tells mid tags new
