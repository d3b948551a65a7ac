-- The first row of a walk over rows.
use Rattle.std.proofs.Common.{◌≡◌, ℕ, List, [], ◌∷◌, Option, Some, None, sym, ◌∙◌}
use Rattle.std.specs.Prelude.{MatchOption}

-- what the next row of a walk says of all its rows
pub first_of : (next : Option ℕ) (all walk rest : List ℕ) → walk ≡ all → MatchOption next ((walk ≡ []) × (rest ≡ [])) (λ row. walk ≡ row ∷ rest)
    → MatchOption next (all ≡ []) (λ row. (behind : List ℕ) × (all ≡ row ∷ behind))
first_of None all walk rest same ends = sym same ∙ ends.0
first_of (Some row) all walk rest same steps = (rest, sym same ∙ steps)
