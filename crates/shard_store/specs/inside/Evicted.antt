-- Evictions that were told, and what was done on the rest.
use Rattle.std.specs.Prelude.{◌≡◌, ℕ, List}
use Rattle.rows.specs.Row.{Row}
use Rattle.rows.specs.Apply.{Reply}
use Rattle.rows.specs.Evictions.{Evicts}
use Rattle.rows.specs.Told.{AreTold}

module _ {E : Type 0} (tells : E → ℕ → E → Type 0) where
  -- rows went in turn, each above the bound, and each was told
  pub record HasEvicted (bound : ℕ) (rows rest : List Row) (before after : E) : Type 0 where
    pub tags : List ℕ
    pub evicts : Evicts bound rows tags rest
    pub told : AreTold tells before tags after

  -- behind such evictions this was done on the rest, with the answer that it has there
  pub record HasDone (bound : ℕ) (does : List Row → List Row × Reply) (answer : Reply) (rows next : List Row)
      (before after : E) : Type 0 where
    pub rest : List Row
    pub evicted : HasEvicted bound rows rest before after
    pub stored : next ≡ (does rest).0
    pub reply : answer ≡ (does rest).1
