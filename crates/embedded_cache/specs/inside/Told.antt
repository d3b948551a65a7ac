-- Rows that went, and whoever was told of them.
use Rattle.std.specs.Prelude.{◌≡◌, ℕ, List, length}
use Rattle.rows.specs.Key.{Key}
use Rattle.rows.specs.Row.{Row}
use Rattle.rows.specs.Apply.{Reply}
use Rattle.rows.specs.Evictions.{Evicts}
use Rattle.rows.specs.Told.{AreTold}
use Rattle.embedded_cache.specs.Puts.{Goes, Spares, told_in}

module _ {E : Type 0} (tells : E → ℕ → E → Type 0) where
  -- one may have gone for a place in the tables
  pub record HasSpared (room : ℕ) (key : Key) (rows kept : List Row) (before after : E) : Type 0 where
    pub tags : List ℕ
    pub spares : Spares room key rows tags kept
    pub told : AreTold tells before tags after

  -- each went while more bytes were live than the bound
  pub record HasShed (bound : ℕ) (rows rest : List Row) (before after : E) : Type 0 where
    pub tags : List ℕ
    pub evicts : Evicts bound rows tags rest
    pub told : AreTold tells before tags after

  -- behind both of it this was done on the rest, with the answer that it has there
  pub record HasPut (room bound : ℕ) (key : Key) (does : List Row → List Row × Reply) (answer : Reply) (rows next : List Row) (before after : E) : Type 0 where
    pub tags : List ℕ
    pub rest : List Row
    pub goes : Goes room bound key rows tags rest
    pub told : AreTold tells before tags after
    pub done : next ≡ (does rest).0
    pub reply : answer ≡ (does rest).1

-- the same, where the tags were written into places of the caller's, and counted
pub record WritesPut (room bound : ℕ) (key : Key) (does : List Row → List Row × Reply) (answer : Reply) (count : ℕ) (rows next : List Row)
    (places written : List ℕ) : Type 0 where
  pub tags : List ℕ
  pub rest : List Row
  pub goes : Goes room bound key rows tags rest
  pub told : written ≡ told_in tags places
  pub count_is : count ≡ length tags
  pub done : next ≡ (does rest).0
  pub reply : answer ≡ (does rest).1
