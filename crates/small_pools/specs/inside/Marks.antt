-- Which spans may have no allocated object.
use Rattle.std.specs.Prelude.{◌≡◌, ℕ, Bool, false, List, length}
use Rattle.number_set.specs.Numbers.{has}
use Rattle.small_pools.specs.Objects.{Objects, IsHeld, HasObject, AreObjects}

-- each span whose first page is not in the set has an allocated object; the objects and the spans are disjoint
pub record AreMarked (s : Objects) (marks : List Bool) : Type 0 where
  pub pages : length marks ≡ s.pages
  pub others : (first class : ℕ) → IsHeld s first class → has marks first ≡ false → HasObject s first class
  pub objects : AreObjects s
