-- A region of one object, which goes by the number 0.
use Rattle.std.specs.Prelude.{◌≡◌, ℕ, zero, suc, Option, None, Some}
use Rattle.regions.specs.Contents.{Item}
use Rattle.regions.specs.Stores.{Live}
use Rattle.regions.specs.declared.place.Place.{Place}

-- where the object of a number stands
abbrev pub place_named : Place → ℕ → Option Place
place_named place zero = Some place
place_named place (suc n) = None

-- an object is live at the place, and no other one is live
pub record IsOnly (place : Place) (live : Live) : Type 0 where
  pub item : Item
  pub is : live place ≡ Some item
  pub only : (p : Place) (i : Item) → live p ≡ Some i → p ≡ place
