-- The way along the fragments of a value.
use Rattle.std.specs.Prelude.{◌≡◌, ℕ, List, [], ◌∷◌, length, Option, None, Some}
use Rattle.std.specs.List.{concat}
use Rattle.regions.specs.Stores.{Live}
use Rattle.regions.specs.declared.place.Place.{Place}
use Rattle.fragments.specs.Sizes.{most_fragments}
use Rattle.fragments.specs.Store.{follow, next_at, pieces_from}
use Rattle.fragments.specs.inside.Linking.{HoldsAFragment}

-- these are the places of fragments that are followed, up to the last one
abbrev pub IsPath : Live → Option Place → List Place → Type 0
IsPath live from [] = from ≡ None
IsPath live from (p ∷ ps) = (from ≡ Some p) × HoldsAFragment (live p) × IsPath live (next_at live p) ps

-- from there on are at most as many fragments as a value has, and so many bytes
pub record Leads (live : Live) (from : Option Place) (left : ℕ) : Type 0 where
  pub path : IsPath live from (follow most_fragments live from)
  pub left_is : left ≡ length (concat (pieces_from live from))
