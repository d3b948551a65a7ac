-- The objects of the tests, which carry their own names.
use Rattle.std.specs.Prelude.{◌≡◌, ℕ, ◌≤◌, length, Option, Some}
use Rattle.byteorder.specs.Endian.{little_number}
use Rattle.regions.specs.Contents.{Item}
use Rattle.regions.specs.Stores.{Live}
use Rattle.regions.specs.declared.place.Place.{Place}

-- a name is the first eight bytes of a content
abbrev pub name_in : Item → ℕ
name_in i = little_number 8 i.content

-- an object of the name is live at the place
pub record Lives (live : Live) (p : Place) (n : ℕ) : Type 0 where
  pub item : Item
  pub is : live p ≡ Some item
  pub name : name_in item ≡ n
  pub long : 8 ≤ length item.content

-- under the name of each live object its place is found, and at each place that is found lives an object of the name
pub record AreNamed (place_of : ℕ → Option Place) (live : Live) : Type 0 where
  pub found : (p : Place) (i : Item) → live p ≡ Some i → place_of (name_in i) ≡ Some p
  pub lives : (n : ℕ) (p : Place) → place_of n ≡ Some p → Lives live p n
