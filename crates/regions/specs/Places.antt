-- A place as a number of eight bytes, which is how an object has the place of another one in its content.
use Rattle.std.specs.Prelude.{ℕ, ◌+◌, ◌*◌, ◌/◌, ◌%◌, ◌^◌, ◌<◌, ◌==◌, cond, List, ◌∷◌, Option, None, Some}
use Rattle.layout.specs.Sizes.{segment}
use Rattle.regions.specs.declared.place.Place.{Place}

-- the number that stands for no place
abbrev pub no_link : ℕ
no_link = 18446744073709551615

-- the number that a place is written as, and that of none
abbrev pub link_to : Option Place → ℕ
link_to None = no_link
link_to (Some p) = p.segment * 2 ^ 32 + p.at

-- the place to which a number leads
abbrev pub place_of_link : ℕ → Place
place_of_link link = record { segment = link / 2 ^ 32; at = link % 2 ^ 32 }

abbrev pub led_to : ℕ → Option Place
led_to link = cond (link == no_link) None (Some (place_of_link link))

-- a place to which a number can lead
abbrev pub HasRoom : Place → Type 0
HasRoom p = (p.segment < 2 ^ 32) × (p.at < segment)

-- the place to which a number leads, in front of others
abbrev pub leads_to : ℕ → List Place → List Place
leads_to link others = cond (link == no_link) others (place_of_link link ∷ others)
