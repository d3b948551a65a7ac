-- How the rows of a cache are linked: each to the row that was used next after it, and to the one that was used next before it.
use Rattle.std.specs.Prelude.{◌≡◌, ◌≢◌, ⊤, ℕ, zero, suc, List, [], ◌∷◌, Option, None, Some}
use Rattle.row_bytes.specs.Rows.{newer_in, older_in, without_links}
use Rattle.regions.specs.Contents.{Item}
use Rattle.regions.specs.Stores.{Live}
use Rattle.regions.specs.declared.place.Place.{Place}
use Rattle.regions.specs.Places.{HasRoom, led_to, link_to}

-- a row without its links
abbrev pub bare : Item → Item
bare item = record item { content = without_links item.content }

-- the content of the live object at a place, and no byte where there is none
abbrev pub content_of : Option Item → List ℕ
content_of None = []
content_of (Some item) = item.content

-- the links of the row at a place
abbrev pub newer_at : Live → Place → ℕ
newer_at live p = newer_in (content_of (live p))

abbrev pub older_at : Live → Place → ℕ
older_at live p = older_in (content_of (live p))

-- the places of at most so many rows, from one on, by the links to the next less recently used row
abbrev pub follow : ℕ → Live → Option Place → List Place
follow zero live from = []
follow (suc n) live None = []
follow (suc n) live (Some p) = p ∷ follow n live (led_to (older_at live p))

-- the first place of a list, and another one where it is empty
abbrev pub first_or : Option Place → List Place → Option Place
first_or other [] = other
first_or other (p ∷ ps) = Some p

-- The rows at the places stand between two others. Each has the one before it as its link to the next more recently used
-- row, and the one behind it as the other link.
abbrev pub AreLinked : Live → Option Place → List Place → Option Place → Type 0
AreLinked live before [] behind = ⊤
AreLinked live before (p ∷ ps) behind =
    (newer_at live p ≡ link_to before) × (older_at live p ≡ link_to (first_or behind ps)) × AreLinked live (Some p) ps behind

-- the list does not have the place
abbrev pub Lacks : Place → List Place → Type 0
Lacks p [] = ⊤
Lacks p (q ∷ qs) = (q ≢ p) × Lacks p qs

-- no place is there twice
abbrev pub AreApart : List Place → Type 0
AreApart [] = ⊤
AreApart (p ∷ ps) = Lacks p ps × AreApart ps

abbrev pub HaveRoom : List Place → Type 0
HaveRoom [] = ⊤
HaveRoom (p ∷ ps) = HasRoom p × HaveRoom ps
