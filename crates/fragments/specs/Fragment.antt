-- A fragment in the content of an object: what a person with a hex dump would read.
use Rattle.std.specs.Prelude.{◌≡◌, ℕ, ◌+◌, ◌-◌, ◌^◌, ◌<◌, ◌≤◌, List, [], ◌++◌, length, take, drop, replicate, Some}
use Rattle.byteorder.specs.Endian.{little_number, little_bytes}
use Rattle.layout.specs.Sizes.{descriptor}
pub use Rattle.layout.specs.Kinds.{fragment_kind}
use Rattle.regions.specs.Contents.{Item}
use Rattle.regions.specs.declared.place.Place.{Place}
use Rattle.regions.specs.Places.{leads_to}
use Rattle.fragments.specs.Sizes.{header, places_size, fragment_bytes, object_size}

-- Behind the two links: the name and the length in four bytes each, the bytes, and zero bytes up to the size. The lowest byte
-- of a number stands first.
abbrev pub body : ℕ → List ℕ → List ℕ
body name bytes =
    little_bytes 4 name ++ little_bytes 4 (length bytes) ++ bytes ++ replicate (object_size (length bytes) - (descriptor + header + length bytes)) 0

-- The content of an object that holds a fragment: the links to the previous and to the next one in eight bytes each, and the body.
abbrev pub fragment : ℕ → ℕ → ℕ → List ℕ → List ℕ
fragment back next name bytes = little_bytes 8 back ++ little_bytes 8 next ++ body name bytes

-- what a header and bytes behind it fill of an object of the fragment's size, and zero bytes behind them
abbrev pub filled : List ℕ → List ℕ → List ℕ
filled head bytes = (head ++ bytes) ++ replicate (object_size (length bytes) - descriptor - length (head ++ bytes)) 0

-- what such a content says, field by field
abbrev pub back_in : List ℕ → ℕ
back_in content = little_number 8 content

abbrev pub next_in : List ℕ → ℕ
next_in content = little_number 8 (drop 8 content)

abbrev pub name_in : List ℕ → ℕ
name_in content = little_number 4 (drop 16 content)

abbrev pub length_in : List ℕ → ℕ
length_in content = little_number 4 (drop 20 content)

abbrev pub bytes_in : List ℕ → List ℕ
bytes_in content = take (length_in content) (drop header content)

-- what is behind the links
abbrev pub body_in : List ℕ → List ℕ
body_in content = drop places_size content

-- the content has room for links
abbrev pub HasLinks : List ℕ → Type 0
HasLinks content = places_size ≤ length content

-- behind the links stands this fragment
pub record HoldsFragment (content : List ℕ) (name : ℕ) (bytes : List ℕ) : Type 0 where
  pub name_fits : name < 2 ^ 32
  pub short : length bytes ≤ fragment_bytes
  pub body : body_in content ≡ body name bytes

abbrev pub IsFragment : List ℕ → Type 0
IsFragment content = (name : ℕ) × (bytes : List ℕ) × HoldsFragment content name bytes

-- a fragment without its links, which are its reference fields
abbrev pub bare : Item → Item
bare item = record { group = item.group; kind = item.kind; content = body_in item.content }

abbrev pub references : Item → List Place
references item = leads_to (back_in item.content) (leads_to (next_in item.content) [])

-- a fragment of a name without its links
abbrev pub bare_fragment : ℕ → List ℕ → Item
bare_fragment name bytes = record { group = Some 0; kind = fragment_kind; content = body name bytes }
