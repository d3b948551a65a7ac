-- The chains of fragments: of each name, and of the value that is being written, which has an entry of its own behind them.
use Rattle.std.specs.Prelude.{◌≡◌, ℕ, zero, suc, ◌/◌, ◌%◌, ◌<◌, ◌≤◌, nat_lt, cond, ◌==◌, List, [], ◌∷◌, length, take, drop, map, Option, None, Some, option_map, slice_get, slice_index_or}
use Rattle.regions.specs.Contents.{Item}
use Rattle.regions.specs.Stores.{Live, found}
use Rattle.regions.specs.declared.place.Place.{Place}
use Rattle.fragments.specs.Sizes.{fragment_bytes, most_fragments, count_of}
use Rattle.fragments.specs.Values.{Values, value_of}
use Rattle.regions.specs.Places.{HasRoom, link_to}
use Rattle.fragments.specs.Fragment.{IsFragment, back_in, bare, bare_fragment, name_in, next_in}

-- how many names there are, the name of the value that is being written, the place of the first fragment of each entry, and the
-- places of all of them, which only contracts know
pub record TableState : Type 0 where
  pub names : ℕ
  pub grows : ℕ
  pub firsts : List (Option Place)
  pub chains : List (List Place)

-- the fragments of an entry, the first in front
abbrev pub chain_at : List (List Place) → ℕ → List Place
chain_at chains e = slice_index_or chains e []

-- the fragment with a number in the chain of an entry, the one before it, and the first of an entry
abbrev pub place_at : List (List Place) → ℕ → ℕ → Option Place
place_at chains e i = slice_get (chain_at chains e) i

abbrev pub place_before : List (List Place) → ℕ → ℕ → Option Place
place_before chains e zero = None
place_before chains e (suc i) = place_at chains e i

abbrev pub first_at : List (Option Place) → ℕ → Option Place
first_at firsts e = slice_index_or firsts e None

-- the name of an entry's value
abbrev pub owner : TableState → ℕ → ℕ
owner t e = cond (nat_lt e t.names) e t.grows

-- a fragment of the name is live at the place, and its links lead to these two
pub record IsLinked (live : Live) (p : Place) (back next : Option Place) (name : ℕ) : Type 0 where
  pub item : Item
  pub is_live : live p ≡ Some item
  pub room : HasRoom p
  pub fragment : IsFragment item.content
  pub back_is : back_in item.content ≡ link_to back
  pub next_is : next_in item.content ≡ link_to next
  pub name_is : name_in item.content ≡ name

-- The live objects are chains: each first fragment is where its entry says, each fragment is linked to the one before it and to
-- the one behind it, no place is there twice, and every live object is in one chain.
pub record AreChains (t : TableState) (live : Live) : Type 0 where
  pub firsts : (e : ℕ) → first_at t.firsts e ≡ place_at t.chains e 0
  pub linked : (e i : ℕ) (p : Place) → place_at t.chains e i ≡ Some p → IsLinked live p (place_before t.chains e i) (place_at t.chains e (suc i)) (owner t e)
  pub owned : (e i : ℕ) (p : Place) → place_at t.chains e i ≡ Some p → owner t e < t.names
  pub apart : (e f i j : ℕ) (p : Place) → place_at t.chains e i ≡ Some p → place_at t.chains f j ≡ Some p → (e ≡ f) × (i ≡ j)
  pub every : (p : Place) (item : Item) → live p ≡ Some item → (e : ℕ) × (i : ℕ) × (place_at t.chains e i ≡ Some p)
  pub short : (e : ℕ) → length (chain_at t.chains e) ≤ most_fragments

-- the parts into which a value is cut, of which each but the last is as long as a fragment's bytes can be
abbrev pub cut : ℕ → List ℕ → List (List ℕ)
cut zero bytes = []
cut (suc n) bytes = take fragment_bytes bytes ∷ cut n (drop fragment_bytes bytes)

abbrev pub parts : List ℕ → List (List ℕ)
parts bytes = cut (count_of (length bytes)) bytes

abbrev pub parts_if : Option (List ℕ) → List (List ℕ)
parts_if None = []
parts_if (Some bytes) = parts bytes

-- what each entry has: the parts of a name's value, and those that are written so far of the value that is being written
abbrev pub Parts : Type 0
Parts = ℕ → List (List ℕ)

abbrev pub all_parts : Values → List (List ℕ) → Parts
all_parts values written e = cond (e == length values) written (parts_if (value_of values e))

-- each chain holds the parts of its entry, one in each fragment
abbrev pub HoldParts : TableState → Live → Parts → Type 0
HoldParts t live all = (e i : ℕ) → found bare live (place_at t.chains e i) ≡ option_map (bare_fragment (owner t e)) (slice_get (all e) i)

-- a fragment's name in the unmoved store is the number of its entry times that of the most fragments, and its own number
abbrev pub place_of : TableState → ℕ → Option Place
place_of t n = place_at t.chains (n / most_fragments) (n % most_fragments)

-- what no move changes: the names, and how many fragments each entry has
pub record TableShape : Type 0 where
  pub names : ℕ
  pub grows : ℕ
  pub lengths : List ℕ

abbrev pub shape_of : TableState → TableShape
shape_of t = record { names = t.names; grows = t.grows; lengths = map length t.chains }
