-- The chain of the rows.
use Rattle.std.specs.Prelude.{◌≡◌, ◌≢◌, ⊤, ℕ, List, [], ◌∷◌, ◌++◌, Option, None, Some, map, slice_index_or}
use Rattle.std.specs.List.{last_or}
use Rattle.regions.specs.Stores.{Live}
use Rattle.regions.specs.declared.place.Place.{Place}
use Rattle.common_lemmas.specs.Lists.{delete}
use Rattle.regions.specs.Places.{HasRoom, link_to}
use Rattle.row_cache.specs.Links.{AreApart, AreLinked, HaveRoom, Lacks, first_or, newer_at, older_at}
use Rattle.row_cache.specs.declared.ends.Ends.{Ends}
use Rattle.row_cache.specs.inside.Tables.{HoldsARow, TableState}

-- at each of the places a row is live
abbrev pub HoldRows : Live → List Place → Type 0
HoldRows live [] = ⊤
HoldRows live (p ∷ ps) = HoldsARow (live p) × HoldRows live ps

-- The rows at the places, the one used last in front. The front and the last are those that the cache keeps; the links of
-- each row lead to the one before it and to the one behind it, the front has none before it, and the last none behind it.
pub record IsChain (live : Live) (ends : Ends) (places : List Place) : Type 0 where
  pub front : ends.front ≡ first_or None places
  pub last : ends.last ≡ last_or None places
  pub linked : AreLinked live None places None
  pub apart : AreApart places
  pub room : HaveRoom places
  pub rows : HoldRows live places

-- the places of rows, by their numbers
abbrev pub place_in : List Place → ℕ → Place
place_in places n = slice_index_or places n (record { segment = 0; at = 0 })

-- the chain has each row of the tables once, in the order of their use
abbrev pub IsLinked : TableState → Live → Type 0
IsLinked t live = IsChain live t.ends (map (place_in t.places) t.recency)

-- the same without the row of a number, and beside a row at a place
abbrev pub IsLinkedBut : ℕ → TableState → Live → Type 0
IsLinkedBut n t live = IsChain live t.ends (map (place_in t.places) (delete n t.recency))

abbrev pub IsLinkedBeside : Place → TableState → Live → Type 0
IsLinkedBeside p t live = IsLinked t live × HasRoom p × Lacks p (map (place_in t.places) t.recency)

-- the place is one of the chain, or not
abbrev pub IsAmong : Place → Live → Ends → Type 0
IsAmong p live ends = (xs : List Place) × (ys : List Place) × IsChain live ends (xs ++ p ∷ ys)

abbrev pub IsBeside : Place → Live → Ends → Type 0
IsBeside p live ends = (ps : List Place) × IsChain live ends ps × Lacks p ps

-- the two rows, of which each may be none, are linked to one another, and no other link is another
pub record JoinsLinks (a b : Option Place) (before after : Live) : Type 0 where
  pub older : (p : Place) → a ≡ Some p → older_at after p ≡ link_to b
  pub newer : (p : Place) → b ≡ Some p → newer_at after p ≡ link_to a
  pub older_others : (p : Place) → a ≢ Some p → older_at after p ≡ older_at before p
  pub newer_others : (p : Place) → b ≢ Some p → newer_at after p ≡ newer_at before p

-- the first leads to the second, and the second to the first
pub record LinksBehind (a b : Option Place) (before after : Live) : Type 0 where
  pub here : (p : Place) → a ≡ Some p → older_at after p ≡ link_to b
  pub others : (p : Place) → a ≢ Some p → older_at after p ≡ older_at before p
  pub newer : (p : Place) → newer_at after p ≡ newer_at before p

pub record LinksBefore (a b : Option Place) (before after : Live) : Type 0 where
  pub here : (p : Place) → b ≡ Some p → newer_at after p ≡ link_to a
  pub others : (p : Place) → b ≢ Some p → newer_at after p ≡ newer_at before p
  pub older : (p : Place) → older_at after p ≡ older_at before p

-- the row at a place has links to these two, of which each may be none, and no link of another row is another
pub record SetsLinks (p : Place) (a b : Option Place) (before after : Live) : Type 0 where
  pub newer : newer_at after p ≡ link_to a
  pub older : older_at after p ≡ link_to b
  pub newer_others : (q : Place) → q ≢ p → newer_at after q ≡ newer_at before q
  pub older_others : (q : Place) → q ≢ p → older_at after q ≡ older_at before q
