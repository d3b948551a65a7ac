-- What only contracts know of the nodes of a tree.
use Rattle.std.specs.Prelude.{cond, List, [], ◌∷◌}
use Rattle.regions.specs.Stores.{is_place}
use Rattle.regions.specs.declared.place.Place.{Place}
use Rattle.index_tree.specs.Indexes.{Index}

-- where each node stands, in the order in which the nodes came, and the index that they hold
pub record Listing : Type 0 where
  pub places : List Place
  pub index : Index

-- the places but one
abbrev pub less_place : Place → List Place → List Place
less_place p [] = []
less_place p (x ∷ xs) = cond (is_place p x) (less_place p xs) (x ∷ less_place p xs)
