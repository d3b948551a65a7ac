-- Small worked cases on which the definitions are checked.
use Rattle.std.specs.Prelude.{ℕ, ◌==◌, cond, List, [], ◌∷◌, codes, replicate, None, Some}
use Rattle.regions.specs.declared.place.Place.{Place}
use Rattle.tree_nodes.specs.Nodes.{Entry, TreeNode, no_place}
use Rattle.index_tree.specs.Indexes.{Index, with_number}
use Rattle.regions.specs.Places.{link_to}
use Rattle.index_tree.specs.Links.{Nodes}
use Rattle.index_tree.specs.Trees.{TreeState}

-- an index into which b was put with the number 1, and then a with 2
abbrev pub put_b : Index
put_b = with_number (codes "b") 1 []

abbrev pub put_a : Index
put_a = with_number (codes "a") 2 put_b

-- a root with the key m, above a leaf with a and one with m
abbrev at_offset : ℕ → Place
at_offset at = record { segment = 0; at = at }

abbrev pub root_place : Place
root_place = at_offset 0

abbrev pub left_place : Place
left_place = at_offset 4392

abbrev pub right_place : Place
right_place = at_offset 8784

abbrev entry : List ℕ → ℕ → Entry
entry key number = record { key = key; number = number }

abbrev root_node : TreeNode
root_node = record {
  parent = no_place;
  level = 1;
  next_leaf = no_place;
  entries = entry (codes "m") 0 ∷ [];
  children = link_to (Some left_place) ∷ link_to (Some right_place) ∷ replicate 15 no_place;
}

abbrev left_node : TreeNode
left_node = record {
  parent = link_to (Some root_place);
  level = 0;
  next_leaf = link_to (Some right_place);
  entries = entry (codes "a") 1 ∷ [];
  children = replicate 17 no_place;
}

abbrev right_node : TreeNode
right_node = record {
  parent = link_to (Some root_place);
  level = 0;
  next_leaf = no_place;
  entries = entry (codes "m") 2 ∷ [];
  children = replicate 17 no_place;
}

abbrev pub two_leaves : Nodes
two_leaves p = cond (p.at == 0) (Some root_node) (cond (p.at == 4392) (Some left_node) (cond (p.at == 8784) (Some right_node) None))

abbrev pub two_leaves_tree : TreeState
two_leaves_tree = record { root = Some root_place; level = 1; spares = [] }
