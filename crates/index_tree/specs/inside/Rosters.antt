-- What the root, the spare nodes and the list of all nodes have to do with what lives in the segments.
use Rattle.std.specs.Prelude.{◌≡◌, ℕ, List, [], ◌∷◌, ◌++◌, length, map, take, Option, Some, IsSome, slice_get, Bool, is_some}
use Rattle.regions.specs.Contents.{Item}
use Rattle.regions.specs.Stores.{Live, renamed}
use Rattle.regions.specs.declared.place.Place.{Place}
use Rattle.tree_nodes.specs.Nodes.{TreeNode, IsNode, node_in, started}
use Rattle.index_tree.specs.Indexes.{Index}
use Rattle.index_tree.specs.Links.{Nodes}
use Rattle.index_tree.specs.Moves.{moved_tree}
use Rattle.layout.specs.Kinds.{node_kind}
use Rattle.index_tree.specs.Store.{nodes_of}
use Rattle.index_tree.specs.Trees.{IsTree, TreeState, held_below, index_of}
use Rattle.index_tree.specs.inside.Climbs.{HoldNodes}
use Rattle.index_tree.specs.inside.Listings.{Listing, less_place}

-- the tree, and what only contracts know of it
pub record RosterState : Type 0 where
  pub tree : TreeState
  pub known : Listing

-- each node stands at one place of the list, and no other place is there
pub record AreListed (nodes : Nodes) (places : List Place) : Type 0 where
  pub every : (p : Place) (node : TreeNode) → nodes p ≡ Some node → (n : ℕ) × (slice_get places n ≡ Some p)
  pub stands : (n : ℕ) (p : Place) → slice_get places n ≡ Some p → IsSome (nodes p)
  pub apart : (m n : ℕ) (p : Place) → slice_get places m ≡ Some p → slice_get places n ≡ Some p → m ≡ n

-- The live objects are nodes, of one kind and in one group; they are the tree and hold the index; and each is listed.
pub record IsRosterOf (r : RosterState) (live : Live) : Type 0 where
  pub holds : HoldNodes live
  pub kinds : (p : Place) (item : Item) → live p ≡ Some item → (item.group ≡ Some 0) × (item.kind ≡ node_kind)
  pub tree : IsTree (nodes_of live) r.tree
  pub index : index_of (nodes_of live) r.tree ≡ r.known.index
  pub listed : AreListed (nodes_of live) r.known.places

-- a node's name in the unmoved store is its number in the list
abbrev pub place_of : RosterState → ℕ → Option Place
place_of r n = slice_get r.known.places n

-- what no move changes: whether there is a root, its level, how many nodes there are, how many of them are spare, and the index
pub record Shape : Type 0 where
  pub rooted : Bool
  pub level : ℕ
  pub nodes : ℕ
  pub spares : ℕ
  pub index : Index

abbrev pub shape_of : RosterState → Shape
shape_of r = record {
  rooted = is_some r.tree.root;
  level = r.tree.level;
  nodes = length r.known.places;
  spares = length r.tree.spares;
  index = r.known.index;
}

-- all that is kept of a node's place, once another place stands for one
abbrev pub moved_roster : Place → Place → RosterState → RosterState
moved_roster from to r = record {
  tree = moved_tree from to r.tree;
  known = record r.known { places = map (renamed from to) r.known.places };
}

-- a spare node more, behind the others
abbrev pub with_spare : Place → RosterState → RosterState
with_spare p r = record {
  tree = record r.tree { spares = r.tree.spares ++ p ∷ [] };
  known = record r.known { places = r.known.places ++ p ∷ [] };
}

-- the same tree where one more node is spare, which was none of the tree's
abbrev pub with_freed : Place → RosterState → RosterState
with_freed p r = record r { tree = record r.tree { spares = r.tree.spares ++ p ∷ [] } }

-- each live object is what it was
abbrev pub Remain : Live → Live → Type 0
Remain old new = (p : Place) → IsSome (new p) → new p ≡ old p

-- the same root and level, and the same index
pub record IsSameTree (old new : RosterState) : Type 0 where
  pub root : new.tree.root ≡ old.tree.root
  pub level : new.tree.level ≡ old.tree.level
  pub index : new.known.index ≡ old.known.index

-- it is listed no more
abbrev pub unlisted : Place → RosterState → RosterState
unlisted p r = record r { known = record r.known { places = less_place p r.known.places } }

-- another root, and fewer spare nodes: the tree holds what its nodes hold
abbrev pub settled : Nodes → Option Place → ℕ → ℕ → RosterState → RosterState
settled nodes root level spares r = record {
  tree = record { root = root; level = level; spares = take spares r.tree.spares };
  known = record r.known { index = held_below nodes level root };
}

-- another root, and more spare nodes: the tree holds what its nodes hold
abbrev pub released : Nodes → Option Place → ℕ → List Place → RosterState → RosterState
released nodes root level freed r = record {
  tree = record { root = root; level = level; spares = r.tree.spares ++ freed };
  known = record r.known { index = held_below nodes level root };
}

-- a new node is live at the place, with no key and no place
pub record IsPlaced (o : Option Item) : Type 0 where
  pub item : Item
  pub is : o ≡ Some item
  pub group : item.group ≡ Some 0
  pub kind : item.kind ≡ node_kind
  pub holds : IsNode item.content
  pub node : node_in item.content ≡ started 0
