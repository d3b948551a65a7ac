-- What the removal of a key makes of a subtree, and what mends a node that has too few entries then.
use Rattle.std.specs.Prelude.{◌≡◌, ◌≢◌, ℕ, zero, suc, ◌+◌, ◌≤◌, List, [], ◌∷◌, All, length, take, drop, map, Option, None, Some}
use mathlib.Core.List.{Sublist}
use Rattle.regions.specs.declared.place.Place.{Place}
use Rattle.tree_nodes.specs.Nodes.{TreeNode, CanStand, child_at, no_place, started}
use Rattle.tree_nodes.specs.Order.{AreRising}
use Rattle.index_tree.specs.Indexes.{Index, without}
use Rattle.index_tree.specs.Inserts.{AreChained, Branch, Row, entry_of, first_link, of_row, times}
use Rattle.regions.specs.Places.{HasRoom, link_to}
use Rattle.index_tree.specs.Links.{Nodes}
use Rattle.index_tree.specs.Trees.{IsFrom, IsSubtree, IsUpTo, entries_of, held_below, leaves_below, left_of, nodes_below, right_of, row_below}
use Rattle.index_tree.specs.Ways.{LeadsTo}

-- a node of a level, between two keys, that may have fewer entries than it should
pub record IsLooseNode (level : ℕ) (parent : Option Place) (low high : Option (List ℕ)) (node : TreeNode) : Type 0 where
  pub level_is : node.level ≡ level
  pub parent_is : node.parent ≡ link_to parent
  pub stands : CanStand node
  pub rising : AreRising node.entries
  pub from : All (IsFrom low) node.entries
  pub up_to : All (IsUpTo high) node.entries

-- an inner one
pub record IsLooseInner (node : TreeNode) : Type 0 where
  pub numbers : All (λ e. e.number ≡ 0) node.entries
  pub next : node.next_leaf ≡ no_place
  pub others : All (λ link. link ≡ no_place) (drop (suc (length node.entries)) node.children)

-- such a node, whose children are trees
pub record IsInnerTrunk (nodes : Nodes) (level : ℕ) (parent : Option Place) (low high : Option (List ℕ)) (p : Place) : Type 0 where
  pub node : TreeNode
  pub is : nodes p ≡ Some node
  pub room : HasRoom p
  pub of : IsLooseNode (suc level) parent low high node
  pub inner : IsLooseInner node
  pub first : Place
  pub branches : List Branch
  pub entries : node.entries ≡ map entry_of branches
  pub links : take (suc (length node.entries)) node.children ≡ link_to (Some first) ∷ map (λ (b : Branch). link_to (Some b.place)) branches
  pub row : Row nodes level (Some p) low first branches high

-- The nodes from a place down are a tree of a level, but that the one at the place may have fewer entries than it should.
abbrev pub IsTrunk : Nodes → ℕ → Option Place → Option (List ℕ) → Option (List ℕ) → Place → Type 0
IsTrunk nodes zero parent low high p =
    (node : TreeNode) × (nodes p ≡ Some node) × HasRoom p × IsLooseNode zero parent low high node × All (λ link. link ≡ no_place) node.children
IsTrunk nodes (suc level) parent low high p = IsInnerTrunk nodes level parent low high p

-- One row of places became another: it holds what a change makes of what was held, its leaves are in order as they were, its
-- nodes are those that were there but for the freed ones, and those of a level were of that level and in that order.
pub record Alters (change : Index → Index) (nodes new : Nodes) (level : ℕ) (first : Place) (bs cs : List Branch) (freed : List Place) : Type 0 where
  pub held : of_row (held_below new level) first cs ≡ change (of_row (held_below nodes level) first bs)
  pub first_leaf : (end : ℕ) → first_link (of_row (leaves_below new level) first cs) end ≡ first_link (of_row (leaves_below nodes level) first bs) end
  pub chained : (end : ℕ) → AreChained nodes (of_row (leaves_below nodes level) first bs) end → AreChained new (of_row (leaves_below new level) first cs) end
  pub places : (r : Place) → times r (of_row (nodes_below new level) first cs) + times r freed ≡ times r (of_row (nodes_below nodes level) first bs)
  pub rows : (k : ℕ) → Sublist (of_row (row_below new k level) first cs) (of_row (row_below nodes k level) first bs)

-- A subtree lost a key: it may have one entry too few at its root. The freed nodes are such as were just made, and no node
-- changed but those of the subtree.
pub record Loses (nodes new : Nodes) (level : ℕ) (parent : Option Place) (low high : Option (List ℕ)) (p : Place) (key : List ℕ) (freed : List Place) : Type 0 where
  pub trunk : IsTrunk new level parent low high p
  pub many : parent ≢ None → 7 ≤ length (entries_of (new p))
  pub alters : Alters (without key) nodes new level p [] [] freed
  pub idle : All (λ q. new q ≡ Some (started 0)) freed
  pub others : (r : Place) → times r (nodes_below nodes level (Some p)) ≡ 0 → new r ≡ nodes r

-- A key was taken from a child of an inner node, to which it leads, and the child has an entry too few now.
pub record IsShort (nodes new : Nodes) (level : ℕ) (parent : Option Place) (low high : Option (List ℕ)) (p : Place) (i : ℕ) (key : List ℕ) (freed : List Place) : Type 0 where
  pub tree : IsSubtree nodes (suc level) parent low high p
  pub node : TreeNode
  pub is : nodes p ≡ Some node
  pub leads : LeadsTo node key i
  pub from : IsFrom low (record { key = key; number = 0 })
  pub up : IsUpTo high (record { key = key; number = 0 })
  pub once : (r : Place) → times r (nodes_below nodes (suc level) (Some p)) ≤ 1
  pub child : Place
  pub link : child_at node i ≡ link_to (Some child)
  pub room : HasRoom child
  pub loses : Loses nodes new level (Some p) (left_of node low i) (right_of node high i) child key freed
  pub seven : length (entries_of (new child)) ≡ 7

-- A key can be taken away below a place, if it is there: a subtree stands there, between two bounds that the key is between, and no
-- node of it is there twice.
pub record CanLose (nodes : Nodes) (level : ℕ) (p : Place) (key : List ℕ) : Type 0 where
  pub parent : Option Place
  pub low : Option (List ℕ)
  pub high : Option (List ℕ)
  pub tree : IsSubtree nodes level parent low high p
  pub from : IsFrom low (record { key = key; number = 0 })
  pub up : IsUpTo high (record { key = key; number = 0 })
  pub once : (r : Place) → times r (nodes_below nodes level (Some p)) ≤ 1
