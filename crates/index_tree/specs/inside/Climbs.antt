-- Where a node stands in a tree, and which leaf is in front of another.
use Rattle.std.specs.Prelude.{◌≡◌, ℕ, List, [], ◌∷◌, ◌++◌, All, Option, None, Some, IsSome, slice_get}
use Rattle.regions.specs.Stores.{Live}
use Rattle.regions.specs.declared.place.Place.{Place}
use Rattle.tree_nodes.specs.Nodes.{TreeNode, child_at, no_place}
use Rattle.regions.specs.Places.{link_to}
use Rattle.index_tree.specs.Links.{Nodes}
use Rattle.index_tree.specs.Store.{HoldsNode, nodes_of}
use Rattle.index_tree.specs.Trees.{AreLinked, IsRooted, IsSpare, IsSubtree, TreeState, leaves_below, next_at, nodes_below, places_of}

-- the fields of what stands at a place
abbrev pub parent_in : Option TreeNode → ℕ
parent_in None = no_place
parent_in (Some node) = node.parent

abbrev pub child_in : Option TreeNode → ℕ → ℕ
child_in None i = no_place
child_in (Some node) i = child_at node i

-- a subtree of a level stands at the place, whatever its bounds
pub record HasSubtree (nodes : Nodes) (level : ℕ) (parent : Option Place) (p : Place) : Type 0 where
  pub low : Option (List ℕ)
  pub high : Option (List ℕ)
  pub tree : IsSubtree nodes level parent low high p

-- the tree is among the nodes, of which there may be more
pub record IsTreeIn (nodes : Nodes) (t : TreeState) : Type 0 where
  pub rooted : IsRooted nodes t
  pub linked : AreLinked nodes (leaves_below nodes t.level t.root)
  pub idle : All (IsSpare nodes) t.spares
  pub apart : (i j : ℕ) (p : Place) → slice_get (places_of nodes t) i ≡ Some p → slice_get (places_of nodes t) j ≡ Some p → i ≡ j

-- of the nodes at these places just the one has the place of this leaf as its next one, or none has it
pub record IsBefore (nodes : Nodes) (places : List Place) (leaf : Place) (before : Option Place) : Type 0 where
  pub there : (p : Place) → before ≡ Some p → next_at nodes p ≡ link_to (Some leaf)
  pub only : (p : Place) (i : ℕ) → slice_get places i ≡ Some p → next_at nodes p ≡ link_to (Some leaf) → before ≡ Some p

-- the leaf is the last one below a place
abbrev pub IsLast : Nodes → ℕ → Place → Place → Type 0
IsLast nodes level p leaf = (front : List Place) × (leaves_below nodes level (Some p) ≡ front ++ leaf ∷ [])

-- all live objects are nodes
abbrev pub HoldNodes : Live → Type 0
HoldNodes live = (p : Place) → IsSome (live p) → HoldsNode live p

-- a node of a level stands at the place, which is below the root of the tree
pub record StandsIn (live : Live) (t : TreeState) (level : ℕ) (p : Place) : Type 0 where
  pub holds : HoldNodes live
  pub tree : IsTreeIn (nodes_of live) t
  pub among : (i : ℕ) × (slice_get (nodes_below (nodes_of live) t.level t.root) i ≡ Some p)
  pub above : Option Place
  pub sub : HasSubtree (nodes_of live) level above p

-- the leaf in front of the first one below a place
abbrev pub IsInFrontOf : Nodes → TreeState → ℕ → Place → Option Place → Type 0
IsInFrontOf nodes t level p before =
    (leaf : Place) (rest : List Place) → leaves_below nodes level (Some p) ≡ leaf ∷ rest → IsBefore nodes (places_of nodes t) leaf before
