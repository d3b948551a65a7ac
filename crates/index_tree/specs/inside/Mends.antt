-- What is mended of the nodes when one is moved, field by field.
use Rattle.std.specs.Prelude.{◌≡◌, ◌≢◌, ℕ, ◌≤◌, length, map, Option, Some, IsSome, option_map}
use Rattle.regions.specs.Segments.{RegionState}
use Rattle.regions.specs.Contents.{live_at}
use Rattle.regions.specs.Stores.{SameBut}
use Rattle.regions.specs.declared.place.Place.{Place}
use Rattle.tree_nodes.specs.Nodes.{TreeNode, child_at}
use Rattle.regions.specs.Places.{led_to, link_to}
use Rattle.index_tree.specs.Links.{Nodes, bare}
use Rattle.index_tree.specs.Moves.{relinked}
use Rattle.index_tree.specs.Store.{nodes_of}
use Rattle.index_tree.specs.Trees.{entries_of, next_at}
use Rattle.index_tree.specs.inside.Climbs.{HoldNodes, child_in, parent_in}

abbrev pub mended_parent : Place → Place → TreeNode → TreeNode
mended_parent from to node = record node { parent = relinked from to node.parent }

abbrev pub mended_next : Place → Place → TreeNode → TreeNode
mended_next from to node = record node { next_leaf = relinked from to node.next_leaf }

abbrev pub mended_children : Place → Place → TreeNode → TreeNode
mended_children from to node = record node { children = map (relinked from to) node.children }

-- every node is changed so, and nothing but places is another
pub record Mends (change : TreeNode → TreeNode) (old new : RegionState) : Type 0 where
  pub nodes : (p : Place) → nodes_of (live_at new) p ≡ option_map change (nodes_of (live_at old) p)
  pub holds : HoldNodes (live_at old) → HoldNodes (live_at new)
  pub same : SameBut bare old new

-- the node at a place, if there is one, is changed so, and nothing else
pub record ChangesIf (at : Option Place) (change : TreeNode → TreeNode) (old new : RegionState) : Type 0 where
  pub here : (p : Place) → at ≡ Some p → nodes_of (live_at new) p ≡ option_map change (nodes_of (live_at old) p)
  pub others : (p : Place) → at ≢ Some p → nodes_of (live_at new) p ≡ nodes_of (live_at old) p
  pub holds : HoldNodes (live_at old) → HoldNodes (live_at new)
  pub same : SameBut bare old new

-- those that have the place as their parent are the children of the node there
pub record AreItsChildren (nodes : Nodes) (p : Place) : Type 0 where
  pub stands : (i : ℕ) (q : Place) → led_to (child_in (nodes p) i) ≡ Some q → IsSome (nodes q)
  pub back : (i : ℕ) (q : Place) → led_to (child_in (nodes p) i) ≡ Some q → parent_in (nodes q) ≡ link_to (Some p)
  pub only : (q : Place) → parent_in (nodes q) ≡ link_to (Some p)
      → (i : ℕ) × (i ≤ length (entries_of (nodes p))) × (led_to (child_in (nodes p) i) ≡ Some q)

-- just this node, or none, has the place as its next leaf
pub record IsItsFront (nodes : Nodes) (p : Place) (front : Option Place) : Type 0 where
  pub stands : (q : Place) → front ≡ Some q → IsSome (nodes q)
  pub there : (q : Place) → front ≡ Some q → next_at nodes q ≡ link_to (Some p)
  pub only : (q : Place) → next_at nodes q ≡ link_to (Some p) → front ≡ Some q

-- just this node, or none, has the place as a child, and no node has it twice
pub record IsItsParent (nodes : Nodes) (p : Place) (parent : Option Place) : Type 0 where
  pub there : (q : Place) → parent ≡ Some q
      → (node : TreeNode) × (nodes q ≡ Some node) × (i : ℕ) × (i ≤ length node.entries) × (child_at node i ≡ link_to (Some p))
  pub only : (q : Place) (i : ℕ) → child_in (nodes q) i ≡ link_to (Some p) → parent ≡ Some q
  pub once : (q : Place) (i j : ℕ) → child_in (nodes q) i ≡ link_to (Some p) → child_in (nodes q) j ≡ link_to (Some p) → i ≡ j
