-- Nodes mended where they stand.
use Rattle.std.specs.Prelude.{◌≡◌, ◌≢◌, ℕ, ◌<◌, ◌≤◌, ◌⊎◌, Bool, length, option_map, Some}
use Rattle.regions.specs.Segments.{RegionState}
use Rattle.regions.specs.Contents.{live_at}
use Rattle.regions.specs.Stores.{Live, SameBut}
use Rattle.regions.specs.declared.place.Place.{Place}
use Rattle.tree_nodes.specs.Nodes.{TreeNode, child_at}
use Rattle.regions.specs.Places.{HasRoom, link_to}
use Rattle.index_tree.specs.Links.{Nodes, with_parent}
use Rattle.index_tree.specs.Pairs.{AreMendedIf}
use Rattle.index_tree.specs.Store.{HoldsNode, nodes_of}
use Rattle.index_tree.specs.Writes.{blank}

-- Two nodes side by side at places, and their parent: one has 7 entries, and the other no fewer.
pub record AreUneven (nodes : Nodes) (j : ℕ) (at left right : Place) : Type 0 where
  pub parent_node : TreeNode
  pub left_node : TreeNode
  pub right_node : TreeNode
  pub parent_is : nodes at ≡ Some parent_node
  pub left_is : nodes left ≡ Some left_node
  pub right_is : nodes right ≡ Some right_node
  pub within : j < length parent_node.entries
  pub one : (length left_node.entries ≡ 7) ⊎ (length right_node.entries ≡ 7)
  pub some_left : 7 ≤ length left_node.entries
  pub some_right : 7 ≤ length right_node.entries

-- They are mended: what they were, and what they are.
pub record IsMendedAt (above joined : Bool) (j : ℕ) (at left right : Place) (old new : Nodes) : Type 0 where
  pub parent_node : TreeNode
  pub left_node : TreeNode
  pub right_node : TreeNode
  pub new_parent : TreeNode
  pub new_left : TreeNode
  pub new_right : TreeNode
  pub parent_was : old at ≡ Some parent_node
  pub left_was : old left ≡ Some left_node
  pub right_was : old right ≡ Some right_node
  pub parent_is : new at ≡ Some new_parent
  pub left_is : new left ≡ Some new_left
  pub right_is : new right ≡ Some new_right
  pub mended : AreMendedIf above joined j parent_node left_node right_node new_parent new_left new_right

-- These nodes are nodes still, and every other object is as it was.
pub record OnlyThree (at left right : Place) (old new : RegionState) : Type 0 where
  pub at_holds : HoldsNode (live_at new) at
  pub left_holds : HoldsNode (live_at new) left
  pub right_holds : HoldsNode (live_at new) right
  pub others : (r : Place) → r ≢ at → r ≢ left → r ≢ right → live_at new r ≡ live_at old r
  pub same : SameBut blank old new

-- The node at a place has children, which are nodes at other places.
pub record HasKids (live : Live) (at : Place) (node : TreeNode) : Type 0 where
  pub is : nodes_of live at ≡ Some node
  pub room : HasRoom at
  pub few : length node.entries ≤ 16
  pub kids : (i : ℕ) → i ≤ length node.entries → (q : Place) × (child_at node i ≡ link_to (Some q)) × HasRoom q × HoldsNode live q × (q ≢ at)

-- Each child of the node at a place has it as parent now, and every other object is as it was.
pub record AdoptsAll (at : Place) (node : TreeNode) (old new : RegionState) : Type 0 where
  pub adopted : (i : ℕ) (q : Place) → i ≤ length node.entries → HasRoom q → child_at node i ≡ link_to (Some q)
      → nodes_of (live_at new) q ≡ option_map (with_parent (link_to (Some at))) (nodes_of (live_at old) q)
  pub others : (r : Place) → ((i : ℕ) (q : Place) → i ≤ length node.entries → HasRoom q → child_at node i ≡ link_to (Some q) → r ≢ q)
      → live_at new r ≡ live_at old r
  pub holds : (r : Place) → HoldsNode (live_at old) r → HoldsNode (live_at new) r
  pub same : SameBut blank old new
