-- What an index in segments means, read off their bytes.
use Rattle.std.specs.Prelude.{◌≡◌, ◌≢◌, ℕ, suc, List, Option, None, Some, IsSome, option_map}
use mathlib.Core.List.{Sublist}
use Rattle.regions.specs.Segments.{RegionState}
use Rattle.regions.specs.Contents.{Item, live_at}
use Rattle.regions.specs.Stores.{Live, SameBut}
use Rattle.regions.specs.declared.place.Place.{Place}
use Rattle.tree_nodes.specs.Nodes.{TreeNode, IsNode, node_in}
use Rattle.index_tree.specs.Indexes.{Index}
use Rattle.index_tree.specs.Links.{Nodes, bare}
use Rattle.index_tree.specs.Trees.{IsTree, TreeState, index_of, row_below}

-- the live objects as nodes
abbrev pub nodes_of : Live → Nodes
nodes_of live p = option_map (λ (item : Item). node_in item.content) (live p)

-- a node is live at the place
abbrev pub HoldsNode : Live → Place → Type 0
HoldsNode live p = (item : Item) × (live p ≡ Some item) × IsNode item.content

-- an index: the tree, and the segments in which its nodes stand
pub record IndexState : Type 0 where
  pub tree : TreeState
  pub region : RegionState

abbrev pub nodes_in : IndexState → Nodes
nodes_in s = nodes_of (live_at s.region)

abbrev pub index_in : IndexState → Index
index_in s = index_of (nodes_in s) s.tree

-- how many levels a tree has
abbrev pub levels_if : Option Place → ℕ → ℕ
levels_if None level = 0
levels_if (Some root) level = suc level

abbrev pub levels : TreeState → ℕ
levels t = levels_if t.root t.level

-- every live object is a node, and they are the tree
pub record AreNodes (s : IndexState) : Type 0 where
  pub nodes : (p : Place) → IsSome (live_at s.region p) → HoldsNode (live_at s.region) p
  pub tree : IsTree (nodes_in s) s.tree

-- where the nodes of a level of the tree stand, from left to right
abbrev pub places_at : IndexState → ℕ → List Place
places_at s level = row_below (nodes_in s) level s.tree.level s.tree.root

-- Each live node stood where it stands; and those of a level of the tree were of that level, and in that order.
pub record Stay (old new : IndexState) : Type 0 where
  pub live : (p : Place) → IsSome (live_at new.region p) → IsSome (live_at old.region p)
  pub order : (level : ℕ) → Sublist (places_at new level) (places_at old level)

-- The node at a place is another one: what the change makes of it. It is the same but for its places, and so is every other.
pub record ChangesNode (at : Place) (change : TreeNode → TreeNode) (old new : RegionState) : Type 0 where
  pub here : nodes_of (live_at new) at ≡ option_map change (nodes_of (live_at old) at)
  pub holds : HoldsNode (live_at new) at
  pub others : (p : Place) → p ≢ at → live_at new p ≡ live_at old p
  pub same : SameBut bare old new
