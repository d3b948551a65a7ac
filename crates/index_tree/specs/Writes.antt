-- Writes to one node that change more than its places.
use Rattle.std.specs.Prelude.{◌≡◌, ◌≢◌, ℕ, ◌+◌, [], ◌++◌, take, drop, insert, replicate, slice_set, option_map}
use Rattle.regions.specs.Segments.{RegionState}
use Rattle.regions.specs.Contents.{Item, live_at}
use Rattle.regions.specs.Stores.{SameBut}
use Rattle.regions.specs.declared.place.Place.{Place}
use Rattle.tree_nodes.specs.Nodes.{Entry, TreeNode, children_count, entry_at, no_place}
use Rattle.index_tree.specs.Store.{HoldsNode, nodes_of}

-- an item without its content
abbrev pub blank : Item → Item
blank item = record item { content = [] }

abbrev pub with_entry : ℕ → Entry → TreeNode → TreeNode
with_entry i entry node = record node { entries = insert node.entries i entry }

abbrev pub with_number_at : ℕ → ℕ → TreeNode → TreeNode
with_number_at i number node = record node { entries = slice_set node.entries i (record (entry_at node i) { number = number }) }

abbrev pub with_new_child : ℕ → ℕ → TreeNode → TreeNode
with_new_child i link node = record node { children = take children_count (insert node.children i link) }

-- so many entries, or children, taken away from one on
abbrev pub without_entries : ℕ → ℕ → TreeNode → TreeNode
without_entries i n node = record node { entries = take i node.entries ++ drop (i + n) node.entries }

abbrev pub without_children : ℕ → ℕ → TreeNode → TreeNode
without_children i n node = record node { children = take i node.children ++ (drop (i + n) node.children ++ replicate n no_place) }

-- The node at a place is another one: what the change makes of it. Every other object is as it was, and no object has another
-- group, kind or size.
pub record WritesNode (at : Place) (change : TreeNode → TreeNode) (old new : RegionState) : Type 0 where
  pub here : nodes_of (live_at new) at ≡ option_map change (nodes_of (live_at old) at)
  pub holds : HoldsNode (live_at new) at
  pub others : (p : Place) → p ≢ at → live_at new p ≡ live_at old p
  pub same : SameBut blank old new
