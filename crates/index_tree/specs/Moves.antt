-- What a move of one node makes of the nodes by place.
use Rattle.std.specs.Prelude.{ℕ, ◌==◌, cond, map, None, Some, option_map}
use Rattle.regions.specs.Stores.{is_place, renamed}
use Rattle.regions.specs.declared.place.Place.{Place}
use Rattle.tree_nodes.specs.Nodes.{TreeNode}
use Rattle.regions.specs.Places.{link_to}
use Rattle.index_tree.specs.Links.{Nodes}
use Rattle.index_tree.specs.Trees.{TreeState}

-- a number that led to one place leads to another
abbrev pub relinked : Place → Place → ℕ → ℕ
relinked from to link = cond (link == link_to (Some from)) (link_to (Some to)) link

-- a node, each of whose places that named one place names another
abbrev pub mended : Place → Place → TreeNode → TreeNode
mended from to node = record node {
  parent = relinked from to node.parent;
  next_leaf = relinked from to node.next_leaf;
  children = map (relinked from to) node.children;
}

-- The nodes once what stood at one place stands at another: the other has the node, the one has none, and each node names the
-- other place where it named the one.
abbrev pub moved : Place → Place → Nodes → Nodes
moved from to nodes p = cond (is_place from p) None (option_map (mended from to) (nodes (renamed to from p)))

-- the tree whose root, or spare node, stands at the other place, if it stood at the one
abbrev pub moved_tree : Place → Place → TreeState → TreeState
moved_tree from to t = record t { root = option_map (renamed from to) t.root; spares = map (renamed from to) t.spares }
