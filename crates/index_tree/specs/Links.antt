-- The places of a node: its parent's, its next leaf's and its children's.
use Rattle.std.specs.Prelude.{ℕ, List, [], ◌∷◌, replicate, slice_set, Option}
use Rattle.regions.specs.Contents.{Item}
use Rattle.regions.specs.declared.place.Place.{Place}
use Rattle.regions.specs.Places.{leads_to}
use Rattle.tree_nodes.specs.Nodes.{TreeNode, children_count, no_place, node_bytes, node_in}

-- nodes by place
abbrev pub Nodes : Type 0
Nodes = Place → Option TreeNode

-- ---- the reference fields

abbrev pub with_parent : ℕ → TreeNode → TreeNode
with_parent link node = record node { parent = link }

abbrev pub with_next : ℕ → TreeNode → TreeNode
with_next link node = record node { next_leaf = link }

abbrev pub with_child : ℕ → ℕ → TreeNode → TreeNode
with_child i link node = record node { children = slice_set node.children i link }

-- a node without its places
abbrev pub bare_node : TreeNode → TreeNode
bare_node node = record node { parent = no_place; next_leaf = no_place; children = replicate children_count no_place }

-- a node's item without its places
abbrev pub bare : Item → Item
bare item = record item { content = node_bytes (bare_node (node_in item.content)) }

abbrev pub all_led_to : List ℕ → List Place
all_led_to [] = []
all_led_to (link ∷ links) = leads_to link (all_led_to links)

-- the places that a node has: its parent's, its next leaf's and its children's
abbrev pub references : Item → List Place
references item =
    leads_to (node_in item.content).parent (leads_to (node_in item.content).next_leaf (all_led_to (node_in item.content).children))
