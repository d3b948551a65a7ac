-- How many nodes segments surely hold, and how many keys an index of so many segments takes.
use Rattle.std.specs.Prelude.{ℕ, ◌+◌, ◌-◌, ◌*◌, ◌/◌}
use Rattle.layout.specs.Sizes.{descriptor}
use Rattle.segmented_store.specs.Room.{room}
use Rattle.tree_nodes.specs.Order.{node_size}

-- the bytes of an object that holds a node, its descriptor included
abbrev pub node_object : ℕ
node_object = node_size + descriptor

-- the nodes that so many segments surely hold
abbrev pub node_room : ℕ → ℕ
node_room segments = room segments / node_object

-- the most keys. Of K keys a tree has at most 9K/64 + 1 nodes, so that eight more always fit below this.
abbrev pub most : ℕ → ℕ
most segments = (node_room segments - 9) * 7
