-- A node of a tree in the content of an object: what a person with a hex dump would read.
use Rattle.std.specs.Prelude.{◌≡◌, ℕ, zero, suc, ◌-◌, ◌*◌, ◌^◌, ◌<◌, ◌≤◌, List, [], ◌∷◌, ◌++◌, All, length, take, drop, map, replicate, slice_index_or}
use Rattle.std.specs.List.{concat}
use Rattle.byteorder.specs.Endian.{little_number, little_bytes}
use Rattle.layout.specs.Sizes.{greatest_key}
pub use Rattle.tree_nodes.specs.Order.{Entry, node_size}

-- the bytes of a node's header, of an entry, and of an entry in front of its key; where the children stand
abbrev pub header : ℕ
header = 24

abbrev pub entry_size : ℕ
entry_size = 264

abbrev pub entry_header : ℕ
entry_header = 8

abbrev pub children_at : ℕ
children_at = 4248

-- the most entries of a node, and its places for children
abbrev pub most_entries : ℕ
most_entries = 16

abbrev pub children_count : ℕ
children_count = 17

-- the place of no node
abbrev pub no_place : ℕ
no_place = 18446744073709551615

pub record TreeNode : Type 0 where
  pub parent : ℕ
  pub level : ℕ
  pub next_leaf : ℕ
  pub entries : List Entry
  pub children : List ℕ

abbrev pub no_entry : Entry
no_entry = record { key = []; number = 0 }

-- the entry of a node with a number, and its child
abbrev pub entry_at : TreeNode → ℕ → Entry
entry_at node i = slice_index_or node.entries i no_entry

abbrev pub child_at : TreeNode → ℕ → ℕ
child_at node i = slice_index_or node.children i no_place

-- ---- the bytes of a node; the lowest byte of a number stands first

-- An entry: the length of its key in two bytes, two zero bytes, the number in four, the key, and zero bytes up to the size.
abbrev pub entry_bytes : Entry → List ℕ
entry_bytes entry =
    little_bytes 2 (length entry.key) ++ replicate 2 0 ++ little_bytes 4 entry.number ++ entry.key
    ++ replicate (greatest_key - length entry.key) 0

-- the entries, and zero bytes for those that the node has not
abbrev pub entries_bytes : List Entry → List ℕ
entries_bytes entries = concat (map entry_bytes entries) ++ replicate (entry_size * (most_entries - length entries)) 0

-- The header: the parent in eight bytes, the level and how many entries there are in two each, four zero bytes, and the next
-- leaf in eight.
abbrev pub header_bytes : ℕ → ℕ → ℕ → ℕ → List ℕ
header_bytes parent level count next_leaf =
    little_bytes 8 parent ++ little_bytes 2 level ++ little_bytes 2 count ++ replicate 4 0 ++ little_bytes 8 next_leaf

-- The header, 16 entries, and 17 places of eight bytes.
unfoldable pub node_bytes : TreeNode → List ℕ
node_bytes node =
    header_bytes node.parent node.level (length node.entries) node.next_leaf
    ++ entries_bytes node.entries ++ concat (map (little_bytes 8) node.children)

-- ---- what such a content says

abbrev pub entry_in : List ℕ → Entry
entry_in bytes = record { key = take (little_number 2 bytes) (drop entry_header bytes); number = little_number 4 (drop 4 bytes) }

unfoldable pub entries_in : ℕ → List ℕ → List Entry
entries_in zero bytes = []
entries_in (suc n) bytes = entry_in bytes ∷ entries_in n (drop entry_size bytes)

unfoldable pub places_in : ℕ → List ℕ → List ℕ
places_in zero bytes = []
places_in (suc n) bytes = little_number 8 bytes ∷ places_in n (drop 8 bytes)

unfoldable pub node_in : List ℕ → TreeNode
node_in content = record {
  parent = little_number 8 content;
  level = little_number 2 (drop 8 content);
  next_leaf = little_number 8 (drop 16 content);
  entries = entries_in (little_number 2 (drop 10 content)) (drop header content);
  children = places_in children_count (drop children_at content);
}

-- ---- which contents are a node's

-- an entry that can stand in a node
pub record IsEntry (entry : Entry) : Type 0 where
  pub some_key : 1 ≤ length entry.key
  pub short_key : length entry.key ≤ greatest_key
  pub number : entry.number < 2 ^ 32

-- a node that can stand in a content; how many children it has, and how few keys, is not said here
pub record CanStand (node : TreeNode) : Type 0 where
  pub parent : node.parent < 2 ^ 64
  pub level : node.level < 2 ^ 16
  pub next_leaf : node.next_leaf < 2 ^ 64
  pub few : length node.entries ≤ most_entries
  pub entries : All IsEntry node.entries
  pub children : length node.children ≡ children_count
  pub places : All (λ place. place < 2 ^ 64) node.children

-- the content is a node's: all of its bytes are those of the node that it is read as
pub record IsNode (content : List ℕ) : Type 0 where
  pub node : CanStand (node_in content)
  pub bytes : content ≡ node_bytes (node_in content)

-- a node with no key and no place
abbrev pub started : ℕ → TreeNode
started level = record { parent = no_place; level = level; next_leaf = no_place; entries = []; children = replicate children_count no_place }
