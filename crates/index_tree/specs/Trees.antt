-- A tree of nodes, and the index that it stands for.
--
--     level 2                     [ m ]                      a node with k keys has k + 1 children
--                            ┌──────┴──────┐
--     level 1             [ d  h ]        [ r ]              the keys below a child lie between the keys
--                       ┌────┼────┐     ┌───┴───┐            beside it, the left one included
--     level 0        [a b] [d f] [h k] [m p] [r t u]         leaves, each with the place of the next one
use Rattle.std.specs.Prelude.{◌≡◌, ◌≢◌, ⊤, ℕ, zero, suc, ◌≤◌, ◌==◌, nat_lt, cond, List, [], ◌∷◌, ◌++◌, All, length, drop, take, slice_get, false, Option, None, Some, IfSome}
use Rattle.std.specs.List.{flat_map}
use Rattle.std.specs.Ordering.{is_lt}
use Rattle.regions.specs.declared.place.Place.{Place}
use Rattle.tree_nodes.specs.Nodes.{Entry, TreeNode, CanStand, child_at, entry_at, no_place}
use Rattle.tree_nodes.specs.Order.{AreRising, IsBelow, key_cmp}
use Rattle.index_tree.specs.Indexes.{Index}
use Rattle.regions.specs.Places.{HasRoom, led_to, link_to}
use Rattle.index_tree.specs.Links.{Nodes}
use Rattle.index_tree.specs.Limits.{fewest_entries}

-- ---- what a tree holds

abbrev pub entries_of : Option TreeNode → List Entry
entries_of None = []
entries_of (Some node) = node.entries

-- the places of a node's children, of which there is one more than keys
abbrev pub children_of : Option TreeNode → List ℕ
children_of None = []
children_of (Some node) = take (suc (length node.entries)) node.children

-- the entries of the leaves below a place, from left to right
abbrev pub held_below : Nodes → ℕ → Option Place → Index
held_below nodes level None = []
held_below nodes zero (Some p) = entries_of (nodes p)
held_below nodes (suc level) (Some p) = flat_map (λ link. held_below nodes level (led_to link)) (children_of (nodes p))

-- those leaves
abbrev pub leaves_below : Nodes → ℕ → Option Place → List Place
leaves_below nodes level None = []
leaves_below nodes zero (Some p) = p ∷ []
leaves_below nodes (suc level) (Some p) = flat_map (λ link. leaves_below nodes level (led_to link)) (children_of (nodes p))

-- all nodes from a place down
abbrev pub nodes_below : Nodes → ℕ → Option Place → List Place
nodes_below nodes level None = []
nodes_below nodes zero (Some p) = p ∷ []
nodes_below nodes (suc level) (Some p) = p ∷ flat_map (λ link. nodes_below nodes level (led_to link)) (children_of (nodes p))

-- the place, if the level is the one that is looked for
abbrev pub if_level : ℕ → ℕ → Place → List Place
if_level k level p = cond (k == level) (p ∷ []) []

-- the nodes of one level from a place of a level down, from left to right
abbrev pub row_below : Nodes → ℕ → ℕ → Option Place → List Place
row_below nodes k level None = []
row_below nodes k zero (Some p) = if_level k zero p
row_below nodes k (suc level) (Some p) =
    if_level k (suc level) p ++ flat_map (λ link. row_below nodes k level (led_to link)) (children_of (nodes p))

-- ---- that it is one

-- a key is at or above a bound, and below one, if there is the bound
abbrev pub IsFrom : Option (List ℕ) → Entry → Type 0
IsFrom low e = IfSome low (λ key. is_lt (key_cmp e.key key) ≡ false)

abbrev pub IsUpTo : Option (List ℕ) → Entry → Type 0
IsUpTo high e = IfSome high (λ key. IsBelow e.key key)

-- the key on the left of a child, and the one on its right; at the ends those of the node itself
abbrev pub left_of : TreeNode → Option (List ℕ) → ℕ → Option (List ℕ)
left_of node low zero = low
left_of node low (suc i) = Some (entry_at node i).key

abbrev pub right_of : TreeNode → Option (List ℕ) → ℕ → Option (List ℕ)
right_of node high i = cond (nat_lt i (length node.entries)) (Some (entry_at node i).key) high

-- an entry between two bounds
abbrev pub IsBetween : Option (List ℕ) → Option (List ℕ) → Entry → Type 0
IsBetween low high e = IsFrom low e × IsUpTo high e

-- a node of a level, between two keys: its parent, its keys, and how few it may have
pub record IsNodeOf (level : ℕ) (parent : Option Place) (low high : Option (List ℕ)) (node : TreeNode) : Type 0 where
  pub level_is : node.level ≡ level
  pub parent_is : node.parent ≡ link_to parent
  pub stands : CanStand node
  pub rising : AreRising node.entries
  pub from : All (IsFrom low) node.entries
  pub up_to : All (IsUpTo high) node.entries
  pub many : parent ≢ None → fewest_entries ≤ length node.entries

-- an inner node: its numbers are 0, and it has a key at least, no next leaf, and no child but one more than keys
pub record IsInner (node : TreeNode) : Type 0 where
  pub some : 1 ≤ length node.entries
  pub numbers : All (λ e. e.number ≡ 0) node.entries
  pub next : node.next_leaf ≡ no_place
  pub others : All (λ link. link ≡ no_place) (drop (suc (length node.entries)) node.children)

-- The nodes from a place down are a tree of a level: a leaf has no child, and each child of an inner node is a tree of the
-- level below, between the keys beside it.
abbrev pub IsSubtree : Nodes → ℕ → Option Place → Option (List ℕ) → Option (List ℕ) → Place → Type 0
IsSubtree nodes zero parent low high p =
    (node : TreeNode) × (nodes p ≡ Some node) × HasRoom p × IsNodeOf zero parent low high node × All (λ link. link ≡ no_place) node.children
IsSubtree nodes (suc level) parent low high p =
    (node : TreeNode) × (nodes p ≡ Some node) × HasRoom p × IsNodeOf (suc level) parent low high node × IsInner node
    × ((i : ℕ) → i ≤ length node.entries → (q : Place) × (child_at node i ≡ link_to (Some q))
    × IsSubtree nodes level (Some p) (left_of node low i) (right_of node high i) q)

-- the next leaf of the node at a place
abbrev pub next_in : Option TreeNode → ℕ
next_in None = no_place
next_in (Some node) = node.next_leaf

abbrev pub next_at : Nodes → Place → ℕ
next_at nodes p = next_in (nodes p)

-- each leaf has the place of the one behind it, and the last one none
abbrev pub AreLinked : Nodes → List Place → Type 0
AreLinked nodes [] = ⊤
AreLinked nodes (p ∷ []) = next_at nodes p ≡ no_place
AreLinked nodes (p ∷ q ∷ ps) = (next_at nodes p ≡ link_to (Some q)) × AreLinked nodes (q ∷ ps)

-- a tree of nodes: where its root stands, if it has a node, the level of the root, and where nodes stand that are to be its next
pub record TreeState : Type 0 where
  pub root : Option Place
  pub level : ℕ
  pub spares : List Place

abbrev pub IsRooted : Nodes → TreeState → Type 0
IsRooted nodes t = (p : Place) → t.root ≡ Some p → IsSubtree nodes t.level None None None p

-- all of its nodes, the spare ones first
abbrev pub places_of : Nodes → TreeState → List Place
places_of nodes t = t.spares ++ nodes_below nodes t.level t.root

-- a spare node stands at the place: it has no parent, no next leaf and no child
pub record IsSpare (nodes : Nodes) (p : Place) : Type 0 where
  pub node : TreeNode
  pub is : nodes p ≡ Some node
  pub room : HasRoom p
  pub parent : node.parent ≡ no_place
  pub next : node.next_leaf ≡ no_place
  pub children : All (λ link. link ≡ no_place) node.children

-- The nodes are this tree: its leaves are linked in order, its spare nodes have no place, no node is in it twice, and every node
-- is in it.
pub record IsTree (nodes : Nodes) (t : TreeState) : Type 0 where
  pub rooted : IsRooted nodes t
  pub linked : AreLinked nodes (leaves_below nodes t.level t.root)
  pub idle : All (IsSpare nodes) t.spares
  pub apart : (i j : ℕ) (p : Place) → slice_get (places_of nodes t) i ≡ Some p → slice_get (places_of nodes t) j ≡ Some p → i ≡ j
  pub every : (p : Place) (node : TreeNode) → nodes p ≡ Some node → (i : ℕ) × (slice_get (places_of nodes t) i ≡ Some p)

-- the index that the tree stands for
abbrev pub index_of : Nodes → TreeState → Index
index_of nodes t = held_below nodes t.level t.root
