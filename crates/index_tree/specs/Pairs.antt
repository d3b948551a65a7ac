-- What becomes of two nodes side by side and of their parent, where one has too few entries.
use Rattle.std.specs.Prelude.{◌≡◌, ℕ, ◌≤◌, ◌⊎◌, Bool, true, false, ◌+◌, ◌-◌, List, [], ◌∷◌, ◌++◌, length, take, drop, insert, remove, slice_set}
use Rattle.tree_nodes.specs.Nodes.{Entry, TreeNode, children_count, child_at, entry_at, no_place, started}
use Rattle.index_tree.specs.Links.{with_next}
use Rattle.index_tree.specs.declared.moved_entry.MovedEntry.{MovedEntry}

-- the entry that was copied out of a node
abbrev pub entry_moved : MovedEntry → Entry
entry_moved moved = record { key = take moved.len moved.key; number = moved.number }

-- an entry more, or less, and further ones behind all
abbrev pub gains : ℕ → Entry → TreeNode → TreeNode
gains i entry node = record node { entries = insert node.entries i entry }

abbrev pub gives : ℕ → TreeNode → TreeNode
gives i node = record node { entries = remove node.entries i }

abbrev pub takes : List Entry → TreeNode → TreeNode
takes es node = record node { entries = node.entries ++ es }

-- a child more, or less
abbrev pub gains_child : ℕ → ℕ → TreeNode → TreeNode
gains_child i link node = record node { children = take children_count (insert node.children i link) }

abbrev pub gives_child : ℕ → TreeNode → TreeNode
gives_child i node = record node { children = remove node.children i ++ no_place ∷ [] }

abbrev pub with_child_at : ℕ → ℕ → TreeNode → TreeNode
with_child_at i link node = record node { children = slice_set node.children i link }

-- so many children of a list, written over those from one on
abbrev pub with_children : ℕ → List ℕ → ℕ → TreeNode → TreeNode
with_children at links n node = record node { children = take at node.children ++ take n links ++ drop (at + n) node.children }

-- a key between two subtrees
abbrev pub separator : List ℕ → Entry
separator key = record { key = key; number = 0 }

abbrev pub separated : ℕ → List ℕ → TreeNode → TreeNode
separated j key node = gains j (separator key) (gives j node)

-- the number of the last entry
abbrev pub last_of : TreeNode → ℕ
last_of node = length node.entries - 1

-- ---- what mends two leaves, and two inner nodes, of which one has 7 entries

-- the left one had more than 8, and gave its last entry
pub record GaveRight (j : ℕ) (parent left right new_parent new_left new_right : TreeNode) : Type 0 where
  pub more : 9 ≤ length left.entries
  pub parent_is : new_parent ≡ separated j (entry_at left (last_of left)).key parent
  pub left_is : new_left ≡ gives (last_of left) left
  pub right_is : new_right ≡ gains 0 (entry_at left (last_of left)) right

-- the right one had more than 8, and gave its first entry
pub record GaveLeft (j : ℕ) (parent left right new_parent new_left new_right : TreeNode) : Type 0 where
  pub more : 9 ≤ length right.entries
  pub parent_is : new_parent ≡ separated j (entry_at (gives 0 right) 0).key parent
  pub left_is : new_left ≡ gains (length left.entries) (entry_at right 0) left
  pub right_is : new_right ≡ gives 0 right

-- the left one took all that the right one had
pub record Joined (j : ℕ) (parent left right new_parent new_left new_right : TreeNode) : Type 0 where
  pub few_left : length left.entries ≤ 8
  pub few_right : length right.entries ≤ 8
  pub parent_is : new_parent ≡ gives_child (j + 1) (gives j parent)
  pub left_is : new_left ≡ with_next right.next_leaf (takes right.entries left)
  pub right_is : new_right ≡ started 0

-- the same of inner nodes, with the last child, the first one, and all
pub record GaveRightAbove (j : ℕ) (parent left right new_parent new_left new_right : TreeNode) : Type 0 where
  pub more : 9 ≤ length left.entries
  pub parent_is : new_parent ≡ separated j (entry_at left (last_of left)).key parent
  pub left_is : new_left ≡ gives_child (length left.entries) (gives (last_of left) left)
  pub right_is : new_right ≡ gains_child 0 (child_at left (length left.entries)) (gains 0 (separator (entry_at parent j).key) right)

pub record GaveLeftAbove (j : ℕ) (parent left right new_parent new_left new_right : TreeNode) : Type 0 where
  pub more : 9 ≤ length right.entries
  pub parent_is : new_parent ≡ separated j (entry_at right 0).key parent
  pub left_is : new_left
      ≡ with_child_at (length left.entries + 1) (child_at right 0) (gains (length left.entries) (separator (entry_at parent j).key) left)
  pub right_is : new_right ≡ gives_child 0 (gives 0 right)

pub record JoinedAbove (j : ℕ) (parent left right new_parent new_left new_right : TreeNode) : Type 0 where
  pub few_left : length left.entries ≤ 8
  pub few_right : length right.entries ≤ 8
  pub parent_is : new_parent ≡ gives_child (j + 1) (gives j parent)
  pub left_is : new_left
      ≡ with_children (length left.entries + 1) right.children (length right.entries + 1)
      (takes right.entries (gains (length left.entries) (separator (entry_at parent j).key) left))
  pub right_is : new_right ≡ started 0

-- one of them, and whether the right node is free now
abbrev pub AreMended : Bool → ℕ → TreeNode → TreeNode → TreeNode → TreeNode → TreeNode → TreeNode → Type 0
AreMended joined j p l r p2 l2 r2 =
    ((joined ≡ false) × GaveRight j p l r p2 l2 r2) ⊎ ((joined ≡ false) × GaveLeft j p l r p2 l2 r2) ⊎ ((joined ≡ true) × Joined j p l r p2 l2 r2)

abbrev pub AreMendedAbove : Bool → ℕ → TreeNode → TreeNode → TreeNode → TreeNode → TreeNode → TreeNode → Type 0
AreMendedAbove joined j p l r p2 l2 r2 =
    ((joined ≡ false) × GaveRightAbove j p l r p2 l2 r2) ⊎ ((joined ≡ false) × GaveLeftAbove j p l r p2 l2 r2)
    ⊎ ((joined ≡ true) × JoinedAbove j p l r p2 l2 r2)

abbrev pub AreMendedIf : Bool → Bool → ℕ → TreeNode → TreeNode → TreeNode → TreeNode → TreeNode → TreeNode → Type 0
AreMendedIf true joined j p l r p2 l2 r2 = AreMendedAbove joined j p l r p2 l2 r2
AreMendedIf false joined j p l r p2 l2 r2 = AreMended joined j p l r p2 l2 r2
