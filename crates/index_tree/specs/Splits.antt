-- What the split of a node says, and what it makes of the node.
use Rattle.std.specs.Prelude.{◌≡◌, ◌≢◌, ℕ, suc, ◌-◌, ◌≤◌, List, [], ◌∷◌, ◌++◌, All, length, take, drop, map, insert, replicate, slice_index_or, Option, None, Some, option_map}
use Rattle.regions.specs.Segments.{RegionState}
use Rattle.regions.specs.Contents.{live_at}
use Rattle.regions.specs.Stores.{SameBut}
use Rattle.regions.specs.declared.place.Place.{Place}
use Rattle.tree_nodes.specs.Nodes.{Entry, TreeNode, children_count, no_entry, no_place, started}
use Rattle.index_tree.specs.declared.split.Split.{Split}
use Rattle.index_tree.specs.Inserts.{Branch, times}
use Rattle.regions.specs.Places.{link_to, place_of_link}
use Rattle.index_tree.specs.Links.{Nodes, with_parent}
use Rattle.index_tree.specs.Store.{HoldsNode, nodes_of}
use Rattle.index_tree.specs.Writes.{blank}
use Rattle.index_tree.specs.Trees.{entries_of}

-- the new subtree, behind its key
abbrev pub branch_of : Split → Branch
branch_of s = record { entry = record { key = take s.len s.key; number = 0 }; place = s.place }

abbrev pub branches_of : Option Split → List Branch
branches_of None = []
branches_of (Some s) = branch_of s ∷ []

abbrev pub refilled : List Entry → TreeNode → TreeNode
refilled es node = record node { entries = es }

-- an entry was put into one of two halves
pub record AddsToHalf (i : ℕ) (entry : Entry) (p q : Place) (old new : Nodes) : Type 0 where
  pub lower : List Entry
  pub upper : List Entry
  pub parts : insert (entries_of (old p) ++ entries_of (old q)) i entry ≡ lower ++ upper
  pub lower_many : (8 ≤ length lower) × (length lower ≤ 9)
  pub upper_many : (8 ≤ length upper) × (length upper ≤ 9)
  pub here : new p ≡ option_map (refilled lower) (old p)
  pub behind : new q ≡ option_map (refilled upper) (old q)

-- a leaf with an entry more was cut in two: each node has its part, and the new one stands behind
pub record CutsLeaf (i : ℕ) (entry : Entry) (p q : Place) (node : TreeNode) (s : Split) (new : Nodes) : Type 0 where
  pub front : List Entry
  pub first : Entry
  pub rest : List Entry
  pub parts : insert node.entries i entry ≡ front ++ first ∷ rest
  pub front_many : (8 ≤ length front) × (length front ≤ 16)
  pub rest_many : (8 ≤ length (first ∷ rest)) × (length (first ∷ rest) ≤ 16)
  pub here : new p ≡ Some (record node { entries = front; next_leaf = link_to (Some q) })
  pub behind : new q ≡ Some (record node { entries = first ∷ rest })
  pub key : take s.len s.key ≡ first.key
  pub place : s.place ≡ q

-- ---- inner nodes

-- a node with an entry more, and a child more behind it
abbrev pub widened : ℕ → Branch → TreeNode → TreeNode
widened i b node = record node { entries = insert node.entries i b.entry; children = take children_count (insert node.children (suc i) (link_to (Some b.place))) }

-- the first n of 16 entries with the n + 1 children beside them, and the entries behind n with theirs
abbrev pub front_of : ℕ → TreeNode → TreeNode
front_of n node = record node { entries = take n node.entries; children = take (suc n) node.children ++ replicate (16 - n) no_place }

abbrev pub back_of : ℕ → TreeNode → TreeNode
back_of n node = record node { entries = drop n node.entries; children = drop n node.children ++ replicate n no_place }

-- a full inner node was cut in two: the one has its first n entries, and the other those behind m
pub record Halves (m n : ℕ) (p q : Place) (node : TreeNode) (new : Nodes) : Type 0 where
  pub here : new p ≡ Some (front_of n node)
  pub behind : new q ≡ Some (back_of m node)

-- the entries and the children of a node with a branch more
abbrev pub wide_entries : ℕ → Branch → TreeNode → List Entry
wide_entries i b node = insert node.entries i b.entry

abbrev pub wide_children : ℕ → Branch → TreeNode → List ℕ
wide_children i b node = insert node.children (suc i) (link_to (Some b.place))

abbrev pub lower_half : ℕ → Branch → TreeNode → TreeNode
lower_half i b node = record node { entries = take 8 (wide_entries i b node); children = take 9 (wide_children i b node) ++ replicate 8 no_place }

abbrev pub upper_half : ℕ → Branch → TreeNode → TreeNode
upper_half i b node = record node { entries = drop 9 (wide_entries i b node); children = drop 9 (wide_children i b node) ++ replicate 8 no_place }

-- a full inner node with a branch more was cut in two: 8 entries stay, the next one separates, and 8 go to the new node
pub record CutsInner (i : ℕ) (b : Branch) (p q : Place) (node : TreeNode) (s : Split) (new : Nodes) : Type 0 where
  pub here : new p ≡ Some (lower_half i b node)
  pub behind : new q ≡ Some (upper_half i b node)
  pub key : take s.len s.key ≡ (slice_index_or (wide_entries i b node) 8 no_entry).key
  pub place : s.place ≡ q

-- the places of the first children of a node
abbrev pub child_places : ℕ → Option TreeNode → List Place
child_places n None = []
child_places n (Some node) = map place_of_link (take n node.children)

-- of some nodes, these got a parent; and no other object changed
pub record Adopts (done all : List Place) (link : ℕ) (old new : RegionState) : Type 0 where
  pub adopted : (r : Place) → 1 ≤ times r done → nodes_of (live_at new) r ≡ option_map (with_parent link) (nodes_of (live_at old) r)
  pub others : (r : Place) → times r done ≡ 0 → live_at new r ≡ live_at old r
  pub holds : All (HoldsNode (live_at new)) all
  pub same : SameBut blank old new

-- the places of the upper half's children
abbrev pub upper_places : ℕ → Branch → TreeNode → List Place
upper_places i b node = map place_of_link (take 9 (drop 9 (wide_children i b node)))

-- these places got a parent, and no other object changed but two
pub record AdoptsBeside (ps : List Place) (p q : Place) (link : ℕ) (old new : RegionState) : Type 0 where
  pub adopted : (r : Place) → 1 ≤ times r ps → nodes_of (live_at new) r ≡ option_map (with_parent link) (nodes_of (live_at old) r)
  pub others : (r : Place) → r ≢ p → r ≢ q → times r ps ≡ 0 → live_at new r ≡ live_at old r
  pub holds : All (HoldsNode (live_at new)) (p ∷ q ∷ ps)
  pub same : SameBut blank old new

-- ---- roots

-- a root of a level above two nodes
abbrev pub top_node : ℕ → Place → Branch → TreeNode
top_node level first b =
    record (started level) { entries = b.entry ∷ []; children = link_to (Some first) ∷ link_to (Some b.place) ∷ replicate 15 no_place }
