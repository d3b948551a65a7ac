-- The way of a key down a tree.
use Rattle.std.specs.Prelude.{◌≡◌, ℕ, ◌≤◌, false, List, ◌++◌, All, length, take, drop, Some}
use Rattle.std.specs.List.{flat_map}
use Rattle.std.specs.Ordering.{is_lt}
use Rattle.regions.specs.declared.place.Place.{Place}
use Rattle.tree_nodes.specs.Nodes.{Entry, TreeNode}
use Rattle.tree_nodes.specs.Order.{IsBelow, key_cmp}
use Rattle.index_tree.specs.Indexes.{Index}
use Rattle.index_tree.specs.Links.{Nodes}
use Rattle.index_tree.specs.Trees.{entries_of, leaves_below}

-- each entry has a key below a key, or above it
abbrev pub AllBelow : List ℕ → List Entry → Type 0
AllBelow key es = All (λ e. IsBelow e.key key) es

abbrev pub AllAbove : List ℕ → List Entry → Type 0
AllAbove key es = All (λ e. IsBelow key e.key) es

-- a key leads to the child of a node with a number: so many of the node's keys are at or below it, and the others are above it
pub record LeadsTo (node : TreeNode) (key : List ℕ) (i : ℕ) : Type 0 where
  pub within : i ≤ length node.entries
  pub upto : All (λ e. is_lt (key_cmp key e.key) ≡ false) (take i node.entries)
  pub above : AllAbove key (drop i node.entries)

-- what leaves hold, from left to right
abbrev pub held_in : Nodes → List Place → Index
held_in nodes leaves = flat_map (λ p. entries_of (nodes p)) leaves

-- A node of a level on the way of a key to its leaf: the leaves below it stand among all, what those in front of them hold is
-- below the key, and what those behind them hold is above it.
pub record IsOnWay (nodes : Nodes) (leaves : List Place) (key : List ℕ) (level : ℕ) (p : Place) : Type 0 where
  pub front : List Place
  pub behind : List Place
  pub leaves_are : leaves ≡ front ++ (leaves_below nodes level (Some p) ++ behind)
  pub below : AllBelow key (held_in nodes front)
  pub above : AllAbove key (held_in nodes behind)
