-- What the removal of a key makes of a whole tree.
use Rattle.std.specs.Prelude.{◌≡◌, ℕ, ◌+◌, ◌≤◌, List, All, length, Option, None, Some}
use mathlib.Core.List.{Sublist}
use Rattle.regions.specs.declared.place.Place.{Place}
use Rattle.tree_nodes.specs.Nodes.{no_place, started}
use Rattle.index_tree.specs.Indexes.{without}
use Rattle.index_tree.specs.Inserts.{AreChained, times}
use Rattle.index_tree.specs.Links.{Nodes}
use Rattle.index_tree.specs.Trees.{IsSubtree, entries_of, held_below, leaves_below, nodes_below, row_below}

-- The tree below a root became that below another root, which has an entry, or none: it lacks the key and holds all else, its
-- leaves are in order as they were, its nodes are those that were there but the freed ones, which are such as were just made, those
-- of a level were of that level and in that order, and no other node changed.
pub record Prunes (nodes new : Nodes) (level : ℕ) (root : Place) (lower : ℕ) (top : Option Place) (key : List ℕ) (freed : List Place) : Type 0 where
  pub rooted : (p : Place) → top ≡ Some p → IsSubtree new lower None None None p
  pub some : (p : Place) → top ≡ Some p → 1 ≤ length (entries_of (new p))
  pub held : held_below new lower top ≡ without key (held_below nodes level (Some root))
  pub chained : AreChained nodes (leaves_below nodes level (Some root)) no_place → AreChained new (leaves_below new lower top) no_place
  pub places : (r : Place) → times r (nodes_below new lower top) + times r freed ≡ times r (nodes_below nodes level (Some root))
  pub rows : (k : ℕ) → Sublist (row_below new k lower top) (row_below nodes k level (Some root))
  pub idle : All (λ q. new q ≡ Some (started 0)) freed
  pub others : (r : Place) → times r (nodes_below nodes level (Some root)) ≡ 0 → new r ≡ nodes r
