-- Two nodes side by side and their parent, written one after another: first the parent, then the left one, then the right one.
use Rattle.std.proofs.Common.{◌≡◌, ◌≢◌, ℕ, ◌≤◌, List, [], ◌∷◌, get_or, length, Some, refl, sym, ap, subst, ◌∙◌, arith}
use Rattle.std.specs.Prelude.{option_map, remove}
use Rattle.regions.specs.Segments.{RegionState}
use Rattle.regions.specs.Contents.{Item, live_at}
use Rattle.regions.specs.declared.place.Place.{Place}
use Rattle.tree_nodes.specs.Nodes.{Entry, TreeNode, entry_at, no_entry, node_in}
use Rattle.index_tree.specs.Mended.{AreUneven}
use Rattle.index_tree.specs.Pairs.{gives}
use Rattle.index_tree.specs.Store.{HoldsNode, nodes_of}
use Rattle.index_tree.specs.Writes.{WritesNode}
use Rattle.place_lemmas.proofs.Places.{some_is}
use Rattle.index_tree.proofs.Touches.{held_same, node_past}

module _ (a b : RegionState) (j : ℕ) (at left right : Place) {f : TreeNode → TreeNode} (far : left ≢ at) (u : AreUneven (nodes_of (live_at a)) j at left right) (v : WritesNode at f a b) where
  -- the left node once the parent is written
  pub left_now : nodes_of (live_at b) left ≡ Some u.left_node
  left_now = node_past at f a b left v far ∙ u.left_is

  pub left_held : HoldsNode (live_at a) left → HoldsNode (live_at b) left
  left_held h = held_same a b left (v.others left far) h

module _ (a b c : RegionState) (j : ℕ) (at left right : Place) {f g : TreeNode → TreeNode} (far : right ≢ at) (apart : right ≢ left) (u : AreUneven (nodes_of (live_at a)) j at left right) (v : WritesNode at f a b)
    (w : WritesNode left g b c) where
  -- the right one once both are
  pub right_now : nodes_of (live_at c) right ≡ Some u.right_node
  right_now = node_past left g b c right w apart ∙ (node_past at f a b right v far ∙ u.right_is)

  pub right_held : HoldsNode (live_at a) right → HoldsNode (live_at c) right
  right_held h = held_same b c right (w.others right apart) (held_same a b right (v.others right far) h)

-- the first entry once another was taken away in front of it
pub second_first : (node : TreeNode) → 2 ≤ length node.entries → entry_at (gives 0 node) 0 ≡ entry_at node 1
second_first node many = go node.entries many
  where
    go : (es : List Entry) → 2 ≤ length es → get_or (remove es 0) 0 no_entry ≡ get_or es 1 no_entry
    go [] many = absurd (omega (arith, many))
    go (e ∷ es) many = refl

-- a node has at most 16 entries
pub node_few : (r : RegionState) (p : Place) (node : TreeNode) → HoldsNode (live_at r) p → nodes_of (live_at r) p ≡ Some node → length node.entries ≤ 16
node_few r p node (item, is_live, holds) is =
    let same : node_in item.content ≡ node = some_is (sym (ap (option_map (λ (i : Item). node_in i.content)) is_live) ∙ is) in
    subst (λ (n : TreeNode). length n.entries ≤ 16) same holds.node.few
