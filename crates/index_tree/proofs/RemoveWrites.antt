-- Several nodes written one after another.
use Rattle.std.proofs.Common.{◌≡◌, ◌≢◌, ℕ, Bool, Option, Some, option_map, sym, ap, ◌∙◌}
use Rattle.regions.specs.Segments.{RegionState}
use Rattle.regions.specs.Contents.{live_at}
use Rattle.regions.specs.declared.place.Place.{Place}
use Rattle.tree_nodes.specs.Nodes.{TreeNode}
use Rattle.index_tree.specs.Store.{nodes_of}
use Rattle.index_tree.specs.Mended.{IsMendedAt, OnlyThree}
use Rattle.index_tree.specs.Pairs.{AreMendedIf}
use Rattle.index_tree.specs.Writes.{WritesNode}
use Rattle.index_tree.proofs.Touches.{held_same, node_past, same_then}

pub three_written : (a b c d : RegionState) (at left right : Place) (f g h : TreeNode → TreeNode) → left ≢ at → right ≢ at → right ≢ left
    → WritesNode at f a b → WritesNode left g b c → WritesNode right h c d → OnlyThree at left right a d
three_written a b c d at left right f g h far_left far_right apart u v w = record {
  at_holds = held_same b d at (w.others at (λ e. far_right (sym e)) ∙ v.others at (λ e. far_left (sym e))) u.holds;
  left_holds = held_same c d left (w.others left (λ e. apart (sym e))) v.holds;
  right_holds = w.holds;
  others = λ r past_at past_left past_right. w.others r past_right ∙ (v.others r past_left ∙ u.others r past_at);
  same = same_then a c d (same_then a b c u.same v.same) w.same;
}

-- the parent, the left node and the right one
pub mended_by : (a b c d : RegionState) (j : ℕ) (at left right : Place) (f g h : TreeNode → TreeNode) (above joined : Bool) → left ≢ at → right ≢ at → right ≢ left
    → (parent_node left_node right_node : TreeNode) → nodes_of (live_at a) at ≡ Some parent_node → nodes_of (live_at a) left ≡ Some left_node → nodes_of (live_at a) right ≡ Some right_node
    → AreMendedIf above joined j parent_node left_node right_node (f parent_node) (g left_node) (h right_node) → WritesNode at f a b → WritesNode left g b c → WritesNode right h c d
    → IsMendedAt above joined j at left right (nodes_of (live_at a)) (nodes_of (live_at d))
mended_by a b c d j at left right f g h above joined far_left far_right apart parent_node left_node right_node parent_was left_was right_was m u v w = record {
  parent_node = parent_node;
  left_node = left_node;
  right_node = right_node;
  new_parent = f parent_node;
  new_left = g left_node;
  new_right = h right_node;
  parent_was = parent_was;
  left_was = left_was;
  right_was = right_was;
  parent_is =
      node_past right h c d at w (λ e. far_right (sym e)) ∙ node_past left g b c at v (λ e. far_left (sym e)) ∙ (u.here ∙ ap (λ (o : Option TreeNode). option_map f o) parent_was);
  left_is =
      node_past right h c d left w (λ e. apart (sym e)) ∙ v.here ∙ ap (λ (o : Option TreeNode). option_map g o) (node_past at f a b left u far_left ∙ left_was);
  right_is =
      w.here ∙ ap (λ (o : Option TreeNode). option_map h o) (node_past left g b c right v apart) ∙ ap (λ (o : Option TreeNode). option_map h o) (node_past at f a b right u far_right ∙ right_was);
  mended = m;
}
