-- A full inner node cut in two, write by write.
use Rattle.std.proofs.Common.{◌≡◌, ◌≢◌, ℕ, ◌-◌, ◌<◌, ◌≤◌, [], ◌∷◌, length, take, Option, Some, option_map, sym, ap, subst, ◌∙◌, arith}
use Rattle.regions.specs.Segments.{RegionState}
use Rattle.regions.specs.Contents.{Item, live_at}
use Rattle.regions.specs.declared.place.Place.{Place}
use Rattle.tree_nodes.specs.Nodes.{Entry, TreeNode, CanStand, entry_at, node_in}
use Rattle.index_tree.specs.Inserts.{Branch, Touched}
use Rattle.regions.specs.Places.{link_to}
use Rattle.index_tree.specs.Links.{with_child}
use Rattle.index_tree.specs.Splits.{CutsInner, Halves, back_of, front_of, widened}
use Rattle.index_tree.specs.Store.{ChangesNode, HoldsNode, nodes_of}
use Rattle.index_tree.specs.Writes.{WritesNode}
use Rattle.index_tree.specs.declared.split.Split.{Split}
use Rattle.index_tree.proofs.InnerCuts.{high_back, high_front, high_key, low_back, low_front, low_key, middle_back, middle_key}
use Rattle.place_lemmas.proofs.Places.{some_is}
use Rattle.index_tree.proofs.Touches.{both_held, either_behind, either_here, node_past, node_there, touched_by, touched_then}
use Rattle.index_tree.proofs.Writes.{eases}

-- a node that stands somewhere can stand
pub fits_there : (r : RegionState) (p : Place) (node : TreeNode) → HoldsNode (live_at r) p → nodes_of (live_at r) p ≡ Some node → CanStand node
fits_there r p node (item, is, holds) there = subst CanStand (some_is (sym (ap (λ (o : Option Item). option_map (λ (i : Item). node_in i.content) o) is) ∙ there)) holds.node

-- a node copied, and each of both cut
module _ (r a b c : RegionState) (p q : Place) (m n : ℕ) (node : TreeNode) (holds_p : HoldsNode (live_at r) p) (holds_q : HoldsNode (live_at r) q) (apart : p ≢ q)
    (is : nodes_of (live_at r) p ≡ Some node) (copied : WritesNode q (λ _. node) r a) (back : WritesNode q (back_of m) a b) (front : WritesNode p (front_of n) b c) where
  pub halves_written : Halves m n p q node (nodes_of (live_at c))
  halves_written = record {
    here = front.here ∙ ap (λ (o : Option TreeNode). option_map (front_of n) o) (node_past q (back_of m) a b p back apart ∙ (node_past q (λ _. node) r a p copied apart ∙ is));
    behind =
        node_past p (front_of n) b c q front (λ e. apart (sym e))
        ∙ (back.here ∙ ap (λ (o : Option TreeNode). option_map (back_of m) o) (copied.here ∙ ap (λ (o : Option TreeNode). option_map (λ (_ : TreeNode). node) o) (node_there r q holds_q).1));
  }

  pub halves_touched : Touched (p ∷ q ∷ []) r c
  halves_touched =
      let t1 = touched_by (p ∷ q ∷ []) q (λ _. node) r a (both_held r p q holds_p holds_q) (either_behind p q) copied in
      let t2 = touched_by (p ∷ q ∷ []) q (back_of m) a b t1.holds (either_behind p q) back in
      let t3 = touched_by (p ∷ q ∷ []) p (front_of n) b c t2.holds (either_here p q) front in
      touched_then (p ∷ q ∷ []) r a c t1 (touched_then (p ∷ q ∷ []) a b c t2 t3)

-- and the branch put in
module _ (r c d : RegionState) (p q : Place) (node : TreeNode) (fits : CanStand node) (sixteen : length node.entries ≡ 16) (apart : p ≢ q) (b : Branch) (s : Split) (place : s.place ≡ q) where
  pub low_cut : (i : ℕ) → i < 8 → Halves 8 7 p q node (nodes_of (live_at c)) → WritesNode p (widened i b) c d → take s.len s.key ≡ (entry_at node 7).key
      → CutsInner i b p q node s (nodes_of (live_at d))
  low_cut i low h w key = record {
    here = w.here ∙ (ap (λ (o : Option TreeNode). option_map (widened i b) o) h.here ∙ ap (λ (m : TreeNode). Some m) (low_front node b sixteen fits.children i low));
    behind = node_past p (widened i b) c d q w (λ e. apart (sym e)) ∙ (h.behind ∙ ap (λ (m : TreeNode). Some m) (low_back node b sixteen fits.children i low));
    key = key ∙ ap (λ (e : Entry). e.key) (low_key node b sixteen fits.children i low);
    place = place;
  }

  pub high_cut : (i j : ℕ) → 8 < i → i ≤ 16 → j ≡ i - 9 → Halves 9 8 p q node (nodes_of (live_at c)) → WritesNode q (widened j b) c d → take s.len s.key ≡ (entry_at node 8).key
      → CutsInner i b p q node s (nodes_of (live_at d))
  high_cut i j high within is_j h w key = record {
    here = node_past q (widened j b) c d p w apart ∙ (h.here ∙ ap (λ (m : TreeNode). Some m) (high_front node b sixteen fits.children i (omega arith) within));
    behind = w.here ∙ (ap (λ (o : Option TreeNode). option_map (widened j b) o) h.behind ∙ ap (λ (m : TreeNode). Some m) (high_back node b sixteen fits.children i j (omega arith) within));
    key = key ∙ ap (λ (e : Entry). e.key) (high_key node b sixteen fits.children i high within);
    place = place;
  }

  pub between_cut : (l : ℕ) → l ≡ link_to (Some b.place) → Halves 8 8 p q node (nodes_of (live_at c)) → ChangesNode q (with_child 0 l) c d → take s.len s.key ≡ b.entry.key
      → CutsInner 8 b p q node s (nodes_of (live_at d))
  between_cut l is h w key = record {
    here = node_past q (with_child 0 l) c d p (eases q (with_child 0 l) c d w) apart ∙ (h.here ∙ ap (λ (m : TreeNode). Some m) (high_front node b sixteen fits.children 8 (omega arith) (omega arith)));
    behind =
        w.here ∙ (ap (λ (o : Option TreeNode). option_map (with_child 0 l) o) h.behind
        ∙ (ap (λ k. Some (with_child 0 k (back_of 8 node))) is ∙ ap (λ (m : TreeNode). Some m) (middle_back node b sixteen fits.children)));
    key = key ∙ ap (λ (e : Entry). e.key) (middle_key node b sixteen fits.children);
    place = place;
  }
