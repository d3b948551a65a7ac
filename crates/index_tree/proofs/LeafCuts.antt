-- A full leaf cut in two, write by write.
use Rattle.std.proofs.Common.{◌≡◌, ◌≢◌, ℕ, ◌-◌, ◌<◌, ◌≤◌, List, [], ◌∷◌, ◌++◌, length, take, drop, get_or, Option, Some, option_map, refl, sym, ap, subst, ◌∙◌, arith}
use Rattle.std.specs.Prelude.{IfSome}
use Rattle.std.specs.List.{insert}
use Rattle.std.proofs.lemmas.List.{append-nil, length-take-le, length-drop, take-append-drop, drop_all}
use Rattle.std.proofs.lemmas.List.Edits.{insert-append_left, insert-append_right, length-insert}
use Rattle.regions.specs.Segments.{RegionState}
use Rattle.regions.specs.Contents.{live_at}
use Rattle.regions.specs.declared.place.Place.{Place}
use Rattle.tree_nodes.specs.Nodes.{Entry, TreeNode, entry_at, no_entry}
use Rattle.index_tree.specs.Inserts.{Touched}
use Rattle.regions.specs.Places.{link_to}
use Rattle.index_tree.specs.Links.{with_next}
use Rattle.index_tree.specs.Splits.{AddsToHalf, CutsLeaf, refilled}
use Rattle.index_tree.specs.Store.{ChangesNode, HoldsNode, nodes_of}
use Rattle.index_tree.specs.Trees.{entries_of}
use Rattle.index_tree.specs.Writes.{WritesNode, with_entry, without_entries}
use Rattle.index_tree.specs.declared.split.Split.{Split}
use Rattle.index_tree.proofs.Touches.{both_held, either_behind, either_here, node_past, node_there, touched_by, touched_then, value_of}
use Rattle.index_tree.proofs.Writes.{eases}

module _ (r s : RegionState) (p q : Place) (i : ℕ) (e : Entry) (holds_p : HoldsNode (live_at r) p) (holds_q : HoldsNode (live_at r) q) (apart : p ≢ q)
    (half : IfSome (nodes_of (live_at r) p) (λ node. length node.entries ≡ 8)) (other : IfSome (nodes_of (live_at r) q) (λ node. length node.entries ≡ 8)) where
  pub add_low : i ≤ 8 → WritesNode p (with_entry i e) r s → AddsToHalf i e p q (nodes_of (live_at r)) (nodes_of (live_at s))
  add_low low w =
      let a = node_there r p holds_p in
      let b = node_there r q holds_q in
      let xs : List Entry = a.0.entries in
      let ys : List Entry = b.0.entries in
      let eight : length xs ≡ 8 = value_of (λ (node : TreeNode). length node.entries ≡ 8) (nodes_of (live_at r) p) a.0 a.1 half in
      let eight2 : length ys ≡ 8 = value_of (λ (node : TreeNode). length node.entries ≡ 8) (nodes_of (live_at r) q) b.0 b.1 other in
      let longer = length-insert xs i e (omega arith) in
      record {
        lower = insert xs i e;
        upper = ys;
        parts =
            ap (λ (o : Option TreeNode). insert (entries_of o ++ entries_of (nodes_of (live_at r) q)) i e) a.1
            ∙ (ap (λ (o : Option TreeNode). insert (xs ++ entries_of o) i e) b.1 ∙ insert-append_left xs ys i e (omega arith));
        lower_many = (omega arith, omega arith);
        upper_many = (omega arith, omega arith);
        here = w.here ∙ (ap (λ (o : Option TreeNode). option_map (with_entry i e) o) a.1 ∙ sym (ap (λ (o : Option TreeNode). option_map (refilled (insert xs i e)) o) a.1));
        behind = node_past p (with_entry i e) r s q w (λ x. apart (sym x)) ∙ (b.1 ∙ sym (ap (λ (o : Option TreeNode). option_map (refilled ys) o) b.1));
      }

  pub add_high : 8 < i → i ≤ 16 → WritesNode q (with_entry (i - 8) e) r s → AddsToHalf i e p q (nodes_of (live_at r)) (nodes_of (live_at s))
  add_high high within w =
      let a = node_there r p holds_p in
      let b = node_there r q holds_q in
      let xs : List Entry = a.0.entries in
      let ys : List Entry = b.0.entries in
      let eight : length xs ≡ 8 = value_of (λ (node : TreeNode). length node.entries ≡ 8) (nodes_of (live_at r) p) a.0 a.1 half in
      let eight2 : length ys ≡ 8 = value_of (λ (node : TreeNode). length node.entries ≡ 8) (nodes_of (live_at r) q) b.0 b.1 other in
      let longer = length-insert ys (i - 8) e (omega arith) in
      record {
        lower = xs;
        upper = insert ys (i - 8) e;
        parts =
            ap (λ (o : Option TreeNode). insert (entries_of o ++ entries_of (nodes_of (live_at r) q)) i e) a.1
            ∙ (ap (λ (o : Option TreeNode). insert (xs ++ entries_of o) i e) b.1 ∙ insert-append_right xs ys 8 i e eight (omega arith));
        lower_many = (omega arith, omega arith);
        upper_many = (omega arith, omega arith);
        here = node_past q (with_entry (i - 8) e) r s p w apart ∙ (a.1 ∙ sym (ap (λ (o : Option TreeNode). option_map (refilled xs) o) a.1));
        behind = w.here ∙ (ap (λ (o : Option TreeNode). option_map (with_entry (i - 8) e) o) b.1 ∙ sym (ap (λ (o : Option TreeNode). option_map (refilled (insert ys (i - 8) e)) o) b.1));
      }

-- what is seen of both nodes after two and three of the writes
pub seen_linked_q : (r a b : RegionState) (p q : Place) (node : TreeNode) → HoldsNode (live_at r) q → p ≢ q → WritesNode q (λ _. node) r a → ChangesNode p (with_next (link_to (Some q))) a b
    → nodes_of (live_at b) q ≡ Some node
seen_linked_q r a b p q node holds apart copied linked =
    node_past p (with_next (link_to (Some q))) a b q (eases p (with_next (link_to (Some q))) a b linked) (λ x. apart (sym x))
    ∙ (copied.here ∙ ap (λ (o : Option TreeNode). option_map (λ (_ : TreeNode). node) o) (node_there r q holds).1)

pub seen_linked_p : (r a b c : RegionState) (p q : Place) (node : TreeNode) → p ≢ q → nodes_of (live_at r) p ≡ Some node → WritesNode q (λ _. node) r a
    → ChangesNode p (with_next (link_to (Some q))) a b → WritesNode q (without_entries 0 8) b c → nodes_of (live_at c) p ≡ Some (with_next (link_to (Some q)) node)
seen_linked_p r a b c p q node apart is copied linked upper =
    node_past q (without_entries 0 8) b c p upper apart
    ∙ (linked.here ∙ ap (λ (o : Option TreeNode). option_map (with_next (link_to (Some q))) o) (node_past q (λ _. node) r a p copied apart ∙ is))

-- the four writes, and an entry put into a half
module _ (r a b c d : RegionState) (p q : Place) (node : TreeNode) (holds_p : HoldsNode (live_at r) p) (holds_q : HoldsNode (live_at r) q) (apart : p ≢ q)
    (is : nodes_of (live_at r) p ≡ Some node) (full : length node.entries ≡ 16)
    (copied : WritesNode q (λ _. node) r a) (linked : ChangesNode p (with_next (link_to (Some q))) a b)
    (upper : WritesNode q (without_entries 0 8) b c) (lower : WritesNode p (without_entries 8 8) c d) where
  apart_too : q ≢ p
  apart_too x = apart (sym x)

  copied_q : nodes_of (live_at a) q ≡ Some node
  copied_q = copied.here ∙ ap (λ (o : Option TreeNode). option_map (λ (_ : TreeNode). node) o) (node_there r q holds_q).1

  copied_p : nodes_of (live_at a) p ≡ Some node
  copied_p = node_past q (λ _. node) r a p copied apart ∙ is

  link : WritesNode p (with_next (link_to (Some q))) a b
  link = eases p (with_next (link_to (Some q))) a b linked

  linked_p : nodes_of (live_at b) p ≡ Some (with_next (link_to (Some q)) node)
  linked_p = linked.here ∙ ap (λ (o : Option TreeNode). option_map (with_next (link_to (Some q))) o) copied_p

  pub linked_q : nodes_of (live_at b) q ≡ Some node
  linked_q = node_past p (with_next (link_to (Some q))) a b q link apart_too ∙ copied_q

  pub cut_p : nodes_of (live_at c) p ≡ Some (with_next (link_to (Some q)) node)
  cut_p = node_past q (without_entries 0 8) b c p upper apart ∙ linked_p

  cut_q : nodes_of (live_at c) q ≡ Some (refilled (drop 8 node.entries) node)
  cut_q = upper.here ∙ ap (λ (o : Option TreeNode). option_map (without_entries 0 8) o) linked_q

  pub done_p : nodes_of (live_at d) p ≡ Some (refilled (take 8 node.entries) (with_next (link_to (Some q)) node))
  done_p =
      lower.here ∙ (ap (λ (o : Option TreeNode). option_map (without_entries 8 8) o) cut_p
      ∙ ap (λ (t : List Entry). Some (refilled (take 8 node.entries ++ t) (with_next (link_to (Some q)) node))) (drop_all 16 node.entries (omega arith))
      ∙ ap (λ (t : List Entry). Some (refilled t (with_next (link_to (Some q)) node))) (append-nil (take 8 node.entries)))

  pub done_q : nodes_of (live_at d) q ≡ Some (refilled (drop 8 node.entries) node)
  done_q = node_past p (without_entries 8 8) c d q lower apart_too ∙ cut_q

  pub lower_eight : length (take 8 node.entries) ≡ 8
  lower_eight = length-take-le 8 node.entries (omega arith)

  pub upper_eight : length (drop 8 node.entries) ≡ 8
  upper_eight = length-drop 8 node.entries ∙ omega arith

  ps : List Place
  ps = p ∷ q ∷ []

  touched_d : Touched (p ∷ q ∷ []) r d
  touched_d =
      let t1 = touched_by (p ∷ q ∷ []) q (λ _. node) r a (both_held r p q holds_p holds_q) (either_behind p q) copied in
      let t2 = touched_by (p ∷ q ∷ []) p (with_next (link_to (Some q))) a b t1.holds (either_here p q) link in
      let t3 = touched_by (p ∷ q ∷ []) q (without_entries 0 8) b c t2.holds (either_behind p q) upper in
      let t4 = touched_by (p ∷ q ∷ []) p (without_entries 8 8) c d t3.holds (either_here p q) lower in
      touched_then (p ∷ q ∷ []) r a d t1 (touched_then (p ∷ q ∷ []) a b d t2 (touched_then (p ∷ q ∷ []) b c d t3 t4))

  pub all_touched : (t : RegionState) → Touched (p ∷ q ∷ []) d t → Touched (p ∷ q ∷ []) r t
  all_touched t more = touched_then (p ∷ q ∷ []) r d t touched_d more

  pub leaf_cut : (t : RegionState) (i : ℕ) (e : Entry) (s : Split) → AddsToHalf i e p q (nodes_of (live_at d)) (nodes_of (live_at t)) → s.place ≡ q
      → IfSome (nodes_of (live_at t) q) (λ n. take s.len s.key ≡ (entry_at n 0).key) → CutsLeaf i e p q node s (nodes_of (live_at t))
  leaf_cut t i e s h place key = go h.upper refl
    where
      whole : insert node.entries i e ≡ h.lower ++ h.upper
      whole =
          ap (λ (t : List Entry). insert t i e) (sym (take-append-drop 8 node.entries))
          ∙ (sym (ap (λ (o : Option TreeNode). insert (entries_of o ++ entries_of (nodes_of (live_at d) q)) i e) done_p
          ∙ ap (λ (o : Option TreeNode). insert (take 8 node.entries ++ entries_of o) i e) done_q) ∙ h.parts)

      now_q : nodes_of (live_at t) q ≡ Some (refilled h.upper node)
      now_q = h.behind ∙ ap (λ (o : Option TreeNode). option_map (refilled h.upper) o) done_q

      now_p : nodes_of (live_at t) p ≡ Some (refilled h.lower (with_next (link_to (Some q)) node))
      now_p = h.here ∙ ap (λ (o : Option TreeNode). option_map (refilled h.lower) o) done_p

      go : (ys : List Entry) → h.upper ≡ ys → CutsLeaf i e p q node s (nodes_of (live_at t))
      go [] none = absurd (let many = h.upper_many in let l : length h.upper ≡ 0 = ap (λ (t : List Entry). length t) none in omega (arith, many.0, l))
      go (d2 ∷ ys) are = record {
        front = h.lower;
        first = d2;
        rest = ys;
        parts = whole ∙ ap (λ (t : List Entry). h.lower ++ t) are;
        front_many = (h.lower_many.0, let m = h.lower_many.1 in omega arith);
        rest_many = (subst (λ (t : List Entry). 8 ≤ length t) are h.upper_many.0, let m : length (d2 ∷ ys) ≤ 9 = subst (λ (t : List Entry). length t ≤ 9) are h.upper_many.1 in omega arith);
        here = now_p;
        behind = now_q ∙ ap (λ (t : List Entry). Some (refilled t node)) are;
        key = value_of (λ (n : TreeNode). take s.len s.key ≡ (entry_at n 0).key) (nodes_of (live_at t) q) (refilled h.upper node) now_q key ∙ ap (λ (t : List Entry). (get_or t 0 no_entry).key) are;
        place = place;
      }
