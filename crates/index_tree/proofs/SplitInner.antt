-- An inner node cut in two, whose upper children get a parent.
use Rattle.std.proofs.Common.{◌≡◌, ◌≢◌, ℕ, suc, ◌≤◌, List, [], ◌∷◌, All, length, take, drop, map, replicate, Option, Some, option_map, sym, ap, subst, ◌∙◌, arith}
use Rattle.std.specs.Prelude.{IfSome}
use Rattle.std.proofs.lemmas.List.{length-drop, take_all, take_at}
use Rattle.std.proofs.lemmas.List.Edits.{length-insert}
use Rattle.std.proofs.lemmas.List.Elements.{All-cons, All-head, All-tail}
use Rattle.regions.specs.Segments.{RegionState}
use Rattle.regions.specs.Contents.{live_at}
use Rattle.regions.specs.declared.place.Place.{Place}
use Rattle.tree_nodes.specs.Nodes.{TreeNode, no_place}
use Rattle.index_tree.specs.Inserts.{Branch, Touched, times}
use Rattle.regions.specs.Places.{link_to, place_of_link}
use Rattle.index_tree.specs.Links.{with_parent}
use Rattle.index_tree.specs.Splits.{Adopts, AdoptsBeside, CutsInner, child_places, upper_places, wide_children}
use Rattle.index_tree.specs.Store.{HoldsNode, nodes_of}
use Rattle.index_tree.specs.declared.split.Split.{Split}
use Rattle.index_tree.proofs.InnerWrites.{fits_there}
use Rattle.index_tree.proofs.InsertRows.{all_by_times, times_of_all, times_past}
use Rattle.index_tree.proofs.Touches.{held_same, if_value, live_same, node_there, same_then, value_of}

-- a place that is in a list is not one that is not
pub apart_in : (ps : List Place) (q r : Place) → times q ps ≡ 0 → 1 ≤ times r ps → r ≢ q
apart_in ps q r none some e = let there : 1 ≤ times q ps = subst (λ (x : Place). 1 ≤ times x ps) e some in absurd (omega arith)

module _ (r d : RegionState) (p q : Place) (i : ℕ) (b : Branch) (s : Split) (holds_p : HoldsNode (live_at r) p) (within : i ≤ 16)
    (held : IfSome (nodes_of (live_at r) p) (λ node. All (HoldsNode (live_at r)) (upper_places i b node)))
    (not_p : IfSome (nodes_of (live_at r) p) (λ node. times p (upper_places i b node) ≡ 0))
    (not_q : IfSome (nodes_of (live_at r) p) (λ node. times q (upper_places i b node) ≡ 0))
    (cuts : IfSome (nodes_of (live_at r) p) (λ node. CutsInner i b p q node s (nodes_of (live_at d)))) (t : Touched (p ∷ q ∷ []) r d) where
  abbrev node : TreeNode
  node = (node_there r p holds_p).0

  abbrev is : nodes_of (live_at r) p ≡ Some node
  is = (node_there r p holds_p).1

  cut : CutsInner i b p q node s (nodes_of (live_at d))
  cut = value_of (λ (n : TreeNode). CutsInner i b p q n s (nodes_of (live_at d))) (nodes_of (live_at r) p) node is cuts

  ps : List Place
  ps = upper_places i b node

  held_here : All (HoldsNode (live_at r)) (upper_places i b node)
  held_here = value_of (λ (n : TreeNode). All (HoldsNode (live_at r)) (upper_places i b n)) (nodes_of (live_at r) p) node is held

  p_free : times p (upper_places i b node) ≡ 0
  p_free = value_of (λ (n : TreeNode). times p (upper_places i b n) ≡ 0) (nodes_of (live_at r) p) node is not_p

  q_free : times q (upper_places i b node) ≡ 0
  q_free = value_of (λ (n : TreeNode). times q (upper_places i b n) ≡ 0) (nodes_of (live_at r) p) node is not_q

  nine : length (drop 9 (wide_children i b node)) ≡ 9
  nine =
      let fits = fits_there r p node holds_p is in
      let seventeen = fits.children in
      let l = length-insert node.children (suc i) (link_to (Some b.place)) (omega arith) in
      length-drop 9 (wide_children i b node) ∙ omega arith

  pub same_places : child_places 9 (nodes_of (live_at d) q) ≡ upper_places i b node
  same_places =
      ap (λ (o : Option TreeNode). child_places 9 o) cut.behind
      ∙ ap (λ (t : List ℕ). map place_of_link t)
      (take_at (drop 9 (wide_children i b node)) (replicate 8 no_place) 9 nine ∙ sym (whole (drop 9 (wide_children i b node)) nine))
    where
      whole : (xs : List ℕ) → length xs ≡ 9 → take 9 xs ≡ xs
      whole xs l = take_all 9 xs (omega arith)

  still : (x : Place) → 1 ≤ times x (upper_places i b node) → live_at d x ≡ live_at r x
  still x some = t.others x (
      let a = times_past x p (q ∷ []) (apart_in (upper_places i b node) p x p_free some) in
      let c = times_past x q [] (apart_in (upper_places i b node) q x q_free some) in
      omega arith)

  pub places_held : All (HoldsNode (live_at d)) (child_places 9 (nodes_of (live_at d) q))
  places_held =
      subst (λ (ps : List Place). All (HoldsNode (live_at d)) ps) (sym same_places)
      (all_by_times (HoldsNode (live_at d)) (upper_places i b node) (λ x some. held_same r d x (still x some) (times_of_all (HoldsNode (live_at r)) (upper_places i b node) x held_here some)))

  pub places_apart : times q (child_places 9 (nodes_of (live_at d) q)) ≡ 0
  places_apart = ap (λ (ps : List Place). times q ps) same_places ∙ q_free

  pub held_new : HoldsNode (live_at d) q
  held_new = All-head (HoldsNode (live_at d)) q [] (All-tail (HoldsNode (live_at d)) p (q ∷ []) t.holds)

  module _ (e : RegionState) (link : ℕ) (a : Adopts (child_places 9 (nodes_of (live_at d) q)) (child_places 9 (nodes_of (live_at d) q)) link d e) where
    adopts : Adopts (upper_places i b node) (upper_places i b node) link d e
    adopts = subst (λ (ps : List Place). Adopts ps ps link d e) same_places a

    pub split_cut : IfSome (nodes_of (live_at r) p) (λ node. CutsInner i b p q node s (nodes_of (live_at e)))
    split_cut = if_value (λ (n : TreeNode). CutsInner i b p q n s (nodes_of (live_at e))) (nodes_of (live_at r) p) node is (record {
      here = live_same d e p (adopts.others p p_free) ∙ cut.here;
      behind = live_same d e q (adopts.others q q_free) ∙ cut.behind;
      key = cut.key;
      place = cut.place;
    })

    pub split_adopts : IfSome (nodes_of (live_at r) p) (λ node. AdoptsBeside (upper_places i b node) p q link r e)
    split_adopts = if_value (λ (n : TreeNode). AdoptsBeside (upper_places i b n) p q link r e) (nodes_of (live_at r) p) node is (record {
      adopted = λ x some. adopts.adopted x some ∙ ap (λ (o : Option TreeNode). option_map (with_parent link) o) (live_same r d x (still x some));
      others = λ x far_p far_q none.
          adopts.others x none ∙ t.others x (let u = times_past x p (q ∷ []) far_p in let v = times_past x q [] far_q in omega arith);
      holds =
          All-cons (HoldsNode (live_at e)) p (q ∷ upper_places i b node) (held_same d e p (adopts.others p p_free) (All-head (HoldsNode (live_at d)) p (q ∷ []) t.holds))
          (All-cons (HoldsNode (live_at e)) q (upper_places i b node) (held_same d e q (adopts.others q q_free) held_new) adopts.holds);
      same = same_then r d e t.same adopts.same;
    })
