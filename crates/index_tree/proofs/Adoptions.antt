-- The children of a node get it as their parent, one after another.
use Rattle.std.proofs.Common.{◌≡◌, ℕ, zero, suc, ◌+◌, ◌<◌, ◌≤◌, inl, inr, List, [], ◌∷◌, length, take, map, get_or, Option, Some, None, option_map, refl, sym, ap, subst, ◌∙◌, arith}
use Rattle.std.specs.Prelude.{IfSome}
use Rattle.std.proofs.lemmas.List.{length-map, length-take-le, get_or-take, take_more}
use Rattle.std.proofs.lemmas.List.Elements.{All-get_or}
use Rattle.regions.specs.Segments.{RegionState}
use Rattle.regions.specs.Contents.{live_at}
use Rattle.regions.specs.declared.place.Place.{Place}
use Rattle.tree_nodes.specs.Nodes.{TreeNode, child_at, no_place}
use Rattle.index_tree.specs.Inserts.{times}
use Rattle.regions.specs.Places.{place_of_link}
use Rattle.index_tree.specs.Links.{with_parent}
use Rattle.index_tree.specs.Splits.{Adopts, child_places}
use Rattle.index_tree.specs.Store.{ChangesNode, HoldsNode, nodes_of}
use Rattle.index_tree.proofs.InsertRows.{all_by_times, times_append, times_here, times_of_all, times_past}
use Rattle.index_tree.proofs.InnerWrites.{fits_there}
use Rattle.place_lemmas.proofs.Places.{place_cases}
use Rattle.index_tree.proofs.Touches.{held_same, held_still, live_same, node_past, node_there, same_then}
use Rattle.index_tree.proofs.Writes.{eases}

pub parent_twice : (o : Option TreeNode) (link : ℕ) → option_map (with_parent link) (option_map (with_parent link) o) ≡ option_map (with_parent link) o
parent_twice None link = refl
parent_twice (Some node) link = refl

pub adopts_one : (ps : List Place) (j link : ℕ) (r s t : RegionState) (d x : Place) → j < length ps → get_or ps j d ≡ x → Adopts (take j ps) ps link r s → ChangesNode x (with_parent link) s t
    → Adopts (take (j + 1) ps) ps link r t
adopts_one ps j link r s t d x within here a c = subst (λ (ds : List Place). Adopts ds ps link r t) (sym (take_more ps j d within)) (record {
  adopted = λ q some. elim (place_cases q x) [
    | inl e ↦ subst (λ (y : Place). nodes_of (live_at t) y ≡ option_map (with_parent link) (nodes_of (live_at r) y)) (sym e) (at_x (times x (take j ps)) refl)
    | inr far ↦
        (let parts = times_append q (take j ps) (get_or ps j d ∷ []) in
        let past : times q (x ∷ []) ≡ 0 = times_past q x [] far in
        let same : times q (get_or ps j d ∷ []) ≡ times q (x ∷ []) = ap (λ (y : Place). times q (y ∷ [])) here in
        node_past x (with_parent link) s t q (eases x (with_parent link) s t c) far ∙ a.adopted q (omega arith))
  ];
  others = λ q none.
      (let parts = times_append q (take j ps) (get_or ps j d ∷ []) in
      let same : times q (get_or ps j d ∷ []) ≡ times q (x ∷ []) = ap (λ (y : Place). times q (y ∷ [])) here in
      c.others q (λ e. (let some : 1 ≤ times q (x ∷ []) = subst (λ (y : Place). 1 ≤ times q (y ∷ [])) e (times_here q []) in absurd (omega arith)))
      ∙ a.others q (omega arith));
  holds = all_by_times (HoldsNode (live_at t)) ps (λ q some. held_still x (with_parent link) s t q (eases x (with_parent link) s t c) (times_of_all (HoldsNode (live_at s)) ps q a.holds some));
  same = same_then r s t a.same (eases x (with_parent link) s t c).same;
})
  where
    at_x : (n : ℕ) → times x (take j ps) ≡ n → nodes_of (live_at t) x ≡ option_map (with_parent link) (nodes_of (live_at r) x)
    at_x zero is = c.here ∙ ap (λ (o : Option TreeNode). option_map (with_parent link) o) (live_same r s x (a.others x is))
    at_x (suc n) is = c.here ∙ (ap (λ (o : Option TreeNode). option_map (with_parent link) o) (a.adopted x (omega arith)) ∙ parent_twice (nodes_of (live_at r) x) link)

pub got_place : (xs : List ℕ) (j : ℕ) (d : Place) → j < length xs → get_or (map place_of_link xs) j d ≡ place_of_link (get_or xs j no_place)
got_place [] j d within = absurd (omega arith)
got_place (x ∷ xs) zero d within = refl
got_place (x ∷ xs) (suc j) d within = got_place xs j d (omega arith)

few_times : (q : Place) (ps : List Place) (j : ℕ) → times q ps ≡ 0 → times q (take j ps) ≡ 0
few_times q ps zero none = refl
few_times q [] (suc j) none = refl
few_times q (p ∷ ps) (suc j) none = let rest = few_times q ps j (omega arith) in omega arith

module _ (r s : RegionState) (at : Place) (n j link : ℕ) (holds : HoldsNode (live_at r) at) (few : n ≤ 17) (within : j < n)
    (apart : times at (child_places n (nodes_of (live_at r) at)) ≡ 0)
    (a : Adopts (take j (child_places n (nodes_of (live_at r) at))) (child_places n (nodes_of (live_at r) at)) link r s) where
  ps : List Place
  ps = child_places n (nodes_of (live_at r) at)

  still : live_at s at ≡ live_at r at
  still = a.others at (few_times at (child_places n (nodes_of (live_at r) at)) j apart)

  pub holds_at : HoldsNode (live_at s) at
  holds_at = held_same r s at still holds

  pub length-places : length (child_places n (nodes_of (live_at r) at)) ≡ n
  length-places =
      let node = node_there r at holds in
      let fits = fits_there r at node.0 holds node.1 in
      let seventeen = fits.children in
      ap (λ (o : Option TreeNode). length (child_places n o)) node.1 ∙ (length-map (take n node.0.children) place_of_link ∙ length-take-le n node.0.children (omega arith))

  pub child_is : (l : ℕ) → IfSome (nodes_of (live_at s) at) (λ node. l ≡ child_at node j) → (p : Place) → p ≡ place_of_link l → get_or (child_places n (nodes_of (live_at r) at)) j at ≡ p
  child_is l is p place =
      let node = node_there r at holds in
      let fits = fits_there r at node.0 holds node.1 in
      let seventeen = fits.children in
      let now : nodes_of (live_at s) at ≡ Some node.0 = live_same r s at still ∙ node.1 in
      let link_is : l ≡ child_at node.0 j = subst (λ (o : Option TreeNode). IfSome o (λ (m : TreeNode). l ≡ child_at m j)) now is in
      let many : length (take n node.0.children) ≡ n = length-take-le n node.0.children (omega arith) in
      ap (λ (o : Option TreeNode). get_or (child_places n o) j at) node.1
      ∙ (got_place (take n node.0.children) j at (omega arith)
      ∙ (ap (λ k. place_of_link k) (get_or-take n node.0.children j no_place within) ∙ (ap (λ k. place_of_link k) (sym link_is) ∙ sym place)))

  pub child_holds : (p : Place) → get_or (child_places n (nodes_of (live_at r) at)) j at ≡ p → HoldsNode (live_at s) p
  child_holds p is = subst (λ (q : Place). HoldsNode (live_at s) q) is (All-get_or (HoldsNode (live_at s)) (child_places n (nodes_of (live_at r) at)) j at (let l = length-places in omega arith) a.holds)

  pub adopts_more : (t : RegionState) (p : Place) → get_or (child_places n (nodes_of (live_at r) at)) j at ≡ p → ChangesNode p (with_parent link) s t
      → Adopts (take (j + 1) (child_places n (nodes_of (live_at r) at))) (child_places n (nodes_of (live_at r) at)) link r t
  adopts_more t p is c = adopts_one (child_places n (nodes_of (live_at r) at)) j link r s t at p (let l = length-places in omega arith) is a c
