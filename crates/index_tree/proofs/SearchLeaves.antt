-- What the leaves below a place are.
use Rattle.std.proofs.Common.{◌≡◌, ◌≢◌, ℕ, zero, suc, ◌≤◌, List, [], ◌∷◌, ◌++◌, All, length, Option, Some, None, refl, sym, ap, subst, ◌∙◌, arith, length-append}
use Rattle.std.specs.Prelude.{IfSome}
use Rattle.std.specs.List.{flat_map}
use Rattle.std.proofs.lemmas.List.Elements.{All-nil, All-cons, All-head, All-tail}
use Rattle.regions.specs.declared.place.Place.{Place}
use Rattle.tree_nodes.specs.Nodes.{TreeNode, CanStand}
use Rattle.tree_nodes.specs.Order.{AreRising}
use Rattle.regions.specs.Places.{HasRoom, led_to}
use Rattle.index_tree.specs.Links.{Nodes}
use Rattle.index_tree.specs.Trees.{IsSubtree, children_of, leaves_below, left_of, right_of}
use Rattle.index_tree.specs.Ways.{IsOnWay}
use Rattle.place_lemmas.proofs.Places.{some_none}
use Rattle.index_tree.proofs.SearchDown.{child_place, of_all}
use Rattle.index_tree.proofs.Frame.{all_back}

-- a node stands at a place, and its keys rise
pub record IsLeaf (nodes : Nodes) (p : Place) : Type 0 where
  pub room : HasRoom p
  pub node : TreeNode
  pub is : nodes p ≡ Some node
  pub stands : CanStand node
  pub rising : AreRising node.entries

-- it has as many keys as a node that is not the root
abbrev pub IsFull : Nodes → Place → Type 0
IsFull nodes p = IfSome (nodes p) (λ node. 8 ≤ length node.entries)

module _ (nodes : Nodes) where
  pub leaves_below_are : (level : ℕ) (parent : Option Place) (low high : Option (List ℕ)) (p : Place) → IsSubtree nodes level parent low high p → All (IsLeaf nodes) (leaves_below nodes level (Some p))
  leaves_below_are zero parent low high p (node, is, here, of, none) =
      All-cons (IsLeaf nodes) p [] (record { room = here; node = node; is = is; stands = of.stands; rising = of.rising }) (All-nil (IsLeaf nodes))
  leaves_below_are (suc level) parent low high p (node, is, here, of, inner, children) =
      let g : Option Place → List Place = λ o. leaves_below nodes level o in
      subst (λ (o : Option TreeNode). All (IsLeaf nodes) (flat_map (λ link. g (led_to link)) (children_of o))) (sym is)
      (of_all nodes level parent low high p node of children (IsLeaf nodes) g
      (λ i within. leaves_below_are level (Some p) (left_of node low i) (right_of node high i) (child_place nodes level parent low high p node of children i within) (children i within).2))

  pub leaves_full : (level : ℕ) (parent : Option Place) (low high : Option (List ℕ)) (p : Place) → IsSubtree nodes level parent low high p → parent ≢ None
      → All (IsFull nodes) (leaves_below nodes level (Some p))
  leaves_full zero parent low high p (node, is, here, of, none) some =
      All-cons (IsFull nodes) p [] (subst (λ (o : Option TreeNode). IfSome o (λ n. 8 ≤ length n.entries)) (sym is) (of.many some)) (All-nil (IsFull nodes))
  leaves_full (suc level) parent low high p (node, is, here, of, inner, children) some =
      let g : Option Place → List Place = λ o. leaves_below nodes level o in
      subst (λ (o : Option TreeNode). All (IsFull nodes) (flat_map (λ link. g (led_to link)) (children_of o))) (sym is)
      (of_all nodes level parent low high p node of children (IsFull nodes) g
      (λ i within. leaves_full level (Some p) (left_of node low i) (right_of node high i) (child_place nodes level parent low high p node of children i within) (children i within).2
      (λ e. some_none refl e)))

  -- those behind a leaf of a whole tree
  pub behind_full : (level : ℕ) (p : Place) → IsSubtree nodes level None None None p → (front behind : List Place) (q : Place) → leaves_below nodes level (Some p) ≡ front ++ (q ∷ behind)
      → All (IsFull nodes) behind
  behind_full zero p tree front behind q are = only front are
    where
      only : (front : List Place) → p ∷ [] ≡ front ++ (q ∷ behind) → All (IsFull nodes) behind
      only [] e = subst (λ (ps : List Place). All (IsFull nodes) ps) (let none : [] ≡ behind = cc in none) (All-nil (IsFull nodes))
      only (r ∷ front) e =
          let long = length-append front (q ∷ behind) in
          let same = ap (λ (ps : List Place). length ps) e in
          absurd (omega (arith, long, same))
  behind_full (suc level) p (node, is, here, of, inner, children) front behind q are =
      let g : Option Place → List Place = λ o. leaves_below nodes level o in
      All-tail (IsFull nodes) q behind
      (all_back (IsFull nodes) front (q ∷ behind)
      (subst (λ (ps : List Place). All (IsFull nodes) ps) (sym (ap (λ (o : Option TreeNode). flat_map (λ link. g (led_to link)) (children_of o)) is) ∙ are)
      (of_all nodes level None None None p node of children (IsFull nodes) g
      (λ i within. leaves_full level (Some p) (left_of node None i) (right_of node None i) (child_place nodes level None None None p node of children i within) (children i within).2
      (λ e. some_none refl e)))))

  -- a leaf on the way, and those behind it
  pub way_leaves : (level : ℕ) (p : Place) (key : List ℕ) (q : Place) → IsSubtree nodes level None None None p → (way : IsOnWay nodes (leaves_below nodes level (Some p)) key zero q)
      → All (IsLeaf nodes) (q ∷ way.behind)
  way_leaves level p key q tree way =
      all_back (IsLeaf nodes) way.front (q ∷ way.behind)
      (subst (λ (ps : List Place). All (IsLeaf nodes) ps) way.leaves_are (leaves_below_are level None None None p tree))

  pub way_leaf : (level : ℕ) (p : Place) (key : List ℕ) (q : Place) → IsSubtree nodes level None None None p → IsOnWay nodes (leaves_below nodes level (Some p)) key zero q → IsLeaf nodes q
  way_leaf level p key q tree way = All-head (IsLeaf nodes) q way.behind (way_leaves level p key q tree way)

  pub leaf_rises : (p : Place) → IsLeaf nodes p → IfSome (nodes p) (λ node. AreRising node.entries)
  leaf_rises p leaf = subst (λ (o : Option TreeNode). IfSome o (λ node. AreRising node.entries)) (sym leaf.is) leaf.rising
