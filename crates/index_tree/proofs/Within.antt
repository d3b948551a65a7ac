-- A tree is one among more nodes too.
use Rattle.std.proofs.Common.{◌≡◌, ℕ, zero, suc, ◌≤◌, List, [], ◌∷◌, ◌++◌, All, length, take, Option, Some, None, refl, sym, ap, subst, ◌∙◌}
use Rattle.std.specs.List.{flat_map}
use Rattle.std.proofs.lemmas.List.Elements.{All-head, All-tail, All-weaker}
use Rattle.regions.specs.declared.place.Place.{Place}
use Rattle.tree_nodes.specs.Nodes.{TreeNode, child_at}
use Rattle.regions.specs.Places.{led_to, link_to}
use Rattle.index_tree.specs.Links.{Nodes}
use Rattle.index_tree.specs.Trees.{AreLinked, IsNodeOf, IsSpare, IsSubtree, IsTree, TreeState, children_of, entries_of, held_below, if_level, index_of, leaves_below, left_of, next_at, next_in, nodes_below, places_of, right_of, row_below}
use Rattle.index_tree.specs.inside.Climbs.{IsTreeIn}
use Rattle.index_tree.proofs.Lists.{AreApart}
use Rattle.place_lemmas.proofs.Places.{leads_on}
use Rattle.index_tree.proofs.Moved.{room_of}
use Rattle.index_tree.proofs.Whole.{Stands, leaves_stand, of_children}

flat_same : {A : Type 0} (f g : ℕ → List A) (xs : List ℕ) → All (λ x. f x ≡ g x) xs → flat_map f xs ≡ flat_map g xs
flat_same f g [] same = refl
flat_same {A} f g (x ∷ xs) same =
    ap (λ (ps : List A). ps ++ flat_map f xs) (All-head (λ y. f y ≡ g y) x xs same) ∙ ap (λ (ps : List A). g x ++ ps) (flat_same f g xs (All-tail (λ y. f y ≡ g y) x xs same))

module _ (few many : Nodes) (within : (p : Place) (node : TreeNode) → few p ≡ Some node → many p ≡ Some node) where
  pub subtree_within : (level : ℕ) (parent : Option Place) (low high : Option (List ℕ)) (p : Place) → IsSubtree few level parent low high p → IsSubtree many level parent low high p
  subtree_within zero parent low high p (node, is, room, of, none) = (node, within p node is, room, of, none)
  subtree_within (suc level) parent low high p (node, is, room, of, inner, children) = (
    node,
    within p node is,
    room,
    of,
    inner,
    λ i short. ((children i short).0, (children i short).1, subtree_within level (Some p) (left_of node low i) (right_of node high i) (children i short).0 (children i short).2),
  )

  gathered_within : {A : Type 0} (level : ℕ) (parent : Option Place) (p : Place) (low high : Option (List ℕ)) (node : TreeNode) (new old : Option Place → List A)
      → few p ≡ Some node → IsNodeOf (suc level) parent low high node
      → ((i : ℕ) → i ≤ length node.entries → (q : Place) × (child_at node i ≡ link_to (Some q)) × IsSubtree few level (Some p) (left_of node low i) (right_of node high i) q)
      → ((q : Place) (lower upper : Option (List ℕ)) → IsSubtree few level (Some p) lower upper q → new (Some q) ≡ old (Some q))
      → flat_map (λ link. new (led_to link)) (children_of (many p)) ≡ flat_map (λ link. old (led_to link)) (children_of (few p))
  gathered_within {A} level parent p low high node new old is of children each =
      let f : ℕ → List A = λ link. new (led_to link) in
      let g : ℕ → List A = λ link. old (led_to link) in
      ap (λ (o : Option TreeNode). flat_map f (children_of o)) (within p node is)
      ∙ (flat_same f g (take (suc (length node.entries)) node.children)
      (of_children few level p low high node parent (λ link. f link ≡ g link) of children
      (λ q lower upper sub.
      let leads = leads_on (Some q) (room_of few level (Some p) lower upper q sub) in
      ap (λ (o : Option Place). new o) leads ∙ (each q lower upper sub ∙ sym (ap (λ (o : Option Place). old o) leads))))
      ∙ sym (ap (λ (o : Option TreeNode). flat_map g (children_of o)) is))

  pub leaves_within : (level : ℕ) (parent : Option Place) (low high : Option (List ℕ)) (p : Place) → IsSubtree few level parent low high p
      → leaves_below many level (Some p) ≡ leaves_below few level (Some p)
  leaves_within zero parent low high p sub = refl
  leaves_within (suc level) parent low high p (node, is, room, of, inner, children) =
      gathered_within level parent p low high node (leaves_below many level) (leaves_below few level) is of children
      (λ q lower upper sub. leaves_within level (Some p) lower upper q sub)

  pub nodes_within : (level : ℕ) (parent : Option Place) (low high : Option (List ℕ)) (p : Place) → IsSubtree few level parent low high p
      → nodes_below many level (Some p) ≡ nodes_below few level (Some p)
  nodes_within zero parent low high p sub = refl
  nodes_within (suc level) parent low high p (node, is, room, of, inner, children) =
      ap (λ ps. p ∷ ps) (gathered_within level parent p low high node (nodes_below many level) (nodes_below few level) is of children
      (λ q lower upper sub. nodes_within level (Some p) lower upper q sub))

  pub rows_within : (k level : ℕ) (parent : Option Place) (low high : Option (List ℕ)) (p : Place) → IsSubtree few level parent low high p
      → row_below many k level (Some p) ≡ row_below few k level (Some p)
  rows_within k zero parent low high p sub = refl
  rows_within k (suc level) parent low high p (node, is, room, of, inner, children) =
      ap (λ ps. if_level k (suc level) p ++ ps) (gathered_within level parent p low high node (row_below many k level) (row_below few k level) is of children
      (λ q lower upper sub. rows_within k level (Some p) lower upper q sub))

  pub held_within : (level : ℕ) (parent : Option Place) (low high : Option (List ℕ)) (p : Place) → IsSubtree few level parent low high p
      → held_below many level (Some p) ≡ held_below few level (Some p)
  held_within zero parent low high p (node, is, room, of, none) = ap (λ (o : Option TreeNode). entries_of o) (within p node is) ∙ sym (ap (λ (o : Option TreeNode). entries_of o) is)
  held_within (suc level) parent low high p (node, is, room, of, inner, children) =
      gathered_within level parent p low high node (held_below many level) (held_below few level) is of children
      (λ q lower upper sub. held_within level (Some p) lower upper q sub)

  linked_within : (ps : List Place) → All (Stands few) ps → AreLinked few ps → AreLinked many ps
  linked_within [] all linked = tt
  linked_within (p ∷ []) all linked = next_within p (All-head (Stands few) p [] all) ∙ linked
    where
      next_within : (p : Place) → Stands few p → next_at many p ≡ next_at few p
      next_within p (room, (node, is)) = ap (λ (o : Option TreeNode). next_in o) (within p node is) ∙ sym (ap (λ (o : Option TreeNode). next_in o) is)
  linked_within (p ∷ q ∷ ps) all linked =
      (next_within p (All-head (Stands few) p (q ∷ ps) all) ∙ linked.0, linked_within (q ∷ ps) (All-tail (Stands few) p (q ∷ ps) all) linked.1)
    where
      next_within : (p : Place) → Stands few p → next_at many p ≡ next_at few p
      next_within p (room, (node, is)) = ap (λ (o : Option TreeNode). next_in o) (within p node is) ∙ sym (ap (λ (o : Option TreeNode). next_in o) is)

  module _ (t : TreeState) (tree : IsTree few t) where
    below_within : (o : Option Place) → t.root ≡ o → nodes_below many t.level o ≡ nodes_below few t.level o
    below_within None e = refl
    below_within (Some root) e = nodes_within t.level None None None root (tree.rooted root e)

    pub index_within : index_of many t ≡ index_of few t
    index_within = go t.root refl
      where
        go : (o : Option Place) → t.root ≡ o → held_below many t.level o ≡ held_below few t.level o
        go None e = refl
        go (Some root) e = held_within t.level None None None root (tree.rooted root e)

    pub row_within : (k : ℕ) → row_below many k t.level t.root ≡ row_below few k t.level t.root
    row_within k = go t.root refl
      where
        go : (o : Option Place) → t.root ≡ o → row_below many k t.level o ≡ row_below few k t.level o
        go None e = refl
        go (Some root) e = rows_within k t.level None None None root (tree.rooted root e)

    pub places_within : places_of many t ≡ places_of few t
    places_within = ap (λ ps. t.spares ++ ps) (below_within t.root refl)

    pub tree_within : IsTreeIn many t
    tree_within = record {
      rooted = λ p e. subtree_within t.level None None None p (tree.rooted p e);
      linked = go t.root refl;
      idle = All-weaker (IsSpare few) (IsSpare many)
          (λ p s. record { node = s.node; is = within p s.node s.is; room = s.room; parent = s.parent; next = s.next; children = s.children }) t.spares tree.idle;
      apart = subst (λ ps. AreApart ps) (sym places_within) tree.apart;
    }
      where
        go : (o : Option Place) → t.root ≡ o → AreLinked many (leaves_below many t.level o)
        go None e = tt
        go (Some root) e =
            let sub = tree.rooted root e in
            subst (λ (ps : List Place). AreLinked many ps) (sym (leaves_within t.level None None None root sub))
            (linked_within (leaves_below few t.level (Some root)) (leaves_stand few t.level None None None root sub)
            (subst (λ (o : Option Place). AreLinked few (leaves_below few t.level o)) e tree.linked))
