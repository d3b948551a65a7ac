-- What lies below a place rises, and one step down the way of a key.
use Rattle.std.proofs.Common.{◌≡◌, ℕ, zero, suc, ◌+◌, ◌-◌, ◌<◌, ◌≤◌, List, [], ◌∷◌, ◌++◌, All, length, take, drop, get_or, Option, Some, sym, ap, subst, ◌∙◌, arith, append_assoc, append-nil}
use Rattle.std.specs.Prelude.{IfSome}
use Rattle.std.specs.List.{flat_map}
use Rattle.std.proofs.lemmas.Grind.{flat_map-append}
use Rattle.std.proofs.lemmas.List.Elements.{All-nil, All-append, All-from_get_or}
use Rattle.regions.specs.declared.place.Place.{Place}
use Rattle.tree_nodes.specs.Nodes.{Entry, TreeNode, child_at, no_place}
use Rattle.tree_nodes.specs.Order.{AreRising, IsBelow}
use Rattle.index_tree.specs.Indexes.{from, number_of}
use Rattle.regions.specs.Places.{led_to, link_to}
use Rattle.index_tree.specs.Links.{Nodes}
use Rattle.index_tree.specs.Trees.{IsNodeOf, IsSubtree, children_of, entries_of, held_below, leaves_below, left_of, right_of}
use Rattle.index_tree.specs.Ways.{AllAbove, AllBelow, IsOnWay, LeadsTo, held_in}
use Rattle.place_lemmas.proofs.Places.{some_same}
use Rattle.index_tree.proofs.SearchLists.{from_amid, number_amid, rising_gathered}
use Rattle.index_tree.proofs.SearchDown.{behind_above, child_is, child_place, children_apart, front_below, gathered_at, gathered_twice, held_in_leaves, led_on, length-links, links}

module _ (nodes : Nodes) where
  pub held_rises : (level : ℕ) (parent : Option Place) (low high : Option (List ℕ)) (p : Place) → IsSubtree nodes level parent low high p → AreRising (held_below nodes level (Some p))
  held_rises zero parent low high p (node, is, here, of, none) = subst (λ (o : Option TreeNode). AreRising (entries_of o)) (sym is) of.rising
  held_rises (suc level) parent low high p (node, is, here, of, inner, children) =
      let cs : List ℕ = links nodes level parent low high p node of children in
      let f : ℕ → List Entry = λ link. held_below nodes level (led_to link) in
      let long = length-links nodes level parent low high p node of children in
      let inside : (i : ℕ) → i < length cs → i ≤ length node.entries = λ i short. omega (arith, long, short) in
      let is_child : (i : ℕ) (short : i < length cs) → f (get_or cs i no_place) ≡ held_below nodes level (Some (child_place nodes level parent low high p node of children i (inside i short))) =
      λ i short. ap (λ (o : Option Place). held_below nodes level o) (child_is nodes level parent low high p node of children i (inside i short)) in
      subst (λ (o : Option TreeNode). AreRising (flat_map f (children_of o))) (sym is)
      (rising_gathered f cs no_place
      (All-from_get_or (λ l. AreRising (f l)) cs no_place
      (λ i short. subst (λ es. AreRising es) (sym (is_child i short))
      (held_rises level (Some p) (left_of node low i) (right_of node high i) (child_place nodes level parent low high p node of children i (inside i short)) (children i (inside i short)).2)))
      (λ i j less short.
      let near : i < length cs = omega arith in
      subst (λ es. All (λ e. All (λ g. IsBelow e.key g.key) (f (get_or cs j no_place))) es) (sym (is_child i near))
      (subst (λ es. All (λ e. All (λ g. IsBelow e.key g.key) es) (held_below nodes level (Some (child_place nodes level parent low high p node of children i (inside i near))))) (sym (is_child j short))
      (children_apart nodes level parent low high p node of children i j (inside i near) (inside j short) less))))

  -- the root is on the way of each key
  pub starts : (level : ℕ) (p : Place) (key : List ℕ) → IsOnWay nodes (leaves_below nodes level (Some p)) key level p
  starts level p key = record {
    front = [];
    behind = [];
    leaves_are = sym (append-nil (leaves_below nodes level (Some p)));
    below = All-nil (λ e. IsBelow e.key key);
    above = All-nil (λ e. IsBelow key e.key);
  }

  -- a child on the way, and that it is a tree
  pub record GoesDown (leaves : List Place) (key : List ℕ) (level : ℕ) (p : Place) (low high : Option (List ℕ)) (node : TreeNode) (i : ℕ) : Type 0 where
    pub child : Place
    pub link : child_at node i ≡ link_to (Some child)
    pub leads : led_to (link_to (Some child)) ≡ Some child
    pub tree : IsSubtree nodes level (Some p) (left_of node low i) (right_of node high i) child
    pub way : IsOnWay nodes leaves key level child

  pub down : (level : ℕ) (parent : Option Place) (low high : Option (List ℕ)) (p : Place) (leaves : List Place) (key : List ℕ) (i : ℕ) (node : TreeNode)
      → IsSubtree nodes (suc level) parent low high p → IsOnWay nodes leaves key (suc level) p → nodes p ≡ Some node → LeadsTo node key i
      → GoesDown leaves key level p low high node i
  down level parent low high p leaves key i node (found, is, here, of, inner, children) way known leads_to =
      subst (λ (n : TreeNode). GoesDown leaves key level p low high n i) same (at_found (subst (λ (n : TreeNode). LeadsTo n key i) (sym same) leads_to))
    where
      same : found ≡ node
      same = some_same is known

      at_found : LeadsTo found key i → GoesDown leaves key level p low high found i
      at_found leads =
          let cs : List ℕ = links nodes level parent low high p found of children in
          let q : Place = child_place nodes level parent low high p found of children i leads.within in
          let g : ℕ → List Place = λ link. leaves_below nodes level (led_to link) in
          let h : Option Place → List Entry = λ o. held_in nodes (leaves_below nodes level o) in
          let entries : Place → List Entry = λ r. entries_of (nodes r) in
          let before : List Place = flat_map g (take i cs) in
          let after : List Place = flat_map g (drop (i + 1) cs) in
          let gathered : leaves_below nodes (suc level) (Some p) ≡ before ++ (leaves_below nodes level (Some q) ++ after) =
          ap (λ (o : Option TreeNode). flat_map g (children_of o)) is ∙ gathered_at nodes level parent low high p found of children (λ o. leaves_below nodes level o) i leads.within in
          record {
            child = q;
            link = (children i leads.within).1;
            leads = led_on nodes level parent low high p found of children i leads.within;
            tree = (children i leads.within).2;
            way = record {
              front = way.front ++ before;
              behind = after ++ way.behind;
              leaves_are =
                  way.leaves_are
                  ∙ (ap (λ t. way.front ++ (t ++ way.behind)) gathered
                  ∙ (ap (λ t. way.front ++ t) (append_assoc before (leaves_below nodes level (Some q) ++ after) way.behind ∙ ap (λ t. before ++ t) (append_assoc (leaves_below nodes level (Some q)) after way.behind))
                  ∙ sym (append_assoc way.front before (leaves_below nodes level (Some q) ++ (after ++ way.behind)))));
              below =
                  subst (λ es. AllBelow key es) (sym (flat_map-append entries way.front before))
                  (All-append (λ e. IsBelow e.key key) (held_in nodes way.front) (held_in nodes before) way.below
                  (subst (λ es. AllBelow key es) (sym (gathered_twice entries g (take i cs)))
                  (front_below nodes level parent low high p found of children key i leads h (held_in_leaves nodes level))));
              above =
                  subst (λ es. AllAbove key es) (sym (flat_map-append entries after way.behind))
                  (All-append (λ e. IsBelow key e.key) (held_in nodes after) (held_in nodes way.behind)
                  (subst (λ es. AllAbove key es) (sym (gathered_twice entries g (drop (i + 1) cs)))
                  (behind_above nodes level parent low high p found of children key i leads h (held_in_leaves nodes level)))
                  way.above);
            };
          }

  -- a place on the way, and that it is a tree
  pub record IsTreeOnWay (leaves : List Place) (key : List ℕ) (level : ℕ) (p : Place) : Type 0 where
    pub parent : Option Place
    pub low : Option (List ℕ)
    pub high : Option (List ℕ)
    pub tree : IsSubtree nodes level parent low high p
    pub way : IsOnWay nodes leaves key level p

  pub steps : (leaves : List Place) (key : List ℕ) (left : ℕ) (p : Place) (i link : ℕ) → 0 < left → IsTreeOnWay leaves key left p → IfSome (nodes p) (λ node. LeadsTo node key i)
      → IfSome (nodes p) (λ node. link ≡ child_at node i) → (q : Place) × (led_to link ≡ Some q) × IsTreeOnWay leaves key (left - 1) q
  steps leaves key zero p i link some on leads is_child = absurd (omega arith)
  steps leaves key (suc k) p i link some on leads is_child =
      let node : TreeNode = on.tree.0 in
      let is : nodes p ≡ Some node = on.tree.1 in
      let goes = down k on.parent on.low on.high p leaves key i node on.tree on.way is (subst (λ (o : Option TreeNode). IfSome o (λ n. LeadsTo n key i)) is leads) in
      let leads_on : led_to link ≡ Some goes.child =
      ap (λ l. led_to l) (subst (λ (o : Option TreeNode). IfSome o (λ n. link ≡ child_at n i)) is is_child ∙ goes.link) ∙ goes.leads in (
        goes.child,
        leads_on,
        subst (λ n. IsTreeOnWay leaves key n goes.child) {x = k} {y = suc k - 1} (omega arith)
            (record { parent = Some p; low = left_of node on.low i; high = right_of node on.high i; tree = goes.tree; way = goes.way }),
      )

  pub node_of_tree : (level : ℕ) (parent : Option Place) (low high : Option (List ℕ)) (p : Place) → IsSubtree nodes level parent low high p
      → (node : TreeNode) × (nodes p ≡ Some node) × IsNodeOf level parent low high node
  node_of_tree zero parent low high p (node, is, here, of, none) = (node, is, of)
  node_of_tree (suc level) parent low high p (node, is, here, of, inner, children) = (node, is, of)

  pub tree_rises : (level : ℕ) (parent : Option Place) (low high : Option (List ℕ)) (p : Place) → IsSubtree nodes level parent low high p
      → IfSome (nodes p) (λ node. AreRising node.entries)
  tree_rises level parent low high p tree =
      let found = node_of_tree level parent low high p tree in
      subst (λ (o : Option TreeNode). IfSome o (λ node. AreRising node.entries)) (sym found.1) found.2.rising

  pub leads_within : (level : ℕ) (parent : Option Place) (low high : Option (List ℕ)) (p : Place) (key : List ℕ) (i : ℕ) → IsSubtree nodes level parent low high p
      → IfSome (nodes p) (λ node. LeadsTo node key i) → i ≤ 16
  leads_within level parent low high p key i tree leads =
      let found = node_of_tree level parent low high p tree in
      let to : LeadsTo found.0 key i = subst (λ (o : Option TreeNode). IfSome o (λ node. LeadsTo node key i)) found.1 leads in
      let within = to.within in let few = found.2.stands.few in omega (arith, within, few)

  -- what all hold, at the end of the way
  three : (level : ℕ) (o : Option Place) (key : List ℕ) (p : Place) (way : IsOnWay nodes (leaves_below nodes level o) key zero p)
      → held_below nodes level o ≡ held_in nodes way.front ++ (entries_of (nodes p) ++ held_in nodes way.behind)
  three level o key p way =
      let entries : Place → List Entry = λ r. entries_of (nodes r) in
      sym (held_in_leaves nodes level o) ∙ (ap (λ ps. held_in nodes ps) way.leaves_are ∙ flat_map-append entries way.front (p ∷ way.behind))

  pub number_there : (level : ℕ) (o : Option Place) (key : List ℕ) (p : Place) → IsOnWay nodes (leaves_below nodes level o) key zero p
      → number_of key (held_below nodes level o) ≡ number_of key (entries_of (nodes p))
  number_there level o key p way =
      ap (λ es. number_of key es) (three level o key p way) ∙ number_amid key (held_in nodes way.front) (entries_of (nodes p)) (held_in nodes way.behind) way.below way.above

  pub from_there : (level : ℕ) (o : Option Place) (key : List ℕ) (p : Place) (way : IsOnWay nodes (leaves_below nodes level o) key zero p)
      → from key (held_below nodes level o) ≡ from key (entries_of (nodes p)) ++ held_in nodes way.behind
  from_there level o key p way =
      ap (λ es. from key es) (three level o key p way) ∙ from_amid key (held_in nodes way.front) (entries_of (nodes p)) (held_in nodes way.behind) way.below way.above
