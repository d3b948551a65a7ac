-- Nodes that agree below a place: the same tree stands there, and holds the same.
use Rattle.std.proofs.Common.{◌≡◌, ◌≢◌, ℕ, zero, suc, ◌^◌, ◌<◌, ◌≤◌, List, [], ◌∷◌, ◌++◌, All, length, Option, Some, None, option_map, refl, sym, ap, subst, ◌∙◌, arith}
use Rattle.std.specs.List.{flat_map}
use Rattle.std.proofs.lemmas.List.{take_at, drop_at}
use Rattle.std.proofs.lemmas.List.Elements.{All-nil, All-cons, All-head, All-tail, All-take, All-drop}
use Rattle.regions.specs.declared.place.Place.{Place}
use Rattle.tree_nodes.specs.Nodes.{TreeNode, CanStand}
use Rattle.regions.specs.Places.{led_to, link_to}
use Rattle.index_tree.specs.Links.{Nodes, with_parent}
use Rattle.index_tree.specs.Limits.{fewest_entries}
use Rattle.index_tree.specs.Trees.{IsNodeOf, IsSubtree, children_of, entries_of, held_below, if_level, leaves_below, nodes_below, row_below}
use Rattle.index_tree.specs.Inserts.{Branch, of_row}
use Rattle.place_lemmas.proofs.Places.{HasRoomIf}
use Rattle.index_tree.proofs.FrameRows.{Opened, close_node, gathered, open_node, row_map, row_same}

pub all_front : {A : Type 0} (P : A → Type 0) (xs ys : List A) → All P (xs ++ ys) → All P xs
all_front {A} P xs ys all = subst (λ (t : List A). All P t) (take_at xs ys (length xs) refl) (All-take P (length xs) (xs ++ ys) all)

pub all_back : {A : Type 0} (P : A → Type 0) (xs ys : List A) → All P (xs ++ ys) → All P ys
all_back {A} P xs ys all = subst (λ (t : List A). All P t) (drop_at xs ys (length xs) refl) (All-drop P (length xs) (xs ++ ys) all)

pub all_parts : {X A : Type 0} (P : A → Type 0) (f : X → List A) (xs : List X) → All P (flat_map f xs) → All (λ x. All P (f x)) xs
all_parts P f [] all = All-nil (λ x. All P (f x))
all_parts P f (x ∷ xs) all =
    All-cons (λ y. All P (f y)) x xs (all_front P (f x) (flat_map f xs) all) (all_parts P f xs (all_back P (f x) (flat_map f xs) all))

-- what lies below the children of the node at a place
abbrev pub below_children : Nodes → ℕ → Place → List Place
below_children nodes zero p = []
below_children nodes (suc level) p = flat_map (λ link. nodes_below nodes level (led_to link)) (children_of (nodes p))

pub nodes_from : (nodes : Nodes) (level : ℕ) (p : Place) → nodes_below nodes level (Some p) ≡ p ∷ below_children nodes level p
nodes_from nodes zero p = refl
nodes_from nodes (suc level) p = refl

module _ (nodes new : Nodes) where
  abbrev pub Agrees : Place → Type 0
  Agrees r = new r ≡ nodes r

  abbrev pub AgreeBelow : ℕ → Place → Type 0
  AgreeBelow level q = All Agrees (nodes_below nodes level (Some q))

  -- those of a node's children, where those below it agree
  pub children_agree : (level : ℕ) (parent : Option Place) (low high : Option (List ℕ)) (p : Place) (o : Opened nodes level parent low high p)
      → All Agrees (below_children nodes (suc level) p) → AgreeBelow level o.first × All (λ (b : Branch). AgreeBelow level b.place) o.branches
  children_agree level parent low high p o all =
      let g : Option Place → List Place = nodes_below nodes level in
      let them : All Agrees (of_row g o.first o.branches) = subst (λ (t : List Place). All Agrees t) (gathered g nodes level parent low high p o) all in (
        all_front Agrees (g (Some o.first)) (flat_map (λ (b : Branch). g (Some b.place)) o.branches) them,
        all_parts Agrees (λ (b : Branch). g (Some b.place)) o.branches (all_back Agrees (g (Some o.first)) (flat_map (λ (b : Branch). g (Some b.place)) o.branches) them),
      )

  pub frame_subtree : (level : ℕ) (parent : Option Place) (low high : Option (List ℕ)) (p : Place) → IsSubtree nodes level parent low high p → AgreeBelow level p
      → IsSubtree new level parent low high p
  frame_subtree zero parent low high p (node, is, here, of, none) all = (node, All-head Agrees p [] all ∙ is, here, of, none)
  frame_subtree (suc level) parent low high p sub all =
      let o = open_node nodes level parent low high p sub in
      let these = children_agree level parent low high p o (All-tail Agrees p (below_children nodes (suc level) p) all) in
      close_node new level parent low high p (record {
        node = o.node;
        is = All-head Agrees p (below_children nodes (suc level) p) all ∙ o.is;
        room = o.room;
        of = o.of;
        inner = o.inner;
        first = o.first;
        branches = o.branches;
        entries = o.entries;
        links = o.links;
        row = row_map nodes new level (Some p) (Some p) (AgreeBelow level) (λ l h q s a. frame_subtree level (Some p) l h q s a) o.first o.branches low high o.row these.0 these.1;
      })

  -- what is gathered of the children of a node that has as many entries and the same children
  gathered_same : {A : Type 0} (g h : Option Place → List A) (level : ℕ) (parent : Option Place) (low high : Option (List ℕ)) (p : Place) (o : Opened nodes level parent low high p)
      → children_of (new p) ≡ children_of (nodes p) → All Agrees (below_children nodes (suc level) p)
      → ((l u : Option (List ℕ)) (q : Place) → IsSubtree nodes level (Some p) l u q → AgreeBelow level q → h (Some q) ≡ g (Some q))
      → flat_map (λ link. h (led_to link)) (children_of (new p)) ≡ flat_map (λ link. g (led_to link)) (children_of (nodes p))
  gathered_same g h level parent low high p o same all each =
      let these = children_agree level parent low high p o all in
      ap (λ (ls : List ℕ). flat_map (λ link. h (led_to link)) ls) same
      ∙ (gathered h nodes level parent low high p o
      ∙ (row_same g h nodes level (Some p) (AgreeBelow level) each o.first o.branches low high o.row these.0 these.1
      ∙ sym (gathered g nodes level parent low high p o)))

  pub frame_nodes : (level : ℕ) (parent : Option Place) (low high : Option (List ℕ)) (p : Place) → IsSubtree nodes level parent low high p → AgreeBelow level p
      → nodes_below new level (Some p) ≡ nodes_below nodes level (Some p)
  frame_nodes zero parent low high p sub all = refl
  frame_nodes (suc level) parent low high p sub all =
      ap (λ (t : List Place). p ∷ t) (gathered_same (nodes_below nodes level) (nodes_below new level) level parent low high p (open_node nodes level parent low high p sub)
      (ap (λ (m : Option TreeNode). children_of m) (All-head Agrees p (below_children nodes (suc level) p) all)) (All-tail Agrees p (below_children nodes (suc level) p) all)
      (λ l u q s a. frame_nodes level (Some p) l u q s a))

  pub frame_leaves : (level : ℕ) (parent : Option Place) (low high : Option (List ℕ)) (p : Place) → IsSubtree nodes level parent low high p → AgreeBelow level p
      → leaves_below new level (Some p) ≡ leaves_below nodes level (Some p)
  frame_leaves zero parent low high p sub all = refl
  frame_leaves (suc level) parent low high p sub all =
      gathered_same (leaves_below nodes level) (leaves_below new level) level parent low high p (open_node nodes level parent low high p sub)
      (ap (λ (m : Option TreeNode). children_of m) (All-head Agrees p (below_children nodes (suc level) p) all)) (All-tail Agrees p (below_children nodes (suc level) p) all)
      (λ l u q s a. frame_leaves level (Some p) l u q s a)

  pub frame_rows : (k level : ℕ) (parent : Option Place) (low high : Option (List ℕ)) (p : Place) → IsSubtree nodes level parent low high p → AgreeBelow level p
      → row_below new k level (Some p) ≡ row_below nodes k level (Some p)
  frame_rows k zero parent low high p sub all = refl
  frame_rows k (suc level) parent low high p sub all =
      ap (λ (t : List Place). if_level k (suc level) p ++ t)
      (gathered_same (row_below nodes k level) (row_below new k level) level parent low high p (open_node nodes level parent low high p sub)
      (ap (λ (m : Option TreeNode). children_of m) (All-head Agrees p (below_children nodes (suc level) p) all)) (All-tail Agrees p (below_children nodes (suc level) p) all)
      (λ l u q s a. frame_rows k level (Some p) l u q s a))

  pub frame_held : (level : ℕ) (parent : Option Place) (low high : Option (List ℕ)) (p : Place) → IsSubtree nodes level parent low high p → AgreeBelow level p
      → held_below new level (Some p) ≡ held_below nodes level (Some p)
  frame_held zero parent low high p sub all = ap (λ (m : Option TreeNode). entries_of m) (All-head Agrees p [] all)
  frame_held (suc level) parent low high p sub all =
      gathered_same (held_below nodes level) (held_below new level) level parent low high p (open_node nodes level parent low high p sub)
      (ap (λ (m : Option TreeNode). children_of m) (All-head Agrees p (below_children nodes (suc level) p) all)) (All-tail Agrees p (below_children nodes (suc level) p) all)
      (λ l u q s a. frame_held level (Some p) l u q s a)

  -- ---- under another parent

  pub small_link : (o : Option Place) → HasRoomIf o → link_to o < 2 ^ 64
  small_link None room = omega arith
  small_link (Some p) room = let s = room.0 in let a = room.1 in omega (arith, s, a)

  adopted_stands : (node : TreeNode) (link : ℕ) → link < 2 ^ 64 → CanStand node → CanStand (with_parent link node)
  adopted_stands node link small fits = record {
    parent = small;
    level = fits.level;
    next_leaf = fits.next_leaf;
    few = fits.few;
    entries = fits.entries;
    children = fits.children;
    places = fits.places;
  }

  adopted : (level : ℕ) (parent other : Option Place) (low high : Option (List ℕ)) (node : TreeNode) → HasRoomIf other → (other ≢ None → fewest_entries ≤ length node.entries)
      → IsNodeOf level parent low high node → IsNodeOf level other low high (with_parent (link_to other) node)
  adopted level parent other low high node room many of = record {
    level_is = of.level_is;
    parent_is = refl;
    stands = adopted_stands node (link_to other) (small_link other room) of.stands;
    rising = of.rising;
    from = of.from;
    up_to = of.up_to;
    many = many;
  }

  -- how many entries the node at a place has
  abbrev pub HasMany : Option Place → Place → Type 0
  HasMany other p = other ≢ None → fewest_entries ≤ length (entries_of (nodes p))

  pub adopted_subtree : (level : ℕ) (parent other : Option Place) (low high : Option (List ℕ)) (p : Place) → HasRoomIf other → HasMany other p
      → IsSubtree nodes level parent low high p → new p ≡ option_map (with_parent (link_to other)) (nodes p) → All Agrees (below_children nodes level p)
      → IsSubtree new level other low high p
  adopted_subtree zero parent other low high p room many (node, is, here, of, none) now all = (
    with_parent (link_to other) node,
    now ∙ ap (λ (m : Option TreeNode). option_map (with_parent (link_to other)) m) is,
    here,
    adopted zero parent other low high node room (λ some. subst (λ (m : Option TreeNode). fewest_entries ≤ length (entries_of m)) is (many some)) of,
    none,
  )
  adopted_subtree (suc level) parent other low high p room many sub now all =
      let o = open_node nodes level parent low high p sub in
      let these = children_agree level parent low high p o all in
      close_node new level other low high p (record {
        node = with_parent (link_to other) o.node;
        is = now ∙ ap (λ (m : Option TreeNode). option_map (with_parent (link_to other)) m) o.is;
        room = o.room;
        of = adopted (suc level) parent other low high o.node room (λ some. subst (λ (m : Option TreeNode). fewest_entries ≤ length (entries_of m)) o.is (many some)) o.of;
        inner = record { some = o.inner.some; numbers = o.inner.numbers; next = o.inner.next; others = o.inner.others };
        first = o.first;
        branches = o.branches;
        entries = o.entries;
        links = o.links;
        row = row_map nodes new level (Some p) (Some p) (AgreeBelow level) (λ l h q s a. frame_subtree level (Some p) l h q s a) o.first o.branches low high o.row these.0 these.1;
      })

  same_children : (p : Place) (link : ℕ) → new p ≡ option_map (with_parent link) (nodes p) → children_of (new p) ≡ children_of (nodes p)
  same_children p link now = ap (λ (m : Option TreeNode). children_of m) now ∙ go (nodes p)
    where
      go : (m : Option TreeNode) → children_of (option_map (with_parent link) m) ≡ children_of m
      go None = refl
      go (Some node) = refl

  same_entries : (p : Place) (link : ℕ) → new p ≡ option_map (with_parent link) (nodes p) → entries_of (new p) ≡ entries_of (nodes p)
  same_entries p link now = ap (λ (m : Option TreeNode). entries_of m) now ∙ go (nodes p)
    where
      go : (m : Option TreeNode) → entries_of (option_map (with_parent link) m) ≡ entries_of m
      go None = refl
      go (Some node) = refl

  pub adopted_nodes : (level : ℕ) (parent : Option Place) (low high : Option (List ℕ)) (p : Place) (link : ℕ)
      → IsSubtree nodes level parent low high p → new p ≡ option_map (with_parent link) (nodes p) → All Agrees (below_children nodes level p)
      → nodes_below new level (Some p) ≡ nodes_below nodes level (Some p)
  adopted_nodes zero parent low high p link sub now all = refl
  adopted_nodes (suc level) parent low high p link sub now all =
      ap (λ (t : List Place). p ∷ t) (gathered_same (nodes_below nodes level) (nodes_below new level) level parent low high p (open_node nodes level parent low high p sub)
      (same_children p link now) all (λ l u q s a. frame_nodes level (Some p) l u q s a))

  pub adopted_leaves : (level : ℕ) (parent : Option Place) (low high : Option (List ℕ)) (p : Place) (link : ℕ)
      → IsSubtree nodes level parent low high p → new p ≡ option_map (with_parent link) (nodes p) → All Agrees (below_children nodes level p)
      → leaves_below new level (Some p) ≡ leaves_below nodes level (Some p)
  adopted_leaves zero parent low high p link sub now all = refl
  adopted_leaves (suc level) parent low high p link sub now all =
      gathered_same (leaves_below nodes level) (leaves_below new level) level parent low high p (open_node nodes level parent low high p sub)
      (same_children p link now) all (λ l u q s a. frame_leaves level (Some p) l u q s a)

  pub adopted_rows : (k level : ℕ) (parent : Option Place) (low high : Option (List ℕ)) (p : Place) (link : ℕ)
      → IsSubtree nodes level parent low high p → new p ≡ option_map (with_parent link) (nodes p) → All Agrees (below_children nodes level p)
      → row_below new k level (Some p) ≡ row_below nodes k level (Some p)
  adopted_rows k zero parent low high p link sub now all = refl
  adopted_rows k (suc level) parent low high p link sub now all =
      ap (λ (t : List Place). if_level k (suc level) p ++ t)
      (gathered_same (row_below nodes k level) (row_below new k level) level parent low high p (open_node nodes level parent low high p sub)
      (same_children p link now) all (λ l u q s a. frame_rows k level (Some p) l u q s a))

  pub adopted_held : (level : ℕ) (parent : Option Place) (low high : Option (List ℕ)) (p : Place) (link : ℕ)
      → IsSubtree nodes level parent low high p → new p ≡ option_map (with_parent link) (nodes p) → All Agrees (below_children nodes level p)
      → held_below new level (Some p) ≡ held_below nodes level (Some p)
  adopted_held zero parent low high p link sub now all = same_entries p link now
  adopted_held (suc level) parent low high p link sub now all =
      gathered_same (held_below nodes level) (held_below new level) level parent low high p (open_node nodes level parent low high p sub)
      (same_children p link now) all (λ l u q s a. frame_held level (Some p) l u q s a)
