-- A move of one node keeps the whole tree: its leaves in order, no node twice, and every node.
use Rattle.std.proofs.Common.{◌≡◌, ◌≢◌, ℕ, zero, suc, ◌≤◌, inl, inr, List, [], ◌∷◌, ◌++◌, All, length, take, map, get_or, Option, Some, None, cond, option_map, refl, sym, ap, subst, ◌∙◌, arith}
use Rattle.std.specs.List.{flat_map, slice_get}
use Rattle.std.proofs.lemmas.List.{length-take-le, take-map, map-append, get_or-take}
use Rattle.std.proofs.lemmas.List.Elements.{All-nil, All-cons, All-append, All-head, All-tail, All-weaker, All-from_get_or}
use Rattle.regions.specs.Stores.{renamed}
use Rattle.regions.specs.declared.place.Place.{Place}
use Rattle.tree_nodes.specs.Nodes.{TreeNode, child_at, no_place}
use Rattle.regions.specs.Places.{HasRoom, led_to, link_to}
use Rattle.index_tree.specs.Links.{Nodes}
use Rattle.index_tree.specs.Trees.{AreLinked, IsNodeOf, IsSpare, IsSubtree, IsTree, TreeState, children_of, leaves_below, left_of, next_at, next_in, nodes_below, places_of, right_of}
use Rattle.index_tree.specs.Moves.{mended, moved, moved_tree, relinked}
use Rattle.place_lemmas.proofs.Places.{leads_on, option_cases, place_cases, place_tells, renamed_here, renamed_past, some_is, some_none}
use Rattle.index_tree.proofs.Moved.{moved_past, node_moved, none_mended, relinked_none, relinked_place, room_of, room_renamed, rooted_moved}

flat_map_mapped : (f g : ℕ → List Place) (h : Place → Place) (r : ℕ → ℕ) (xs : List ℕ) → All (λ x. f (r x) ≡ map h (g x)) xs → flat_map f (map r xs) ≡ map h (flat_map g xs)
flat_map_mapped f g h r [] same = refl
flat_map_mapped f g h r (x ∷ xs) same =
    ap (λ t. t ++ flat_map f (map r xs)) (All-head (λ y. f (r y) ≡ map h (g y)) x xs same)
    ∙ (ap (λ t. map h (g x) ++ t) (flat_map_mapped f g h r xs (All-tail (λ y. f (r y) ≡ map h (g y)) x xs same)) ∙ sym (map-append h (g x) (flat_map g xs)))

pub all_flat_map : (P : Place → Type 0) (f : ℕ → List Place) (xs : List ℕ) → All (λ x. All P (f x)) xs → All P (flat_map f xs)
all_flat_map P f [] all = All-nil P
all_flat_map P f (x ∷ xs) all =
    All-append P (f x) (flat_map f xs) (All-head (λ y. All P (f y)) x xs all) (all_flat_map P f xs (All-tail (λ y. All P (f y)) x xs all))

-- the element at an index, and that of what a function makes of each
pub got_mapped : (h : Place → Place) (xs : List Place) (i : ℕ) (p : Place) → slice_get xs i ≡ Some p → slice_get (map h xs) i ≡ Some (h p)
got_mapped h [] i p e = some_none e refl
got_mapped h (x ∷ xs) zero p e = ap (λ (q : Place). Some (h q)) (some_is e)
got_mapped h (x ∷ xs) (suc i) p e = got_mapped h xs i p e

pub got_from : (h : Place → Place) (xs : List Place) (i : ℕ) (p : Place) → slice_get (map h xs) i ≡ Some p → (q : Place) × (slice_get xs i ≡ Some q) × (h q ≡ p)
got_from h [] i p e = some_none e refl
got_from h (x ∷ xs) zero p e = (x, refl, some_is e)
got_from h (x ∷ xs) (suc i) p e = got_from h xs i p e

pub got_all : (P : Place → Type 0) (xs : List Place) (i : ℕ) (p : Place) → All P xs → slice_get xs i ≡ Some p → P p
got_all P [] i p all e = some_none e refl
got_all P (x ∷ xs) zero p all e = subst P (some_is e) (All-head P x xs all)
got_all P (x ∷ xs) (suc i) p all e = got_all P xs i p (All-tail P x xs all) e

-- a node stands at the place, which can be led to
abbrev pub Stands : Nodes → Place → Type 0
Stands nodes p = HasRoom p × ((node : TreeNode) × (nodes p ≡ Some node))

module _ (nodes : Nodes) where
  abbrev pub Children : ℕ → Place → Option (List ℕ) → Option (List ℕ) → TreeNode → Type 0
  Children level p low high node =
      (i : ℕ) → i ≤ length node.entries → (q : Place) × (child_at node i ≡ link_to (Some q)) × IsSubtree nodes level (Some p) (left_of node low i) (right_of node high i) q

  pub of_children : (level : ℕ) (p : Place) (low high : Option (List ℕ)) (node : TreeNode) (parent : Option Place) (P : ℕ → Type 0) → IsNodeOf (suc level) parent low high node
      → Children level p low high node
      → ((q : Place) (lower upper : Option (List ℕ)) → IsSubtree nodes level (Some p) lower upper q → P (link_to (Some q)))
      → All P (take (suc (length node.entries)) node.children)
  of_children level p low high node parent P of children each =
      let many = of.stands.children in
      let few = of.stands.few in
      let k = suc (length node.entries) in
      All-from_get_or P (take k node.children) no_place
      (λ i short.
      let size : length (take k node.children) ≡ k = length-take-le k node.children (omega (arith, many, few)) in
      let within : i ≤ length node.entries = omega (arith, short, size) in
      let link : get_or (take k node.children) i no_place ≡ link_to (Some (children i within).0) = get_or-take k node.children i no_place (omega arith) ∙ (children i within).1 in
      subst P (sym link) (each (children i within).0 (left_of node low i) (right_of node high i) (children i within).2))

  pub leaves_stand : (level : ℕ) (parent : Option Place) (low high : Option (List ℕ)) (p : Place) → IsSubtree nodes level parent low high p → All (Stands nodes) (leaves_below nodes level (Some p))
  leaves_stand zero parent low high p (node, is, here, of, none) = All-cons (Stands nodes) p [] (here, (node, is)) (All-nil (Stands nodes))
  leaves_stand (suc level) parent low high p (node, is, here, of, inner, children) =
      let gather : ℕ → List Place = λ link. leaves_below nodes level (led_to link) in
      subst (λ (o : Option TreeNode). All (Stands nodes) (flat_map gather (children_of o))) (sym is)
      (all_flat_map (Stands nodes) gather (take (suc (length node.entries)) node.children)
      (of_children level p low high node parent (λ link. All (Stands nodes) (gather link)) of children
      (λ q lower upper sub. subst (λ (o : Option Place). All (Stands nodes) (leaves_below nodes level o)) (sym (leads_on (Some q) (room_of nodes level (Some p) lower upper q sub)))
      (leaves_stand level (Some p) lower upper q sub))))

  pub nodes_stand : (level : ℕ) (parent : Option Place) (low high : Option (List ℕ)) (p : Place) → IsSubtree nodes level parent low high p → All (Stands nodes) (nodes_below nodes level (Some p))
  nodes_stand zero parent low high p (node, is, here, of, none) = All-cons (Stands nodes) p [] (here, (node, is)) (All-nil (Stands nodes))
  nodes_stand (suc level) parent low high p (node, is, here, of, inner, children) =
      let gather : ℕ → List Place = λ link. nodes_below nodes level (led_to link) in
      All-cons (Stands nodes) p (flat_map gather (children_of (nodes p))) (here, (node, is))
      (subst (λ (o : Option TreeNode). All (Stands nodes) (flat_map gather (children_of o))) (sym is)
      (all_flat_map (Stands nodes) gather (take (suc (length node.entries)) node.children)
      (of_children level p low high node parent (λ link. All (Stands nodes) (gather link)) of children
      (λ q lower upper sub. subst (λ (o : Option Place). All (Stands nodes) (nodes_below nodes level o)) (sym (leads_on (Some q) (room_of nodes level (Some p) lower upper q sub)))
      (nodes_stand level (Some p) lower upper q sub)))))

module _ (nodes : Nodes) (from to : Place) (room_from : HasRoom from) (room_to : HasRoom to) (far : from ≢ to) (free : nodes to ≡ None) where
  -- what is gathered of a node's children
  gathered_moved : (level : ℕ) (parent : Option Place) (p : Place) (low high : Option (List ℕ)) (node : TreeNode) (new old : Option Place → List Place)
      → nodes p ≡ Some node → IsNodeOf (suc level) parent low high node → Children nodes level p low high node
      → ((q : Place) (lower upper : Option (List ℕ)) → IsSubtree nodes level (Some p) lower upper q → new (Some (renamed from to q)) ≡ map (renamed from to) (old (Some q)))
      → flat_map (λ link. new (led_to link)) (children_of (moved from to nodes (renamed from to p))) ≡ map (renamed from to) (flat_map (λ link. old (led_to link)) (children_of (nodes p)))
  gathered_moved level parent p low high node new old is of children each =
      let k = suc (length node.entries) in
      let f : ℕ → List Place = λ link. new (led_to link) in
      let g : ℕ → List Place = λ link. old (led_to link) in
      let all : All (λ link. f (relinked from to link) ≡ map (renamed from to) (g link)) (take k node.children) =
      of_children nodes level p low high node parent (λ link. f (relinked from to link) ≡ map (renamed from to) (g link)) of children
      (λ q lower upper sub.
      let room = room_of nodes level (Some p) lower upper q sub in
      ap (λ l. f l) (relinked_place nodes from to room_from room_to far free (Some q) room)
      ∙ (ap (λ (o : Option Place). new o) (leads_on (Some (renamed from to q)) (room_renamed nodes from to room_from room_to far free q room))
      ∙ (each q lower upper sub ∙ sym (ap (λ (o : Option Place). map (renamed from to) (old o)) (leads_on (Some q) room))))) in
      ap (λ (o : Option TreeNode). flat_map f (children_of o)) (node_moved nodes from to room_from room_to far free p node is)
      ∙ (ap (λ (links : List ℕ). flat_map f links) (take-map (relinked from to) k node.children)
      ∙ (flat_map_mapped f g (renamed from to) (relinked from to) (take k node.children) all
      ∙ sym (ap (λ (o : Option TreeNode). map (renamed from to) (flat_map g (children_of o))) is)))

  leaves_moved : (level : ℕ) (parent : Option Place) (low high : Option (List ℕ)) (p : Place) → IsSubtree nodes level parent low high p
      → leaves_below (moved from to nodes) level (Some (renamed from to p)) ≡ map (renamed from to) (leaves_below nodes level (Some p))
  leaves_moved zero parent low high p (node, is, here, of, none) = refl
  leaves_moved (suc level) parent low high p (node, is, here, of, inner, children) =
      gathered_moved level parent p low high node (leaves_below (moved from to nodes) level) (leaves_below nodes level) is of children
      (λ q lower upper sub. leaves_moved level (Some p) lower upper q sub)

  nodes_moved : (level : ℕ) (parent : Option Place) (low high : Option (List ℕ)) (p : Place) → IsSubtree nodes level parent low high p
      → nodes_below (moved from to nodes) level (Some (renamed from to p)) ≡ map (renamed from to) (nodes_below nodes level (Some p))
  nodes_moved zero parent low high p (node, is, here, of, none) = refl
  nodes_moved (suc level) parent low high p (node, is, here, of, inner, children) =
      ap (λ t. renamed from to p ∷ t) (gathered_moved level parent p low high node (nodes_below (moved from to nodes) level) (nodes_below nodes level) is of children
      (λ q lower upper sub. nodes_moved level (Some p) lower upper q sub))

  next_moved : (p : Place) → Stands nodes p → next_at (moved from to nodes) (renamed from to p) ≡ relinked from to (next_at nodes p)
  next_moved p (room, (node, is)) =
      ap (λ (o : Option TreeNode). next_in o) (node_moved nodes from to room_from room_to far free p node is) ∙ sym (ap (λ (o : Option TreeNode). relinked from to (next_in o)) is)

  linked_moved : (ps : List Place) → All (Stands nodes) ps → AreLinked nodes ps → AreLinked (moved from to nodes) (map (renamed from to) ps)
  linked_moved [] all linked = linked
  linked_moved (p ∷ []) all linked =
      next_moved p (All-head (Stands nodes) p [] all) ∙ (ap (λ l. relinked from to l) linked ∙ relinked_none nodes from to room_from room_to far free)
  linked_moved (p ∷ q ∷ ps) all linked =
      let behind = All-tail (Stands nodes) p (q ∷ ps) all in (
        next_moved p (All-head (Stands nodes) p (q ∷ ps) all) ∙ (ap (λ l. relinked from to l) linked.0 ∙ relinked_place nodes from to room_from room_to far free (Some q) (All-head (Stands nodes) q ps behind).0),
        linked_moved (q ∷ ps) behind linked.1,
      )

  not_to : (p : Place) → Stands nodes p → p ≢ to
  not_to p (room, (node, is)) e = some_none is (ap (λ (q : Place). nodes q) e ∙ free)

  pub renamed_apart : (p q : Place) → Stands nodes p → Stands nodes q → renamed from to p ≡ renamed from to q → p ≡ q
  renamed_apart p q stands_p stands_q e = elim (place_cases from p) [
    | inl a ↦
        elim (place_cases from q) [
          | inl b ↦ sym a ∙ b
          | inr b ↦ absurd (not_to q stands_q (sym (renamed_past from to q b) ∙ (sym e ∙ (ap (λ (r : Place). renamed from to r) (sym a) ∙ renamed_here from to))))
        ]
    | inr a ↦
        elim (place_cases from q) [
          | inl b ↦ absurd (not_to p stands_p (sym (renamed_past from to p a) ∙ (e ∙ (ap (λ (r : Place). renamed from to r) (sym b) ∙ renamed_here from to))))
          | inr b ↦ sym (renamed_past from to p a) ∙ (e ∙ renamed_past from to q b)
        ]
  ]

  -- where a node stands after the move, there was one before
  pub came_from : (p : Place) (node : TreeNode) → moved from to nodes p ≡ Some node → (q : Place) × ((old : TreeNode) × (nodes q ≡ Some old)) × (renamed from to q ≡ p)
  came_from p node is = elim (place_tells from p) [
    | inl e ↦ some_none is (ap (λ b. cond b None (option_map (mended from to) (nodes (renamed to from p)))) e.0)
    | inr n ↦
        (let there : option_map (mended from to) (nodes (renamed to from p)) ≡ Some node = sym (moved_past nodes from to room_from room_to far free p n.1) ∙ is in
        let old : (m : TreeNode) × (nodes (renamed to from p) ≡ Some m) = elim (option_cases (nodes (renamed to from p))) [
          | inl e ↦ some_none there (ap (λ (o : Option TreeNode). option_map (mended from to) o) e)
          | inr e ↦ e
        ] in
        (renamed to from p, old, back p n.1))
  ]
    where
      back : (p : Place) → from ≢ p → renamed from to (renamed to from p) ≡ p
      back p other = elim (place_cases to p) [
        | inl e ↦ ap (λ (q : Place). renamed from to (renamed to from q)) (sym e) ∙ (ap (λ (q : Place). renamed from to q) (renamed_here to from) ∙ (renamed_here from to ∙ e))
        | inr n ↦ ap (λ (q : Place). renamed from to q) (renamed_past to from p n) ∙ renamed_past from to p other
      ]

  spare_moved : (p : Place) → IsSpare nodes p → IsSpare (moved from to nodes) (renamed from to p)
  spare_moved p s = record {
    node = mended from to s.node;
    is = node_moved nodes from to room_from room_to far free p s.node s.is;
    room = room_renamed nodes from to room_from room_to far free p s.room;
    parent = ap (λ l. relinked from to l) s.parent ∙ relinked_none nodes from to room_from room_to far free;
    next = ap (λ l. relinked from to l) s.next ∙ relinked_none nodes from to room_from room_to far free;
    children = none_mended nodes from to room_from room_to far free s.node.children s.children;
  }

  spares_moved : (ps : List Place) → All (IsSpare nodes) ps → All (IsSpare (moved from to nodes)) (map (renamed from to) ps)
  spares_moved [] all = All-nil (IsSpare (moved from to nodes))
  spares_moved (p ∷ ps) all =
      All-cons (IsSpare (moved from to nodes)) (renamed from to p) (map (renamed from to) ps) (spare_moved p (All-head (IsSpare nodes) p ps all))
      (spares_moved ps (All-tail (IsSpare nodes) p ps all))

  module _ (t : TreeState) (tree : IsTree nodes t) where
    below_are : (o : Option Place) → t.root ≡ o → nodes_below (moved from to nodes) t.level (option_map (renamed from to) o) ≡ map (renamed from to) (nodes_below nodes t.level o)
    below_are None e = refl
    below_are (Some root) e = nodes_moved t.level None None None root (tree.rooted root e)

    places_are : places_of (moved from to nodes) (moved_tree from to t) ≡ map (renamed from to) (places_of nodes t)
    places_are = ap (λ ps. map (renamed from to) t.spares ++ ps) (below_are t.root refl) ∙ sym (map-append (renamed from to) t.spares (nodes_below nodes t.level t.root))

    below_stand : (o : Option Place) → t.root ≡ o → All (Stands nodes) (nodes_below nodes t.level o)
    below_stand None e = All-nil (Stands nodes)
    below_stand (Some root) e = nodes_stand nodes t.level None None None root (tree.rooted root e)

    pub all_stand : All (Stands nodes) (places_of nodes t)
    all_stand =
        All-append (Stands nodes) t.spares (nodes_below nodes t.level t.root)
        (All-weaker (IsSpare nodes) (Stands nodes) (λ p s. (s.room, (s.node, s.is))) t.spares tree.idle) (below_stand t.root refl)

    linked_still : (o : Option Place) → t.root ≡ o → AreLinked (moved from to nodes) (leaves_below (moved from to nodes) t.level (option_map (renamed from to) o))
    linked_still None e = tt
    linked_still (Some root) e =
        subst (λ (ps : List Place). AreLinked (moved from to nodes) ps)
        (sym (leaves_moved t.level None None None root (tree.rooted root e)))
        (linked_moved (leaves_below nodes t.level (Some root)) (leaves_stand nodes t.level None None None root (tree.rooted root e))
        (subst (λ (o : Option Place). AreLinked nodes (leaves_below nodes t.level o)) e tree.linked))

    pub tree_moved : IsTree (moved from to nodes) (moved_tree from to t)
    tree_moved = record {
      rooted = rooted_moved nodes from to room_from room_to far free t tree.rooted;
      linked = linked_still t.root refl;
      idle = spares_moved t.spares tree.idle;
      apart = λ i j p at_i at_j.
          (let a = got_from (renamed from to) (places_of nodes t) i p (sym (ap (λ (ps : List Place). slice_get ps i) places_are) ∙ at_i) in
          let b = got_from (renamed from to) (places_of nodes t) j p (sym (ap (λ (ps : List Place). slice_get ps j) places_are) ∙ at_j) in
          let same : a.0 ≡ b.0 = renamed_apart a.0 b.0 (got_all (Stands nodes) (places_of nodes t) i a.0 all_stand a.1) (got_all (Stands nodes) (places_of nodes t) j b.0 all_stand b.1) (a.2 ∙ sym b.2) in
          tree.apart i j b.0 (a.1 ∙ ap (λ (q : Place). Some q) same) b.1);
      every = λ p node is.
          (let was = came_from p node is in
          let there = tree.every was.0 was.1.0 was.1.1 in
          (there.0, ap (λ (ps : List Place). slice_get ps there.0) places_are ∙ (got_mapped (renamed from to) (places_of nodes t) there.0 was.0 there.1 ∙ ap (λ (q : Place). Some q) was.2)));
    }
