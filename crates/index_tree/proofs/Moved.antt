-- What a move of one node makes of a tree.
use Rattle.std.proofs.Common.{◌≡◌, ◌≢◌, ℕ, zero, suc, ◌^◌, ◌<◌, ◌≤◌, inl, inr, cond, List, [], ◌∷◌, ◌++◌, All, length, take, drop, map, get_or, Option, Some, None, option_map, refl, sym, ap, subst, ◌∙◌, arith}
use Rattle.std.specs.List.{flat_map}
use Rattle.std.proofs.lemmas.Bool.Decides.{eqb_tells}
use Rattle.std.proofs.lemmas.List.{length-map, length-take-le, take-map, drop-map, get_or-map, get_or-take}
use Rattle.std.proofs.lemmas.List.Elements.{All-head, All-tail, All-map, All-weaker, All-from_get_or}
use Rattle.regions.specs.Stores.{renamed}
use Rattle.regions.specs.declared.place.Place.{Place}
use Rattle.tree_nodes.specs.Nodes.{Entry, TreeNode, CanStand, child_at, no_place}
use Rattle.regions.specs.Places.{HasRoom, led_to, link_to, place_of_link}
use Rattle.index_tree.specs.Links.{Nodes}
use Rattle.index_tree.specs.Trees.{IsInner, IsNodeOf, IsSubtree, IsRooted, TreeState, children_of, entries_of, held_below, index_of, left_of, right_of}
use Rattle.index_tree.specs.Moves.{mended, moved, moved_tree, relinked}
use Rattle.place_lemmas.proofs.Places.{HasRoomIf, led_back, leads_on, place_cases, place_tells, renamed_here, renamed_past, some_none, some_same}

-- a function of each element, of the elements that another function gives
flat_map_same : {A : Type 0} (f g : ℕ → List A) (r : ℕ → ℕ) (xs : List ℕ) → All (λ x. f (r x) ≡ g x) xs → flat_map f (map r xs) ≡ flat_map g xs
flat_map_same f g r [] same = refl
flat_map_same f g r (x ∷ xs) same =
    ap (λ t. t ++ flat_map f (map r xs)) (All-head (λ y. f (r y) ≡ g y) x xs same)
    ∙ ap (λ t. g x ++ t) (flat_map_same f g r xs (All-tail (λ y. f (r y) ≡ g y) x xs same))

-- the place of a subtree can be led to
pub room_of : (nodes : Nodes) (level : ℕ) (parent : Option Place) (low high : Option (List ℕ)) (p : Place) → IsSubtree nodes level parent low high p → HasRoom p
room_of nodes zero parent low high p (node, is, room, of, rest) = room
room_of nodes (suc level) parent low high p (node, is, room, of, inner, children) = room

module _ (nodes : Nodes) (from to : Place) (room_from : HasRoom from) (room_to : HasRoom to) (far : from ≢ to) (free : nodes to ≡ None) where
  apart_links : (p : Place) → HasRoom p → from ≢ p → link_to (Some p) ≢ link_to (Some from)
  apart_links p room other e = other (sym (sym (led_back p room) ∙ (ap (λ l. place_of_link l) e ∙ led_back from room_from)))

  none_apart : no_place ≢ link_to (Some from)
  none_apart e = let s = room_from.0 in let a = room_from.1 in omega (arith, e, s, a)

  pub relinked_none : relinked from to no_place ≡ no_place
  relinked_none = elim (eqb_tells no_place (link_to (Some from))) [
    | inl e ↦ absurd (none_apart e.1)
    | inr n ↦ ap (λ b. cond b (link_to (Some to)) no_place) n.0
  ]

  relinked_past : (link : ℕ) → link ≢ link_to (Some from) → relinked from to link ≡ link
  relinked_past link other = elim (eqb_tells link (link_to (Some from))) [
    | inl e ↦ absurd (other e.1)
    | inr n ↦ ap (λ b. cond b (link_to (Some to)) link) n.0
  ]

  relinked_here : relinked from to (link_to (Some from)) ≡ link_to (Some to)
  relinked_here = elim (eqb_tells (link_to (Some from)) (link_to (Some from))) [
    | inl e ↦ ap (λ b. cond b (link_to (Some to)) (link_to (Some from))) e.0
    | inr n ↦ absurd (n.1 refl)
  ]

  pub relinked_place : (o : Option Place) → HasRoomIf o → relinked from to (link_to o) ≡ link_to (option_map (renamed from to) o)
  relinked_place None room = relinked_none
  relinked_place (Some p) room = elim (place_cases from p) [
    | inl e ↦ ap (λ (q : Place). relinked from to (link_to (Some q))) (sym e) ∙ (relinked_here ∙ ap (λ (q : Place). link_to (Some q)) (sym (ap (λ (q : Place). renamed from to q) (sym e) ∙ renamed_here from to)))
    | inr n ↦ relinked_past (link_to (Some p)) (apart_links p room n) ∙ ap (λ (q : Place). link_to (Some q)) (sym (renamed_past from to p n))
  ]

  relinked_fits : (link : ℕ) → link < 2 ^ 64 → relinked from to link < 2 ^ 64
  relinked_fits link small = elim (eqb_tells link (link_to (Some from))) [
    | inl e ↦ subst (λ k. k < 2 ^ 64) (sym (ap (λ b. cond b (link_to (Some to)) link) e.0)) (let s = room_to.0 in let a = room_to.1 in omega (arith, s, a))
    | inr n ↦ subst (λ k. k < 2 ^ 64) (sym (ap (λ b. cond b (link_to (Some to)) link) n.0)) small
  ]

  pub room_renamed : (p : Place) → HasRoom p → HasRoom (renamed from to p)
  room_renamed p room = elim (place_cases from p) [
    | inl e ↦ subst (λ q. HasRoom q) (sym (ap (λ (q : Place). renamed from to q) (sym e) ∙ renamed_here from to)) room_to
    | inr n ↦ subst (λ q. HasRoom q) (sym (renamed_past from to p n)) room
  ]

  pub moved_past : (p : Place) → from ≢ p → moved from to nodes p ≡ option_map (mended from to) (nodes (renamed to from p))
  moved_past p other = elim (place_tells from p) [
    | inl e ↦ absurd (other e.1)
    | inr n ↦ ap (λ b. cond b None (option_map (mended from to) (nodes (renamed to from p)))) n.0
  ]

  -- a node stands where its place is renamed to, mended
  pub node_moved : (p : Place) (node : TreeNode) → nodes p ≡ Some node → moved from to nodes (renamed from to p) ≡ Some (mended from to node)
  node_moved p node is = elim (place_cases from p) [
    | inl e ↦
        (let there : renamed from to p ≡ to = ap (λ (q : Place). renamed from to q) (sym e) ∙ renamed_here from to in
        ap (λ (q : Place). moved from to nodes q) there
        ∙ (moved_past to far ∙ (ap (λ (q : Place). option_map (mended from to) (nodes q)) (renamed_here to from ∙ e) ∙ ap (λ (o : Option TreeNode). option_map (mended from to) o) is)))
    | inr n ↦
        (let past : to ≢ p = λ e. some_none is (ap (λ (q : Place). nodes q) (sym e) ∙ free) in
        ap (λ (q : Place). moved from to nodes q) (renamed_past from to p n)
        ∙ (moved_past p n ∙ (ap (λ (q : Place). option_map (mended from to) (nodes q)) (renamed_past to from p past) ∙ ap (λ (o : Option TreeNode). option_map (mended from to) o) is)))
  ]

  stands_mended : (node : TreeNode) → CanStand node → CanStand (mended from to node)
  stands_mended node fits = record {
    parent = relinked_fits node.parent fits.parent;
    level = fits.level;
    next_leaf = relinked_fits node.next_leaf fits.next_leaf;
    few = fits.few;
    entries = fits.entries;
    children = length-map node.children (relinked from to) ∙ fits.children;
    places = All-map (λ l. l < 2 ^ 64) (relinked from to) node.children (All-weaker (λ l. l < 2 ^ 64) (λ l. relinked from to l < 2 ^ 64) relinked_fits node.children fits.places);
  }

  node_of : (level : ℕ) (parent : Option Place) (low high : Option (List ℕ)) (node : TreeNode) → HasRoomIf parent → IsNodeOf level parent low high node
      → IsNodeOf level (option_map (renamed from to) parent) low high (mended from to node)
  node_of level parent low high node room of = record {
    level_is = of.level_is;
    parent_is = ap (λ l. relinked from to l) of.parent_is ∙ relinked_place parent room;
    stands = stands_mended node of.stands;
    rising = of.rising;
    from = of.from;
    up_to = of.up_to;
    many = λ some. of.many (λ e. some (ap (λ (o : Option Place). option_map (renamed from to) o) e));
  }

  pub none_mended : (links : List ℕ) → All (λ l. l ≡ no_place) links → All (λ l. l ≡ no_place) (map (relinked from to) links)
  none_mended links none =
      All-map (λ l. l ≡ no_place) (relinked from to) links
      (All-weaker (λ l. l ≡ no_place) (λ l. relinked from to l ≡ no_place) (λ l e. ap (λ k. relinked from to k) e ∙ relinked_none) links none)

  inner_mended : (node : TreeNode) → IsInner node → IsInner (mended from to node)
  inner_mended node inner = record {
    some = inner.some;
    numbers = inner.numbers;
    next = ap (λ l. relinked from to l) inner.next ∙ relinked_none;
    others = subst (λ (links : List ℕ). All (λ l. l ≡ no_place) links) (sym (drop-map (relinked from to) (suc (length node.entries)) node.children))
        (none_mended (drop (suc (length node.entries)) node.children) inner.others);
  }

  child_mended : (node : TreeNode) (i : ℕ) → CanStand node → i ≤ length node.entries → child_at (mended from to node) i ≡ relinked from to (child_at node i)
  child_mended node i fits within = get_or-map (relinked from to) node.children i no_place no_place (let few = fits.few in let many = fits.children in omega (arith, few, many))

  -- a subtree stands where its places are renamed to
  pub subtree_moved : (level : ℕ) (parent : Option Place) (low high : Option (List ℕ)) (p : Place) → HasRoomIf parent → IsSubtree nodes level parent low high p
      → IsSubtree (moved from to nodes) level (option_map (renamed from to) parent) low high (renamed from to p)
  subtree_moved zero parent low high p room (node, is, here, of, none) =
      (mended from to node, node_moved p node is, room_renamed p here, node_of zero parent low high node room of, none_mended node.children none)
  subtree_moved (suc level) parent low high p room (node, is, here, of, inner, children) = (
    mended from to node,
    node_moved p node is,
    room_renamed p here,
    node_of (suc level) parent low high node room of,
    inner_mended node inner,
    λ i within.
        (let q : Place = (children i within).0 in
        let below = (children i within).2 in (
          renamed from to q,
          child_mended node i of.stands within ∙ (ap (λ l. relinked from to l) (children i within).1 ∙ relinked_place (Some q) (room_of nodes level (Some p) (left_of node low i) (right_of node high i) q below)),
          subtree_moved level (Some p) (left_of node low i) (right_of node high i) q here below,
        )),
  )

  -- and its leaves hold the same
  pub held_moved : (level : ℕ) (parent : Option Place) (low high : Option (List ℕ)) (p : Place) → IsSubtree nodes level parent low high p
      → held_below (moved from to nodes) level (Some (renamed from to p)) ≡ held_below nodes level (Some p)
  held_moved zero parent low high p (node, is, here, of, none) = ap (λ (o : Option TreeNode). entries_of o) (node_moved p node is) ∙ sym (ap (λ (o : Option TreeNode). entries_of o) is)
  held_moved (suc level) parent low high p (node, is, here, of, inner, children) =
      let many = of.stands.children in
      let few = of.stands.few in
      let k = suc (length node.entries) in
      let new : ℕ → List Entry = λ link. held_below (moved from to nodes) level (led_to link) in
      let old : ℕ → List Entry = λ link. held_below nodes level (led_to link) in
      let each : (i : ℕ) → i < length (take k node.children) → new (relinked from to (get_or (take k node.children) i no_place)) ≡ old (get_or (take k node.children) i no_place) =
      (λ i short.
      let size : length (take k node.children) ≡ k = length-take-le k node.children (omega (arith, many, few)) in
      let within : i ≤ length node.entries = omega (arith, short, size) in
      let q : Place = (children i within).0 in
      let below = (children i within).2 in
      let room = room_of nodes level (Some p) (left_of node low i) (right_of node high i) q below in
      let link : get_or (take k node.children) i no_place ≡ link_to (Some q) = get_or-take k node.children i no_place (omega arith) ∙ (children i within).1 in
      ap (λ l. new (relinked from to l)) link
      ∙ (ap (λ l. new l) (relinked_place (Some q) room)
      ∙ (ap (λ (o : Option Place). held_below (moved from to nodes) level o) (leads_on (Some (renamed from to q)) (room_renamed q room))
      ∙ (held_moved level (Some p) (left_of node low i) (right_of node high i) q below
      ∙ (sym (ap (λ (o : Option Place). held_below nodes level o) (leads_on (Some q) room)) ∙ sym (ap (λ l. old l) link)))))) in
      ap (λ (o : Option TreeNode). flat_map new (children_of o)) (node_moved p node is)
      ∙ (ap (λ (links : List ℕ). flat_map new links) (take-map (relinked from to) k node.children)
      ∙ (flat_map_same new old (relinked from to) (take k node.children) (All-from_get_or (λ l. new (relinked from to l) ≡ old l) (take k node.children) no_place each)
      ∙ sym (ap (λ (o : Option TreeNode). flat_map old (children_of o)) is)))

  pub rooted_moved : (t : TreeState) → IsRooted nodes t → IsRooted (moved from to nodes) (moved_tree from to t)
  rooted_moved t rooted p is = at_root t.root refl
    where
      at_root : (o : Option Place) → t.root ≡ o → IsSubtree (moved from to nodes) t.level None None None p
      at_root None e = some_none is (ap (λ (r : Option Place). option_map (renamed from to) r) e)
      at_root (Some q) e =
          subst (λ (r : Place). IsSubtree (moved from to nodes) t.level None None None r) (some_same (ap (λ (r : Option Place). option_map (renamed from to) r) e) is)
          (subtree_moved t.level None None None q tt (rooted q e))

  pub index_moved : (t : TreeState) → IsRooted nodes t → index_of (moved from to nodes) (moved_tree from to t) ≡ index_of nodes t
  index_moved t rooted = at_root t.root refl
    where
      at_root : (o : Option Place) → t.root ≡ o → held_below (moved from to nodes) t.level (option_map (renamed from to) t.root) ≡ held_below nodes t.level t.root
      at_root None e = ap (λ (r : Option Place). held_below (moved from to nodes) t.level (option_map (renamed from to) r)) e ∙ sym (ap (λ (r : Option Place). held_below nodes t.level r) e)
      at_root (Some q) e =
          ap (λ (r : Option Place). held_below (moved from to nodes) t.level (option_map (renamed from to) r)) e
          ∙ (held_moved t.level None None None q (rooted q e) ∙ sym (ap (λ (r : Option Place). held_below nodes t.level r) e))
