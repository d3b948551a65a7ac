-- What the mover of the region keeps where a node is copied and what named it is mended.
use Rattle.std.proofs.Common.{◌≡◌, ◌≢◌, ℕ, zero, suc, ◌≤◌, ◌⊎◌, inl, inr, Bool, true≢false, cond, List, [], ◌∷◌, length, map, Option, Some, None, refl, sym, ap, subst, ◌∙◌}
use Rattle.std.proofs.Math.Path.{fun_ext}
use Rattle.std.specs.Prelude.{IsSome, is_some, option_map, slice_get}
use Rattle.std.proofs.lemmas.List.{length-map}
use Rattle.regions.specs.Segments.{RegionState}
use Rattle.regions.specs.Contents.{Item, live_at}
use Rattle.regions.specs.Stores.{Live, StandsFor, found, less, renamed, store_of}
use Rattle.regions.specs.declared.place.Place.{Place}
use Rattle.tree_nodes.specs.Nodes.{TreeNode, child_at, no_place, node_in}
use Rattle.index_tree.specs.Indexes.{Index}
use Rattle.regions.specs.Places.{HasRoom, led_to, link_to}
use Rattle.index_tree.specs.Links.{Nodes, bare, references}
use Rattle.index_tree.specs.Moves.{mended, moved, moved_tree}
use Rattle.layout.specs.Kinds.{node_kind}
use Rattle.index_tree.specs.Store.{nodes_of}
use Rattle.index_tree.specs.Trees.{IsTree, TreeState, entries_of, index_of, next_at, next_in, nodes_below, places_of}
use Rattle.index_tree.specs.inside.Climbs.{HoldNodes, IsBefore, IsTreeIn, child_in, parent_in}
use Rattle.index_tree.specs.inside.Mends.{AreItsChildren, IsItsFront, IsItsParent, Mends, mended_next, mended_parent}
use Rattle.index_tree.specs.inside.Rosters.{AreListed, IsRosterOf, RosterState, Shape, moved_roster, place_of, shape_of}
use Rattle.place_lemmas.proofs.Places.{leads_on, less_here, less_past, option_cases, place_cases, place_tells, renamed_here, renamed_past, some_none, some_same}
use Rattle.index_tree.proofs.Lists.{Among, among_either}
use Rattle.index_tree.proofs.Moved.{index_moved, node_moved}
use Rattle.index_tree.proofs.Positions.{no_link}
use Rattle.index_tree.proofs.Whole.{Stands, all_stand, came_from, got_all, got_from, got_mapped, renamed_apart, tree_moved}
use Rattle.index_tree.proofs.Within.{places_within, tree_within}
use Rattle.index_tree.proofs.Neighbors.{below_at, child_back, child_known, child_once, child_only, no_own_child, no_own_next, no_own_parent, parent_only, place_room, spare_at}
use Rattle.index_tree.proofs.Climbed.{above_it}
use Rattle.index_tree.proofs.References.{is_there, refs, refs_of, refs_renamed, same_live, some_of, there_too}
use Rattle.index_tree.proofs.SearchNode.{is_live}

-- ---- the list of all places

got_map : (h : Place → Place) (xs : List Place) (n : ℕ) → slice_get (map h xs) n ≡ option_map h (slice_get xs n)
got_map h [] n = refl
got_map h (x ∷ xs) zero = refl
got_map h (x ∷ xs) (suc n) = got_map h xs n

pub names_moved : (from to : Place) (r : RosterState) (n : ℕ) → place_of (moved_roster from to r) n ≡ option_map (renamed from to) (place_of r n)
names_moved from to r n = got_map (renamed from to) r.known.places n

some_moved : (h : Place → Place) (o : Option Place) → is_some (option_map h o) ≡ is_some o
some_moved h None = refl
some_moved h (Some p) = refl

shape_with : Bool → ℕ → ℕ → ℕ → Index → Shape
shape_with rooted level nodes spares index = record { rooted = rooted; level = level; nodes = nodes; spares = spares; index = index }

pub shape_moved : (from to : Place) (r : RosterState) → shape_of (moved_roster from to r) ≡ shape_of r
unfolding shape_with
shape_moved from to r =
    ap (λ b. shape_with b r.tree.level (length (map (renamed from to) r.known.places)) (length (map (renamed from to) r.tree.spares)) r.known.index) (some_moved (renamed from to) r.tree.root)
    ∙ (ap (λ n. shape_with (is_some r.tree.root) r.tree.level n (length (map (renamed from to) r.tree.spares)) r.known.index) (length-map r.known.places (renamed from to))
    ∙ ap (λ n. shape_with (is_some r.tree.root) r.tree.level (length r.known.places) n r.known.index) (length-map r.tree.spares (renamed from to)))

-- the names stand for a store
pub roster_stands : (r : RosterState) (live : Live) → IsRosterOf r live → StandsFor bare (store_of bare (place_of r) live) (place_of r) live
roster_stands r live is = record {
  placed = λ n i e. placed n i (place_of r n) refl e;
  known = λ n p e.
      (let there = some_of (nodes_of live p) (is.listed.stands n p e) in
      let item = some_of (live p) (is_live live p there.0 there.1) in
      subst (λ (o : Option Place). IsSome (found bare live o)) (sym e) (is_there (option_map bare (live p)) (bare item.0) (ap (λ (o : Option Item). option_map bare o) item.1)));
  apart = is.listed.apart;
  every = λ p i e.
      (let n = is.listed.every p (node_in i.content) (ap (λ (o : Option Item). option_map (λ (x : Item). node_in x.content) o) e) in
      (n.0, n.1, ap (λ (o : Option Place). found bare live o) n.1 ∙ ap (λ (o : Option Item). option_map bare o) e));
}
  where
    placed : (n : ℕ) (i : Item) (o : Option Place) → place_of r n ≡ o → found bare live (place_of r n) ≡ Some i → (p : Place) × (place_of r n ≡ Some p) × (option_map bare (live p) ≡ Some i)
    placed n i None e is = some_none is (ap (λ (o : Option Place). found bare live o) e)
    placed n i (Some p) e is = (p, e, sym (ap (λ (o : Option Place). found bare live o) e) ∙ is)

listed_moved : (nodes : Nodes) (from to : Place) → HasRoom from → HasRoom to → from ≢ to → nodes to ≡ None → (t : TreeState) → IsTree nodes t → (places : List Place) → AreListed nodes places
    → AreListed (moved from to nodes) (map (renamed from to) places)
listed_moved nodes from to room_from room_to far free t tree places listed = record {
  every = λ p node is.
      (let was = came_from nodes from to room_from room_to far free p node is in
      let n = listed.every was.0 was.1.0 was.1.1 in
      (n.0, got_mapped (renamed from to) places n.0 was.0 n.1 ∙ ap (λ (q : Place). Some q) was.2));
  stands = λ n p e.
      (let was = got_from (renamed from to) places n p e in
      let there = some_of (nodes was.0) (listed.stands n was.0 was.1) in
      is_there (moved from to nodes p) (mended from to there.0) (ap (λ (q : Place). moved from to nodes q) (sym was.2) ∙ node_moved nodes from to room_from room_to far free was.0 there.0 there.1));
  apart = λ m n p at_m at_n.
      (let a = got_from (renamed from to) places m p at_m in
      let b = got_from (renamed from to) places n p at_n in
      let same : a.0 ≡ b.0 = renamed_apart nodes from to room_from room_to far free a.0 b.0 (stands a.0 (listed.stands m a.0 a.1)) (stands b.0 (listed.stands n b.0 b.1)) (a.2 ∙ sym b.2) in
      listed.apart m n b.0 (a.1 ∙ ap (λ (q : Place). Some q) same) b.1);
}
  where
    stands : (p : Place) → IsSome (nodes p) → Stands nodes p
    stands p some =
        let there = some_of (nodes p) some in
        let n = tree.every p there.0 there.1 in
        got_all (Stands nodes) (places_of nodes t) n.0 p (all_stand nodes from to room_from room_to far free t tree) n.1

-- ---- a node was copied

module _ (live : Live) (from to : Place) (r : RosterState) (is : IsRosterOf r (less to live)) (far : from ≢ to) (room_to : HasRoom to)
    (item : Item) (at_from : live from ≡ Some item) (at_to : live to ≡ Some item) where
  few : Nodes
  few = nodes_of (less to live)

  from_live : less to live from ≡ Some item
  from_live = less_past to from live (λ e. far (sym e)) ∙ at_from

  abbrev node : Item → TreeNode
  node i = node_in i.content

  -- the node at each place is the one that stood where the place is renamed back
  copy_is : (p : Place) → nodes_of live p ≡ nodes_of (less to live) (renamed to from p)
  copy_is p = elim (place_cases to p) [
    | inl e ↦
        ap (option_map node) (ap live (sym e) ∙ (at_to ∙ sym from_live))
        ∙ ap (λ (q : Place). nodes_of (less to live) q) (sym (ap (λ (q : Place). renamed to from q) (sym e) ∙ renamed_here to from))
    | inr past ↦ ap (option_map node) (sym (less_past to p live past)) ∙ ap (λ (q : Place). nodes_of (less to live) q) (sym (renamed_past to from p past))
  ]

  pub within : (p : Place) (n : TreeNode) → nodes_of (less to live) p ≡ Some n → nodes_of live p ≡ Some n
  within p n e = elim (place_cases to p) [
    | inl s ↦ some_none e (ap (λ (q : Place). nodes_of (less to live) q) (sym s) ∙ ap (option_map node) (less_here to live))
    | inr past ↦ ap (option_map node) (sym (less_past to p live past)) ∙ e
  ]

  pub tree_in : IsTreeIn (nodes_of live) r.tree
  tree_in = tree_within (nodes_of (less to live)) (nodes_of live) within r.tree is.tree

  pub holds : HoldNodes live
  holds p some = elim (place_cases to p) [
    | inl e ↦
        (let there = is.holds from (is_there (less to live from) item from_live) in
        let same : there.0 ≡ item = some_same there.1 from_live in
        (there.0, ap live (sym e) ∙ (at_to ∙ ap (λ (i : Item). Some i) (sym same)), there.2))
    | inr past ↦
        (let kept : less to live p ≡ live p = less_past to p live past in
        let there = is.holds p (subst (λ (o : Option Item). IsSome o) (sym kept) some) in
        (there.0, sym kept ∙ there.1, there.2))
  ]

  standing : (p : Place) (n : TreeNode) → nodes_of (less to live) p ≡ Some n → Among p (places_of (nodes_of live) r.tree)
  standing p n e = subst (λ ps. Among p ps) (sym (places_within (nodes_of (less to live)) (nodes_of live) within r.tree is.tree)) (is.tree.every p n e)

  pub from_among : Among from (places_of (nodes_of live) r.tree)
  from_among = standing from (node item) (ap (option_map node) from_live)

  room_from : HasRoom from
  room_from = place_room (nodes_of live) r.tree tree_in from from_among

  -- where a field names the place, the node is one of the tree, not the copy
  known_by : (field : Option TreeNode → ℕ) → field None ≡ no_place → field (nodes_of live from) ≢ link_to (Some from) → (q : Place) → field (nodes_of live q) ≡ link_to (Some from)
      → Among q (places_of (nodes_of live) r.tree)
  known_by field none own q e = elim (place_cases to q) [
    | inl s ↦ absurd (own (ap field (ap (option_map node) (at_from ∙ sym at_to) ∙ ap (λ (x : Place). nodes_of live x) s) ∙ e))
    | inr past ↦
        elim (option_cases (nodes_of live q)) [
          | inl gone ↦ absurd (no_link from room_from (sym none ∙ (sym (ap field gone) ∙ e)))
          | inr there ↦ standing q there.0 (ap (option_map node) (less_past to q live past) ∙ there.1)
        ]
  ]

  -- ---- what is to be mended

  pub children_are : AreItsChildren (nodes_of live) from
  children_are = record {
    stands = λ i q e.
        (let back = child_back (nodes_of live) r.tree tree_in from from_among i q e in
        elim (option_cases (nodes_of live q)) [
          | inl gone ↦ absurd (no_link from room_from (sym (ap (λ (o : Option TreeNode). parent_in o) gone) ∙ back.0))
          | inr there ↦ is_there (nodes_of live q) there.0 there.1
        ]);
    back = λ i q e. (child_back (nodes_of live) r.tree tree_in from from_among i q e).0;
    only = λ q e.
        (let among = known_by (λ o. parent_in o) refl (no_own_parent (nodes_of live) r.tree tree_in from room_from from_among) q e in
        let w = parent_only (nodes_of live) r.tree tree_in q from room_from among e in (
          w.2,
          subst (λ (o : Option TreeNode). w.2 ≤ length (entries_of o)) (sym w.1) w.3,
          ap (λ (o : Option TreeNode). led_to (child_in o w.2)) w.1 ∙ (ap (λ l. led_to l) w.4 ∙ leads_on (Some q) (place_room (nodes_of live) r.tree tree_in q among)),
        ));
  }

  pub front_is : (front : Option Place) → IsBefore (nodes_of live) (places_of (nodes_of live) r.tree) from front → IsItsFront (nodes_of live) from front
  front_is front before = record {
    stands = λ q e.
        (let next = before.there q e in
        elim (option_cases (nodes_of live q)) [
          | inl gone ↦ absurd (no_link from room_from (sym (ap (λ (o : Option TreeNode). next_in o) gone) ∙ next))
          | inr there ↦ is_there (nodes_of live q) there.0 there.1
        ]);
    there = before.there;
    only = λ q e.
        (let among = known_by (λ o. next_in o) refl (no_own_next (nodes_of live) r.tree tree_in from room_from from_among) q e in
        before.only q among.0 among.1 e);
  }

  pub parent_is : (parent : Option Place) → parent ≡ led_to (parent_in (nodes_of live from)) → IsItsParent (nodes_of live) from parent
  parent_is parent leads = record {
    there = λ q e. there q (sym leads ∙ e) (among_either r.tree.spares (nodes_below (nodes_of live) r.tree.level r.tree.root) from from_among);
    only = λ q i e.
        (let among = known q i e in
        leads
        ∙ (ap (λ l. led_to l) (child_only (nodes_of live) r.tree tree_in q from i room_from among e)
        ∙ leads_on (Some q) (place_room (nodes_of live) r.tree tree_in q among)));
    once = λ q i j at_i at_j.
        child_once (nodes_of live) q from i j room_from (child_known (nodes_of live) r.tree tree_in q from i room_from (known q i at_i) at_i) at_i at_j;
  }
    where
      known : (q : Place) (i : ℕ) → child_in (nodes_of live q) i ≡ link_to (Some from) → Among q (places_of (nodes_of live) r.tree)
      known q i e = known_by (λ o. child_in o i) refl (no_own_child (nodes_of live) r.tree tree_in from i room_from from_among) q e

      there : (q : Place) → led_to (parent_in (nodes_of live from)) ≡ Some q → Among from r.tree.spares ⊎ Among from (nodes_below (nodes_of live) r.tree.level r.tree.root)
          → (n : TreeNode) × (nodes_of live q ≡ Some n) × (i : ℕ) × (i ≤ length n.entries) × (child_at n i ≡ link_to (Some from))
      there q e (inl spare) =
          let s = spare_at (nodes_of live) r.tree tree_in from spare in
          some_none e (ap (λ l. led_to l) (ap (λ (o : Option TreeNode). parent_in o) s.is ∙ s.parent))
      there q e (inr below) =
          let b = below_at (nodes_of live) r.tree tree_in from below in
          let u = above_it (nodes_of live) r.tree tree_in from q b.at.own b.at.above below b.at.sub e in
          (u.node, u.is, u.index, u.within, u.child)

  -- ---- once it is

  module _ (old new : RegionState) (live_is : live ≡ live_at old) (m : Mends (mended from to) old new) where
    nodes_now : (p : Place) → nodes_of (live_at new) p ≡ option_map (mended from to) (nodes_of live p)
    nodes_now p = m.nodes p ∙ ap (λ (l : Live). option_map (mended from to) (nodes_of l p)) (sym live_is)

    moved_nodes : (p : Place) → nodes_of (less from (live_at new)) p ≡ moved from to (nodes_of (less to live)) p
    moved_nodes p = elim (place_tells from p) [
      | inl e ↦
          ap (λ b. option_map node (cond b None (live_at new p))) e.0
          ∙ sym (ap (λ b. cond b None (option_map (mended from to) (nodes_of (less to live) (renamed to from p)))) e.0)
      | inr n ↦
          ap (λ b. option_map node (cond b None (live_at new p))) n.0
          ∙ (nodes_now p
          ∙ (ap (λ (o : Option TreeNode). option_map (mended from to) o) (copy_is p)
          ∙ sym (ap (λ b. cond b None (option_map (mended from to) (nodes_of (less to live) (renamed to from p)))) n.0)))
    ]

    all_nodes : nodes_of (less from (live_at new)) ≡ moved from to (nodes_of (less to live))
    all_nodes = fun_ext moved_nodes

    free : nodes_of (less to live) to ≡ None
    free = ap (option_map node) (less_here to live)

    kinds_now : (p : Place) (i : Item) → less from (live_at new) p ≡ Some i → (i.group ≡ Some 0) × (i.kind ≡ node_kind)
    kinds_now p i e = elim (place_cases from p) [
      | inl s ↦ some_none e (ap (λ (q : Place). less from (live_at new) q) (sym s) ∙ less_here from (live_at new))
      | inr past ↦
          (let now : live_at new p ≡ Some i = sym (less_past from p (live_at new) past) ∙ e in
          let w = there_too (live_at old p) (live_at new p) i (same_live old new m.same p) now in
          let was : live p ≡ Some w.0 = ap (λ (l : Live). l p) live_is ∙ w.1 in
          let k = kinds_before p w.0 was in
          (w.2 ∙ k.0, w.3 ∙ k.1))
    ]
      where
        kinds_before : (p : Place) (i : Item) → live p ≡ Some i → (i.group ≡ Some 0) × (i.kind ≡ node_kind)
        kinds_before p i e = elim (place_cases to p) [
          | inl s ↦ is.kinds from i (from_live ∙ (sym at_to ∙ (ap live s ∙ e)))
          | inr past ↦ is.kinds p i (less_past to p live past ∙ e)
        ]

    pub roster_moved : IsRosterOf (moved_roster from to r) (less from (live_at new))
    roster_moved = record {
      holds = λ p some. elim (place_cases from p) [
        | inl s ↦ absurd (true≢false (sym (subst (λ (o : Option Item). IsSome o) (ap (λ (q : Place). less from (live_at new) q) (sym s) ∙ less_here from (live_at new)) some)))
        | inr past ↦
            (let kept = less_past from p (live_at new) past in
            let there = m.holds (subst (λ (l : Live). HoldNodes l) live_is holds) p (subst (λ (o : Option Item). IsSome o) kept some) in
            (there.0, kept ∙ there.1, there.2))
      ];
      kinds = kinds_now;
      tree = subst (λ (nodes : Nodes). IsTree nodes (moved_tree from to r.tree)) (sym all_nodes) (tree_moved (nodes_of (less to live)) from to room_from room_to far free r.tree is.tree);
      index =
          ap (λ (nodes : Nodes). index_of nodes (moved_tree from to r.tree)) all_nodes
          ∙ (index_moved (nodes_of (less to live)) from to room_from room_to far free r.tree is.tree.rooted ∙ is.index);
      listed = subst (λ (nodes : Nodes). AreListed nodes (map (renamed from to) r.known.places)) (sym all_nodes)
          (listed_moved (nodes_of (less to live)) from to room_from room_to far free r.tree is.tree r.known.places is.listed);
    }

    pub references_moved : (p : Place) → option_map references (less from (live_at new) p) ≡ option_map (λ (i : Item). map (renamed from to) (references i)) (less from (live_at old) p)
    references_moved p = elim (place_tells from p) [
      | inl e ↦
          ap (λ b. option_map references (cond b None (live_at new p))) e.0
          ∙ sym (ap (λ b. option_map (λ (i : Item). map (renamed from to) (references i)) (cond b None (live_at old p))) e.0)
      | inr n ↦
          ap (λ b. option_map references (cond b None (live_at new p))) n.0
          ∙ (refs_of (live_at new p)
          ∙ (ap (λ (o : Option TreeNode). option_map refs o) (m.nodes p)
          ∙ (refs_renamed from to room_from room_to (live_at old p)
          ∙ sym (ap (λ b. option_map (λ (i : Item). map (renamed from to) (references i)) (cond b None (live_at old p))) n.0))))
    ]

-- ---- what is still to be mended, once something is

next_same : (from to : Place) (o : Option TreeNode) → next_in (option_map (mended_parent from to) o) ≡ next_in o
next_same from to None = refl
next_same from to (Some n) = refl

some_same_parent : (from to : Place) (o : Option TreeNode) → IsSome o → IsSome (option_map (mended_parent from to) o)
some_same_parent from to None h = h
some_same_parent from to (Some n) h = refl

pub front_later : (from to : Place) (old now : RegionState) (front : Option Place) → Mends (mended_parent from to) old now → IsItsFront (nodes_of (live_at old)) from front
    → IsItsFront (nodes_of (live_at now)) from front
front_later from to old now front m is = record {
  stands = λ q e. subst (λ (o : Option TreeNode). IsSome o) (sym (m.nodes q)) (some_same_parent from to (nodes_of (live_at old) q) (is.stands q e));
  there = λ q e. same q ∙ is.there q e;
  only = λ q e. is.only q (sym (same q) ∙ e);
}
  where
    same : (q : Place) → next_at (nodes_of (live_at now)) q ≡ next_at (nodes_of (live_at old)) q
    same q = ap (λ (o : Option TreeNode). next_in o) (m.nodes q) ∙ next_same from to (nodes_of (live_at old) q)

child_same : (from to : Place) (o : Option TreeNode) (i : ℕ) → child_in (option_map (mended_next from to) (option_map (mended_parent from to) o)) i ≡ child_in o i
child_same from to None i = refl
child_same from to (Some n) i = refl

pub parent_later : (from to : Place) (old mid now : RegionState) (parent : Option Place) → Mends (mended_parent from to) old mid → Mends (mended_next from to) mid now
    → IsItsParent (nodes_of (live_at old)) from parent → IsItsParent (nodes_of (live_at now)) from parent
parent_later from to old mid now parent a b is = record {
  there = λ q e.
      (let w = is.there q e in
      (mended_next from to (mended_parent from to w.0), nodes q ∙ ap (λ (o : Option TreeNode). option_map (mended_next from to) (option_map (mended_parent from to) o)) w.1, w.2, w.3, w.4));
  only = λ q i e. is.only q i (sym (same q i) ∙ e);
  once = λ q i j at_i at_j. is.once q i j (sym (same q i) ∙ at_i) (sym (same q j) ∙ at_j);
}
  where
    nodes : (q : Place) → nodes_of (live_at now) q ≡ option_map (mended_next from to) (option_map (mended_parent from to) (nodes_of (live_at old) q))
    nodes q = b.nodes q ∙ ap (λ (o : Option TreeNode). option_map (mended_next from to) o) (a.nodes q)

    same : (q : Place) (i : ℕ) → child_in (nodes_of (live_at now) q) i ≡ child_in (nodes_of (live_at old) q) i
    same q i = ap (λ (o : Option TreeNode). child_in o i) (nodes q) ∙ child_same from to (nodes_of (live_at old) q) i
