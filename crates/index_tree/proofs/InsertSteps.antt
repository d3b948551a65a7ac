-- The steps of an insertion below an inner node.
use Rattle.std.proofs.Common.{◌≡◌, ◌≢◌, ℕ, suc, ◌-◌, ◌<◌, ◌≤◌, List, [], ◌∷◌, ◌++◌, All, length, drop, get_or, Option, Some, sym, subst, arith}
use Rattle.std.specs.Prelude.{IfSome}
use Rattle.std.proofs.lemmas.List.Elements.{All-head}
use Rattle.regions.specs.Segments.{RegionState}
use Rattle.regions.specs.Contents.{live_at}
use Rattle.regions.specs.declared.place.Place.{Place}
use Rattle.tree_nodes.specs.Nodes.{TreeNode, child_at}
use Rattle.tree_nodes.specs.Order.{AreRising}
use Rattle.index_tree.specs.Inserts.{Branch, Grows, IsRoom, Touched, times}
use Rattle.regions.specs.Places.{place_of_link, link_to}
use Rattle.index_tree.specs.Splits.{AdoptsBeside, CutsInner, branch_of, upper_places, widened}
use Rattle.index_tree.specs.Store.{HoldsNode, nodes_of}
use Rattle.index_tree.specs.Trees.{IsFrom, IsSubtree, IsUpTo, nodes_below}
use Rattle.index_tree.specs.Ways.{LeadsTo}
use Rattle.index_tree.specs.Writes.{WritesNode}
use Rattle.index_tree.specs.declared.split.Split.{Split}
use Rattle.index_tree.proofs.Frame.{below_children}
use Rattle.index_tree.proofs.InsertBelow as below
use Rattle.index_tree.proofs.InsertRows.{keyed}
use Rattle.index_tree.proofs.Touches.{if_value}

module _ (r : RegionState) (lev level : ℕ) (deep : lev ≡ suc level) (p : Place) (spares : List Place) (key : List ℕ) (number : ℕ) (room_at : IsRoom (live_at r) lev p spares key number) where
  abbrev room : IsRoom (live_at r) (suc level) p spares key number
  room = subst (λ n. IsRoom (live_at r) n p spares key number) deep room_at

  pub holds_node : HoldsNode (live_at r) p
  holds_node = All-head (HoldsNode (live_at r)) p (below_children (nodes_of (live_at r)) (suc level) p) room.below

  pub rising : IfSome (nodes_of (live_at r) p) (λ node. AreRising node.entries)
  rising = if_value (λ (n : TreeNode). AreRising n.entries) (nodes_of (live_at r) p) room.subtree.0 room.subtree.1 room.subtree.3.rising

  module _ (i : ℕ) (spot : IfSome (nodes_of (live_at r) p) (λ node. LeadsTo node key i)) where
    pub few_children : i < 17
    few_children =
        let w = below.within r level p key number room.parent room.low room.high room.subtree room.from room.up_to i spot in
        let f = below.few r level p key number room.parent room.low room.high room.subtree room.from room.up_to i spot in
        omega arith

    module _ (l : ℕ) (q : Place) (link : IfSome (nodes_of (live_at r) p) (λ node. l ≡ child_at node i)) (place : q ≡ place_of_link l) where
      pub room_below : IsRoom (live_at r) level q spares key number
      room_below =
          subst (λ (x : Place). IsRoom (live_at r) level x spares key number)
          (sym (below.child_is r level p key number room.parent room.low room.high room.subtree room.from room.up_to i spot l q link place))
          (below.child_room r level p key number room.parent room.low room.high room.subtree room.from room.up_to i spot spares room.below room.spares_hold room.rooms room.once room.many)

      module _ (a : RegionState) (cs : List Branch) (left : ℕ)
          (grows : (parent : Option Place) (low high : Option (List ℕ)) → IsSubtree (nodes_of (live_at r)) level parent low high q → IsFrom low (keyed key number)
          → IsUpTo high (keyed key number) → Grows (nodes_of (live_at r)) (nodes_of (live_at a)) level parent low high q cs key number (drop left spares))
          (touched : Touched (nodes_below (nodes_of (live_at r)) level (Some q) ++ spares) r a) where
        module _ (parent : Option Place) (low high : Option (List ℕ)) (sub : IsSubtree (nodes_of (live_at r)) (suc level) parent low high p) (from : IsFrom low (keyed key number)) (up : IsUpTo high (keyed key number)) where
          child_same : q ≡ below.child r level p key number parent low high sub from up i spot
          child_same = below.child_is r level p key number parent low high sub from up i spot l q link place

          touched_at : Touched (nodes_below (nodes_of (live_at r)) level (Some (below.child r level p key number parent low high sub from up i spot)) ++ spares) r a
          touched_at = subst (λ (x : Place). Touched (nodes_below (nodes_of (live_at r)) level (Some x) ++ spares) r a) child_same touched

          grown_at : below.ChildGrown r level p key number parent low high sub from up i spot a cs (drop left spares)
          grown_at = below.child_grown r level p key number parent low high sub from up i spot q child_same a cs (drop left spares) grows

        deeper : (parent : Option Place) (low high : Option (List ℕ)) → IsSubtree (nodes_of (live_at r)) lev parent low high p → IsSubtree (nodes_of (live_at r)) (suc level) parent low high p
        deeper parent low high sub = subst (λ n. IsSubtree (nodes_of (live_at r)) n parent low high p) deep sub

        pub holds_now : HoldsNode (live_at a) p
        holds_now = below.holds_now r level p key number room.parent room.low room.high room.subtree room.from room.up_to i spot spares room.below room.spares_hold room.rooms room.once a cs left
            (touched_at room.parent room.low room.high room.subtree room.from room.up_to) (grown_at room.parent room.low room.high room.subtree room.from room.up_to)

        pub all_touched : Touched (nodes_below (nodes_of (live_at r)) lev (Some p) ++ spares) r a
        all_touched = subst (λ n. Touched (nodes_below (nodes_of (live_at r)) n (Some p) ++ spares) r a) (sym deep)
            (below.all_touched r level p key number room.parent room.low room.high room.subtree room.from room.up_to i spot spares room.below room.spares_hold room.rooms room.once a cs left
            (touched_at room.parent room.low room.high room.subtree room.from room.up_to) (grown_at room.parent room.low room.high room.subtree room.from room.up_to))

      -- the child stayed one
      module _ (a : RegionState) (left : ℕ)
          (grows : (parent : Option Place) (low high : Option (List ℕ)) → IsSubtree (nodes_of (live_at r)) level parent low high q → IsFrom low (keyed key number)
          → IsUpTo high (keyed key number) → Grows (nodes_of (live_at r)) (nodes_of (live_at a)) level parent low high q [] key number (drop left spares))
          (touched : Touched (nodes_below (nodes_of (live_at r)) level (Some q) ++ spares) r a) where
        pub kept_grows : (parent : Option Place) (low high : Option (List ℕ)) → IsSubtree (nodes_of (live_at r)) lev parent low high p → IsFrom low (keyed key number)
            → IsUpTo high (keyed key number) → Grows (nodes_of (live_at r)) (nodes_of (live_at a)) lev parent low high p [] key number (drop left spares)
        kept_grows parent low high upper from up =
            let sub = deeper a [] left grows touched parent low high upper in
            subst (λ n. Grows (nodes_of (live_at r)) (nodes_of (live_at a)) n parent low high p [] key number (drop left spares)) (sym deep)
            (below.kept_grows r level p key number parent low high sub from up i spot spares room.below room.spares_hold room.rooms room.once a left (touched_at a [] left grows touched parent low high sub from up) (grown_at a [] left grows touched parent low high sub from up))

      -- the child became two
      module _ (a : RegionState) (x : Split) (left : ℕ)
          (grows : (parent : Option Place) (low high : Option (List ℕ)) → IsSubtree (nodes_of (live_at r)) level parent low high q → IsFrom low (keyed key number)
          → IsUpTo high (keyed key number) → Grows (nodes_of (live_at r)) (nodes_of (live_at a)) level parent low high q (branch_of x ∷ []) key number (drop left spares))
          (touched : Touched (nodes_below (nodes_of (live_at r)) level (Some q) ++ spares) r a) where
        abbrev t_room : Touched (nodes_below (nodes_of (live_at r)) level (Some (below.child r level p key number room.parent room.low room.high room.subtree room.from room.up_to i spot)) ++ spares) r a
        t_room = touched_at a (branch_of x ∷ []) left grows touched room.parent room.low room.high room.subtree room.from room.up_to

        abbrev g_room : below.ChildGrown r level p key number room.parent room.low room.high room.subtree room.from room.up_to i spot a (branch_of x ∷ []) (drop left spares)
        g_room = grown_at a (branch_of x ∷ []) left grows touched room.parent room.low room.high room.subtree room.from room.up_to

        pub spot_now : IfSome (nodes_of (live_at a) p) (λ node. i ≤ length node.entries)
        spot_now = below.spot_now r level p key number room.parent room.low room.high room.subtree room.from room.up_to i spot spares room.below room.spares_hold room.rooms room.once a (branch_of x) left t_room g_room

        module _ (n : ℕ) (many : IfSome (nodes_of (live_at a) p) (λ node. n ≡ length node.entries)) where
          pub wide_grows : (d : RegionState) → n < 16 → WritesNode p (widened i (branch_of x)) a d
              → (parent : Option Place) (low high : Option (List ℕ)) → IsSubtree (nodes_of (live_at r)) lev parent low high p → IsFrom low (keyed key number) → IsUpTo high (keyed key number)
              → Grows (nodes_of (live_at r)) (nodes_of (live_at d)) lev parent low high p [] key number (drop left spares)
          wide_grows d few w parent low high upper from up =
              let sub = deeper a (branch_of x ∷ []) left grows touched parent low high upper in
              subst (λ k. Grows (nodes_of (live_at r)) (nodes_of (live_at d)) k parent low high p [] key number (drop left spares)) (sym deep)
              (below.wide_grows r level p key number parent low high sub from up i spot spares room.below room.spares_hold room.rooms room.once a (branch_of x) left (touched_at a (branch_of x ∷ []) left grows touched parent low high sub from up)
              (grown_at a (branch_of x ∷ []) left grows touched parent low high sub from up) d n many few w)

          pub wide_touched : (d : RegionState) → WritesNode p (widened i (branch_of x)) a d → Touched (nodes_below (nodes_of (live_at r)) lev (Some p) ++ spares) r d
          wide_touched d w =
              subst (λ k. Touched (nodes_below (nodes_of (live_at r)) k (Some p) ++ spares) r d) (sym deep)
              (below.wide_touched r level p key number room.parent room.low room.high room.subtree room.from room.up_to i spot spares room.below room.spares_hold room.rooms room.once a (branch_of x) left t_room g_room d w)

          module _ (d0 : Place) (some_left : 1 ≤ left) (left_short : left ≤ length spares) (full : 16 ≤ n) where
            pub new_held : HoldsNode (live_at a) (get_or spares (left - 1) d0)
            new_held = below.q_held r level p key number room.parent room.low room.high room.subtree room.from room.up_to i spot spares room.below room.spares_hold room.rooms room.once a (branch_of x) left t_room g_room d0 some_left left_short n many full

            pub new_apart : p ≢ get_or spares (left - 1) d0
            new_apart = below.q_apart r level p key number room.parent room.low room.high room.subtree room.from room.up_to i spot spares room.below room.spares_hold room.rooms room.once a (branch_of x) left t_room g_room d0 some_left left_short n many full

            pub full_is : IfSome (nodes_of (live_at a) p) (λ node. length node.entries ≡ 16)
            full_is = below.full_is r level p key number room.parent room.low room.high room.subtree room.from room.up_to i spot spares room.below room.spares_hold room.rooms room.once a (branch_of x) left t_room g_room d0 some_left left_short n many full

            pub i_short : i ≤ 16
            i_short = below.i_short r level p key number room.parent room.low room.high room.subtree room.from room.up_to i spot spares room.below room.spares_hold room.rooms room.once a (branch_of x) left t_room g_room d0 some_left left_short n many full

            pub upper_held : IfSome (nodes_of (live_at a) p) (λ node. All (HoldsNode (live_at a)) (upper_places i (branch_of x) node))
            upper_held = below.upper_held r level p key number room.parent room.low room.high room.subtree room.from room.up_to i spot spares room.below room.spares_hold room.rooms room.once a (branch_of x) left t_room g_room d0 some_left left_short n many full

            pub upper_not_p : IfSome (nodes_of (live_at a) p) (λ node. times p (upper_places i (branch_of x) node) ≡ 0)
            upper_not_p = below.upper_not_p r level p key number room.parent room.low room.high room.subtree room.from room.up_to i spot spares room.below room.spares_hold room.rooms room.once a (branch_of x) left t_room g_room d0 some_left left_short n many full

            pub upper_not_new : IfSome (nodes_of (live_at a) p) (λ node. times (get_or spares (left - 1) d0) (upper_places i (branch_of x) node) ≡ 0)
            upper_not_new = below.upper_not_q r level p key number room.parent room.low room.high room.subtree room.from room.up_to i spot spares room.below room.spares_hold room.rooms room.once a (branch_of x) left t_room g_room d0 some_left left_short n many full

            module _ (e : RegionState) (y : Split) (cuts : IfSome (nodes_of (live_at a) p) (λ node. CutsInner i (branch_of x) p (get_or spares (left - 1) d0) node y (nodes_of (live_at e))))
                (adopts : IfSome (nodes_of (live_at a) p) (λ node. AdoptsBeside (upper_places i (branch_of x) node) p (get_or spares (left - 1) d0) (link_to (Some (get_or spares (left - 1) d0))) a e)) where
              pub split_touched : Touched (nodes_below (nodes_of (live_at r)) lev (Some p) ++ spares) r e
              split_touched =
                  subst (λ k. Touched (nodes_below (nodes_of (live_at r)) k (Some p) ++ spares) r e) (sym deep)
                  (below.split_touched r level p key number room.parent room.low room.high room.subtree room.from room.up_to i spot spares room.below room.spares_hold room.rooms room.once a (branch_of x) left t_room g_room d0 some_left left_short n many full e y cuts adopts)

              pub split_grows : (parent : Option Place) (low high : Option (List ℕ)) → IsSubtree (nodes_of (live_at r)) lev parent low high p → IsFrom low (keyed key number)
                  → IsUpTo high (keyed key number) → Grows (nodes_of (live_at r)) (nodes_of (live_at e)) lev parent low high p (branch_of y ∷ []) key number (drop (left - 1) spares)
              split_grows parent low high upper from up =
                  let sub = deeper a (branch_of x ∷ []) left grows touched parent low high upper in
                  let t = touched_at a (branch_of x ∷ []) left grows touched parent low high sub from up in
                  let g = grown_at a (branch_of x ∷ []) left grows touched parent low high sub from up in
                  subst (λ k. Grows (nodes_of (live_at r)) (nodes_of (live_at e)) k parent low high p (branch_of y ∷ []) key number (drop (left - 1) spares)) (sym deep)
                  (below.split_grows r level p key number parent low high sub from up i spot spares room.below room.spares_hold room.rooms room.once a (branch_of x) left t g d0 some_left left_short n many full e y cuts adopts
                  (below.room_here r level p key number parent low high sub from up i spot spares room.below room.spares_hold room.rooms room.once a (branch_of x) left t g d0 some_left left_short n many full e y cuts adopts))
