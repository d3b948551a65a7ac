-- A key put in below an inner node of the segments.
use Rattle.std.proofs.Common.{◌≡◌, ◌≢◌, ℕ, suc, ◌+◌, ◌-◌, ◌<◌, ◌≤◌, ◌^◌, false, List, [], ◌∷◌, ◌++◌, All, length, take, drop, map, get_or, Option, Some, option_map, sym, ap, subst, ◌∙◌, arith, is_lt}
use Rattle.std.specs.Prelude.{IfSome}
use Rattle.std.specs.List.{insert}
use Rattle.std.proofs.lemmas.List.{drop_more, get_or-take, length-map, take_all}
use Rattle.std.proofs.lemmas.List.Elements.{All-append, All-cons, All-drop, All-get_or, All-head, All-take}
use Rattle.regions.specs.Segments.{RegionState}
use Rattle.regions.specs.Contents.{live_at}
use Rattle.regions.specs.declared.place.Place.{Place}
use Rattle.tree_nodes.specs.Nodes.{Entry, TreeNode, child_at, no_place}
use Rattle.tree_nodes.specs.Order.{key_cmp}
use Rattle.index_tree.specs.Inserts.{Branch, Grows, IsRoom, IsSeparator, Row, Spread, Touched, entry_of, of_row, times}
use Rattle.regions.specs.Places.{HasRoom, link_to, place_of_link}
use Rattle.index_tree.specs.Splits.{AdoptsBeside, CutsInner, branch_of, lower_half, upper_half, upper_places, widened}
use Rattle.index_tree.specs.Store.{HoldsNode, nodes_of}
use Rattle.index_tree.specs.Trees.{IsFrom, IsSubtree, IsUpTo, nodes_below}
use Rattle.index_tree.specs.Ways.{AllAbove, LeadsTo}
use Rattle.index_tree.specs.Writes.{WritesNode}
use Rattle.index_tree.specs.declared.split.Split.{Split}
use Rattle.index_tree.proofs.Frame.{below_children, small_link}
use Rattle.index_tree.proofs.FrameRows.{Opened, branch, gathered, left_in, links_of, open_node, right_in, row_room}
use Rattle.index_tree.proofs.InsertHalves as halves
use Rattle.index_tree.proofs.InsertInner.{grown_kept, grown_row, grown_split, grown_wider, own_kept}
use Rattle.index_tree.proofs.InsertNode.{length-links, roots, separators_of}
use Rattle.index_tree.proofs.InsertLeaf.{far_by_times}
use Rattle.index_tree.proofs.InsertRows.{all_by_times, child_among, child_in, keyed, of_row_append, row_back, times_append, times_here, times_of_all, times_own, times_past}
use Rattle.index_tree.proofs.InsertedLeaf.{times_get}
use Rattle.index_tree.proofs.Moved.{room_of}
use Rattle.place_lemmas.proofs.Places.{led_back}
use Rattle.index_tree.proofs.Touches.{if_value, live_same, node_past, touched_among, touched_by, touched_then, value_of}
use Rattle.index_tree.proofs.InsertWay.{drop_times, got_link, rooms_back, roots_among, row_child, spot_left, spot_right}

module _ (r : RegionState) (level : ℕ) (p : Place) (key : List ℕ) (number : ℕ) (parent : Option Place) (low high : Option (List ℕ))
    (sub : IsSubtree (nodes_of (live_at r)) (suc level) parent low high p) (from : IsFrom low (keyed key number)) (up : IsUpTo high (keyed key number))
    (i : ℕ) (spot : IfSome (nodes_of (live_at r) p) (λ node. LeadsTo node key i)) where
  abbrev o : Opened (nodes_of (live_at r)) level parent low high p
  o = open_node (nodes_of (live_at r)) level parent low high p sub

  as_many : length o.node.entries ≡ length o.branches
  as_many = ap (λ (es : List Entry). length es) o.entries ∙ length-map o.branches entry_of

  spot_here : LeadsTo o.node key i
  spot_here = value_of (λ (n : TreeNode). LeadsTo n key i) (nodes_of (live_at r) p) o.node o.is spot

  pub within : i ≤ length o.branches
  within = let w = spot_here.within in let l = as_many in omega (arith, w, l)

  pub few : length o.branches ≤ 16
  few = let f = o.of.stands.few in let l = as_many in omega arith

  abbrev pub child : Place
  child = child_in o.first o.branches i

  pub least : IsFrom (left_in low (map entry_of o.branches) i) (keyed key number)
  least =
      spot_left key number (map entry_of o.branches) i low from
      (subst (λ (es : List Entry). All (λ e. is_lt (key_cmp key e.key) ≡ false) (take i es)) o.entries spot_here.upto)

  pub below : IsUpTo (right_in (map entry_of o.branches) high i) (keyed key number)
  below = spot_right key number (map entry_of o.branches) i high up (subst (λ (es : List Entry). AllAbove key (drop i es)) o.entries spot_here.above)

  pub child_sub : IsSubtree (nodes_of (live_at r)) level (Some p) (left_in low (map entry_of o.branches) i) (right_in (map entry_of o.branches) high i) child
  child_sub = row_child (nodes_of (live_at r)) level (Some p) low high o.first o.branches i o.row within

  pub child_is : (l : ℕ) (q : Place) → IfSome (nodes_of (live_at r) p) (λ node. l ≡ child_at node i) → q ≡ place_of_link l → q ≡ child
  child_is l q link place =
      let w = within in
      let m = as_many in
      let at : l ≡ child_at o.node i = value_of (λ (n : TreeNode). l ≡ child_at n i) (nodes_of (live_at r) p) o.node o.is link in
      place
      ∙ (ap (λ k. place_of_link k) (at ∙ (sym (get_or-take (suc (length o.node.entries)) o.node.children i no_place (omega arith)) ∙ (ap (λ (ls : List ℕ). get_or ls i no_place) o.links ∙ got_link o.first o.branches i within)))
      ∙ led_back child (room_of (nodes_of (live_at r)) level (Some p) (left_in low (map entry_of o.branches) i) (right_in (map entry_of o.branches) high i) child child_sub))

  abbrev pub ChildGrown : RegionState → List Branch → List Place → Type 0
  ChildGrown a cs used =
      Grows (nodes_of (live_at r)) (nodes_of (live_at a)) level (Some p) (left_in low (map entry_of o.branches) i) (right_in (map entry_of o.branches) high i) child cs key number used

  pub child_grown : (q : Place) → q ≡ child → (a : RegionState) (cs : List Branch) (used : List Place)
      → ((above : Option Place) (l h : Option (List ℕ)) → IsSubtree (nodes_of (live_at r)) level above l h q → IsFrom l (keyed key number) → IsUpTo h (keyed key number)
      → Grows (nodes_of (live_at r)) (nodes_of (live_at a)) level above l h q cs key number used) → ChildGrown a cs used
  child_grown q is a cs used grows =
      subst (λ (x : Place). Grows (nodes_of (live_at r)) (nodes_of (live_at a)) level (Some p) (left_in low (map entry_of o.branches) i) (right_in (map entry_of o.branches) high i) x cs key number used) is
      (grows (Some p) (left_in low (map entry_of o.branches) i) (right_in (map entry_of o.branches) high i)
      (subst (λ (x : Place). IsSubtree (nodes_of (live_at r)) level (Some p) (left_in low (map entry_of o.branches) i) (right_in (map entry_of o.branches) high i) x) (sym is) child_sub) least below)

  -- the nodes below the child are among those below the node
  pub child_times : (x : Place) → times x (nodes_below (nodes_of (live_at r)) level (Some child)) ≤ times x (below_children (nodes_of (live_at r)) (suc level) p)
  child_times x =
      let a = child_among (nodes_of (live_at r)) level o.first o.branches i within x in
      let same : times x (below_children (nodes_of (live_at r)) (suc level) p) ≡ times x (of_row (nodes_below (nodes_of (live_at r)) level) o.first o.branches) =
      ap (λ (t : List Place). times x t) (gathered (nodes_below (nodes_of (live_at r)) level) (nodes_of (live_at r)) level parent low high p o) in
      omega arith

  module _ (spares : List Place) (below_held : All (HoldsNode (live_at r)) (nodes_below (nodes_of (live_at r)) (suc level) (Some p))) (spares_held : All (HoldsNode (live_at r)) spares)
      (rooms : All HasRoom spares) (once : (x : Place) → times x (nodes_below (nodes_of (live_at r)) (suc level) (Some p) ++ spares) ≤ 1) where
    abbrev pub all_places : List Place
    all_places = nodes_below (nodes_of (live_at r)) (suc level) (Some p) ++ spares

    pub all_held : All (HoldsNode (live_at r)) (nodes_below (nodes_of (live_at r)) (suc level) (Some p) ++ spares)
    all_held = All-append (HoldsNode (live_at r)) (nodes_below (nodes_of (live_at r)) (suc level) (Some p)) spares below_held spares_held

    all_times : (x : Place) → times x (nodes_below (nodes_of (live_at r)) (suc level) (Some p) ++ spares) ≡ times x (p ∷ below_children (nodes_of (live_at r)) (suc level) p) + times x spares
    all_times x = times_append x (p ∷ below_children (nodes_of (live_at r)) (suc level) p) spares

    child_outside : (x : Place) → times x (nodes_below (nodes_of (live_at r)) (suc level) (Some p) ++ spares) ≡ 0 → times x (nodes_below (nodes_of (live_at r)) level (Some child) ++ spares) ≡ 0
    child_outside x none =
        let a = all_times x in
        let b = times_append x (nodes_below (nodes_of (live_at r)) level (Some child)) spares in
        let c = child_times x in
        omega arith

    -- there is room below the child
    pub child_room : suc level < length spares → IsRoom (live_at r) level child spares key number
    child_room many = record {
      parent = Some p;
      low = left_in low (map entry_of o.branches) i;
      high = right_in (map entry_of o.branches) high i;
      subtree = child_sub;
      from = least;
      up_to = below;
      below = all_by_times (HoldsNode (live_at r)) (nodes_below (nodes_of (live_at r)) level (Some child))
          (λ x some. times_of_all (HoldsNode (live_at r)) (p ∷ below_children (nodes_of (live_at r)) (suc level) p) x below_held (let a = child_times x in omega arith));
      spares_hold = spares_held;
      rooms = rooms;
      once = λ x.
          (let whole = once x in
          let a = all_times x in
          let b = times_append x (nodes_below (nodes_of (live_at r)) level (Some child)) spares in
          let c = child_times x in
          omega arith);
      many = omega arith;
    }

    -- and after the child grew
    module _ (a : RegionState) (cs : List Branch) (left : ℕ) (touched : Touched (nodes_below (nodes_of (live_at r)) level (Some child) ++ spares) r a)
        (grown : Grows (nodes_of (live_at r)) (nodes_of (live_at a)) level (Some p) (left_in low (map entry_of o.branches) i) (right_in (map entry_of o.branches) high i) child cs key number (drop left spares)) where
      pub all_touched : Touched (nodes_below (nodes_of (live_at r)) (suc level) (Some p) ++ spares) r a
      all_touched = touched_among (nodes_below (nodes_of (live_at r)) level (Some child) ++ spares) (nodes_below (nodes_of (live_at r)) (suc level) (Some p) ++ spares) r a all_held child_outside touched

      apart : (x : Place) → times x (nodes_below (nodes_of (live_at r)) (suc level) (Some p) ++ drop left spares) ≤ 1
      apart x =
          let whole = once x in
          let b = all_times x in
          let c = times_append x (p ∷ below_children (nodes_of (live_at r)) (suc level) p) (drop left spares) in
          let d = drop_times x spares left in
          omega arith

      pub still : nodes_of (live_at a) p ≡ nodes_of (live_at r) p
      still = own_kept (nodes_of (live_at r)) (nodes_of (live_at a)) level parent low high p o i within key number (drop left spares) least below apart cs grown

      pub now_is : nodes_of (live_at a) p ≡ Some o.node
      now_is = still ∙ o.is

      pub holds_now : HoldsNode (live_at a) p
      holds_now = times_of_all (HoldsNode (live_at a)) (nodes_below (nodes_of (live_at r)) (suc level) (Some p) ++ spares) p all_touched.holds
          (let b = all_times p in let c = times_here p (below_children (nodes_of (live_at r)) (suc level) p) in omega arith)

    -- the child stayed one
    module _ (a : RegionState) (left : ℕ) (touched : Touched (nodes_below (nodes_of (live_at r)) level (Some child) ++ spares) r a)
        (grown : Grows (nodes_of (live_at r)) (nodes_of (live_at a)) level (Some p) (left_in low (map entry_of o.branches) i) (right_in (map entry_of o.branches) high i) child [] key number (drop left spares)) where
      pub kept_grows : Grows (nodes_of (live_at r)) (nodes_of (live_at a)) (suc level) parent low high p [] key number (drop left spares)
      kept_grows = grown_kept (nodes_of (live_at r)) (nodes_of (live_at a)) level parent low high p o i within key number (drop left spares) least below (apart a [] left touched grown) grown

    -- the child became two
    module _ (a : RegionState) (b : Branch) (left : ℕ) (touched : Touched (nodes_below (nodes_of (live_at r)) level (Some child) ++ spares) r a)
        (grown : Grows (nodes_of (live_at r)) (nodes_of (live_at a)) level (Some p) (left_in low (map entry_of o.branches) i) (right_in (map entry_of o.branches) high i) child (b ∷ []) key number (drop left spares)) where
      pub spot_now : IfSome (nodes_of (live_at a) p) (λ node. i ≤ length node.entries)
      spot_now = if_value (λ (n : TreeNode). i ≤ length n.entries) (nodes_of (live_at a) p) o.node (now_is a (b ∷ []) left touched grown) (let w = within in let m = as_many in omega arith)

      count_here : (n : ℕ) → IfSome (nodes_of (live_at a) p) (λ node. n ≡ length node.entries) → n ≡ length o.branches
      count_here n many = value_of (λ (m : TreeNode). n ≡ length m.entries) (nodes_of (live_at a) p) o.node (now_is a (b ∷ []) left touched grown) many ∙ as_many

      pub wide_grows : (d : RegionState) (n : ℕ) → IfSome (nodes_of (live_at a) p) (λ node. n ≡ length node.entries) → n < 16 → WritesNode p (widened i b) a d
          → Grows (nodes_of (live_at r)) (nodes_of (live_at d)) (suc level) parent low high p [] key number (drop left spares)
      wide_grows d n many few_now w =
          grown_wider (nodes_of (live_at r)) (nodes_of (live_at a)) level parent low high p o i within key number (drop left spares) least below (apart a (b ∷ []) left touched grown)
          (nodes_of (live_at d)) b grown (let c = count_here n many in omega arith)
          (w.here ∙ ap (λ (m : Option TreeNode). option_map (widened i b) m) (now_is a (b ∷ []) left touched grown))
          (λ x far. node_past p (widened i b) a d x w far)

      pub wide_touched : (d : RegionState) → WritesNode p (widened i b) a d → Touched (nodes_below (nodes_of (live_at r)) (suc level) (Some p) ++ spares) r d
      wide_touched d w =
          let t = all_touched a (b ∷ []) left touched grown in
          touched_then (nodes_below (nodes_of (live_at r)) (suc level) (Some p) ++ spares) r a d t
          (touched_by (nodes_below (nodes_of (live_at r)) (suc level) (Some p) ++ spares) p (widened i b) a d t.holds
          (let y = all_times p in let c = times_here p (below_children (nodes_of (live_at r)) (suc level) p) in omega arith) w)

      -- with a spare node for the upper half
      module _ (d0 : Place) (some_left : 1 ≤ left) (left_short : left ≤ length spares) (n : ℕ) (many : IfSome (nodes_of (live_at a) p) (λ node. n ≡ length node.entries)) (full_now : 16 ≤ n) where
        abbrev q : Place
        q = get_or spares (left - 1) d0

        abbrev wide : List Branch
        wide = insert o.branches i b

        abbrev row : Spread (nodes_of (live_at r)) (nodes_of (live_at a)) level (Some p) low high o.first o.branches (insert o.branches i b) key number (drop left spares)
        row = grown_row (nodes_of (live_at r)) (nodes_of (live_at a)) level parent low high p o i within key number (drop left spares) least below (apart a (b ∷ []) left touched grown) (b ∷ []) grown

        sixteen : length o.branches ≡ 16
        sixteen = let c = count_here n many in let f = few in omega arith

        abbrev us : List Branch
        us = take 8 wide

        abbrev m : Branch
        m = get_or wide 8 b

        abbrev vs : List Branch
        vs = drop 9 wide

        parts : wide ≡ us ++ m ∷ vs
        parts = halves.parts (nodes_of (live_at r)) level parent low high p o i b within sixteen

        eight_us : length us ≡ 8
        eight_us = halves.eight_us (nodes_of (live_at r)) level parent low high p o i b within sixteen

        eight_vs : length vs ≡ 8
        eight_vs = halves.eight_vs (nodes_of (live_at r)) level parent low high p o i b within sixteen

        wide_row : Row (nodes_of (live_at a)) level (Some p) low o.first (us ++ m ∷ vs) high
        wide_row = subst (λ (t : List Branch). Row (nodes_of (live_at a)) level (Some p) low o.first t high) parts row.row

        upper_row : Row (nodes_of (live_at a)) level (Some p) (Some m.entry.key) m.place vs high
        upper_row = row_back (nodes_of (live_at a)) level (Some p) low high o.first us m vs wide_row

        pub upper_is : upper_places i b o.node ≡ roots m.place vs
        upper_is =
            ap (λ (ls : List ℕ). map place_of_link (take 9 ls)) (halves.upper_links (nodes_of (live_at r)) level parent low high p o i b within sixteen)
            ∙ (ap (λ (ls : List ℕ). map place_of_link ls) (take_all 9 (links_of m.place vs) (let l = length-links m.place vs in let e = eight_vs in omega arith))
            ∙ rooms_back (nodes_of (live_at a)) level (Some p) (Some m.entry.key) high m.place vs upper_row)

        -- the places of the upper half are among those of the row
        upper_times : (x : Place) → times x (roots m.place vs) ≤ times x (of_row (nodes_below (nodes_of (live_at r)) level) o.first o.branches) + times x (drop left spares)
        upper_times x =
            let c = roots_among (nodes_of (live_at a)) level x m.place vs in
            let e : times x (of_row (nodes_below (nodes_of (live_at a)) level) o.first wide)
            ≡ times x (of_row (nodes_below (nodes_of (live_at a)) level) o.first us ++ of_row (nodes_below (nodes_of (live_at a)) level) m.place vs) =
            ap (λ (t : List Branch). times x (of_row (nodes_below (nodes_of (live_at a)) level) o.first t)) parts
            ∙ ap (λ (t : List Place). times x t) (of_row_append (nodes_below (nodes_of (live_at a)) level) o.first us m vs) in
            let f = times_append x (of_row (nodes_below (nodes_of (live_at a)) level) o.first us) (of_row (nodes_below (nodes_of (live_at a)) level) m.place vs) in
            let g = row.places x in
            omega arith

        gathered_times : (x : Place) → times x (below_children (nodes_of (live_at r)) (suc level) p) ≡ times x (of_row (nodes_below (nodes_of (live_at r)) level) o.first o.branches)
        gathered_times x = ap (λ (t : List Place). times x t) (gathered (nodes_below (nodes_of (live_at r)) level) (nodes_of (live_at r)) level parent low high p o)

        pub q_there : 1 ≤ times q spares
        q_there = times_get spares (left - 1) d0 (omega arith)

        pub q_apart : p ≢ q
        q_apart e =
            let there : 1 ≤ times p spares = subst (λ (x : Place). 1 ≤ times x spares) (sym e) q_there in
            let c = once p in
            let f = all_times p in
            let g = times_own p (below_children (nodes_of (live_at r)) (suc level) p) in
            omega arith

        used_is : drop (left - 1) spares ≡ q ∷ drop left spares
        used_is = drop_more spares (left - 1) d0 (omega arith) ∙ ap (λ k. q ∷ drop k spares) {x = left - 1 + 1} {y = left} (omega arith)

        q_once : times q (drop left spares) ≡ 0
        q_once =
            let c = once q in
            let f = all_times q in
            let g = drop_times q spares (left - 1) in
            let h : times q (drop (left - 1) spares) ≡ times q (q ∷ drop left spares) = ap (λ (t : List Place). times q t) used_is in
            let k = times_own q (drop left spares) in
            omega arith

        pub q_free : times q (nodes_below (nodes_of (live_at r)) (suc level) (Some p) ++ drop left spares) ≡ 0
        q_free =
            let c = once q in
            let f = all_times q in
            let g = times_append q (p ∷ below_children (nodes_of (live_at r)) (suc level) p) (drop left spares) in
            let there = q_there in
            let k = q_once in
            omega arith

        pub q_held : HoldsNode (live_at a) q
        q_held = times_of_all (HoldsNode (live_at a)) (nodes_below (nodes_of (live_at r)) (suc level) (Some p) ++ spares) q (all_touched a (b ∷ []) left touched grown).holds
            (let f = all_times q in let there = q_there in omega arith)

        pub full_is : IfSome (nodes_of (live_at a) p) (λ node. length node.entries ≡ 16)
        full_is = if_value (λ (t : TreeNode). length t.entries ≡ 16) (nodes_of (live_at a) p) o.node (now_is a (b ∷ []) left touched grown) (as_many ∙ sixteen)

        pub i_short : i ≤ 16
        i_short = let w = within in let f = few in omega arith

        pub upper_held : IfSome (nodes_of (live_at a) p) (λ node. All (HoldsNode (live_at a)) (upper_places i b node))
        upper_held = if_value (λ (t : TreeNode). All (HoldsNode (live_at a)) (upper_places i b t)) (nodes_of (live_at a) p) o.node (now_is a (b ∷ []) left touched grown)
            (subst (λ (t : List Place). All (HoldsNode (live_at a)) t) (sym upper_is)
            (all_by_times (HoldsNode (live_at a)) (roots m.place vs)
            (λ x some. times_of_all (HoldsNode (live_at a)) (nodes_below (nodes_of (live_at r)) (suc level) (Some p) ++ spares) x (all_touched a (b ∷ []) left touched grown).holds
            (let c = upper_times x in let e = gathered_times x in let f = all_times x in let g = drop_times x spares left in omega arith))))

        p_none : times p (roots m.place vs) ≡ 0
        p_none =
            let c = upper_times p in
            let e = gathered_times p in
            let f = apart a (b ∷ []) left touched grown p in
            let g = times_append p (p ∷ below_children (nodes_of (live_at r)) (suc level) p) (drop left spares) in
            let h = times_own p (below_children (nodes_of (live_at r)) (suc level) p) in
            omega arith

        q_none : times q (roots m.place vs) ≡ 0
        q_none =
            let c = upper_times q in
            let e = gathered_times q in
            let f = q_free in
            let g = times_append q (p ∷ below_children (nodes_of (live_at r)) (suc level) p) (drop left spares) in
            omega arith

        pub upper_not_p : IfSome (nodes_of (live_at a) p) (λ node. times p (upper_places i b node) ≡ 0)
        upper_not_p = if_value (λ (t : TreeNode). times p (upper_places i b t) ≡ 0) (nodes_of (live_at a) p) o.node (now_is a (b ∷ []) left touched grown) (ap (λ (t : List Place). times p t) upper_is ∙ p_none)

        pub upper_not_q : IfSome (nodes_of (live_at a) p) (λ node. times q (upper_places i b node) ≡ 0)
        upper_not_q = if_value (λ (t : TreeNode). times q (upper_places i b t) ≡ 0) (nodes_of (live_at a) p) o.node (now_is a (b ∷ []) left touched grown) (ap (λ (t : List Place). times q t) upper_is ∙ q_none)

        b_small : link_to (Some b.place) < 2 ^ 64
        b_small =
            small_link (nodes_of (live_at r)) (nodes_of (live_at a)) (Some b.place) (row_room (nodes_of (live_at a)) level (Some p) b.place [] (Some b.entry.key) (right_in (map entry_of o.branches) high i) grown.spread.row.1)

        middle_number : m.entry.number ≡ 0
        middle_number =
            (All-get_or IsSeparator wide 8 b (let s = halves.seventeen (nodes_of (live_at r)) level parent low high p o i b within sixteen in omega arith)
            (All-append IsSeparator (take i o.branches) (b ∷ drop i o.branches) (All-take IsSeparator i o.branches (separators_of (nodes_of (live_at r)) level parent low high p o))
            (All-cons IsSeparator b (drop i o.branches) (All-head IsSeparator b [] grown.separators) (All-drop IsSeparator i o.branches (separators_of (nodes_of (live_at r)) level parent low high p o))))).1

        module _ (e : RegionState) (x : Split) (cuts : IfSome (nodes_of (live_at a) p) (λ node. CutsInner i b p q node x (nodes_of (live_at e))))
            (adopts : IfSome (nodes_of (live_at a) p) (λ node. AdoptsBeside (upper_places i b node) p q (link_to (Some q)) a e)) where
          cut : CutsInner i b p q o.node x (nodes_of (live_at e))
          cut = value_of (λ (t : TreeNode). CutsInner i b p q t x (nodes_of (live_at e))) (nodes_of (live_at a) p) o.node (now_is a (b ∷ []) left touched grown) cuts

          adopted : AdoptsBeside (roots m.place vs) p q (link_to (Some q)) a e
          adopted = subst (λ (ps : List Place). AdoptsBeside ps p q (link_to (Some q)) a e) upper_is
              (value_of (λ (t : TreeNode). AdoptsBeside (upper_places i b t) p q (link_to (Some q)) a e) (nodes_of (live_at a) p) o.node (now_is a (b ∷ []) left touched grown) adopts)

          branch_is : branch m.entry q ≡ branch_of x
          branch_is =
              ap (λ k. branch (keyed m.entry.key k) q) middle_number
              ∙ (ap (λ (t : Entry). branch (keyed t.key 0) q) (sym (halves.middle_is (nodes_of (live_at r)) level parent low high p o i b within sixteen))
              ∙ (ap (λ (k : List ℕ). branch (keyed k 0) q) (sym cut.key) ∙ ap (λ (y : Place). branch (keyed (take x.len x.key) 0) y) (sym cut.place)))

          pub split_grows : HasRoom q → Grows (nodes_of (live_at r)) (nodes_of (live_at e)) (suc level) parent low high p (branch_of x ∷ []) key number (drop (left - 1) spares)
          split_grows room_q =
              subst (λ (t : Branch). Grows (nodes_of (live_at r)) (nodes_of (live_at e)) (suc level) parent low high p (t ∷ []) key number (drop (left - 1) spares)) branch_is
              (subst (λ (t : List Place). Grows (nodes_of (live_at r)) (nodes_of (live_at e)) (suc level) parent low high p (branch m.entry q ∷ []) key number t) (sym used_is)
              (grown_split (nodes_of (live_at r)) (nodes_of (live_at a)) level parent low high p o i within key number (drop left spares) least below (apart a (b ∷ []) left touched grown)
              (nodes_of (live_at e)) b grown q us vs m room_q q_free parts eight_us eight_vs (lower_half i b o.node) (upper_half i b o.node) cut.here cut.behind
              (halves.half_left (nodes_of (live_at r)) level parent low high p o i b within sixteen b_small)
              (halves.half_right (nodes_of (live_at r)) level parent low high p o i b within sixteen b_small)
              adopted.adopted (λ y far_p far_q none. live_same a e y (adopted.others y far_p far_q none))))

          pub room_here : HasRoom q
          room_here = All-get_or HasRoom spares (left - 1) d0 (omega arith) rooms

          pub split_touched : Touched (nodes_below (nodes_of (live_at r)) (suc level) (Some p) ++ spares) r e
          split_touched =
              let t = all_touched a (b ∷ []) left touched grown in
              touched_then (nodes_below (nodes_of (live_at r)) (suc level) (Some p) ++ spares) r a e t
              (touched_among (p ∷ q ∷ roots m.place vs) (nodes_below (nodes_of (live_at r)) (suc level) (Some p) ++ spares) a e t.holds among
              (record {
                holds = adopted.holds;
                others = λ y none.
                    adopted.others y (far_by_times y p (q ∷ roots m.place vs) none) (far_by_times y q (roots m.place vs) (omega arith)) (omega arith);
                same = adopted.same;
              }))
            where
              among : (y : Place) → times y (nodes_below (nodes_of (live_at r)) (suc level) (Some p) ++ spares) ≡ 0 → times y (p ∷ q ∷ roots m.place vs) ≡ 0
              among y none =
                  let f = all_times y in
                  let c = upper_times y in
                  let g = gathered_times y in
                  let h = drop_times y spares left in
                  let far_p : y ≢ p = far_by_times y p (below_children (nodes_of (live_at r)) (suc level) p) (omega arith) in
                  let far_q : y ≢ q = λ e2. (let there = q_there in let mine : 1 ≤ times y spares = subst (λ (z : Place). 1 ≤ times z spares) (sym e2) q_there in absurd (omega arith)) in
                  let u = times_past y p (q ∷ roots m.place vs) far_p in
                  let v = times_past y q (roots m.place vs) far_q in
                  omega arith
