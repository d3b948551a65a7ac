-- A key put into a whole tree of the segments.
use Rattle.std.proofs.Common.{◌≡◌, ◌≢◌, ℕ, suc, ◌+◌, ◌-◌, ◌<◌, ◌≤◌, ◌^◌, List, [], ◌∷◌, ◌++◌, All, length, drop, get_or, Option, Some, None, option_map, refl, sym, ap, subst, ◌∙◌, arith}
use Rattle.std.proofs.lemmas.List.{drop_all, drop_more}
use Rattle.std.proofs.lemmas.List.Elements.{All-cons, All-get_or, All-head, All-nil, All-replicate, All-tail}
use Rattle.regions.specs.Segments.{RegionState}
use Rattle.regions.specs.Contents.{live_at}
use Rattle.regions.specs.declared.place.Place.{Place}
use Rattle.tree_nodes.specs.Nodes.{TreeNode, IsEntry, no_place, started}
use Rattle.index_tree.specs.Inserts.{Branch, Grows, IsRoom, Plants, Touched, times}
use Rattle.regions.specs.Places.{HasRoom, link_to, place_of_link}
use Rattle.index_tree.specs.Links.{with_parent}
use Rattle.index_tree.specs.Splits.{Adopts, AdoptsBeside, branch_of, child_places, top_node}
use Rattle.index_tree.specs.Store.{HoldsNode, nodes_of}
use Rattle.tree_nodes.specs.Order.{IsBelow}
use Rattle.index_tree.specs.Trees.{IsSubtree, IsFrom, IsUpTo, entries_of, next_in, nodes_below}
use Rattle.index_tree.specs.Writes.{WritesNode, with_entry}
use Rattle.index_tree.specs.declared.split.Split.{Split}
use Rattle.index_tree.proofs.Frame.{below_children, nodes_from}
use Rattle.index_tree.proofs.FrameRows.{row_room}
use Rattle.index_tree.proofs.InsertWay.{drop_times, roots_among}
use Rattle.index_tree.proofs.InsertLeaf.{far_by_times}
use Rattle.index_tree.proofs.InsertRows.{keyed, times_append, times_here, times_of_all, times_own, times_past}
use Rattle.index_tree.proofs.InsertedLeaf.{times_get}
use Rattle.index_tree.proofs.Moved.{room_of}
use Rattle.place_lemmas.proofs.Places.{led_back}
use Rattle.index_tree.proofs.NewRoot.{planted_higher, planted_same}
use Rattle.index_tree.proofs.Touches.{held_same, live_same, node_there, same_then, touched_among, touched_by, touched_then}

-- ---- a new root

module _ (r d : RegionState) (top root : Place) (level : ℕ) (b : Branch) (holds_root : HoldsNode (live_at r) root) (holds_behind : HoldsNode (live_at r) b.place) (not_root : top ≢ root) (not_behind : top ≢ b.place)
    (room_root : HasRoom root) (room_behind : HasRoom b.place) (now : nodes_of (live_at d) top ≡ Some (top_node level root b)) (t : Touched (top ∷ []) r d) where
  two_places : child_places 2 (nodes_of (live_at d) top) ≡ root ∷ b.place ∷ []
  two_places =
      ap (λ (o : Option TreeNode). child_places 2 o) now
      ∙ (ap (λ (q : Place). q ∷ place_of_link (link_to (Some b.place)) ∷ []) (led_back root room_root) ∙ ap (λ (q : Place). root ∷ q ∷ []) (led_back b.place room_behind))

  same_at : (x : Place) → x ≢ top → live_at d x ≡ live_at r x
  same_at x far = t.others x (times_past x top [] far)

  pub two_held : All (HoldsNode (live_at d)) (child_places 2 (nodes_of (live_at d) top))
  two_held =
      subst (λ (ps : List Place). All (HoldsNode (live_at d)) ps) (sym two_places)
      (All-cons (HoldsNode (live_at d)) root (b.place ∷ []) (held_same r d root (same_at root (λ e. not_root (sym e))) holds_root)
      (All-cons (HoldsNode (live_at d)) b.place [] (held_same r d b.place (same_at b.place (λ e. not_behind (sym e))) holds_behind) (All-nil (HoldsNode (live_at d)))))

  top_none : times top (root ∷ b.place ∷ []) ≡ 0
  top_none = let u = times_past top root (b.place ∷ []) not_root in let v = times_past top b.place [] not_behind in omega arith

  pub two_apart : times top (child_places 2 (nodes_of (live_at d) top)) ≡ 0
  two_apart = ap (λ (ps : List Place). times top ps) two_places ∙ top_none

  module _ (e : RegionState) (link : ℕ) (a : Adopts (child_places 2 (nodes_of (live_at d) top)) (child_places 2 (nodes_of (live_at d) top)) link d e) where
    adopts : Adopts (root ∷ b.place ∷ []) (root ∷ b.place ∷ []) link d e
    adopts = subst (λ (ps : List Place). Adopts ps ps link d e) two_places a

    pub top_now : nodes_of (live_at e) top ≡ Some (top_node level root b)
    top_now = live_same d e top (adopts.others top top_none) ∙ now

    pub adopts_two : AdoptsBeside (root ∷ b.place ∷ []) top top link r e
    adopts_two = record {
      adopted = λ x some.
          (let far : x ≢ top = λ is. (let there : 1 ≤ times top (root ∷ b.place ∷ []) = subst (λ (y : Place). 1 ≤ times y (root ∷ b.place ∷ [])) is some in let z = top_none in absurd (omega arith)) in
          adopts.adopted x some ∙ ap (λ (o : Option TreeNode). option_map (with_parent link) o) (live_same r d x (same_at x far)));
      others = λ x far far_too none. adopts.others x none ∙ same_at x far;
      holds =
          (let here : HoldsNode (live_at e) top = held_same d e top (adopts.others top top_none) (All-head (HoldsNode (live_at d)) top [] t.holds) in
          All-cons (HoldsNode (live_at e)) top (top ∷ root ∷ b.place ∷ []) here (All-cons (HoldsNode (live_at e)) top (root ∷ b.place ∷ []) here adopts.holds));
      same = same_then r d e t.same adopts.same;
    }

-- ---- below the root, and above it

module _ (r : RegionState) (level : ℕ) (root : Place) (spares : List Place) (key : List ℕ) (number : ℕ) (room : IsRoom (live_at r) level root spares key number)
    (whole : IsSubtree (nodes_of (live_at r)) level None None None root) (a : RegionState) (left : ℕ) (touched : Touched (nodes_below (nodes_of (live_at r)) level (Some root) ++ spares) r a) where
  pub same_planted : Grows (nodes_of (live_at r)) (nodes_of (live_at a)) level None None None root [] key number (drop left spares)
      → Plants (nodes_of (live_at r)) (nodes_of (live_at a)) level (Some root) level root key number (drop left spares)
  same_planted g = planted_same (nodes_of (live_at r)) (nodes_of (live_at a)) level root key number (drop left spares) g

  module _ (x : Split) (g : Grows (nodes_of (live_at r)) (nodes_of (live_at a)) level None None None root (branch_of x ∷ []) key number (drop left spares)) (d0 : Place) (some_left : 1 ≤ left) (left_short : left ≤ length spares) where
    abbrev top : Place
    top = get_or spares (left - 1) d0

    all_times : (y : Place) → times y (nodes_below (nodes_of (live_at r)) level (Some root) ++ spares) ≡ times y (nodes_below (nodes_of (live_at r)) level (Some root)) + times y spares
    all_times y = times_append y (nodes_below (nodes_of (live_at r)) level (Some root)) spares

    top_there : 1 ≤ times top spares
    top_there = times_get spares (left - 1) d0 (omega arith)

    root_there : 1 ≤ times root (nodes_below (nodes_of (live_at r)) level (Some root))
    root_there = subst (λ (t : List Place). 1 ≤ times root t) (sym (nodes_from (nodes_of (live_at r)) level root)) (times_here root (below_children (nodes_of (live_at r)) level root))

    used_is : drop (left - 1) spares ≡ top ∷ drop left spares
    used_is = drop_more spares (left - 1) d0 (omega arith) ∙ ap (λ k. top ∷ drop k spares) {x = left - 1 + 1} {y = left} (omega arith)

    pub top_held : HoldsNode (live_at a) top
    top_held = times_of_all (HoldsNode (live_at a)) (nodes_below (nodes_of (live_at r)) level (Some root) ++ spares) top touched.holds (let f = all_times top in let t = top_there in omega arith)

    pub root_held : HoldsNode (live_at a) root
    root_held = times_of_all (HoldsNode (live_at a)) (nodes_below (nodes_of (live_at r)) level (Some root) ++ spares) root touched.holds (let f = all_times root in let t = root_there in omega arith)

    -- both places are among those that were there and those used
    two_times : (y : Place) → times y (root ∷ x.place ∷ []) ≤ times y (nodes_below (nodes_of (live_at r)) level (Some root)) + times y (drop left spares)
    two_times y =
        let c = roots_among (nodes_of (live_at a)) level y root (branch_of x ∷ []) in
        let p = g.spread.places y in
        let f = times_append y (nodes_below (nodes_of (live_at r)) level (Some root)) [] in
        omega arith

    two_all : (y : Place) → times y (nodes_below (nodes_of (live_at r)) level (Some root) ++ spares) ≡ 0 → times y (root ∷ x.place ∷ []) ≡ 0
    two_all y none = let f = all_times y in let t = two_times y in let d = drop_times y spares left in omega arith

    behind_there : 1 ≤ times x.place (root ∷ x.place ∷ [])
    behind_there = let h = times_here x.place [] in omega arith

    pub behind_held : HoldsNode (live_at a) x.place
    behind_held = times_of_all (HoldsNode (live_at a)) (nodes_below (nodes_of (live_at r)) level (Some root) ++ spares) x.place touched.holds
        (let f = all_times x.place in let t = two_times x.place in let d = drop_times x.place spares left in let h = behind_there in omega arith)

    -- the new root is neither
    top_once : times top (nodes_below (nodes_of (live_at r)) level (Some root)) + times top (drop left spares) ≡ 0
    top_once =
        let o = room.once top in
        let f = all_times top in
        let d = drop_times top spares (left - 1) in
        let t = top_there in
        let u : times top (drop (left - 1) spares) ≡ times top (top ∷ drop left spares) = ap (λ (ps : List Place). times top ps) used_is in
        let v = times_own top (drop left spares) in
        omega arith

    pub top_not_root : top ≢ root
    top_not_root e = let there : 1 ≤ times top (nodes_below (nodes_of (live_at r)) level (Some root)) = subst (λ (y : Place). 1 ≤ times y (nodes_below (nodes_of (live_at r)) level (Some root))) (sym e) root_there in
        let o = top_once in omega arith

    pub top_not_behind : top ≢ x.place
    top_not_behind e = let there : 1 ≤ times top (root ∷ x.place ∷ []) = subst (λ (y : Place). 1 ≤ times y (root ∷ x.place ∷ [])) (sym e) behind_there in
        let o = top_once in let t = two_times top in omega arith

    pub root_room : HasRoom root
    root_room = room_of (nodes_of (live_at r)) level None None None root whole

    pub behind_room : HasRoom x.place
    behind_room = row_room (nodes_of (live_at a)) level None x.place [] (Some (branch_of x).entry.key) None g.spread.row.1

    module _ (e : RegionState) (high : ℕ) (is_high : high ≡ suc level) (small : high < 2 ^ 16) (now : nodes_of (live_at e) top ≡ Some (top_node high root (branch_of x)))
        (adopts : AdoptsBeside (root ∷ x.place ∷ []) top top (link_to (Some top)) a e) where
      pub higher_planted : Plants (nodes_of (live_at r)) (nodes_of (live_at e)) level (Some root) high top key number (drop (left - 1) spares)
      higher_planted =
          subst (λ n. Plants (nodes_of (live_at r)) (nodes_of (live_at e)) level (Some root) n top key number (drop (left - 1) spares)) (sym is_high)
          (subst (λ (us : List Place). Plants (nodes_of (live_at r)) (nodes_of (live_at e)) level (Some root) (suc level) top key number us) (sym used_is)
          (planted_higher (nodes_of (live_at r)) (nodes_of (live_at a)) (nodes_of (live_at e)) level root top (branch_of x) key number (drop left spares) g
          (All-get_or HasRoom spares (left - 1) d0 (omega arith) room.rooms) (subst (λ n. n < 2 ^ 16) is_high small)
          (subst (λ n. nodes_of (live_at e) top ≡ Some (top_node n root (branch_of x))) is_high now)
          adopts.adopted (λ y far none. live_same a e y (adopts.others y far far none))
          (λ y. (let o = room.once y in
          let f = all_times y in
          let d = drop_times y spares (left - 1) in
          let u : times y (drop (left - 1) spares) ≡ times y (top ∷ drop left spares) = ap (λ (ps : List Place). times y ps) used_is in
          let v = times_append y (nodes_below (nodes_of (live_at r)) level (Some root)) (top ∷ drop left spares) in
          omega arith))))

      pub higher_touched : Touched (nodes_below (nodes_of (live_at r)) level (Some root) ++ spares) r e
      higher_touched =
          touched_then (nodes_below (nodes_of (live_at r)) level (Some root) ++ spares) r a e touched
          (touched_among (top ∷ root ∷ x.place ∷ []) (nodes_below (nodes_of (live_at r)) level (Some root) ++ spares) a e touched.holds among
          (record {
            holds = All-tail (HoldsNode (live_at e)) top (top ∷ root ∷ x.place ∷ []) adopts.holds;
            others = λ y none. (let far : y ≢ top = far_by_times y top (root ∷ x.place ∷ []) none in let p = times_past y top (root ∷ x.place ∷ []) far in adopts.others y far far (omega arith));
            same = adopts.same;
          }))
        where
          among : (y : Place) → times y (nodes_below (nodes_of (live_at r)) level (Some root) ++ spares) ≡ 0 → times y (top ∷ root ∷ x.place ∷ []) ≡ 0
          among y none =
              let f = all_times y in
              let t = two_all y none in
              let far : y ≢ top = λ is. (let mine : 1 ≤ times y spares = subst (λ (z : Place). 1 ≤ times z spares) (sym is) top_there in absurd (omega arith)) in
              let p = times_past y top (root ∷ x.place ∷ []) far in
              omega arith

-- ---- the first leaf

module _ (r s t : RegionState) (spares : List Place) (key : List ℕ) (number : ℕ) (d0 : Place) (some : 1 ≤ length spares) (held : All (HoldsNode (live_at r)) spares) (rooms : All HasRoom spares)
    (some_key : 1 ≤ length key) (short_key : length key ≤ 256) (small : number < 2 ^ 32)
    (begun : WritesNode (get_or spares (length spares - 1) d0) (λ _. started 0) r s) (added : WritesNode (get_or spares (length spares - 1) d0) (with_entry 0 (keyed key number)) s t) where
  abbrev leaf : Place
  leaf = get_or spares (length spares - 1) d0

  leaf_used : drop (length spares - 1) spares ≡ leaf ∷ []
  leaf_used = drop_more spares (length spares - 1) d0 (omega arith) ∙ ap (λ (ps : List Place). leaf ∷ ps) (drop_all (length spares - 1 + 1) spares (omega arith))

  held_leaf : HoldsNode (live_at r) leaf
  held_leaf = All-get_or (HoldsNode (live_at r)) spares (length spares - 1) d0 (omega arith) held

  abbrev first : TreeNode
  first = record (started 0) { entries = keyed key number ∷ [] }

  now : nodes_of (live_at t) leaf ≡ Some first
  now =
      added.here ∙ ap (λ (o : Option TreeNode). option_map (with_entry 0 (keyed key number)) o)
      (begun.here ∙ ap (λ (o : Option TreeNode). option_map (λ (_ : TreeNode). started 0) o) (node_there r leaf held_leaf).1)

  pub first_planted : Plants (nodes_of (live_at r)) (nodes_of (live_at t)) 0 None 0 leaf key number (drop (length spares - 1) spares)
  first_planted =
      subst (λ (us : List Place). Plants (nodes_of (live_at r)) (nodes_of (live_at t)) 0 None 0 leaf key number us) (sym leaf_used) (record {
        rooted = (
          first,
          now,
          All-get_or HasRoom spares (length spares - 1) d0 (omega arith) rooms,
          record {
            level_is = refl;
            parent_is = refl;
            stands = record {
              parent = omega arith;
              level = omega arith;
              next_leaf = omega arith;
              few = omega arith;
              entries = All-cons IsEntry (keyed key number) [] (record { some_key = some_key; short_key = short_key; number = small }) (All-nil IsEntry);
              children = refl;
              places = All-replicate (λ l. l < 2 ^ 64) 17 no_place (omega arith);
            };
            rising = (All-nil (λ later. IsBelow key later.key), tt);
            from = All-cons (IsFrom None) (keyed key number) [] tt (All-nil (IsFrom None));
            up_to = All-cons (IsUpTo None) (keyed key number) [] tt (All-nil (IsUpTo None));
            many = λ other. absurd (other refl);
          },
          All-replicate (λ l. l ≡ no_place) 17 no_place refl,
        );
        held = ap (λ (o : Option TreeNode). entries_of o) now;
        chained = λ c. (ap next_in now, tt);
        places = λ x. omega arith;
        others = λ x none. live_same s t x (added.others x (far_by_times x leaf [] none)) ∙ live_same r s x (begun.others x (far_by_times x leaf [] none));
      })

  pub first_touched : Touched spares r t
  first_touched =
      let there : 1 ≤ times leaf spares = times_get spares (length spares - 1) d0 (omega arith) in
      let t1 = touched_by spares leaf (λ _. started 0) r s held there begun in
      touched_then spares r s t t1 (touched_by spares leaf (with_entry 0 (keyed key number)) s t t1.holds there added)
