-- An inner node below which a key was taken from a child.
use mathlib.Core.List.Sublist
use Rattle.std.proofs.Common.{◌≡◌, ◌≢◌, ℕ, zero, suc, ◌+◌, ◌<◌, ◌≤◌, List, [], ◌∷◌, ◌++◌, All, length, take, drop, map, Option, Some, refl, sym, ap, subst, ◌∙◌, append-nil, arith}
use Rattle.std.specs.List.{flat_map}
use Rattle.std.proofs.lemmas.List.{length-map}
use Rattle.std.proofs.lemmas.List.Elements.{All-weaker}
use Rattle.regions.specs.declared.place.Place.{Place}
use Rattle.tree_nodes.specs.Nodes.{Entry, TreeNode, IsEntry, no_place, started}
use Rattle.tree_nodes.specs.Order.{IsBelow}
use Rattle.index_tree.specs.Indexes.{without}
use Rattle.regions.specs.Places.{led_to}
use Rattle.index_tree.specs.Links.{Nodes}
use Rattle.index_tree.specs.Trees.{IsBetween, IsFrom, IsSubtree, IsUpTo, children_of, entries_of, held_below, if_level, leaves_below, nodes_below, row_below}
use Rattle.index_tree.specs.Inserts.{AreChained, Branch, Row, entry_of, first_link, of_row, times}
use Rattle.index_tree.specs.Removes.{Alters, IsInnerTrunk, Loses}
use Rattle.index_tree.proofs.Bounds.{held_between}
use Rattle.index_tree.proofs.Frame.{Agrees}
use Rattle.index_tree.proofs.FrameRows.{Opened, gathered, left_in, links_of, right_in}
use Rattle.index_tree.proofs.InsertRows.{IsAbove, RowKeys, above_from, all_by_times, child_in, keyed, left_from, row_from, row_joined, row_keys, times_append}
use Rattle.index_tree.proofs.SearchLists.{without_behind, without_front}
use Rattle.index_tree.proofs.KeyOrder.{less_from}
use Rattle.index_tree.proofs.Rows.{kids_row, left_between}
use Rattle.index_tree.proofs.RemoveRows.{alters_behind, alters_front, same_row}
use Rattle.index_tree.proofs.RemoveInner.{HasLinks, reordered, trunk_gathered}

-- ---- a part of a row that became another, in the whole row

module _ (nodes new : Nodes) (level : ℕ) (p : Place) (key : List ℕ) (freed : List Place) where
  -- a row now, that holds what the other one held without the key
  abbrev pub Became : Option (List ℕ) → Option (List ℕ) → Place → List Branch → List Branch → Type 0
  Became low high first bs cs = Row new level (Some p) low first cs high × Alters (without key) nodes new level first bs cs freed

  agree_outside : (ps part : List Place) → ((r : Place) → times r part ≡ 0 → new r ≡ nodes r) → ((r : Place) → times r part + times r ps ≤ 1) → All (Agrees nodes new) ps
  agree_outside ps part others apart = all_by_times (Agrees nodes new) ps (λ r some. others r (let once = apart r in omega (arith, once, some)))

  behind_too : (low high : Option (List ℕ)) (first : Place) (bs cs : List Branch) (b : Branch) (ys : List Branch) → Row nodes level (Some p) (Some b.entry.key) b.place ys high
      → All (Agrees nodes new) (of_row (nodes_below nodes level) b.place ys) → IsUpTo (Some b.entry.key) (keyed key 0)
      → Became low (Some b.entry.key) first bs cs → Became low high first (bs ++ (b ∷ ys)) (cs ++ (b ∷ ys))
  behind_too low high first bs cs b ys row agree under became =
      let same = same_row nodes new level (Some p) b.place ys (Some b.entry.key) high row agree in
      let held : List Entry = of_row (held_below nodes level) b.place ys in (
        row_joined new level (Some p) low high first cs b ys became.0 same.row,
        alters_behind (without key) nodes new level (Some p) freed (Some b.entry.key) high first bs cs b ys same
            (λ t. without_front key t held (All-weaker (IsFrom (Some b.entry.key)) (λ e. IsBelow key e.key) (λ e from. less_from key b.entry.key e.key under from) held (row_from nodes p level b.place ys (Some b.entry.key) high row)))
            became.1,
      )

  front_too : (low high : Option (List ℕ)) (first : Place) (b : Branch) (bs cs : List Branch) → IsSubtree nodes level (Some p) low (Some b.entry.key) first
      → All (Agrees nodes new) (of_row (nodes_below nodes level) first []) → IsFrom (Some b.entry.key) (keyed key 0)
      → Became (Some b.entry.key) high b.place bs cs → Became low high first (b ∷ bs) (b ∷ cs)
  front_too low high first b bs cs sub agree from became =
      let same = same_row nodes new level (Some p) first [] low (Some b.entry.key) sub agree in
      let held : List Entry = held_below nodes level (Some first) in
      let under : All (λ e. IsBelow e.key key) held =
      All-weaker (IsBetween low (Some b.entry.key)) (λ e. IsBelow e.key key) (λ e h. less_from e.key b.entry.key key h.1 from) held (held_between nodes level (Some p) low (Some b.entry.key) first sub) in (
        (same.row, became.0),
        alters_front (without key) nodes new level (Some p) freed low (Some b.entry.key) first [] b bs cs same
            (λ t. without_behind key (held ++ []) t (subst (λ (es : List Entry). All (λ e. IsBelow e.key key) es) (sym (append-nil held)) under))
            became.1,
      )

  times_row : (first : Place) (b : Branch) (bs : List Branch) (r : Place)
      → times r (of_row (nodes_below nodes level) first (b ∷ bs)) ≡ times r (nodes_below nodes level (Some first)) + times r (of_row (nodes_below nodes level) b.place bs)
  times_row first b bs r = times_append r (nodes_below nodes level (Some first)) (of_row (nodes_below nodes level) b.place bs)

  times_one : (first : Place) (r : Place) → times r (of_row (nodes_below nodes level) first []) ≡ times r (nodes_below nodes level (Some first))
  times_one first r = ap (λ (ps : List Place). times r ps) (append-nil (nodes_below nodes level (Some first)))

  -- one child
  pub child_became : (i : ℕ) (first : Place) (bs cs : List Branch) (low high : Option (List ℕ)) → Row nodes level (Some p) low first bs high → i ≤ length bs
      → Became (left_in low (map entry_of bs) i) (right_in (map entry_of bs) high i) (child_in first bs i) [] cs
      → IsFrom (left_in low (map entry_of bs) i) (keyed key 0) → IsUpTo (right_in (map entry_of bs) high i) (keyed key 0)
      → ((r : Place) → times r (nodes_below nodes level (Some (child_in first bs i))) ≡ 0 → new r ≡ nodes r)
      → ((r : Place) → times r (of_row (nodes_below nodes level) first bs) ≤ 1)
      → Became low high first bs (take i bs ++ (cs ++ drop i bs))
  child_became zero first [] cs low high row within became from up others apart = subst (λ (t : List Branch). Became low high first [] t) (sym (append-nil cs)) became
  child_became zero first (b ∷ bs) cs low high row within became from up others apart =
      behind_too low high first [] cs b bs row.1
      (agree_outside (of_row (nodes_below nodes level) b.place bs) (nodes_below nodes level (Some first)) others (λ r. (let once = apart r in let t = times_row first b bs r in omega (arith, once, t))))
      up became
  child_became (suc i) first [] cs low high row within became from up others apart = absurd (omega arith)
  child_became (suc i) first (b ∷ bs) cs low high row within became from up others apart =
      front_too low high first b bs (take i bs ++ (cs ++ drop i bs)) row.0
      (agree_outside (of_row (nodes_below nodes level) first []) (nodes_below nodes level (Some (child_in b.place bs i))) others
      (λ r. (let once = apart r in let t = times_row first b bs r in let o = times_one first r in let part = child_among b.place bs i (omega arith) r in omega (arith, once, t, o, part))))
      (left_from nodes level p b.place bs (Some b.entry.key) high i (keyed key 0) row.1 (omega arith) from)
      (child_became i b.place bs cs (Some b.entry.key) high row.1 (omega arith) became from up others (λ r. (let once = apart r in let t = times_row first b bs r in omega (arith, once, t))))
    where
      child_among : (top : Place) (ds : List Branch) (j : ℕ) → j ≤ length ds → (r : Place) → times r (nodes_below nodes level (Some (child_in top ds j))) ≤ times r (of_row (nodes_below nodes level) top ds)
      child_among top ds zero within r = let a = times_append r (nodes_below nodes level (Some top)) (flat_map (λ (d : Branch). nodes_below nodes level (Some d.place)) ds) in omega arith
      child_among top [] (suc j) within r = absurd (omega arith)
      child_among top (d ∷ ds) (suc j) within r =
          let a = times_append r (nodes_below nodes level (Some top)) (of_row (nodes_below nodes level) d.place ds) in
          let b = child_among d.place ds j (omega arith) r in
          omega arith

  agree_past : (ps part : List Place) → ((r : Place) → r ≢ p → times r part ≡ 0 → new r ≡ nodes r) → ((r : Place) → 1 ≤ times r ps → r ≢ p) → ((r : Place) → times r part + times r ps ≤ 1)
      → All (Agrees nodes new) ps
  agree_past ps part others far apart = all_by_times (Agrees nodes new) ps (λ r some. others r (far r some) (let once = apart r in omega (arith, once, some)))

  pub pair_became : (j : ℕ) (first : Place) (bs cs : List Branch) (low high : Option (List ℕ)) → Row nodes level (Some p) low first bs high → j < length bs
      → Became (left_in low (map entry_of bs) j) (right_in (map entry_of bs) high (suc j)) (child_in first bs j) (take 1 (drop j bs)) cs
      → IsFrom (left_in low (map entry_of bs) j) (keyed key 0) → IsUpTo (right_in (map entry_of bs) high (suc j)) (keyed key 0)
      → ((r : Place) → r ≢ p → times r (of_row (nodes_below nodes level) (child_in first bs j) (take 1 (drop j bs))) ≡ 0 → new r ≡ nodes r)
      → ((r : Place) → 1 ≤ times r (of_row (nodes_below nodes level) first bs) → r ≢ p)
      → ((r : Place) → times r (of_row (nodes_below nodes level) first bs) ≤ 1)
      → Became low high first bs (take j bs ++ (cs ++ drop (suc j) bs))
  pair_became zero first [] cs low high row within became from up others far apart = absurd (omega arith)
  pair_became zero first (c ∷ []) cs low high row within became from up others far apart = subst (λ (t : List Branch). Became low high first (c ∷ []) t) (sym (append-nil cs)) became
  pair_became zero first (c ∷ b ∷ bs) cs low high row within became from up others far apart =
      behind_too low high first (c ∷ []) cs b bs row.1.1
      (agree_past (of_row (nodes_below nodes level) b.place bs) (of_row (nodes_below nodes level) first (c ∷ [])) others
      (λ r some. far r (let t = times_row first c (b ∷ bs) r in let u = times_row c.place b bs r in omega (arith, some, t, u)))
      (λ r. (let once = apart r in let t = times_row first c (b ∷ bs) r in let u = times_row c.place b bs r in let v = times_row first c [] r in let o = times_one c.place r in omega (arith, once, t, u, v, o))))
      up became
  pair_became (suc j) first [] cs low high row within became from up others far apart = absurd (omega arith)
  pair_became (suc j) first (b ∷ bs) cs low high row within became from up others far apart =
      front_too low high first b bs (take j bs ++ (cs ++ drop (suc j) bs)) row.0
      (agree_past (of_row (nodes_below nodes level) first []) (of_row (nodes_below nodes level) (child_in b.place bs j) (take 1 (drop j bs))) others
      (λ r some. far r (let t = times_row first b bs r in let o = times_one first r in omega (arith, some, t, o)))
      (λ r. (let once = apart r in let t = times_row first b bs r in let o = times_one first r in let part = pair_among b.place bs j (omega arith) r in omega (arith, once, t, o, part))))
      (left_from nodes level p b.place bs (Some b.entry.key) high j (keyed key 0) row.1 (omega arith) from)
      (pair_became j b.place bs cs (Some b.entry.key) high row.1 (omega arith) became from up others
      (λ r some. far r (let t = times_row first b bs r in omega (arith, some, t)))
      (λ r. (let once = apart r in let t = times_row first b bs r in omega (arith, once, t))))
    where
      pair_among : (top : Place) (ds : List Branch) (k : ℕ) → k < length ds → (r : Place)
          → times r (of_row (nodes_below nodes level) (child_in top ds k) (take 1 (drop k ds))) ≤ times r (of_row (nodes_below nodes level) top ds)
      pair_among top [] k within r = absurd (omega arith)
      pair_among top (d ∷ ds) zero within r =
          let a = times_row top d ds r in
          let b = times_row top d [] r in
          let c = times_append r (nodes_below nodes level (Some d.place)) (flat_map (λ (x : Branch). nodes_below nodes level (Some x.place)) ds) in
          let o = times_one d.place r in
          omega (arith, a, b, c, o)
      pair_among top (d ∷ ds) (suc k) within r =
          let a = times_row top d ds r in
          let b = pair_among d.place ds k (omega arith) r in
          omega (arith, a, b)

-- ---- the node above

module _ (nodes new : Nodes) (level : ℕ) (parent : Option Place) (low high : Option (List ℕ)) (p : Place) (key : List ℕ) (freed : List Place)
    (o : Opened nodes level parent low high p) where
  -- its row is another one now, and it has its entries and children
  pub above_loses : (cs : List Branch) (links : List ℕ) → HasLinks links o.first cs → new p ≡ Some (reordered (map entry_of cs) links o.node)
      → All IsEntry (map entry_of cs) → All (λ (e : Entry). e.number ≡ 0) (map entry_of cs) → length cs ≤ length o.branches → length o.branches ≤ suc (length cs)
      → Became nodes new level p key freed low high o.first o.branches cs → All (λ q. new q ≡ Some (started 0)) freed
      → ((r : Place) → times r (nodes_below nodes (suc level) (Some p)) ≡ 0 → new r ≡ nodes r)
      → Loses nodes new (suc level) parent low high p key freed
  above_loses cs links has now entries numbers fewer one_fewer became idle others =
      let keys : RowKeys low high (map entry_of cs) = row_keys new p level o.first cs low high became.0 in
      let size : length (map entry_of cs) ≡ length cs = length-map cs entry_of in
      let was : length o.node.entries ≡ length o.branches = ap (λ (es : List Entry). length es) o.entries ∙ length-map o.branches entry_of in
      let few = o.of.stands.few in
      let trunk : IsInnerTrunk new level parent low high p = record {
        node = reordered (map entry_of cs) links o.node;
        is = now;
        room = o.room;
        of = record {
          level_is = o.of.level_is;
          parent_is = o.of.parent_is;
          stands = record {
            parent = o.of.stands.parent;
            level = o.of.stands.level;
            next_leaf = o.of.stands.next_leaf;
            few = omega (arith, size, was, few, fewer);
            entries = entries;
            children = has.size;
            places = has.small;
          };
          rising = keys.rising;
          from = All-weaker (IsAbove low) (IsFrom low) (λ e h. above_from low e h) (map entry_of cs) keys.above;
          up_to = keys.up;
        };
        inner = record {
          numbers = numbers;
          next = o.inner.next;
          others = subst (λ k. All (λ link. link ≡ no_place) (drop (suc k) links)) (sym size) has.others;
        };
        first = o.first;
        branches = cs;
        entries = refl;
        links = subst (λ k. take (suc k) links ≡ links_of o.first cs) (sym size) has.front;
        row = became.0;
      } in
      let a = became.1 in
      let now_held = trunk_gathered (held_below new level) new level parent low high p trunk in
      let was_held = gathered (held_below nodes level) nodes level parent low high p o in
      let now_leaves = trunk_gathered (leaves_below new level) new level parent low high p trunk in
      let was_leaves = gathered (leaves_below nodes level) nodes level parent low high p o in
      let now_places = trunk_gathered (nodes_below new level) new level parent low high p trunk in
      let was_places = gathered (nodes_below nodes level) nodes level parent low high p o in
      let new_leaves : List Place = flat_map (λ link. leaves_below new level (led_to link)) (children_of (new p)) in
      let old_leaves : List Place = flat_map (λ link. leaves_below nodes level (led_to link)) (children_of (nodes p)) in
      let new_held : List Entry = flat_map (λ link. held_below new level (led_to link)) (children_of (new p)) in
      let old_held : List Entry = flat_map (λ link. held_below nodes level (led_to link)) (children_of (nodes p)) in
      record {
        trunk = trunk;
        many = λ some. subst (λ (x : Option TreeNode). 7 ≤ length (entries_of x)) (sym now) (let many = o.of.many some in omega (arith, size, was, many, one_fewer));
        alters = record {
          held =
              append-nil new_held
              ∙ (now_held ∙ (a.held ∙ ap (λ (t : List Entry). without key t) (sym was_held ∙ sym (append-nil old_held))));
          first_leaf = λ end.
              (ap (λ (t : List Place). first_link t end) (append-nil new_leaves ∙ now_leaves)
              ∙ (a.first_leaf end ∙ ap (λ (t : List Place). first_link t end) (sym was_leaves ∙ sym (append-nil old_leaves))));
          chained = λ end c.
              (subst (λ (t : List Place). AreChained new t end) (sym now_leaves ∙ sym (append-nil new_leaves))
              (a.chained end (subst (λ (t : List Place). AreChained nodes t end) (append-nil old_leaves ∙ was_leaves) c)));
          places = λ r.
              (let x = a.places r in
              let y = ap (λ (t : List Place). times r t) now_places in
              let z = ap (λ (t : List Place). times r t) was_places in
              let np : List Place = flat_map (λ link. nodes_below new level (led_to link)) (children_of (new p)) in
              let op : List Place = flat_map (λ link. nodes_below nodes level (led_to link)) (children_of (nodes p)) in
              let u = times_append r (p ∷ np) [] in
              let v = times_append r (p ∷ op) [] in
              omega arith);
          rows = λ k.
              (let here : List Place = if_level k (suc level) p in
              left_between (append-nil (here ++ kids_row new k level p))
              (Sublist.append (Sublist.refl here)
              (left_between (trunk_gathered (row_below new k level) new level parent low high p trunk) (a.rows k) (sym (gathered (row_below nodes k level) nodes level parent low high p o))))
              (sym (append-nil (here ++ kids_row nodes k level p))));
        };
        idle = idle;
        others = others;
      }
