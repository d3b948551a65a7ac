-- An inner node below which a subtree became a row.
use Rattle.std.proofs.Common.{◌≡◌, ◌≢◌, ℕ, zero, suc, ◌+◌, ◌<◌, ◌≤◌, ◌^◌, List, [], ◌∷◌, ◌++◌, All, length, take, drop, map, Option, Some, refl, sym, ap, subst, ◌∙◌, arith, length-append, option_map}
use Rattle.std.specs.List.{flat_map, insert}
use Rattle.std.proofs.lemmas.List.{length-take-le, length-drop, length-map, take-append-drop}
use Rattle.std.proofs.lemmas.List.Elements.{All-append, All-cons, All-drop, All-head, All-nil, All-tail, All-take, All-weaker}
use Rattle.regions.specs.declared.place.Place.{Place}
use Rattle.tree_nodes.specs.Nodes.{Entry, TreeNode, no_place}
use Rattle.index_tree.specs.Indexes.{with_number}
use Rattle.regions.specs.Places.{HasRoom, led_to, link_to}
use Rattle.index_tree.specs.Links.{Nodes, with_parent}
use Rattle.index_tree.specs.Limits.{fewest_entries}
use Rattle.index_tree.specs.Trees.{IsFrom, IsSubtree, IsUpTo, children_of, entries_of, held_below, leaves_below, next_at, next_in, nodes_below}
use Rattle.index_tree.specs.Inserts.{AreChained, Branch, Grows, IsSeparator, Row, Spread, entry_of, first_link, of_row, place_in, times}
use Rattle.index_tree.proofs.Frame.{AgreeBelow, Agrees, adopted_held, adopted_leaves, adopted_nodes, adopted_subtree, all_back, all_front, all_parts, below_children, frame_held, frame_leaves, frame_nodes, frame_subtree, small_link}
use Rattle.index_tree.specs.Splits.{widened}
use Rattle.index_tree.proofs.InsertLeaf.{far_by_times}
use Rattle.index_tree.proofs.FrameRows.{Opened, branch, close_node, gathered, left_in, links_of, right_in, row_map, row_room, row_same}
use Rattle.index_tree.proofs.InsertRows.{all_by_times, child_among, child_in, keyed, of_row_append, row_agree, row_back, row_front, row_leaves_among, spread_at, times_append, times_own}
use Rattle.index_tree.proofs.InsertNode.{Half, all_both, all_unmap, below_if, chained_same, entries_inserted, many_below, next_adopted, node_gathers, opened_of, put_links, put_others, put_seventeen, roots, roots_and_below, separators_of, spread_above, spread_then}

-- ---- one child of a node became a row

module _ (nodes mid : Nodes) (level : ℕ) (parent : Option Place) (low high : Option (List ℕ)) (p : Place) (o : Opened nodes level parent low high p) (i : ℕ) (within : i ≤ length o.branches)
    (key : List ℕ) (number : ℕ) (used : List Place) (least : IsFrom (left_in low (map entry_of o.branches) i) (keyed key number)) (below : IsUpTo (right_in (map entry_of o.branches) high i) (keyed key number))
    (apart : (r : Place) → times r (nodes_below nodes (suc level) (Some p) ++ used) ≤ 1) where
  abbrev child : Place
  child = child_in o.first o.branches i

  abbrev pub ChildGrows : List Branch → Type 0
  ChildGrows cs = Grows nodes mid level (Some p) (left_in low (map entry_of o.branches) i) (right_in (map entry_of o.branches) high i) (child_in o.first o.branches i) cs key number used

  abbrev pub whole : List Branch → List Branch
  whole cs = take i o.branches ++ (cs ++ drop i o.branches)

  apart_row : (r : Place) → times r (of_row (nodes_below nodes level) o.first o.branches) + times r used ≤ 1
  apart_row r =
      let once = apart r in
      let a = times_append r (p ∷ below_children nodes (suc level) p) used in
      let same : times r (below_children nodes (suc level) p) ≡ times r (of_row (nodes_below nodes level) o.first o.branches) = ap (λ (t : List Place). times r t) (gathered (nodes_below nodes level) nodes level parent low high p o) in
      omega arith

  -- the node's own place is none of its children's
  own_place : (1 ≤ times p (of_row (nodes_below nodes level) o.first o.branches) + times p used) → ⊥
  own_place some =
      let once = apart p in
      let a = times_append p (p ∷ below_children nodes (suc level) p) used in
      let here = times_own p (below_children nodes (suc level) p) in
      let same : times p (below_children nodes (suc level) p) ≡ times p (of_row (nodes_below nodes level) o.first o.branches) = ap (λ (t : List Place). times p t) (gathered (nodes_below nodes level) nodes level parent low high p o) in
      omega arith

  pub grown_row : (cs : List Branch) → ChildGrows cs → Spread nodes mid level (Some p) low high o.first o.branches (whole cs) key number used
  grown_row cs g = spread_at nodes mid level p key number used i o.first o.branches cs low high o.row within g.spread least below g.others apart_row

  child_outside : (r : Place) → times r (nodes_below nodes (suc level) (Some p) ++ used) ≡ 0 → times r (nodes_below nodes level (Some child) ++ used) ≡ 0
  child_outside r none =
      let a = times_append r (p ∷ below_children nodes (suc level) p) used in
      let b = times_append r (nodes_below nodes level (Some child)) used in
      let c = child_among nodes level o.first o.branches i within r in
      let same : times r (below_children nodes (suc level) p) ≡ times r (of_row (nodes_below nodes level) o.first o.branches) = ap (λ (t : List Place). times r t) (gathered (nodes_below nodes level) nodes level parent low high p o) in
      omega arith

  pub outside : (cs : List Branch) → ChildGrows cs → (r : Place) → times r (nodes_below nodes (suc level) (Some p) ++ used) ≡ 0 → mid r ≡ nodes r
  outside cs g r none = g.others r (child_outside r none)

  pub own_kept : (cs : List Branch) → ChildGrows cs → mid p ≡ nodes p
  own_kept cs g = g.others p (none_there (times p (nodes_below nodes level (Some child) ++ used)) refl)
    where
      none_there : (n : ℕ) → times p (nodes_below nodes level (Some child) ++ used) ≡ n → n ≡ 0
      none_there zero is = refl
      none_there (suc n) is = absurd (own_place (
          let b = times_append p (nodes_below nodes level (Some child)) used in
          let c = child_among nodes level o.first o.branches i within p in
          omega arith))

  -- the node stays as it is where the child stays one
  pub grown_kept : ChildGrows [] → Grows nodes mid (suc level) parent low high p [] key number used
  grown_kept g =
      let s : Spread nodes mid level (Some p) low high o.first o.branches o.branches key number used =
      subst (λ (t : List Branch). Spread nodes mid level (Some p) low high o.first o.branches t key number used) (take-append-drop i o.branches) (grown_row [] g) in
      let n : Opened mid level parent low high p = record {
        node = o.node;
        is = own_kept [] g ∙ o.is;
        room = o.room;
        of = o.of;
        inner = o.inner;
        first = o.first;
        branches = o.branches;
        entries = o.entries;
        links = o.links;
        row = s.row;
      } in
      record {
        spread = spread_above nodes mid level parent low high p key number used o n refl s;
        separators = All-nil IsSeparator;
        many = λ some. absurd (some refl);
        others = outside [] g;
      }

  -- one entry and one child more
  pub grown_wider : (new : Nodes) (b : Branch) → ChildGrows (b ∷ []) → length o.branches < 16 → new p ≡ Some (widened i b o.node) → ((r : Place) → r ≢ p → new r ≡ mid r)
      → Grows nodes new (suc level) parent low high p [] key number used
  grown_wider new b g few now rest =
      let wide : List Branch = insert o.branches i b in
      let k = length o.branches in
      let as_many : length o.node.entries ≡ k = ap (λ (es : List Entry). length es) o.entries ∙ length-map o.branches entry_of in
      let more : length wide ≡ suc k = length-append (take i o.branches) (b ∷ drop i o.branches) ∙ (let y = length-take-le i o.branches within in let z = length-drop i o.branches in omega arith) in
      let s : Spread nodes mid level (Some p) low high o.first o.branches wide key number used = grown_row (b ∷ []) g in
      let agree : All (Agrees mid new) (of_row (nodes_below mid level) o.first wide) =
      all_by_times (Agrees mid new) (of_row (nodes_below mid level) o.first wide)
      (λ r some. rest r (λ e. own_place (let t : 1 ≤ times p (of_row (nodes_below mid level) o.first wide) = subst (λ (x : Place). 1 ≤ times x (of_row (nodes_below mid level) o.first wide)) e some in let u = s.places p in omega arith))) in
      let s2 : Spread nodes new level (Some p) low high o.first o.branches wide key number used = spread_then nodes mid new level (Some p) low high o.first o.branches wide key number used s agree in
      let links : take (suc k) o.node.children ≡ links_of o.first o.branches = ap (λ n. take (suc n) o.node.children) (sym as_many) ∙ o.links in
      let others : All (λ l. l ≡ no_place) (drop (suc k) o.node.children) = subst (λ n. All (λ l. l ≡ no_place) (drop (suc n) o.node.children)) as_many o.inner.others in
      let small : link_to (Some b.place) < 2 ^ 64 = small_link nodes new (Some b.place) (row_room mid level (Some p) b.place [] (Some b.entry.key) (right_in (map entry_of o.branches) high i) g.spread.row.1) in
      let node2 : TreeNode = widened i b o.node in
      let two : suc (length wide) ≡ k + 2 = omega arith in
      let n : Opened new level parent low high p =
      opened_of new level parent low high p node2 o.first wide now o.room o.of.level_is o.of.parent_is o.of.stands.parent o.of.stands.level
      (ap (λ (es : List Entry). insert es i b.entry) o.entries ∙ entries_inserted o.branches i b)
      (omega arith) (omega arith) (λ some_parent. (let m = o.of.many some_parent in omega arith))
      (put_seventeen o.node.children o.first o.branches i k b within refl few o.of.stands.children links others)
      (All-take (λ l. l < 2 ^ 64) 17 (insert o.node.children (suc i) (link_to (Some b.place)))
      (All-append (λ l. l < 2 ^ 64) (take (suc i) o.node.children) (link_to (Some b.place) ∷ drop (suc i) o.node.children) (All-take (λ l. l < 2 ^ 64) (suc i) o.node.children o.of.stands.places)
      (All-cons (λ l. l < 2 ^ 64) (link_to (Some b.place)) (drop (suc i) o.node.children) small (All-drop (λ l. l < 2 ^ 64) (suc i) o.node.children o.of.stands.places))))
      (ap (λ m. take m node2.children) two ∙ put_links o.node.children o.first o.branches i k b within refl few o.of.stands.children links others)
      (subst (λ m. All (λ l. l ≡ no_place) (drop m node2.children)) (sym two) (put_others o.node.children o.first o.branches i k b within refl few o.of.stands.children links others))
      o.inner.next
      (All-append IsSeparator (take i o.branches) (b ∷ drop i o.branches) (All-take IsSeparator i o.branches (separators_of nodes level parent low high p o))
      (All-cons IsSeparator b (drop i o.branches) (All-head IsSeparator b [] g.separators) (All-drop IsSeparator i o.branches (separators_of nodes level parent low high p o))))
      s2.row in
      record {
        spread = spread_above nodes new level parent low high p key number used o n (refl {a = o.first}) s2;
        separators = All-nil IsSeparator;
        many = λ some. absurd (some refl);
        others = λ r none.
            rest r (far_by_times r p (below_children nodes (suc level) p) (let a = times_append r (p ∷ below_children nodes (suc level) p) used in omega arith)) ∙ outside (b ∷ []) g r none;
      }

  -- two halves, the new one with the upper children
  module _ (new : Nodes) (b : Branch) (g : ChildGrows (b ∷ [])) (q : Place) (us vs : List Branch) (m : Branch) (room_q : HasRoom q)
      (free : times q (nodes_below nodes (suc level) (Some p) ++ used) ≡ 0)
      (parts : insert o.branches i b ≡ us ++ m ∷ vs) (eight_us : length us ≡ 8) (eight_vs : length vs ≡ 8)
      (left right : TreeNode) (now_p : new p ≡ Some left) (now_q : new q ≡ Some right) (half_left : Half level (link_to parent) o.first us left) (half_right : Half level (link_to parent) m.place vs right)
      (adopts : (r : Place) → 1 ≤ times r (roots m.place vs) → new r ≡ option_map (with_parent (link_to (Some q))) (mid r))
      (rest : (r : Place) → r ≢ p → r ≢ q → times r (roots m.place vs) ≡ 0 → new r ≡ mid r) where
    all_of_it : List Branch
    all_of_it = us ++ m ∷ vs

    s : Spread nodes mid level (Some p) low high o.first o.branches (us ++ m ∷ vs) key number used
    s = subst (λ (t : List Branch). Spread nodes mid level (Some p) low high o.first o.branches t key number used) parts (grown_row (b ∷ []) g)

    separators : All IsSeparator (us ++ m ∷ vs)
    separators = subst (λ (t : List Branch). All IsSeparator t) parts
        (All-append IsSeparator (take i o.branches) (b ∷ drop i o.branches) (All-take IsSeparator i o.branches (separators_of nodes level parent low high p o))
        (All-cons IsSeparator b (drop i o.branches) (All-head IsSeparator b [] g.separators) (All-drop IsSeparator i o.branches (separators_of nodes level parent low high p o))))

    -- each place of the row is there once, and none is the node's own or the new one
    in_row : (r : Place) → times r (of_row (nodes_below mid level) o.first us) + times r (of_row (nodes_below mid level) m.place vs) ≡ times r (of_row (nodes_below nodes level) o.first o.branches) + times r used
    in_row r =
        let a : times r (of_row (nodes_below mid level) o.first (us ++ m ∷ vs)) ≡ times r (of_row (nodes_below mid level) o.first us ++ of_row (nodes_below mid level) m.place vs) =
        ap (λ (t : List Place). times r t) (of_row_append (nodes_below mid level) o.first us m vs) in
        let c = times_append r (of_row (nodes_below mid level) o.first us) (of_row (nodes_below mid level) m.place vs) in
        let d = s.places r in
        omega arith

    not_p : (r : Place) → 1 ≤ times r (of_row (nodes_below mid level) o.first us) + times r (of_row (nodes_below mid level) m.place vs) → r ≢ p
    not_p r some e = own_place (subst (λ (x : Place). 1 ≤ times x (of_row (nodes_below nodes level) o.first o.branches) + times x used) e (let t = in_row r in omega arith))

    not_q : (r : Place) → 1 ≤ times r (of_row (nodes_below mid level) o.first us) + times r (of_row (nodes_below mid level) m.place vs) → r ≢ q
    not_q r some e =
        let here : 1 ≤ times q (of_row (nodes_below nodes level) o.first o.branches) + times q used =
        subst (λ (x : Place). 1 ≤ times x (of_row (nodes_below nodes level) o.first o.branches) + times x used) e (let t = in_row r in omega arith) in
        let a = times_append q (p ∷ below_children nodes (suc level) p) used in
        let c : times q (below_children nodes (suc level) p) ≡ times q (of_row (nodes_below nodes level) o.first o.branches) = ap (λ (t : List Place). times q t) (gathered (nodes_below nodes level) nodes level parent low high p o) in
        absurd (omega (arith, here, a, c, free))

    once : (r : Place) → times r (of_row (nodes_below mid level) o.first us) + times r (of_row (nodes_below mid level) m.place vs) ≤ 1
    once r = let a = in_row r in let c = apart_row r in omega arith

    agree_left : All (Agrees mid new) (of_row (nodes_below mid level) o.first us)
    agree_left = all_by_times (Agrees mid new) (of_row (nodes_below mid level) o.first us)
        (λ r some. rest r (not_p r (omega arith)) (not_q r (omega arith)) (let a = once r in let c = roots_and_below mid level r m.place vs in omega arith))

    agree_below : All (Agrees mid new) (of_row (below_if mid level) m.place vs)
    agree_below = all_by_times (Agrees mid new) (of_row (below_if mid level) m.place vs)
        (λ r some. (let a = once r in let c = roots_and_below mid level r m.place vs in rest r (not_p r (omega arith)) (not_q r (omega arith)) (omega arith)))

    abbrev Adopted : Place → Type 0
    Adopted r = (new r ≡ option_map (with_parent (link_to (Some q))) (mid r)) × All (Agrees mid new) (below_children mid level r)

    abbrev IsAdopted : Place → Type 0
    IsAdopted r = new r ≡ option_map (with_parent (link_to (Some q))) (mid r)

    are_adopted : All IsAdopted (m.place ∷ map place_in vs)
    are_adopted = all_by_times IsAdopted (roots m.place vs) (λ r some. adopts r some)

    first_adopted : Adopted m.place
    first_adopted = (
      All-head IsAdopted m.place (map place_in vs) are_adopted,
      all_front (Agrees mid new) (below_children mid level m.place) (flat_map (λ (c : Branch). below_if mid level (Some c.place)) vs) agree_below,
    )

    all_adopted : All (λ (c : Branch). Adopted c.place) vs
    all_adopted =
        all_both (λ (c : Branch). IsAdopted c.place) (λ (c : Branch). All (Agrees mid new) (below_children mid level c.place)) vs
        (all_unmap IsAdopted place_in vs (All-tail IsAdopted m.place (map place_in vs) are_adopted))
        (all_parts (Agrees mid new) (λ (c : Branch). below_if mid level (Some c.place)) vs
        (all_back (Agrees mid new) (below_children mid level m.place) (flat_map (λ (c : Branch). below_if mid level (Some c.place)) vs) agree_below))

    left_row : Row mid level (Some p) low o.first us (Some m.entry.key)
    left_row = row_front mid level (Some p) low high o.first us m vs s.row

    right_row : Row mid level (Some p) (Some m.entry.key) m.place vs high
    right_row = row_back mid level (Some p) low high o.first us m vs s.row

    lefts_agree : AgreeBelow mid new level o.first × All (λ (c : Branch). AgreeBelow mid new level c.place) us
    lefts_agree = row_agree mid new level o.first us agree_left

    abbrev opened_left : Opened new level parent low (Some m.entry.key) p
    opened_left =
        opened_of new level parent low (Some m.entry.key) p left o.first us now_p o.room half_left.level_is half_left.parent_is half_left.small_parent half_left.small_level
        half_left.entries (omega arith) (omega arith) (λ some. omega arith) half_left.seventeen half_left.small half_left.links half_left.others half_left.next (all_front IsSeparator us (m ∷ vs) separators)
        (row_map mid new level (Some p) (Some p) (AgreeBelow mid new level) (λ l h r t a. frame_subtree mid new level (Some p) l h r t a) o.first us low (Some m.entry.key) left_row lefts_agree.0 lefts_agree.1)

    abbrev opened_right : Opened new level parent (Some m.entry.key) high q
    opened_right =
        opened_of new level parent (Some m.entry.key) high q right m.place vs now_q room_q half_right.level_is half_right.parent_is half_right.small_parent half_right.small_level
        half_right.entries (omega arith) (omega arith) (λ some. omega arith) half_right.seventeen half_right.small half_right.links half_right.others half_right.next
        (All-tail IsSeparator m vs (all_back IsSeparator us (m ∷ vs) separators))
        (row_map mid new level (Some p) (Some q) Adopted
        (λ l h r t a. adopted_subtree mid new level (Some p) (Some q) l h r room_q (λ some. many_below mid level p l h r t) t a.0 a.1) m.place vs (Some m.entry.key) high right_row first_adopted all_adopted)

    module _ {A : Type 0} (f h : Option Place → List A)
        (framed : (l u : Option (List ℕ)) (r : Place) → IsSubtree mid level (Some p) l u r → AgreeBelow mid new level r → h (Some r) ≡ f (Some r))
        (kept : (l u : Option (List ℕ)) (r : Place) → IsSubtree mid level (Some p) l u r → Adopted r → h (Some r) ≡ f (Some r)) where
      left_same : of_row h o.first us ≡ of_row f o.first us
      left_same = row_same f h mid level (Some p) (AgreeBelow mid new level) framed o.first us low (Some m.entry.key) left_row lefts_agree.0 lefts_agree.1

      right_same : of_row h m.place vs ≡ of_row f m.place vs
      right_same = row_same f h mid level (Some p) Adopted kept m.place vs (Some m.entry.key) high right_row first_adopted all_adopted

      both_same : flat_map (λ l. h (led_to l)) (children_of (new p)) ++ (flat_map (λ l. h (led_to l)) (children_of (new q)) ++ []) ≡ of_row f o.first (us ++ m ∷ vs)
      both_same =
          ap (λ (t : List A). t ++ (flat_map (λ l. h (led_to l)) (children_of (new q)) ++ [])) (gathered h new level parent low (Some m.entry.key) p opened_left ∙ left_same)
          ∙ (ap (λ (t : List A). of_row f o.first us ++ t) (node_gathers h new level parent (Some m.entry.key) high q opened_right ∙ right_same)
          ∙ sym (of_row_append f o.first us m vs))

    held_same : of_row (held_below new (suc level)) p (branch m.entry q ∷ []) ≡ of_row (held_below mid level) o.first (us ++ m ∷ vs)
    held_same = both_same (held_below mid level) (held_below new level) (λ l u r t a. frame_held mid new level (Some p) l u r t a)
        (λ l u r t a. adopted_held mid new level (Some p) l u r (link_to (Some q)) t a.0 a.1)

    leaves_same : of_row (leaves_below new (suc level)) p (branch m.entry q ∷ []) ≡ of_row (leaves_below mid level) o.first (us ++ m ∷ vs)
    leaves_same = both_same (leaves_below mid level) (leaves_below new level) (λ l u r t a. frame_leaves mid new level (Some p) l u r t a)
        (λ l u r t a. adopted_leaves mid new level (Some p) l u r (link_to (Some q)) t a.0 a.1)

    abbrev SameNext : Place → Type 0
    SameNext r = next_at new r ≡ next_at mid r

    next_same : All SameNext (of_row (nodes_below mid level) o.first (us ++ m ∷ vs))
    next_same =
        subst (λ (t : List Place). All SameNext t) (sym (of_row_append (nodes_below mid level) o.first us m vs))
        (All-append SameNext (of_row (nodes_below mid level) o.first us) (of_row (nodes_below mid level) m.place vs)
        (All-weaker (Agrees mid new) SameNext (λ r e. ap next_in e) (of_row (nodes_below mid level) o.first us) agree_left)
        (all_by_times SameNext (of_row (nodes_below mid level) m.place vs) (λ r some. go r some (times r (roots m.place vs)) refl)))
      where
        go : (r : Place) → 1 ≤ times r (of_row (nodes_below mid level) m.place vs) → (n : ℕ) → times r (roots m.place vs) ≡ n → SameNext r
        go r some zero is = ap next_in (rest r (not_p r (omega arith)) (not_q r (omega arith)) is)
        go r some (suc n) is = ap next_in (adopts r (omega arith)) ∙ next_adopted (mid r) (link_to (Some q))

    pub grown_split : Grows nodes new (suc level) parent low high p (branch m.entry q ∷ []) key number (q ∷ used)
    grown_split = record {
      spread = record {
        row = (close_node new level parent low (Some m.entry.key) p opened_left, close_node new level parent (Some m.entry.key) high q opened_right);
        held = held_same ∙ (s.held ∙ ap (λ (t : List Entry). with_number key number t) (sym (node_gathers (held_below nodes level) nodes level parent low high p o)));
        first_leaf = λ end.
            (ap (λ (t : List Place). first_link t end) leaves_same
            ∙ (s.first_leaf end ∙ ap (λ (t : List Place). first_link t end) (sym (node_gathers (leaves_below nodes level) nodes level parent low high p o))));
        chained = λ end c.
            (subst (λ (t : List Place). AreChained new t end) (sym leaves_same)
            (chained_same mid new (of_row (leaves_below mid level) o.first (us ++ m ∷ vs)) end
            (row_leaves_among mid SameNext level (Some p) o.first (us ++ m ∷ vs) low high s.row next_same)
            (s.chained end (subst (λ (t : List Place). AreChained nodes t end) (node_gathers (leaves_below nodes level) nodes level parent low high p o) c))));
        places = λ r.
            (let x : List Place = flat_map (λ l. nodes_below new level (led_to l)) (children_of (new p)) in
            let y : List Place = flat_map (λ l. nodes_below new level (led_to l)) (children_of (new q)) in
            let x_is : times r x ≡ times r (of_row (nodes_below mid level) o.first us) =
            ap (λ (t : List Place). times r t) (gathered (nodes_below new level) new level parent low (Some m.entry.key) p opened_left
            ∙ left_same (nodes_below mid level) (nodes_below new level) (λ l u t v a. frame_nodes mid new level (Some p) l u t v a) (λ l u t v a. adopted_nodes mid new level (Some p) l u t (link_to (Some q)) v a.0 a.1)) in
            let y_is : times r y ≡ times r (of_row (nodes_below mid level) m.place vs) =
            ap (λ (t : List Place). times r t) (gathered (nodes_below new level) new level parent (Some m.entry.key) high q opened_right
            ∙ right_same (nodes_below mid level) (nodes_below new level) (λ l u t v a. frame_nodes mid new level (Some p) l u t v a) (λ l u t v a. adopted_nodes mid new level (Some p) l u t (link_to (Some q)) v a.0 a.1)) in
            let a = times_append r x (q ∷ (y ++ [])) in
            let c = times_append r y [] in
            let d = in_row r in
            let e = times_append r (below_children nodes (suc level) p) [] in
            let f : times r (below_children nodes (suc level) p) ≡ times r (of_row (nodes_below nodes level) o.first o.branches) = ap (λ (t : List Place). times r t) (gathered (nodes_below nodes level) nodes level parent low high p o) in
            omega arith);
      };
      separators = All-cons IsSeparator (branch m.entry q) [] (All-head IsSeparator m vs (all_back IsSeparator us (m ∷ vs) separators)) (All-nil IsSeparator);
      many = λ some.
          All-cons (λ r. fewest_entries ≤ length (entries_of (new r))) p (q ∷ [])
          (subst (λ (t : Option TreeNode). fewest_entries ≤ length (entries_of t)) (sym now_p) (let e : length left.entries ≡ length us = ap (λ (es : List Entry). length es) half_left.entries ∙ length-map us entry_of in omega arith))
          (All-cons (λ r. fewest_entries ≤ length (entries_of (new r))) q []
          (subst (λ (t : Option TreeNode). fewest_entries ≤ length (entries_of t)) (sym now_q) (let e : length right.entries ≡ length vs = ap (λ (es : List Entry). length es) half_right.entries ∙ length-map vs entry_of in omega arith))
          (All-nil (λ r. fewest_entries ≤ length (entries_of (new r)))));
      others = λ r none.
          (let a = times_append r (p ∷ below_children nodes (suc level) p) (q ∷ used) in
          let c = times_append r (p ∷ below_children nodes (suc level) p) used in
          let far_p : r ≢ p = far_by_times r p (below_children nodes (suc level) p) (omega arith) in
          let far_q : r ≢ q = far_by_times r q used (omega arith) in
          let still : times r (nodes_below nodes (suc level) (Some p) ++ used) ≡ 0 = omega arith in
          let f : times r (below_children nodes (suc level) p) ≡ times r (of_row (nodes_below nodes level) o.first o.branches) = ap (λ (t : List Place). times r t) (gathered (nodes_below nodes level) nodes level parent low high p o) in
          let d = in_row r in
          let e = roots_and_below mid level r m.place vs in
          rest r far_p far_q (omega arith) ∙ outside (b ∷ []) g r still);
    }
