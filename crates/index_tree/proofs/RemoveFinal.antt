-- What the calls that mend make of an inner node whose child lost a key.
use Rattle.std.proofs.Common.{◌≡◌, ◌≢◌, ℕ, suc, ◌+◌, ◌<◌, ◌≤◌, ◌⊎◌, inl, inr, Bool, true, false, true≢false, List, [], ◌∷◌, ◌++◌, All, length, map, get_or, Option, Some, option_map, refl, sym, ap, subst, ◌∙◌, arith}
use Rattle.std.specs.Prelude.{IsSome}
use Rattle.std.specs.List.{flat_map}
use Rattle.std.proofs.lemmas.List.{length-map, map-append}
use Rattle.std.proofs.lemmas.List.Elements.{All-cons, All-get_or, All-nil, All-weaker}
use Rattle.regions.specs.Segments.{RegionState}
use Rattle.regions.specs.Contents.{live_at}
use Rattle.regions.specs.declared.place.Place.{Place}
use Rattle.tree_nodes.specs.Nodes.{Entry, TreeNode, IsEntry, entry_at, no_entry}
use Rattle.regions.specs.Places.{HasRoom, led_to, link_to}
use Rattle.index_tree.specs.Links.{Nodes, with_parent}
use Rattle.index_tree.specs.Store.{HoldsNode, nodes_of}
use Rattle.index_tree.specs.Trees.{IsFrom, IsSubtree, IsUpTo, children_of, entries_of, nodes_below}
use Rattle.index_tree.specs.Ways.{LeadsTo}
use Rattle.index_tree.specs.Inserts.{Branch, entry_of, of_row, place_in, times}
use Rattle.index_tree.specs.Pairs.{AreMendedAbove}
use Rattle.index_tree.specs.Mended.{AdoptsAll, HasKids, IsMendedAt, OnlyThree}
use Rattle.index_tree.specs.Removes.{IsInnerTrunk, Loses}
use Rattle.place_lemmas.proofs.Places.{some_same}
use Rattle.index_tree.proofs.Moved.{room_of}
use Rattle.index_tree.proofs.Frame.{all_back, all_front}
use Rattle.index_tree.proofs.FrameRows.{Opened, branch, left_in, right_in}
use Rattle.index_tree.proofs.InsertRows.{child_in, keyed, of_row_append, times_append, times_here, times_past}
use Rattle.index_tree.proofs.SearchNode.{is_live}
use Rattle.index_tree.proofs.SearchWay.{node_of_tree}
use Rattle.index_tree.proofs.RemoveInner.{AnyRow, HasLinks, IsCarried, any_joined, any_of, trunk_gathered}
use Rattle.index_tree.proofs.RemoveCarried.{adopted_kid, carried_side, child_kid, kid_in_row, kids_of, not_adopted, size_kids}
use Rattle.index_tree.proofs.RemovePair.{PairIn}
use Rattle.index_tree.proofs.RemoveMend.{Outcome}
use Rattle.index_tree.proofs.RemoveMendAbove.{EvenShape, OneShape, even_outcome, one_outcome, shape}
use Rattle.index_tree.proofs.RemoveMended.{mended_loses, pair_lost, row_once}
use Rattle.index_tree.proofs.RemoveSteps.{Two, entry_here, parent_now, two}
use Rattle.index_tree.proofs.RemoveLeaves.{freed_by, freed_is}
use Rattle.index_tree.proofs.Touches.{held_same, live_same}
use Rattle.index_tree.proofs.InsertedLeaf.{times_get}

-- ---- two inner nodes

-- the children of a row can be led to, and are nodes
abbrev IsGood : RegionState → Place → Type 0
IsGood r q = HasRoom q × HoldsNode (live_at r) q

any_good : (r : RegionState) (level : ℕ) → ((q : Place) → IsSome (live_at r q) → HoldsNode (live_at r) q) → (first : Place) (bs : List Branch) (low high : Option (List ℕ))
    → AnyRow (nodes_of (live_at r)) level low first bs high → All (IsGood r) (kids_of first bs)
any_good r level holds first bs low high row = go first bs low row
  where
    one : (q : Place) (l h : Option (List ℕ)) → (parent : Place) × IsSubtree (nodes_of (live_at r)) level (Some parent) l h q → IsGood r q
    one q l h child =
        let found = node_of_tree (nodes_of (live_at r)) level (Some child.0) l h q child.1 in
        (room_of (nodes_of (live_at r)) level (Some child.0) l h q child.1, holds q (is_live (live_at r) q found.0 found.1))

    go : (f : Place) (cs : List Branch) (l : Option (List ℕ)) → AnyRow (nodes_of (live_at r)) level l f cs high → All (IsGood r) (kids_of f cs)
    go f [] l x = All-cons (IsGood r) f [] (one f l high x) (All-nil (IsGood r))
    go f (c ∷ cs) l x = All-cons (IsGood r) f (kids_of c.place cs) (one f l (Some c.entry.key) x.0) (go c.place cs (Some c.entry.key) x.1)

-- such children, once three other nodes were written
kids_hold : (r1 r2 : RegionState) (at left right p : Place) (node : TreeNode) (first : Place) (bs : List Branch) → nodes_of (live_at r2) p ≡ Some node → HasRoom p → length node.entries ≡ length bs → length bs ≤ 16
    → HasLinks node.children first bs → All (IsGood r1) (kids_of first bs) → ((q : Place) → 1 ≤ times q (kids_of first bs) → (q ≢ at) × (q ≢ left) × (q ≢ right)) → (p ≡ left) ⊎ (p ≡ right)
    → OnlyThree at left right r1 r2 → HasKids (live_at r2) p node
kids_hold r1 r2 at left right p node first bs is room size few has good far which three = record {
  is = is;
  room = room;
  few = omega (arith, size, few);
  kids = λ i within.
      (let q : Place = get_or (kids_of first bs) i first in
      let rooms : All HasRoom (kids_of first bs) = All-weaker (IsGood r1) HasRoom (λ x g. g.0) (kids_of first bs) good in
      let long = size_kids has rooms in
      let inside : i ≤ length bs = omega (arith, size, within) in
      let short : i < length (kids_of first bs) = omega (arith, long, inside) in
      let g = All-get_or (IsGood r1) (kids_of first bs) i first short good in
      let away = far q (times_get (kids_of first bs) i first short) in (
        q,
        child_kid has rooms i inside,
        g.0,
        held_same r1 r2 q (three.others q away.0 away.1 away.2) g.1,
        λ e. elim which [ inl l ↦ away.1 (e ∙ l) | inr r ↦ away.2 (e ∙ r) ],
      ));
}

module _ (nodes : Nodes) (r1 : RegionState) (level : ℕ) (parent : Option Place) (low high : Option (List ℕ)) (p : Place) (key : List ℕ) (i j : ℕ) (freed : List Place)
    (o : Opened nodes (suc level) parent low high p) (leads : LeadsTo o.node key i) (from : IsFrom low (keyed key 0)) (up : IsUpTo high (keyed key 0))
    (once : (r : Place) → times r (nodes_below nodes (suc (suc level)) (Some p)) ≤ 1) (within : j < length o.branches) (near : ((i ≡ 0) × (j ≡ 0)) ⊎ (i ≡ suc j))
    (pr : PairIn nodes (suc level) p low high o.first o.branches j)
    (lost : Loses nodes (nodes_of (live_at r1)) (suc level) (Some p) (left_in low (map entry_of o.branches) i) (right_in (map entry_of o.branches) high i) (child_in o.first o.branches i) key freed)
    (seven : length (entries_of (nodes_of (live_at r1) (child_in o.first o.branches i))) ≡ 7)
    (holds : (q : Place) → IsSome (live_at r1 q) → HoldsNode (live_at r1) q) where
  abbrev mid : Nodes
  mid = nodes_of (live_at r1)

  abbrev lo : Option (List ℕ)
  lo = left_in low (map entry_of o.branches) j

  abbrev hi : Option (List ℕ)
  hi = right_in (map entry_of o.branches) high (suc j)

  abbrev left : Place
  left = child_in o.first o.branches j

  abbrev right : Place
  right = pr.b.place

  the_two : Two nodes (nodes_of (live_at r1)) (suc level) parent low high p key i j freed o leads from up once within near pr lost seven
  the_two = two nodes (nodes_of (live_at r1)) (suc level) parent low high p key i j freed o leads from up once within near pr lost seven

  pub l : IsInnerTrunk (nodes_of (live_at r1)) level (Some p) (left_in low (map entry_of o.branches) j) (Some pr.b.entry.key) (child_in o.first o.branches j)
  l = the_two.left_trunk

  pub r : IsInnerTrunk (nodes_of (live_at r1)) level (Some p) (Some pr.b.entry.key) (right_in (map entry_of o.branches) high (suc j)) pr.b.place
  r = the_two.right_trunk

  abbrev pub joint : List Branch
  joint = l.branches ++ (branch pr.b.entry r.first ∷ r.branches)

  joint_row : AnyRow (nodes_of (live_at r1)) level lo l.first joint hi
  joint_row =
      any_joined mid level lo hi l.first l.branches (branch pr.b.entry r.first) r.branches (any_of mid level left l.first l.branches lo (Some pr.b.entry.key) l.row)
      (any_of mid level right r.first r.branches (Some pr.b.entry.key) hi r.row)

  joint_good : All (IsGood r1) (kids_of l.first joint)
  joint_good = any_good r1 level holds l.first joint lo hi joint_row

  -- the three nodes and what is below the two are there once
  pub joint_apart : (t : Place) → times t (p ∷ left ∷ right ∷ []) + times t (of_row (nodes_below mid level) l.first joint) ≤ 1
  joint_apart t =
      let a = pair_lost nodes mid mid (suc level) parent low high p key i j freed o leads from up once within near pr lost.alters lost.others lost.idle in
      let b = a.places t in
      let c = pr.among t in
      let d = row_once nodes mid mid (suc level) parent low high p key i j freed o leads from up once within near pr t in
      let gl : times t (flat_map (λ link. nodes_below mid level (led_to link)) (children_of (mid left))) ≡ times t (of_row (nodes_below mid level) l.first l.branches) =
      ap (λ (ps : List Place). times t ps) (trunk_gathered (nodes_below mid level) mid level (Some p) lo (Some pr.b.entry.key) left l) in
      let gr : times t (flat_map (λ link. nodes_below mid level (led_to link)) (children_of (mid right))) ≡ times t (of_row (nodes_below mid level) r.first r.branches) =
      ap (λ (ps : List Place). times t ps) (trunk_gathered (nodes_below mid level) mid level (Some p) (Some pr.b.entry.key) hi right r) in
      let whole : times t (of_row (nodes_below mid level) l.first joint) ≡ times t (of_row (nodes_below mid level) l.first l.branches ++ of_row (nodes_below mid level) r.first r.branches) =
      ap (λ (ps : List Place). times t ps) (of_row_append (nodes_below mid level) l.first l.branches (branch pr.b.entry r.first) r.branches) in
      let split = times_append t (of_row (nodes_below mid level) l.first l.branches) (of_row (nodes_below mid level) r.first r.branches) in
      let two_nodes = times_append t (nodes_below mid (suc level) (Some left)) (of_row (nodes_below mid (suc level)) right []) in
      let one_node = times_append t (nodes_below mid (suc level) (Some right)) [] in
      omega (arith, b, c, d, gl, gr, whole, split, two_nodes, one_node)

  not_three : (t : Place) → times t (p ∷ left ∷ right ∷ []) ≡ 0 → (t ≢ p) × (t ≢ left) × (t ≢ right)
  not_three t three = (
    λ e. (let c = times_here p (left ∷ right ∷ []) in let d : times t (p ∷ left ∷ right ∷ []) ≡ times p (p ∷ left ∷ right ∷ []) = ap (λ (x : Place). times x (p ∷ left ∷ right ∷ [])) e in omega (arith, three, c, d)),
    λ e. (let c = times_here left (right ∷ []) in let d : times t (left ∷ right ∷ []) ≡ times left (left ∷ right ∷ []) = ap (λ (x : Place). times x (left ∷ right ∷ [])) e in omega (arith, three, c, d)),
    λ e. (let c = times_here right [] in let d : times t (right ∷ []) ≡ times right (right ∷ []) = ap (λ (x : Place). times x (right ∷ [])) e in omega (arith, three, c, d)),
  )

  kid_far : (q : Place) → 1 ≤ times q (kids_of l.first joint) → (q ≢ p) × (q ≢ left) × (q ≢ right)
  kid_far q some = let a = joint_apart q in let b = kid_in_row mid level q l.first joint in not_three q (omega (arith, a, b, some))

  -- what is not among these
  outside_pair : (t : Place) → t ≢ p → times t (of_row (nodes_below mid (suc level)) left (pr.b ∷ [])) ≡ 0 → (times t (p ∷ left ∷ right ∷ []) ≡ 0) × (times t (of_row (nodes_below mid level) l.first joint) ≡ 0)
  outside_pair t far none =
      let gl : times t (flat_map (λ link. nodes_below mid level (led_to link)) (children_of (mid left))) ≡ times t (of_row (nodes_below mid level) l.first l.branches) =
      ap (λ (ps : List Place). times t ps) (trunk_gathered (nodes_below mid level) mid level (Some p) lo (Some pr.b.entry.key) left l) in
      let gr : times t (flat_map (λ link. nodes_below mid level (led_to link)) (children_of (mid right))) ≡ times t (of_row (nodes_below mid level) r.first r.branches) =
      ap (λ (ps : List Place). times t ps) (trunk_gathered (nodes_below mid level) mid level (Some p) (Some pr.b.entry.key) hi right r) in
      let whole : times t (of_row (nodes_below mid level) l.first joint) ≡ times t (of_row (nodes_below mid level) l.first l.branches ++ of_row (nodes_below mid level) r.first r.branches) =
      ap (λ (ps : List Place). times t ps) (of_row_append (nodes_below mid level) l.first l.branches (branch pr.b.entry r.first) r.branches) in
      let split = times_append t (of_row (nodes_below mid level) l.first l.branches) (of_row (nodes_below mid level) r.first r.branches) in
      let two_nodes = times_append t (nodes_below mid (suc level) (Some left)) (of_row (nodes_below mid (suc level)) right []) in
      let one_node = times_append t (nodes_below mid (suc level) (Some right)) [] in
      let past = times_past t p (left ∷ right ∷ []) far in
      (omega (arith, none, gl, gr, whole, split, two_nodes, one_node, past), omega (arith, none, gl, gr, whole, split, two_nodes, one_node))

  fits : IsEntry pr.b.entry
  fits = subst IsEntry here (All-get_or IsEntry o.node.entries j no_entry (let w = within in omega (arith, size, w)) o.of.stands.entries)
    where
      here : entry_at o.node j ≡ pr.b.entry
      here = entry_here nodes (nodes_of (live_at r1)) (suc level) parent low high p key i j freed o leads from up once within near pr lost seven

      size : length o.node.entries ≡ length o.branches
      size = ap (λ (t : List Entry). length t) o.entries ∙ length-map o.branches entry_of

  zero_is : pr.b.entry.number ≡ 0
  zero_is = subst (λ (e : Entry). e.number ≡ 0) here (All-get_or (λ (e : Entry). e.number ≡ 0) o.node.entries j no_entry (let w = within in omega (arith, size, w)) o.inner.numbers)
    where
      here : entry_at o.node j ≡ pr.b.entry
      here = entry_here nodes (nodes_of (live_at r1)) (suc level) parent low high p key i j freed o leads from up once within near pr lost seven

      size : length o.node.entries ≡ length o.branches
      size = ap (λ (t : List Entry). length t) o.entries ∙ length-map o.branches entry_of

  module _ (r2 : RegionState) (joined : Bool) (m : IsMendedAt true joined j p (child_in o.first o.branches j) pr.b.place (nodes_of (live_at r1)) (nodes_of (live_at r2)))
      (three : OnlyThree p (child_in o.first o.branches j) pr.b.place r1 r2) where
    same_parent : m.parent_node ≡ o.node
    same_parent = some_same m.parent_was (parent_now nodes (nodes_of (live_at r1)) (suc level) parent low high p key i j freed o leads from up once within near pr lost seven)

    sep_is : entry_at m.parent_node j ≡ pr.b.entry
    sep_is = ap (λ (x : TreeNode). entry_at x j) same_parent ∙ entry_here nodes (nodes_of (live_at r1)) (suc level) parent low high p key i j freed o leads from up once within near pr lost seven

    size_l : length (entries_of (nodes_of (live_at r1) left)) ≡ length l.node.entries
    size_l = ap (λ (x : Option TreeNode). length (entries_of x)) l.is

    size_r : length (entries_of (nodes_of (live_at r1) right)) ≡ length r.node.entries
    size_r = ap (λ (x : Option TreeNode). length (entries_of x)) r.is

    one_seven : (length l.node.entries ≡ 7) ⊎ (length r.node.entries ≡ 7)
    one_seven = elim the_two.one_seven [ inl x ↦ inl (sym size_l ∙ x) | inr y ↦ inr (sym size_r ∙ y) ]

    some_l : 7 ≤ length l.node.entries
    some_l = let a = the_two.some_left in let b = size_l in omega (arith, a, b)

    some_r : 7 ≤ length r.node.entries
    some_r = let a = the_two.some_right in let b = size_r in omega (arith, a, b)

    abbrev Even : Type 0
    Even = EvenShape (nodes_of (live_at r1)) level p lo hi left right pr.b.entry joined j m.parent_node m.new_parent m.new_left m.new_right l r fits zero_is sep_is one_seven some_l some_r

    abbrev One : Type 0
    One = OneShape (nodes_of (live_at r1)) level p lo hi left right pr.b.entry joined j m.parent_node m.new_parent m.new_left m.new_right l r fits zero_is sep_is one_seven some_l some_r

    the_shape : Even ⊎ One
    the_shape =
        shape (nodes_of (live_at r1)) level p lo hi left right pr.b.entry joined j m.parent_node m.new_parent m.new_left m.new_right l r fits zero_is sep_is one_seven some_l some_r
        (subst (λ (x : TreeNode). AreMendedAbove joined j m.parent_node l.node x m.new_parent m.new_left m.new_right) (some_same m.right_was r.is)
        (subst (λ (x : TreeNode). AreMendedAbove joined j m.parent_node x m.right_node m.new_parent m.new_left m.new_right) (some_same m.left_was l.is) m.mended))

    far_kid : (bs : List Branch) (first : Place) → ((q : Place) → times q (kids_of first bs) ≤ times q (kids_of l.first joint)) → (q : Place) → 1 ≤ times q (kids_of first bs) → (q ≢ p) × (q ≢ left) × (q ≢ right)
    far_kid bs first within_joint q some = kid_far q (let a = within_joint q in omega (arith, a, some))

    -- the children of both parts are all
    kids_split : (e : Even) → kids_of l.first joint ≡ kids_of l.first e.xs ++ kids_of e.m.place e.ys
    kids_split e = ap (λ (bs : List Branch). kids_of l.first bs) e.whole ∙ ap (λ (ps : List Place). l.first ∷ ps) (map-append place_in e.xs (e.m ∷ e.ys))

    rows_split : (e : Even) (t : Place) → times t (of_row (nodes_below mid level) l.first joint) ≡ times t (of_row (nodes_below mid level) l.first e.xs) + times t (of_row (nodes_below mid level) e.m.place e.ys)
    rows_split e t =
        ap (λ (bs : List Branch). times t (of_row (nodes_below mid level) l.first bs)) e.whole
        ∙ (ap (λ (ps : List Place). times t ps) (of_row_append (nodes_below mid level) l.first e.xs e.m e.ys)
        ∙ times_append t (of_row (nodes_below mid level) l.first e.xs) (of_row (nodes_below mid level) e.m.place e.ys))

    left_has : (e : Even) → HasLinks m.new_left.children l.first e.xs
    left_has e = subst (λ (t : List ℕ). HasLinks t l.first e.xs) (sym (ap (λ (n : TreeNode). n.children) e.is_l)) e.has_p

    left_size : (e : Even) → length m.new_left.entries ≡ length e.xs
    left_size e = ap (λ (n : TreeNode). length n.entries) e.is_l ∙ length-map e.xs entry_of

    right_has : (e : Even) → HasLinks m.new_right.children e.m.place e.ys
    right_has e = subst (λ (t : List ℕ). HasLinks t e.m.place e.ys) (sym (ap (λ (n : TreeNode). n.children) e.is_r)) e.has_q

    right_size : (e : Even) → length m.new_right.entries ≡ length e.ys
    right_size e = ap (λ (n : TreeNode). length n.entries) e.is_r ∙ length-map e.ys entry_of

    one_has : (e : One) → HasLinks m.new_left.children l.first joint
    one_has e = subst (λ (t : List ℕ). HasLinks t l.first joint) (sym (ap (λ (n : TreeNode). n.children) e.is_l)) e.has_p

    one_size : (e : One) → length m.new_left.entries ≡ length joint
    one_size e = ap (λ (n : TreeNode). length n.entries) e.is_l ∙ length-map joint entry_of

    left_good : (e : Even) → All (IsGood r1) (kids_of l.first e.xs)
    left_good e = all_front (IsGood r1) (kids_of l.first e.xs) (kids_of e.m.place e.ys) (subst (λ (ps : List Place). All (IsGood r1) ps) (kids_split e) joint_good)

    right_good : (e : Even) → All (IsGood r1) (kids_of e.m.place e.ys)
    right_good e = all_back (IsGood r1) (kids_of l.first e.xs) (kids_of e.m.place e.ys) (subst (λ (ps : List Place). All (IsGood r1) ps) (kids_split e) joint_good)

    only_rooms : (ps : List Place) → All (IsGood r1) ps → All HasRoom ps
    only_rooms ps all = All-weaker (IsGood r1) HasRoom (λ x g. g.0) ps all

    kids_times : (e : Even) (q : Place) → times q (kids_of l.first joint) ≡ times q (kids_of l.first e.xs) + times q (kids_of e.m.place e.ys)
    kids_times e q = ap (λ (ps : List Place). times q ps) (kids_split e) ∙ times_append q (kids_of l.first e.xs) (kids_of e.m.place e.ys)

    -- before the children get the left one as parent
    pub left_kids : HasKids (live_at r2) left m.new_left
    left_kids = elim the_shape [
      | inl e ↦
          kids_hold r1 r2 p left right left m.new_left l.first e.xs m.left_is l.room (left_size e) e.few_x (left_has e) (left_good e)
          (far_kid e.xs l.first (λ q. (let a = kids_times e q in omega (arith, a)))) (inl refl) three
      | inr e ↦ kids_hold r1 r2 p left right left m.new_left l.first joint m.left_is l.room (one_size e) e.few (one_has e) joint_good (far_kid joint l.first (λ q. omega arith)) (inl refl) three
    ]

    three_times : (t : Place) → 1 ≤ times t (p ∷ left ∷ right ∷ []) → times t (kids_of l.first joint) ≡ 0
    three_times t some = let a = joint_apart t in let b = kid_in_row mid level t l.first joint in omega (arith, a, b, some)

    left_there : 1 ≤ times left (p ∷ left ∷ right ∷ [])
    left_there = let a = times_here left (right ∷ []) in omega (arith, a)

    right_there : 1 ≤ times right (p ∷ left ∷ right ∷ [])
    right_there = let a = times_here right [] in omega (arith, a)

    p_there : 1 ≤ times p (p ∷ left ∷ right ∷ [])
    p_there = times_here p (left ∷ right ∷ [])

    untouched : (t : Place) → times t (p ∷ left ∷ right ∷ []) ≡ 0 → nodes_of (live_at r2) t ≡ nodes_of (live_at r1) t
    untouched t none = let away = not_three t none in live_same r1 r2 t (three.others t away.0 away.1 away.2)

    module _ (r3 : RegionState) (adopts : AdoptsAll left m.new_left r2 r3) where
      -- all are the left one's
      pub one_mended : joined ≡ true → Loses nodes (nodes_of (live_at r3)) (suc (suc level)) parent low high p key (freed_by joined right ++ freed)
      one_mended gone = elim the_shape [
        | inl e ↦ absurd (true≢false (sym gone ∙ e.still))
        | inr e ↦
            (let new = nodes_of (live_at r3) in
            let rooms = only_rooms (kids_of l.first joint) joint_good in
            let past : (t : Place) → times t (kids_of l.first joint) ≡ 0 → new t ≡ nodes_of (live_at r2) t =
            λ t none. live_same r2 r3 t (not_adopted left m.new_left r2 r3 l.first joint (one_has e) (one_size e) rooms adopts t none) in
            let carried : All (IsCarried mid new level left) (kids_of l.first joint) =
            carried_side mid level new left l.first joint (p ∷ left ∷ right ∷ []) joint_apart
            (λ q some none. adopted_kid left m.new_left r2 r3 l.first joint (one_has e) (one_size e) rooms adopts q some ∙ ap (λ (x : Option TreeNode). option_map (with_parent (link_to (Some left))) x) (untouched q none))
            (λ t none away. past t none ∙ untouched t away) in
            let out : Outcome mid new (suc level) p lo hi left right pr.b.entry joined j o.node m.new_parent m.new_right =
            subst (λ (x : TreeNode). Outcome mid new (suc level) p lo hi left right pr.b.entry joined j x m.new_parent m.new_right) same_parent
            (one_outcome mid level p lo hi left right pr.b.entry joined j m.parent_node m.new_parent m.new_left m.new_right l r fits zero_is sep_is one_seven some_l some_r new
            (past left (three_times left left_there) ∙ m.left_is) (past right (three_times right right_there) ∙ m.right_is) e carried) in
            subst (λ (ps : List Place). Loses nodes new (suc (suc level)) parent low high p key (ps ++ freed)) (freed_is mid new (suc level) p lo hi left right pr.b.entry joined j o.node m.new_parent m.new_right out)
            (mended_loses nodes mid new (suc level) parent low high p key i j freed o leads from up once within near pr lost.alters lost.others lost.idle joined m.new_parent m.new_right out
            (past p (three_times p p_there) ∙ m.parent_is) (past right (three_times right right_there) ∙ m.right_is)
            (λ t far none.
            let away = outside_pair t far none in
            let kid = kid_in_row mid level t l.first joint in
            let row = away.1 in
            past t (omega (arith, kid, row)) ∙ untouched t away.0)))
      ]

      -- before the others get the right one
      pub right_kids : joined ≡ false → HasKids (live_at r3) right m.new_right
      right_kids still = elim the_shape [
        | inl e ↦
            (let before = kids_hold r1 r2 p left right right m.new_right e.m.place e.ys m.right_is r.room (right_size e) e.few_y (right_has e) (right_good e)
            (far_kid e.ys e.m.place (λ q. (let a = kids_times e q in omega (arith, a)))) (inr refl) three in
            let same : live_at r3 right ≡ live_at r2 right =
            not_adopted left m.new_left r2 r3 l.first e.xs (left_has e) (left_size e) (only_rooms (kids_of l.first e.xs) (left_good e)) adopts right
            (let a = three_times right right_there in let b = kids_times e right in omega (arith, a, b)) in
            record {
              is = live_same r2 r3 right same ∙ before.is;
              room = before.room;
              few = before.few;
              kids = λ n inside. (let k = before.kids n inside in (k.0, k.1, k.2, adopts.holds k.0 k.3, k.4));
            })
        | inr e ↦ absurd (true≢false (sym e.gone ∙ still))
      ]

      module _ (r4 : RegionState) (then : AdoptsAll right m.new_right r3 r4) where
        pub even_mended : joined ≡ false → Loses nodes (nodes_of (live_at r4)) (suc (suc level)) parent low high p key (freed_by joined right ++ freed)
        even_mended still = elim the_shape [
          | inr e ↦ absurd (true≢false (sym e.gone ∙ still))
          | inl e ↦
              (let new = nodes_of (live_at r4) in
              let three_list : List Place = p ∷ left ∷ right ∷ [] in
              let kx : List Place = kids_of l.first e.xs in
              let ky : List Place = kids_of e.m.place e.ys in
              let row_x : List Place = of_row (nodes_below mid level) l.first e.xs in
              let row_y : List Place = of_row (nodes_below mid level) e.m.place e.ys in
              let past_left : (t : Place) → times t kx ≡ 0 → nodes_of (live_at r3) t ≡ nodes_of (live_at r2) t =
              λ t none. live_same r2 r3 t (not_adopted left m.new_left r2 r3 l.first e.xs (left_has e) (left_size e) (only_rooms kx (left_good e)) adopts t none) in
              let past_right : (t : Place) → times t ky ≡ 0 → new t ≡ nodes_of (live_at r3) t =
              λ t none. live_same r3 r4 t (not_adopted right m.new_right r3 r4 e.m.place e.ys (right_has e) (right_size e) (only_rooms ky (right_good e)) then t none) in
              let f_left : Option TreeNode → Option TreeNode = option_map (with_parent (link_to (Some left))) in
              let f_right : Option TreeNode → Option TreeNode = option_map (with_parent (link_to (Some right))) in
              let carried_left : All (IsCarried mid new level left) kx =
              carried_side mid level new left l.first e.xs (three_list ++ row_y)
              (λ t. (let a = joint_apart t in let b = rows_split e t in let c = times_append t three_list row_y in omega (arith, a, b, c)))
              (λ q some none.
              let c = times_append q three_list row_y in let d = kid_in_row mid level q e.m.place e.ys in
              past_right q (omega (arith, c, d, none))
              ∙ (adopted_kid left m.new_left r2 r3 l.first e.xs (left_has e) (left_size e) (only_rooms kx (left_good e)) adopts q some ∙ ap f_left (untouched q (omega (arith, c, none)))))
              (λ t none away.
              let c = times_append t three_list row_y in let d = kid_in_row mid level t e.m.place e.ys in
              past_right t (omega (arith, c, d, away)) ∙ (past_left t none ∙ untouched t (omega (arith, c, away)))) in
              let carried_right : All (IsCarried mid new level right) ky =
              carried_side mid level new right e.m.place e.ys (three_list ++ row_x)
              (λ t. (let a = joint_apart t in let b = rows_split e t in let c = times_append t three_list row_x in omega (arith, a, b, c)))
              (λ q some none.
              let c = times_append q three_list row_x in let d = kid_in_row mid level q l.first e.xs in
              adopted_kid right m.new_right r3 r4 e.m.place e.ys (right_has e) (right_size e) (only_rooms ky (right_good e)) then q some
              ∙ ap f_right (past_left q (omega (arith, c, d, none)) ∙ untouched q (omega (arith, c, none))))
              (λ t none away.
              let c = times_append t three_list row_x in let d = kid_in_row mid level t l.first e.xs in
              past_right t none ∙ (past_left t (omega (arith, c, d, away)) ∙ untouched t (omega (arith, c, away)))) in
              let not_kid : (t : Place) → times t (kids_of l.first joint) ≡ 0 → new t ≡ nodes_of (live_at r2) t =
              λ t none. (let a = kids_times e t in past_right t (omega (arith, a, none)) ∙ past_left t (omega (arith, a, none))) in
              let out : Outcome mid new (suc level) p lo hi left right pr.b.entry joined j o.node m.new_parent m.new_right =
              subst (λ (x : TreeNode). Outcome mid new (suc level) p lo hi left right pr.b.entry joined j x m.new_parent m.new_right) same_parent
              (even_outcome mid level p lo hi left right pr.b.entry joined j m.parent_node m.new_parent m.new_left m.new_right l r fits zero_is sep_is one_seven some_l some_r new
              (not_kid left (three_times left left_there) ∙ m.left_is) (not_kid right (three_times right right_there) ∙ m.right_is) e carried_left carried_right) in
              subst (λ (ps : List Place). Loses nodes new (suc (suc level)) parent low high p key (ps ++ freed)) (freed_is mid new (suc level) p lo hi left right pr.b.entry joined j o.node m.new_parent m.new_right out)
              (mended_loses nodes mid new (suc level) parent low high p key i j freed o leads from up once within near pr lost.alters lost.others lost.idle joined m.new_parent m.new_right out
              (not_kid p (three_times p p_there) ∙ m.parent_is) (not_kid right (three_times right right_there) ∙ m.right_is)
              (λ t far none.
              let away = outside_pair t far none in
              let kid = kid_in_row mid level t l.first joint in
              let row = away.1 in
              not_kid t (omega (arith, kid, row)) ∙ untouched t away.0)))
        ]
