-- The steps by which an inner node is mended whose child lost a key.
use Rattle.std.proofs.Common.{◌≡◌, ◌≢◌, ℕ, zero, suc, ◌+◌, ◌<◌, ◌≤◌, ◌⊎◌, inl, inr, List, [], ◌∷◌, length, map, get_or, Option, Some, sym, ap, subst, ◌∙◌, arith}
use Rattle.std.specs.List.{flat_map}
use Rattle.std.proofs.lemmas.List.{length-map}
use Rattle.regions.specs.declared.place.Place.{Place}
use Rattle.tree_nodes.specs.Nodes.{Entry, TreeNode, entry_at, no_entry}
use Rattle.regions.specs.Places.{led_to}
use Rattle.index_tree.specs.Links.{Nodes}
use Rattle.index_tree.specs.Trees.{IsFrom, IsSubtree, IsUpTo, children_of, entries_of, nodes_below}
use Rattle.index_tree.specs.Ways.{LeadsTo}
use Rattle.index_tree.specs.Inserts.{Branch, Row, entry_of, of_row, times}
use Rattle.index_tree.specs.Mended.{AreUneven}
use Rattle.index_tree.specs.Removes.{IsTrunk, Loses}
use Rattle.index_tree.proofs.FrameRows.{Opened, left_in, right_in}
use Rattle.index_tree.proofs.InsertRows.{child_in, keyed, times_here}
use Rattle.index_tree.proofs.RemoveRows.{trunk_of}
use Rattle.index_tree.proofs.RemoveInner.{child_many}
use Rattle.index_tree.proofs.RemovePair.{PairIn, left_same, right_same}
use Rattle.index_tree.proofs.RemoveMended.{child_times, far_above, pair_apart, pair_times, row_once}

-- the tree of a child in a row
pub child_tree : (nodes : Nodes) (level : ℕ) (p : Place) (i : ℕ) (first : Place) (bs : List Branch) (low high : Option (List ℕ)) → Row nodes level (Some p) low first bs high → i ≤ length bs
    → IsSubtree nodes level (Some p) (left_in low (map entry_of bs) i) (right_in (map entry_of bs) high i) (child_in first bs i)
child_tree nodes level p zero first [] low high row within = row
child_tree nodes level p zero first (b ∷ bs) low high row within = row.0
child_tree nodes level p (suc i) first [] low high row within = absurd (omega arith)
child_tree nodes level p (suc i) first (b ∷ bs) low high row within = child_tree nodes level p i b.place bs (Some b.entry.key) high row.1 (omega arith)

pub trunk_node : (mid : Nodes) (level : ℕ) (parent : Option Place) (low high : Option (List ℕ)) (q : Place) → IsTrunk mid level parent low high q → (n : TreeNode) × (mid q ≡ Some n)
trunk_node mid zero parent low high q (n, is, here, of, none) = (n, is)
trunk_node mid (suc level) parent low high q t = (t.node, t.is)

pub times_root : (nodes : Nodes) (level : ℕ) (q : Place) → 1 ≤ times q (nodes_below nodes level (Some q))
times_root nodes zero q = times_here q []
times_root nodes (suc level) q = times_here q (flat_map (λ link. nodes_below nodes level (led_to link)) (children_of (nodes q)))

module _ (nodes mid : Nodes) (level : ℕ) (parent : Option Place) (low high : Option (List ℕ)) (p : Place) (key : List ℕ) (i j : ℕ) (freed : List Place)
    (o : Opened nodes level parent low high p) (leads : LeadsTo o.node key i) (from : IsFrom low (keyed key 0)) (up : IsUpTo high (keyed key 0))
    (once : (r : Place) → times r (nodes_below nodes (suc level) (Some p)) ≤ 1) (within : j < length o.branches) (near : ((i ≡ 0) × (j ≡ 0)) ⊎ (i ≡ suc j))
    (pr : PairIn nodes level p low high o.first o.branches j)
    (lost : Loses nodes mid level (Some p) (left_in low (map entry_of o.branches) i) (right_in (map entry_of o.branches) high i) (child_in o.first o.branches i) key freed)
    (seven : length (entries_of (mid (child_in o.first o.branches i))) ≡ 7) where
  abbrev lo : Option (List ℕ)
  lo = left_in low (map entry_of o.branches) j

  abbrev hi : Option (List ℕ)
  hi = right_in (map entry_of o.branches) high (suc j)

  abbrev left : Place
  left = child_in o.first o.branches j

  abbrev right : Place
  right = pr.b.place

  pair_of_nodes : (r : Place) → times r (nodes_below nodes level (Some (child_in o.first o.branches j))) + times r (nodes_below nodes level (Some pr.b.place)) ≤ 1
  pair_of_nodes = pair_apart nodes mid mid level parent low high p key i j freed o leads from up once within near pr

  child_few : (r : Place) → times r (nodes_below nodes level (Some (child_in o.first o.branches i))) ≤ times r (of_row (nodes_below nodes level) o.first o.branches)
  child_few r =
      let a = child_times nodes mid mid level parent low high p key i j freed o leads from up once within near pr lost.alters lost.others lost.idle r in
      let b = pr.among r in
      omega (arith, a, b)

  pub parent_same : mid p ≡ nodes p
  parent_same =
      lost.others p
      (let a = row_once nodes mid mid level parent low high p key i j freed o leads from up once within near pr p in
      let b = times_here p [] in
      let c = child_few p in
      omega (arith, a, b, c))

  pub parent_now : mid p ≡ Some o.node
  parent_now = parent_same ∙ o.is

  -- the trunks of the two, and how many entries they have
  pub record Two : Type 0 where
    pub left_trunk : IsTrunk mid level (Some p) lo (Some pr.b.entry.key) left
    pub right_trunk : IsTrunk mid level (Some p) (Some pr.b.entry.key) hi right
    pub one_seven : (length (entries_of (mid left)) ≡ 7) ⊎ (length (entries_of (mid right)) ≡ 7)
    pub some_left : 7 ≤ length (entries_of (mid left))
    pub some_right : 7 ≤ length (entries_of (mid right))

  pub two : Two
  two = elim near [
    | inl e ↦
        (let here : child_in o.first o.branches i ≡ left = ap (λ n. child_in o.first o.branches n) (e.0 ∙ sym e.1) in
        let same = right_same nodes mid level p lo hi left pr.b.entry right key freed pr.left_tree pr.right_tree pair_of_nodes
        (subst (λ (x : Place). (r : Place) → times r (nodes_below nodes level (Some x)) ≡ 0 → mid r ≡ nodes r) here lost.others) in
        let many = child_many mid level (Some pr.b.entry.key) hi right (p, same.row) in
        let few : length (entries_of (mid left)) ≡ 7 = subst (λ (x : Place). length (entries_of (mid x)) ≡ 7) here seven in
        let at_j : i ≡ j = e.0 ∙ sym e.1 in
        record {
          left_trunk =
              subst (λ (x : Place). IsTrunk mid level (Some p) lo (Some pr.b.entry.key) x) here
              (subst (λ (t : Option (List ℕ)). IsTrunk mid level (Some p) lo t (child_in o.first o.branches i)) (ap (λ n. right_in (map entry_of o.branches) high n) at_j ∙ pr.key_right)
              (subst (λ n. IsTrunk mid level (Some p) (left_in low (map entry_of o.branches) n) (right_in (map entry_of o.branches) high i) (child_in o.first o.branches i)) at_j lost.trunk));
          right_trunk = trunk_of mid level (Some p) (Some pr.b.entry.key) hi right same.row;
          one_seven = inl few;
          some_left = omega (arith, few);
          some_right = omega (arith, many);
        })
    | inr e ↦
        (let there : child_in o.first o.branches i ≡ right = ap (λ n. child_in o.first o.branches n) e ∙ pr.right_is in
        let same = left_same nodes mid level p lo hi left pr.b.entry right key freed pr.left_tree pr.right_tree pair_of_nodes
        (subst (λ (x : Place). (r : Place) → times r (nodes_below nodes level (Some x)) ≡ 0 → mid r ≡ nodes r) there lost.others) in
        let many = child_many mid level lo (Some pr.b.entry.key) left (p, same.row) in
        let few : length (entries_of (mid right)) ≡ 7 = subst (λ (x : Place). length (entries_of (mid x)) ≡ 7) there seven in
        record {
          left_trunk = trunk_of mid level (Some p) lo (Some pr.b.entry.key) left same.row;
          right_trunk =
              subst (λ (x : Place). IsTrunk mid level (Some p) (Some pr.b.entry.key) hi x) there
              (subst (λ (t : Option (List ℕ)). IsTrunk mid level (Some p) t hi (child_in o.first o.branches i)) (ap (λ n. left_in low (map entry_of o.branches) n) e ∙ pr.key_left)
              (subst (λ n. IsTrunk mid level (Some p) (left_in low (map entry_of o.branches) i) (right_in (map entry_of o.branches) high n) (child_in o.first o.branches i)) e lost.trunk));
          one_seven = inr few;
          some_left = omega (arith, many);
          some_right = omega (arith, few);
        })
  ]

  -- they are uneven, at three places
  pub uneven : AreUneven mid j p left right
  uneven =
      let l = trunk_node mid level (Some p) lo (Some pr.b.entry.key) left two.left_trunk in
      let r = trunk_node mid level (Some p) (Some pr.b.entry.key) hi right two.right_trunk in
      let size_l : length (entries_of (mid left)) ≡ length l.0.entries = ap (λ (x : Option TreeNode). length (entries_of x)) l.1 in
      let size_r : length (entries_of (mid right)) ≡ length r.0.entries = ap (λ (x : Option TreeNode). length (entries_of x)) r.1 in
      let a = two.some_left in let b = two.some_right in
      let size : length o.node.entries ≡ length o.branches = ap (λ (t : List Entry). length t) o.entries ∙ length-map o.branches entry_of in
      record {
        parent_node = o.node;
        left_node = l.0;
        right_node = r.0;
        parent_is = parent_now;
        left_is = l.1;
        right_is = r.1;
        within = omega (arith, size, within);
        one = elim two.one_seven [ inl x ↦ inl (sym size_l ∙ x) | inr y ↦ inr (sym size_r ∙ y) ];
        some_left = omega (arith, size_l, a);
        some_right = omega (arith, size_r, b);
      }

  left_in_row : (r : Place) → times r (nodes_below nodes level (Some left)) + times r (nodes_below nodes level (Some right)) ≤ times r (of_row (nodes_below nodes level) o.first o.branches)
  left_in_row r = let a = pr.among r in let b = pair_times nodes mid mid level parent low high p key i j freed o leads from up once within near pr r in omega (arith, a, b)

  pub far_left : left ≢ p
  far_left = far_above nodes mid mid level parent low high p key i j freed o leads from up once within near pr left (let a = left_in_row left in let b = times_root nodes level left in omega (arith, a, b))

  pub far_right : right ≢ p
  far_right = far_above nodes mid mid level parent low high p key i j freed o leads from up once within near pr right (let a = left_in_row right in let b = times_root nodes level right in omega (arith, a, b))

  pub far_apart : right ≢ left
  far_apart e =
      let a = pair_of_nodes left in
      let b = times_root nodes level left in
      let c : times left (nodes_below nodes level (Some right)) ≡ times left (nodes_below nodes level (Some left)) = ap (λ (x : Place). times left (nodes_below nodes level (Some x))) e in
      omega (arith, a, b, c)

  pub entry_here : entry_at o.node j ≡ pr.b.entry
  entry_here = ap (λ (t : List Entry). get_or t j no_entry) o.entries ∙ pr.entry_is
