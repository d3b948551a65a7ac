-- Two children of a node side by side, of which one lost a key.
use Rattle.std.proofs.Common.{◌≡◌, ℕ, zero, suc, ◌+◌, ◌-◌, ◌<◌, ◌≤◌, inl, inr, false, List, [], ◌∷◌, ◌++◌, All, length, take, drop, map, get_or, Option, Some, refl, sym, ap, subst, ◌∙◌, append-nil, arith, is_lt}
use Rattle.std.specs.List.{flat_map}
use Rattle.std.proofs.lemmas.Bool.{cases_lt}
use Rattle.std.proofs.lemmas.List.{get_or-drop, get_or-take, length-drop, length-take-le}
use Rattle.std.proofs.lemmas.List.Elements.{All-get_or, All-weaker}
use Rattle.regions.specs.declared.place.Place.{Place}
use Rattle.tree_nodes.specs.Nodes.{Entry, TreeNode, no_entry}
use Rattle.tree_nodes.specs.Order.{IsBelow, key_cmp}
use Rattle.index_tree.specs.Indexes.{without}
use Rattle.index_tree.specs.Links.{Nodes}
use Rattle.index_tree.specs.Trees.{IsBetween, IsFrom, IsSubtree, IsUpTo, held_below, nodes_below}
use Rattle.index_tree.specs.Ways.{LeadsTo}
use Rattle.index_tree.specs.Inserts.{Branch, Row, entry_of, of_row, times}
use Rattle.index_tree.specs.Removes.{Alters}
use Rattle.index_tree.proofs.Bounds.{held_between}
use Rattle.index_tree.proofs.Frame.{Agrees}
use Rattle.index_tree.proofs.FrameRows.{branch, left_behind, left_in, right_in, right_past, right_within}
use Rattle.index_tree.proofs.InsertRows.{all_by_times, child_in, keyed, times_append}
use Rattle.index_tree.proofs.SearchLists.{without_behind, without_front}
use Rattle.index_tree.proofs.KeyOrder.{less_from}
use Rattle.index_tree.proofs.RemoveRows.{SameRow, alters_behind, alters_front, same_row}

-- ---- the keys beside a child

module _ (node : TreeNode) (key : List ℕ) (i : ℕ) (leads : LeadsTo node key i) where
  -- the key is at or above the keys in front of the child, and below those behind it
  pub from_at : (low : Option (List ℕ)) (k : ℕ) → k ≤ i → IsFrom low (keyed key 0) → IsFrom (left_in low node.entries k) (keyed key 0)
  from_at low zero few from = from
  from_at low (suc k) few from =
      let w = leads.within in
      let size = length-take-le i node.entries w in
      subst (λ (o : Option (List ℕ)). IsFrom o (keyed key 0)) (sym (left_behind low node.entries k (omega (arith, w))))
      (subst (λ (e : Entry). is_lt (key_cmp key e.key) ≡ false) (get_or-take i node.entries k no_entry (omega arith))
      (All-get_or (λ e. is_lt (key_cmp key e.key) ≡ false) (take i node.entries) k no_entry (omega (arith, size)) leads.upto))

  pub up_at : (high : Option (List ℕ)) (k : ℕ) → i ≤ k → IsUpTo high (keyed key 0) → IsUpTo (right_in node.entries high k) (keyed key 0)
  up_at high k more up = elim (cases_lt k (length node.entries)) [
    | inl within ↦
        (let size = length-drop i node.entries in
        subst (λ (o : Option (List ℕ)). IsUpTo o (keyed key 0)) (sym (right_within node.entries high k within))
        (subst (λ (e : Entry). IsBelow key e.key) (get_or-drop i node.entries (k - i) no_entry ∙ ap (λ n. get_or node.entries n no_entry) {x = i + (k - i)} {y = k} (omega arith))
        (All-get_or (λ e. IsBelow key e.key) (drop i node.entries) (k - i) no_entry (omega (arith, size, within)) leads.above)))
    | inr past ↦ subst (λ (o : Option (List ℕ)). IsUpTo o (keyed key 0)) (sym (right_past node.entries high k past)) up
  ]

-- ---- two children side by side in a row

pub record PairIn (nodes : Nodes) (level : ℕ) (p : Place) (low high : Option (List ℕ)) (first : Place) (bs : List Branch) (j : ℕ) : Type 0 where
  pub b : Branch
  pub seg : take 1 (drop j bs) ≡ b ∷ []
  pub right_is : child_in first bs (suc j) ≡ b.place
  pub left_tree : IsSubtree nodes level (Some p) (left_in low (map entry_of bs) j) (Some b.entry.key) (child_in first bs j)
  pub right_tree : IsSubtree nodes level (Some p) (Some b.entry.key) (right_in (map entry_of bs) high (suc j)) b.place
  pub entry_is : get_or (map entry_of bs) j no_entry ≡ b.entry
  pub key_right : right_in (map entry_of bs) high j ≡ Some b.entry.key
  pub key_left : left_in low (map entry_of bs) (suc j) ≡ Some b.entry.key
  pub among : (r : Place) → times r (of_row (nodes_below nodes level) (child_in first bs j) (b ∷ [])) ≤ times r (of_row (nodes_below nodes level) first bs)

pub pair_in : (nodes : Nodes) (level : ℕ) (p : Place) (j : ℕ) (first : Place) (bs : List Branch) (low high : Option (List ℕ)) → Row nodes level (Some p) low first bs high → j < length bs
    → PairIn nodes level p low high first bs j
pair_in nodes level p j first [] low high row within = absurd (omega arith)
pair_in nodes level p zero first (b ∷ bs) low high row within = record {
  b = b;
  seg = refl;
  right_is = refl;
  left_tree = row.0;
  right_tree = next bs row.1;
  entry_is = refl;
  key_right = refl;
  key_left = refl;
  among = λ r.
      (let a = times_append r (nodes_below nodes level (Some first)) (of_row (nodes_below nodes level) b.place bs) in
      let c = times_append r (nodes_below nodes level (Some first)) (of_row (nodes_below nodes level) b.place []) in
      let d = times_append r (nodes_below nodes level (Some b.place)) (flat_map (λ (x : Branch). nodes_below nodes level (Some x.place)) bs) in
      let e = times_append r (nodes_below nodes level (Some b.place)) [] in
      omega (arith, a, c, d, e));
}
  where
    next : (cs : List Branch) → Row nodes level (Some p) (Some b.entry.key) b.place cs high → IsSubtree nodes level (Some p) (Some b.entry.key) (right_in (map entry_of cs) high zero) b.place
    next [] r = r
    next (c ∷ cs) r = r.0
pair_in nodes level p (suc j) first (b ∷ bs) low high row within =
    let q = pair_in nodes level p j b.place bs (Some b.entry.key) high row.1 (omega arith) in
    record {
      b = q.b;
      seg = q.seg;
      right_is = q.right_is;
      left_tree = q.left_tree;
      right_tree = q.right_tree;
      entry_is = q.entry_is;
      key_right = q.key_right;
      key_left = q.key_left;
      among = λ r. (let a = times_append r (nodes_below nodes level (Some first)) (of_row (nodes_below nodes level) b.place bs) in let m = q.among r in omega (arith, a, m));
    }

-- ---- one of them lost the key

module _ (nodes mid : Nodes) (level : ℕ) (p : Place) (low high : Option (List ℕ)) (left : Place) (s : Entry) (right : Place) (key : List ℕ) (freed : List Place)
    (left_tree : IsSubtree nodes level (Some p) low (Some s.key) left) (right_tree : IsSubtree nodes level (Some p) (Some s.key) high right)
    (apart : (r : Place) → times r (nodes_below nodes level (Some left)) + times r (nodes_below nodes level (Some right)) ≤ 1) where
  one_times : (q r : Place) → times r (of_row (nodes_below nodes level) q []) ≡ times r (nodes_below nodes level (Some q))
  one_times q r = ap (λ (ps : List Place). times r ps) (append-nil (nodes_below nodes level (Some q)))

  -- the left one: the right one is as it was
  pub right_same : ((r : Place) → times r (nodes_below nodes level (Some left)) ≡ 0 → mid r ≡ nodes r) → SameRow nodes mid level (Some p) right [] (Some s.key) high
  right_same others =
      same_row nodes mid level (Some p) right [] (Some s.key) high right_tree
      (all_by_times (Agrees nodes mid) (of_row (nodes_below nodes level) right []) (λ r some. others r (let once = apart r in let o = one_times right r in omega (arith, once, o, some))))

  pub left_lost : SameRow nodes mid level (Some p) right [] (Some s.key) high → IsUpTo (Some s.key) (keyed key 0) → Alters (without key) nodes mid level left [] [] freed
      → Alters (without key) nodes mid level left (branch s right ∷ []) (branch s right ∷ []) freed
  left_lost same up a =
      let held : List Entry = held_below nodes level (Some right) in
      let over : All (λ e. IsBelow key e.key) held =
      All-weaker (IsBetween (Some s.key) high) (λ e. IsBelow key e.key) (λ e h. less_from key s.key e.key up h.0) held (held_between nodes level (Some p) (Some s.key) high right right_tree) in
      alters_behind (without key) nodes mid level (Some p) freed (Some s.key) high left [] [] (branch s right) [] same
      (λ t. without_front key t (held ++ []) (subst (λ (es : List Entry). All (λ e. IsBelow key e.key) es) (sym (append-nil held)) over)) a

  -- the right one
  pub left_same : ((r : Place) → times r (nodes_below nodes level (Some right)) ≡ 0 → mid r ≡ nodes r) → SameRow nodes mid level (Some p) left [] low (Some s.key)
  left_same others =
      same_row nodes mid level (Some p) left [] low (Some s.key) left_tree
      (all_by_times (Agrees nodes mid) (of_row (nodes_below nodes level) left []) (λ r some. others r (let once = apart r in let o = one_times left r in omega (arith, once, o, some))))

  pub right_lost : SameRow nodes mid level (Some p) left [] low (Some s.key) → IsFrom (Some s.key) (keyed key 0) → Alters (without key) nodes mid level right [] [] freed
      → Alters (without key) nodes mid level left (branch s right ∷ []) (branch s right ∷ []) freed
  right_lost same from a =
      let held : List Entry = held_below nodes level (Some left) in
      let under : All (λ e. IsBelow e.key key) held =
      All-weaker (IsBetween low (Some s.key)) (λ e. IsBelow e.key key) (λ e h. less_from e.key s.key key h.1 from) held (held_between nodes level (Some p) low (Some s.key) left left_tree) in
      alters_front (without key) nodes mid level (Some p) freed low (Some s.key) left [] (branch s right) [] [] same
      (λ t. without_behind key (held ++ []) t (subst (λ (es : List Entry). All (λ e. IsBelow e.key key) es) (sym (append-nil held)) under)) a
