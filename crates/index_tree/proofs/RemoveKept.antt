-- A node whose child lost a key and has as many entries as it should; where the key is; and freed nodes in another order.
use Rattle.std.proofs.Common.{◌≡◌, ℕ, suc, ◌+◌, ◌<◌, ◌≤◌, inl, inr, false, true≢false, List, [], ◌∷◌, ◌++◌, All, length, take, drop, map, get_or, Option, Some, None, refl, sym, ap, subst, ◌∙◌, arith, is_lt, Ordering, Less, Equal, Greater}
use Rattle.std.specs.Prelude.{IsSome}
use Rattle.std.specs.List.{flat_map}
use Rattle.std.proofs.lemmas.Bool.{cases_lt}
use Rattle.std.proofs.lemmas.List.{get_or-drop, length-drop, take-append-drop}
use Rattle.std.proofs.lemmas.List.Elements.{All-append, All-get_or}
use Rattle.regions.specs.declared.place.Place.{Place}
use Rattle.tree_nodes.specs.Nodes.{Entry, TreeNode, IsEntry, entry_at, no_entry, started}
use Rattle.tree_nodes.specs.Order.{AreRising, count_below, key_cmp}
use Rattle.index_tree.specs.Indexes.{number_of}
use Rattle.regions.specs.Places.{led_to}
use Rattle.index_tree.specs.Links.{Nodes}
use Rattle.index_tree.specs.Limits.{fewest_entries}
use Rattle.index_tree.specs.Trees.{IsFrom, IsNodeOf, IsUpTo, children_of, entries_of, held_below, nodes_below}
use Rattle.index_tree.specs.Ways.{LeadsTo}
use Rattle.index_tree.specs.Inserts.{Branch, entry_of, of_row, times}
use Rattle.index_tree.specs.Removes.{Loses}
use Rattle.index_tree.proofs.Frame.{all_back, all_front}
use Rattle.index_tree.proofs.FrameRows.{Opened, gathered, left_in, right_in}
use Rattle.index_tree.proofs.InsertRows.{child_in, keyed, times_append, times_here}
use Rattle.index_tree.proofs.SearchLists.{number_amid}
use Rattle.index_tree.proofs.SearchDown.{Children, behind_above, child_place, front_below, gathered_at, links}
use Rattle.index_tree.proofs.SearchNode.{SplitsAt, no_number, splits}
use Rattle.index_tree.proofs.RemoveRows.{tree_of}
use Rattle.index_tree.proofs.RemoveInner.{HasLinks, reordered}
use Rattle.index_tree.proofs.RemoveAbove.{Became, above_loses, child_became}
use Rattle.index_tree.proofs.RemovePair.{from_at, up_at}
use Rattle.index_tree.proofs.KeyOrder.{greater_less, tied}

-- ---- where the key is

-- the entry with a key that is there
pub found_at : (node : TreeNode) (key : List ℕ) (n : ℕ) → AreRising node.entries → n ≡ count_below node.entries key → IsSome (number_of key node.entries)
    → (n < length node.entries) × ((entry_at node n).key ≡ key)
found_at node key n rise counted there = elim (cases_lt n (length node.entries)) [
  | inl within ↦ (within, same within)
  | inr past ↦ absurd (not_missing (no_number node key n rise counted (λ h. let w = h.0 in omega (arith, w, past))))
]
  where
    not_missing : None ≡ number_of key node.entries → ⊥
    not_missing gone = true≢false (sym (subst (λ (o : Option ℕ). IsSome o) (sym gone) there))

    same : n < length node.entries → (entry_at node n).key ≡ key
    same within =
        let e : Entry = get_or node.entries n no_entry in
        let cut : SplitsAt node.entries key n = subst (λ k. SplitsAt node.entries key k) (sym counted) (splits key node.entries rise) in
        let size = length-drop n node.entries in
        let least : is_lt (key_cmp e.key key) ≡ false =
        subst (λ (x : Entry). is_lt (key_cmp x.key key) ≡ false) (get_or-drop n node.entries 0 no_entry ∙ ap (λ k. get_or node.entries k no_entry) {x = n + 0} {y = n} (omega arith))
        (All-get_or (λ x. is_lt (key_cmp x.key key) ≡ false) (drop n node.entries) 0 no_entry (omega (arith, size, within)) cut.least) in
        go e least (key_cmp e.key key) refl refl
      where
        go : (e : Entry) → is_lt (key_cmp e.key key) ≡ false → (o : Ordering) → key_cmp e.key key ≡ o → e ≡ get_or node.entries n no_entry → (entry_at node n).key ≡ key
        go e least Less is at = absurd (true≢false (sym (ap is_lt is) ∙ least))
        go e least Equal is at = ap (λ (x : Entry). x.key) (sym at) ∙ tied e.key key is
        go e least Greater is at =
            absurd (not_missing (no_number node key n rise counted
            (λ h. let equal : key_cmp key key ≡ Greater = ap (λ (k : List ℕ). key_cmp k key) (sym h.1 ∙ ap (λ (x : Entry). x.key) (sym at)) ∙ is in not_greater key equal)))
          where
            not_greater : (k : List ℕ) → key_cmp k k ≡ Greater → ⊥
            not_greater k e = let below = greater_less k k e in let clash : Greater ≡ Less = sym e ∙ below in cc

-- the number of a key is that of the child that it leads to
pub number_child : (nodes : Nodes) (level : ℕ) (parent : Option Place) (low high : Option (List ℕ)) (p : Place) (node : TreeNode) (of : IsNodeOf (suc level) parent low high node)
    (children : Children nodes level p low high node) (key : List ℕ) (i : ℕ) (leads : LeadsTo node key i) → nodes p ≡ Some node
    → number_of key (held_below nodes (suc level) (Some p)) ≡ number_of key (held_below nodes level (Some (child_place nodes level parent low high p node of children i leads.within)))
number_child nodes level parent low high p node of children key i leads is =
    let g : Option Place → List Entry = held_below nodes level in
    let f : ℕ → List Entry = λ link. g (led_to link) in
    let cs : List ℕ = links nodes level parent low high p node of children in
    let q : Place = child_place nodes level parent low high p node of children i leads.within in
    ap (λ (o : Option TreeNode). number_of key (flat_map f (children_of o))) is
    ∙ (ap (λ (es : List Entry). number_of key es) (gathered_at nodes level parent low high p node of children g i leads.within)
    ∙ number_amid key (flat_map f (take i cs)) (g (Some q)) (flat_map f (drop (i + 1) cs))
    (front_below nodes level parent low high p node of children key i leads g (λ o. refl)) (behind_above nodes level parent low high p node of children key i leads g (λ o. refl)))

-- ---- nothing to mend

module _ (nodes mid : Nodes) (level : ℕ) (parent : Option Place) (low high : Option (List ℕ)) (p : Place) (key : List ℕ) (i : ℕ) (freed : List Place)
    (o : Opened nodes level parent low high p) (leads : LeadsTo o.node key i) (from : IsFrom low (keyed key 0)) (up : IsUpTo high (keyed key 0))
    (once : (r : Place) → times r (nodes_below nodes (suc level) (Some p)) ≤ 1) where
  kept_row : (r : Place) → times r (p ∷ of_row (nodes_below nodes level) o.first o.branches) ≤ 1
  kept_row r = subst (λ (t : List Place). times r (p ∷ t) ≤ 1) (gathered (nodes_below nodes level) nodes level parent low high p o) (once r)

  pub kept_loses : i ≤ length o.branches
      → Loses nodes mid level (Some p) (left_in low (map entry_of o.branches) i) (right_in (map entry_of o.branches) high i) (child_in o.first o.branches i) key freed
      → fewest_entries ≤ length (entries_of (mid (child_in o.first o.branches i)))
      → ((r : Place) → times r (nodes_below nodes level (Some (child_in o.first o.branches i))) ≤ times r (of_row (nodes_below nodes level) o.first o.branches))
      → HasLinks o.node.children o.first o.branches → Loses nodes mid (suc level) parent low high p key freed
  kept_loses within lost many among has =
      let q : Place = child_in o.first o.branches i in
      let tree = tree_of mid level (Some p) (left_in low (map entry_of o.branches) i) (right_in (map entry_of o.branches) high i) q many lost.trunk in
      let whole : take i o.branches ++ ([] ++ drop i o.branches) ≡ o.branches = take-append-drop i o.branches in
      let became = child_became nodes mid level p key freed i o.first o.branches [] low high o.row within (tree, lost.alters)
      (subst (λ (t : List Entry). IsFrom (left_in low t i) (keyed key 0)) o.entries (from_at o.node key i leads low i (omega arith) from))
      (subst (λ (t : List Entry). IsUpTo (right_in t high i) (keyed key 0)) o.entries (up_at o.node key i leads high i (omega arith) up))
      lost.others (λ r. (let a = kept_row r in omega (arith, a))) in
      let same : mid p ≡ nodes p = lost.others p (let a = kept_row p in let b = times_here p [] in let c = among p in omega (arith, a, b, c)) in
      above_loses nodes mid level parent low high p key freed o o.branches o.node.children has
      (same ∙ (o.is ∙ ap (λ (t : List Entry). Some (reordered t o.node.children o.node)) o.entries))
      (subst (λ (t : List Entry). All IsEntry t) o.entries o.of.stands.entries) (subst (λ (t : List Entry). All (λ (e : Entry). e.number ≡ 0) t) o.entries o.inner.numbers)
      (omega arith) (omega arith)
      (subst (λ (t : List Branch). Became nodes mid level p key freed low high o.first o.branches t) whole became) lost.idle
      (λ r none.
      let all : times r (p ∷ of_row (nodes_below nodes level) o.first o.branches) ≡ 0 = ap (λ (t : List Place). times r (p ∷ t)) (sym (gathered (nodes_below nodes level) nodes level parent low high p o)) ∙ none in
      let part = among r in
      lost.others r (omega (arith, all, part)))

-- ---- freed nodes in another order

pub loses_turned : (nodes new : Nodes) (level : ℕ) (parent : Option Place) (low high : Option (List ℕ)) (p : Place) (key : List ℕ) (xs ys : List Place)
    → Loses nodes new level parent low high p key (xs ++ ys) → Loses nodes new level parent low high p key (ys ++ xs)
loses_turned nodes new level parent low high p key xs ys l = record {
  trunk = l.trunk;
  many = l.many;
  alters = record {
    held = l.alters.held;
    first_leaf = l.alters.first_leaf;
    chained = l.alters.chained;
    places = λ r. (let a = l.alters.places r in let b = times_append r xs ys in let c = times_append r ys xs in omega (arith, a, b, c));
    rows = l.alters.rows;
  };
  idle = All-append (λ q. new q ≡ Some (started 0)) ys xs (all_back (λ q. new q ≡ Some (started 0)) xs ys l.idle) (all_front (λ q. new q ≡ Some (started 0)) xs ys l.idle);
  others = l.others;
}
