-- Rows of places in which a part became another.
use mathlib.Core.List.Sublist
use Rattle.std.proofs.Common.{◌≡◌, ◌≢◌, ℕ, zero, suc, ◌≤◌, List, ◌∷◌, ◌++◌, All, length, Option, Some, None, sym, ap, subst, ◌∙◌, arith}
use Rattle.std.specs.List.{flat_map}
use Rattle.regions.specs.declared.place.Place.{Place}
use Rattle.tree_nodes.specs.Nodes.{Entry, TreeNode}
use Rattle.index_tree.specs.Indexes.{Index}
use Rattle.index_tree.specs.Limits.{fewest_entries}
use Rattle.index_tree.specs.Links.{Nodes}
use Rattle.index_tree.specs.Trees.{IsNodeOf, IsSubtree, entries_of, held_below, leaves_below, nodes_below, row_below}
use Rattle.index_tree.specs.Inserts.{AreChained, Branch, Row, first_link, of_row, times}
use Rattle.index_tree.specs.Removes.{Alters, IsLooseNode, IsTrunk}
use Rattle.index_tree.proofs.FrameRows.{close_node, open_node, row_map, row_same}
use Rattle.index_tree.proofs.Frame.{AgreeBelow, Agrees, all_back, all_front, all_parts, frame_held, frame_leaves, frame_nodes, frame_rows, frame_subtree}
use Rattle.index_tree.proofs.InsertRows.{chained_agree, chained_back, chained_front, chained_joined, first_append, of_row_append, row_leaves_among, times_append}
use Rattle.index_tree.proofs.Rows.{left_between}

-- ---- a tree and its trunk

pub loose_of : (level : ℕ) (parent : Option Place) (low high : Option (List ℕ)) (node : TreeNode) → IsNodeOf level parent low high node → IsLooseNode level parent low high node
loose_of level parent low high node of = record {
  level_is = of.level_is;
  parent_is = of.parent_is;
  stands = of.stands;
  rising = of.rising;
  from = of.from;
  up_to = of.up_to;
}

pub tight_of : (level : ℕ) (parent : Option Place) (low high : Option (List ℕ)) (node : TreeNode) → (parent ≢ None → fewest_entries ≤ length node.entries)
    → IsLooseNode level parent low high node → IsNodeOf level parent low high node
tight_of level parent low high node many of = record {
  level_is = of.level_is;
  parent_is = of.parent_is;
  stands = of.stands;
  rising = of.rising;
  from = of.from;
  up_to = of.up_to;
  many = many;
}

pub trunk_of : (nodes : Nodes) (level : ℕ) (parent : Option Place) (low high : Option (List ℕ)) (p : Place) → IsSubtree nodes level parent low high p → IsTrunk nodes level parent low high p
trunk_of nodes zero parent low high p (node, is, here, of, none) = (node, is, here, loose_of zero parent low high node of, none)
trunk_of nodes (suc level) parent low high p sub =
    let o = open_node nodes level parent low high p sub in
    record {
      node = o.node;
      is = o.is;
      room = o.room;
      of = loose_of (suc level) parent low high o.node o.of;
      inner = record { numbers = o.inner.numbers; next = o.inner.next; others = o.inner.others };
      first = o.first;
      branches = o.branches;
      entries = o.entries;
      links = o.links;
      row = o.row;
    }

-- with as many entries as it should have it is a tree
pub tree_of : (nodes : Nodes) (level : ℕ) (parent : Option Place) (low high : Option (List ℕ)) (p : Place) → fewest_entries ≤ length (entries_of (nodes p))
    → IsTrunk nodes level parent low high p → IsSubtree nodes level parent low high p
tree_of nodes zero parent low high p many (node, is, here, of, none) =
    let many_here : fewest_entries ≤ length node.entries = subst (λ (o : Option TreeNode). fewest_entries ≤ length (entries_of o)) is many in
    (node, is, here, tight_of zero parent low high node (λ some. many_here) of, none)
tree_of nodes (suc level) parent low high p many t =
    let many_here : fewest_entries ≤ length t.node.entries = subst (λ (o : Option TreeNode). fewest_entries ≤ length (entries_of o)) t.is many in
    close_node nodes level parent low high p (record {
      node = t.node;
      is = t.is;
      room = t.room;
      of = tight_of (suc level) parent low high t.node (λ some. many_here) t.of;
      inner = record { some = omega (arith, many_here); numbers = t.inner.numbers; next = t.inner.next; others = t.inner.others };
      first = t.first;
      branches = t.branches;
      entries = t.entries;
      links = t.links;
      row = t.row;
    })

-- ---- a part that agrees

module _ (nodes new : Nodes) (level : ℕ) (parent : Option Place) where
  pub record SameRow (first : Place) (bs : List Branch) (low high : Option (List ℕ)) : Type 0 where
    pub row : Row new level parent low first bs high
    pub held : of_row (held_below new level) first bs ≡ of_row (held_below nodes level) first bs
    pub leaves : of_row (leaves_below new level) first bs ≡ of_row (leaves_below nodes level) first bs
    pub places : of_row (nodes_below new level) first bs ≡ of_row (nodes_below nodes level) first bs
    pub rows : (k : ℕ) → of_row (row_below new k level) first bs ≡ of_row (row_below nodes k level) first bs
    pub chained : (end : ℕ) → AreChained nodes (of_row (leaves_below nodes level) first bs) end → AreChained new (of_row (leaves_below nodes level) first bs) end

  pub same_row : (first : Place) (bs : List Branch) (low high : Option (List ℕ)) → Row nodes level parent low first bs high → All (Agrees nodes new) (of_row (nodes_below nodes level) first bs)
      → SameRow first bs low high
  same_row first bs low high row all =
      let here = all_front (Agrees nodes new) (nodes_below nodes level (Some first)) (flat_map (λ (b : Branch). nodes_below nodes level (Some b.place)) bs) all in
      let these = all_parts (Agrees nodes new) (λ (b : Branch). nodes_below nodes level (Some b.place)) bs
      (all_back (Agrees nodes new) (nodes_below nodes level (Some first)) (flat_map (λ (b : Branch). nodes_below nodes level (Some b.place)) bs) all) in
      record {
        row = row_map nodes new level parent parent (AgreeBelow nodes new level) (λ l h q t a. frame_subtree nodes new level parent l h q t a) first bs low high row here these;
        held = row_same (held_below nodes level) (held_below new level) nodes level parent (AgreeBelow nodes new level) (λ l h q t a. frame_held nodes new level parent l h q t a) first bs low high row here these;
        leaves = row_same (leaves_below nodes level) (leaves_below new level) nodes level parent (AgreeBelow nodes new level) (λ l h q t a. frame_leaves nodes new level parent l h q t a) first bs low high row here these;
        places = row_same (nodes_below nodes level) (nodes_below new level) nodes level parent (AgreeBelow nodes new level) (λ l h q t a. frame_nodes nodes new level parent l h q t a) first bs low high row here these;
        rows = λ k. row_same (row_below nodes k level) (row_below new k level) nodes level parent (AgreeBelow nodes new level) (λ l h q t a. frame_rows nodes new k level parent l h q t a) first bs low high row here these;
        chained = λ end c. chained_agree nodes new (of_row (leaves_below nodes level) first bs) end (row_leaves_among nodes (Agrees nodes new) level parent first bs low high row all) c;
      }

-- ---- a part in a row

module _ (change : Index → Index) (nodes new : Nodes) (level : ℕ) (parent : Option Place) (freed : List Place) where
  -- behind a part that agrees
  pub alters_front : (low high : Option (List ℕ)) (first : Place) (xs : List Branch) (b : Branch) (bs cs : List Branch) → SameRow nodes new level parent first xs low high
      → ((t : Index) → change (of_row (held_below nodes level) first xs ++ t) ≡ of_row (held_below nodes level) first xs ++ change t)
      → Alters change nodes new level b.place bs cs freed → Alters change nodes new level first (xs ++ b ∷ bs) (xs ++ b ∷ cs) freed
  alters_front low high first xs b bs cs same past a =
      let held : List Entry = of_row (held_below nodes level) first xs in
      let leaves : List Place = of_row (leaves_below nodes level) first xs in
      let new_leaves : List Place = of_row (leaves_below new level) b.place cs in
      let old_leaves : List Place = of_row (leaves_below nodes level) b.place bs in
      let joined : of_row (leaves_below new level) first (xs ++ b ∷ cs) ≡ leaves ++ new_leaves =
      of_row_append (leaves_below new level) first xs b cs ∙ ap (λ (t : List Place). t ++ new_leaves) same.leaves in
      let were : of_row (leaves_below nodes level) first (xs ++ b ∷ bs) ≡ leaves ++ old_leaves = of_row_append (leaves_below nodes level) first xs b bs in
      record {
        held =
            of_row_append (held_below new level) first xs b cs
            ∙ (ap (λ (t : List Entry). t ++ of_row (held_below new level) b.place cs) same.held
            ∙ (ap (λ (t : List Entry). held ++ t) a.held
            ∙ (sym (past (of_row (held_below nodes level) b.place bs)) ∙ ap (λ (t : List Entry). change t) (sym (of_row_append (held_below nodes level) first xs b bs)))));
        first_leaf = λ end.
            (ap (λ (t : List Place). first_link t end) joined
            ∙ (first_append leaves new_leaves end
            ∙ (ap (λ n. first_link leaves n) (a.first_leaf end)
            ∙ (sym (first_append leaves old_leaves end) ∙ ap (λ (t : List Place). first_link t end) (sym were)))));
        chained = λ end c.
            (let d : AreChained nodes (leaves ++ old_leaves) end = subst (λ (t : List Place). AreChained nodes t end) were c in
            subst (λ (t : List Place). AreChained new t end) (sym joined)
            (chained_joined new leaves new_leaves end
            (subst (λ n. AreChained new leaves n) (sym (a.first_leaf end)) (same.chained (first_link old_leaves end) (chained_front nodes leaves old_leaves end d)))
            (a.chained end (chained_back nodes leaves old_leaves end d))));
        places = λ r.
            (let now : times r (of_row (nodes_below new level) first (xs ++ b ∷ cs)) ≡ times r (of_row (nodes_below nodes level) first xs ++ of_row (nodes_below new level) b.place cs) =
            ap (λ (t : List Place). times r t) (of_row_append (nodes_below new level) first xs b cs ∙ ap (λ (t : List Place). t ++ of_row (nodes_below new level) b.place cs) same.places) in
            let was : times r (of_row (nodes_below nodes level) first (xs ++ b ∷ bs)) ≡ times r (of_row (nodes_below nodes level) first xs ++ of_row (nodes_below nodes level) b.place bs) =
            ap (λ (t : List Place). times r t) (of_row_append (nodes_below nodes level) first xs b bs) in
            let m = times_append r (of_row (nodes_below nodes level) first xs) (of_row (nodes_below new level) b.place cs) in
            let n = times_append r (of_row (nodes_below nodes level) first xs) (of_row (nodes_below nodes level) b.place bs) in
            let here = a.places r in
            omega arith);
        rows = λ k.
            left_between (of_row_append (row_below new k level) first xs b cs ∙ ap (λ (t : List Place). t ++ of_row (row_below new k level) b.place cs) (same.rows k))
            (Sublist.append (Sublist.refl (of_row (row_below nodes k level) first xs)) (a.rows k))
            (sym (of_row_append (row_below nodes k level) first xs b bs));
      }

  -- in front of a part that agrees
  pub alters_behind : (low high : Option (List ℕ)) (first : Place) (bs cs : List Branch) (b : Branch) (ys : List Branch) → SameRow nodes new level parent b.place ys low high
      → ((t : Index) → change (t ++ of_row (held_below nodes level) b.place ys) ≡ change t ++ of_row (held_below nodes level) b.place ys)
      → Alters change nodes new level first bs cs freed → Alters change nodes new level first (bs ++ b ∷ ys) (cs ++ b ∷ ys) freed
  alters_behind low high first bs cs b ys same past a =
      let held : List Entry = of_row (held_below nodes level) b.place ys in
      let leaves : List Place = of_row (leaves_below nodes level) b.place ys in
      let new_leaves : List Place = of_row (leaves_below new level) first cs in
      let old_leaves : List Place = of_row (leaves_below nodes level) first bs in
      let joined : of_row (leaves_below new level) first (cs ++ b ∷ ys) ≡ new_leaves ++ leaves =
      of_row_append (leaves_below new level) first cs b ys ∙ ap (λ (t : List Place). new_leaves ++ t) same.leaves in
      let were : of_row (leaves_below nodes level) first (bs ++ b ∷ ys) ≡ old_leaves ++ leaves = of_row_append (leaves_below nodes level) first bs b ys in
      record {
        held =
            of_row_append (held_below new level) first cs b ys
            ∙ (ap (λ (t : List Entry). of_row (held_below new level) first cs ++ t) same.held
            ∙ (ap (λ (t : List Entry). t ++ held) a.held
            ∙ (sym (past (of_row (held_below nodes level) first bs)) ∙ ap (λ (t : List Entry). change t) (sym (of_row_append (held_below nodes level) first bs b ys)))));
        first_leaf = λ end.
            (ap (λ (t : List Place). first_link t end) joined
            ∙ (first_append new_leaves leaves end
            ∙ (a.first_leaf (first_link leaves end)
            ∙ (sym (first_append old_leaves leaves end) ∙ ap (λ (t : List Place). first_link t end) (sym were)))));
        chained = λ end c.
            (let d : AreChained nodes (old_leaves ++ leaves) end = subst (λ (t : List Place). AreChained nodes t end) were c in
            subst (λ (t : List Place). AreChained new t end) (sym joined)
            (chained_joined new new_leaves leaves end
            (a.chained (first_link leaves end) (chained_front nodes old_leaves leaves end d))
            (same.chained end (chained_back nodes old_leaves leaves end d))));
        places = λ r.
            (let now : times r (of_row (nodes_below new level) first (cs ++ b ∷ ys)) ≡ times r (of_row (nodes_below new level) first cs ++ of_row (nodes_below nodes level) b.place ys) =
            ap (λ (t : List Place). times r t) (of_row_append (nodes_below new level) first cs b ys ∙ ap (λ (t : List Place). of_row (nodes_below new level) first cs ++ t) same.places) in
            let was : times r (of_row (nodes_below nodes level) first (bs ++ b ∷ ys)) ≡ times r (of_row (nodes_below nodes level) first bs ++ of_row (nodes_below nodes level) b.place ys) =
            ap (λ (t : List Place). times r t) (of_row_append (nodes_below nodes level) first bs b ys) in
            let m = times_append r (of_row (nodes_below new level) first cs) (of_row (nodes_below nodes level) b.place ys) in
            let n = times_append r (of_row (nodes_below nodes level) first bs) (of_row (nodes_below nodes level) b.place ys) in
            let here = a.places r in
            omega arith);
        rows = λ k.
            left_between (of_row_append (row_below new k level) first cs b ys ∙ ap (λ (t : List Place). of_row (row_below new k level) first cs ++ t) (same.rows k))
            (Sublist.append (a.rows k) (Sublist.refl (of_row (row_below nodes k level) b.place ys)))
            (sym (of_row_append (row_below nodes k level) first bs b ys));
      }

-- one change after another
pub alters_then : (f g : Index → Index) (nodes mid new : Nodes) (level : ℕ) (first : Place) (bs cs ds : List Branch) (freed more : List Place)
    → Alters f nodes mid level first bs cs freed → Alters g mid new level first cs ds more → Alters (λ t. g (f t)) nodes new level first bs ds (more ++ freed)
alters_then f g nodes mid new level first bs cs ds freed more a b = record {
  held = b.held ∙ ap (λ (t : List Entry). g t) a.held;
  first_leaf = λ end. b.first_leaf end ∙ a.first_leaf end;
  chained = λ end c. b.chained end (a.chained end c);
  places = λ r. (let x = a.places r in let y = b.places r in let z = times_append r more freed in omega arith);
  rows = λ k. Sublist.trans (b.rows k) (a.rows k);
}
