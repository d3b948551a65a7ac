-- The root of a tree that lost a key: without an entry it goes.
use mathlib.Core.List.{Sublist, nil-sublist}
use mathlib.Core.List.Sublist
use Rattle.std.proofs.Common.{◌≡◌, ◌≢◌, ℕ, zero, suc, ◌+◌, ◌-◌, ◌≤◌, inl, inr, List, [], ◌∷◌, ◌++◌, All, length, take, map, get_or, Option, Some, None, option_map, refl, sym, ap, subst, ◌∙◌, append-nil, arith}
use Rattle.std.specs.Prelude.{IfSome, IsSome}
use Rattle.std.specs.List.{flat_map}
use Rattle.std.proofs.lemmas.List.{get_or-take}
use Rattle.std.proofs.lemmas.List.Elements.{All-append, All-cons, All-nil}
use Rattle.regions.specs.Segments.{RegionState}
use Rattle.regions.specs.Contents.{Item, live_at}
use Rattle.regions.specs.declared.place.Place.{Place}
use Rattle.tree_nodes.specs.Nodes.{Entry, TreeNode, child_at, no_place, started}
use Rattle.index_tree.specs.Indexes.{without}
use Rattle.index_tree.specs.Inserts.{AreChained, Branch, Row, entry_of, times}
use Rattle.regions.specs.Places.{led_to, link_to, place_of_link}
use Rattle.index_tree.specs.Links.{Nodes, with_parent}
use Rattle.index_tree.specs.Prunes.{Prunes}
use Rattle.index_tree.specs.Removes.{IsTrunk, Loses}
use Rattle.index_tree.specs.Store.{ChangesNode, HoldsNode, nodes_of}
use Rattle.index_tree.specs.Trees.{IsSubtree, children_of, entries_of, held_below, if_level, leaves_below, next_at, next_in, nodes_below, row_below}
use Rattle.index_tree.specs.Writes.{WritesNode}
use Rattle.index_tree.specs.inside.Climbs.{HoldNodes}
use Rattle.index_tree.proofs.Frame.{Agrees, adopted_held, adopted_leaves, adopted_nodes, adopted_rows, adopted_subtree, below_children, nodes_from}
use Rattle.index_tree.proofs.FrameRows.{close_node, links_of}
use Rattle.index_tree.proofs.InsertNode.{chained_same, next_adopted}
use Rattle.index_tree.proofs.InsertRows.{all_by_times, leaves_among, times_append, times_here, times_of_all}
use Rattle.index_tree.proofs.Moved.{room_of}
use Rattle.place_lemmas.proofs.Places.{leads_on, led_back, place_cases, some_is, some_none}
use Rattle.index_tree.proofs.RemoveInner.{child_many}
use Rattle.index_tree.proofs.RemoveRows.{tight_of}
use Rattle.index_tree.proofs.Rows.{left_between}
use Rattle.index_tree.proofs.Touches.{held_same, node_past, node_there}
use Rattle.index_tree.proofs.Writes.{eases}
use Rattle.index_tree.proofs.SearchNode.{is_live}

none_long : (es : List Entry) → length es ≡ 0 → es ≡ []
none_long [] is = refl
none_long (e ∷ es) is = absurd (omega arith)

entries_adopted : (o : Option TreeNode) (link : ℕ) → entries_of (option_map (with_parent link) o) ≡ entries_of o
entries_adopted None link = refl
entries_adopted (Some node) link = refl

-- ---- a root with an entry stays

pub root_tree : (nodes : Nodes) (level : ℕ) (low high : Option (List ℕ)) (p : Place) → 1 ≤ length (entries_of (nodes p)) → IsTrunk nodes level None low high p → IsSubtree nodes level None low high p
root_tree nodes zero low high p some (node, is, here, of, none) = (node, is, here, tight_of zero None low high node (λ inside. absurd (inside refl)) of, none)
root_tree nodes (suc level) low high p some t =
    close_node nodes level None low high p (record {
      node = t.node;
      is = t.is;
      room = t.room;
      of = tight_of (suc level) None low high t.node (λ inside. absurd (inside refl)) t.of;
      inner = record {
        some = subst (λ (o : Option TreeNode). 1 ≤ length (entries_of o)) t.is some;
        numbers = t.inner.numbers;
        next = t.inner.next;
        others = t.inner.others;
      };
      first = t.first;
      branches = t.branches;
      entries = t.entries;
      links = t.links;
      row = t.row;
    })

module _ (nodes mid : Nodes) (level : ℕ) (root : Place) (key : List ℕ) (freed : List Place) (lost : Loses nodes mid level None None None root key freed) where
  held_now : held_below mid level (Some root) ≡ without key (held_below nodes level (Some root))
  held_now = sym (append-nil (held_below mid level (Some root))) ∙ (lost.alters.held ∙ ap (λ (t : List Entry). without key t) (append-nil (held_below nodes level (Some root))))

  chained_now : AreChained nodes (leaves_below nodes level (Some root)) no_place → AreChained mid (leaves_below mid level (Some root)) no_place
  chained_now c =
      subst (λ (t : List Place). AreChained mid t no_place) (append-nil (leaves_below mid level (Some root)))
      (lost.alters.chained no_place (subst (λ (t : List Place). AreChained nodes t no_place) (sym (append-nil (leaves_below nodes level (Some root)))) c))

  places_now : (r : Place) → times r (nodes_below mid level (Some root)) + times r freed ≡ times r (nodes_below nodes level (Some root))
  places_now r =
      let a = lost.alters.places r in
      let b = times_append r (nodes_below mid level (Some root)) [] in
      let c = times_append r (nodes_below nodes level (Some root)) [] in
      omega arith

  rows_now : (k : ℕ) → Sublist (row_below mid k level (Some root)) (row_below nodes k level (Some root))
  rows_now k = left_between (sym (append-nil (row_below mid k level (Some root)))) (lost.alters.rows k) (append-nil (row_below nodes k level (Some root)))

  pub root_stays : 1 ≤ length (entries_of (mid root)) → Prunes nodes mid level root level (Some root) key freed
  root_stays some = record {
    rooted = λ p is. subst (λ (q : Place). IsSubtree mid level None None None q) (some_is is) (root_tree mid level None None root some lost.trunk);
    some = λ p is. subst (λ (q : Place). 1 ≤ length (entries_of (mid q))) (some_is is) some;
    held = held_now;
    chained = chained_now;
    places = places_now;
    rows = rows_now;
    idle = lost.idle;
    others = lost.others;
  }

  -- ---- one without an entry is free

  root_there : 1 ≤ times root (nodes_below mid level (Some root))
  root_there = subst (λ (t : List Place). 1 ≤ times root t) (sym (nodes_from mid level root)) (times_here root (below_children mid level root))

  module _ (new : Nodes) (once : (r : Place) → times r (nodes_below nodes level (Some root)) ≤ 1) (now : new root ≡ Some (started 0)) where
    -- no freed node is in the tree
    freed_far : (r p : Place) → 1 ≤ times r freed → 1 ≤ times p (nodes_below mid level (Some root)) → r ≢ p
    freed_far r p some there e =
        let here : 1 ≤ times p freed = subst (λ (q : Place). 1 ≤ times q freed) e some in
        let all = places_now p in
        let o = once p in
        absurd (omega arith)

    outside_far : (r p : Place) → times r (nodes_below nodes level (Some root)) ≡ 0 → 1 ≤ times p (nodes_below mid level (Some root)) → r ≢ p
    outside_far r p none there e =
        let here : times p (nodes_below nodes level (Some root)) ≡ 0 = subst (λ (q : Place). times q (nodes_below nodes level (Some root)) ≡ 0) e none in
        let all = places_now p in
        absurd (omega arith)

    idle_now : ((r : Place) → 1 ≤ times r freed → new r ≡ mid r) → All (λ q. new q ≡ Some (started 0)) (freed ++ root ∷ [])
    idle_now same =
        All-append (λ q. new q ≡ Some (started 0)) freed (root ∷ [])
        (all_by_times (λ q. new q ≡ Some (started 0)) freed (λ r some. same r some ∙ times_of_all (λ q. mid q ≡ Some (started 0)) freed r lost.idle some))
        (All-cons (λ q. new q ≡ Some (started 0)) root [] now (All-nil (λ q. new q ≡ Some (started 0))))

-- the only leaf
pub leaf_goes : (nodes mid new : Nodes) (level : ℕ) (root : Place) (key : List ℕ) (freed : List Place) → level ≡ 0 → Loses nodes mid level None None None root key freed
    → length (entries_of (mid root)) ≡ 0 → new root ≡ Some (started 0) → ((r : Place) → r ≢ root → new r ≡ mid r) → ((r : Place) → times r (nodes_below nodes level (Some root)) ≤ 1)
    → Prunes nodes new level root 0 None key (freed ++ root ∷ [])
leaf_goes nodes mid new zero root key freed low lost empty now rest once = record {
  rooted = λ p is. some_none is refl;
  some = λ p is. some_none is refl;
  held = sym (none_long (entries_of (mid root)) empty) ∙ held_now nodes mid zero root key freed lost;
  chained = λ c. tt;
  places = λ r.
      (let all = places_now nodes mid zero root key freed lost r in
      let a = times_append r freed (root ∷ []) in
      omega arith);
  rows = λ k. nil-sublist (row_below nodes k zero (Some root));
  idle = idle_now nodes mid zero root key freed lost new once now
      (λ r some. rest r (freed_far nodes mid zero root key freed lost new once now r root some (root_there nodes mid zero root key freed lost)));
  others = λ r none.
      rest r (outside_far nodes mid zero root key freed lost new once now r root none (root_there nodes mid zero root key freed lost)) ∙ lost.others r none;
}
leaf_goes nodes mid new (suc level) root key freed low lost empty now rest once = absurd (omega arith)

-- ---- an inner root without an entry has one child, which is the root then

pub record OnlyChild (nodes : Nodes) (level : ℕ) (root child : Place) : Type 0 where
  pub tree : IsSubtree nodes level (Some root) None None child
  pub links : children_of (nodes root) ≡ link_to (Some child) ∷ []

pub only_child : (nodes : Nodes) (level : ℕ) (root : Place) → IsTrunk nodes (suc level) None None None root → length (entries_of (nodes root)) ≡ 0
    → (child : Place) × OnlyChild nodes level root child
only_child nodes level root t empty =
    (t.first, go t.branches t.entries t.links t.row)
  where
    bare : length t.node.entries ≡ 0
    bare = ap (λ (o : Option TreeNode). length (entries_of o)) (sym t.is) ∙ empty

    go : (bs : List Branch) → t.node.entries ≡ map entry_of bs → take (suc (length t.node.entries)) t.node.children ≡ links_of t.first bs → Row nodes level (Some root) None t.first bs None
        → OnlyChild nodes level root t.first
    go [] entries links row = record { tree = row; links = ap (λ (o : Option TreeNode). children_of o) t.is ∙ links }
    go (b ∷ bs) entries links row = absurd (let long : length t.node.entries ≡ suc (length (map entry_of bs)) = ap (λ (es : List Entry). length es) entries in let none = bare in omega arith)

-- the number of that child
pub child_link : (nodes : Nodes) (level : ℕ) (root child : Place) → OnlyChild nodes level root child → (l : ℕ) → IfSome (nodes root) (λ node. l ≡ child_at node 0) → place_of_link l ≡ child
child_link nodes level root child only l is = go (nodes root) only.links is
  where
    go : (o : Option TreeNode) → children_of o ≡ link_to (Some child) ∷ [] → IfSome o (λ node. l ≡ child_at node 0) → place_of_link l ≡ child
    go None links i = absurd (let long : 0 ≡ 1 = ap (λ (ls : List ℕ). length ls) links in omega arith)
    go (Some node) links i =
        let link_is : l ≡ link_to (Some child) =
        i ∙ (sym (get_or-take (suc (length node.entries)) node.children 0 no_place (omega arith)) ∙ ap (λ (ls : List ℕ). get_or ls 0 no_place) links) in
        ap (λ k. place_of_link k) link_is ∙ led_back child (room_of nodes level (Some root) None None child only.tree)

module _ (nodes mid new : Nodes) (level : ℕ) (root child : Place) (key : List ℕ) (freed : List Place) (lost : Loses nodes mid (suc level) None None None root key freed)
    (only : OnlyChild mid level root child) (now : new root ≡ Some (started 0)) (alone : child ≢ root → new child ≡ option_map (with_parent no_place) (mid child))
    (rest : (r : Place) → r ≢ root → r ≢ child → new r ≡ mid r) (once : (r : Place) → times r (nodes_below nodes (suc level) (Some root)) ≤ 1) where
  gathers : {A : Type 0} (g : Option Place → List A) → flat_map (λ link. g (led_to link)) (children_of (mid root)) ≡ g (Some child)
  gathers {A} g =
      ap (λ (ls : List ℕ). flat_map (λ link. g (led_to link)) ls) only.links
      ∙ (ap (λ (o : Option Place). g o ++ []) (leads_on (Some child) (room_of mid level (Some root) None None child only.tree)) ∙ append-nil (g (Some child)))

  all_places : (r : Place) → times r (root ∷ nodes_below mid level (Some child)) + times r freed ≡ times r (nodes_below nodes (suc level) (Some root))
  all_places r =
      let same : times r (root ∷ nodes_below mid level (Some child)) ≡ times r (nodes_below mid (suc level) (Some root)) =
      ap (λ (t : List Place). times r (root ∷ t)) (sym (gathers (nodes_below mid level))) in
      let all = places_now nodes mid (suc level) root key freed lost r in
      omega arith

  from_child : (r : Place) → times r (nodes_below mid level (Some child)) ≡ times r (child ∷ below_children mid level child)
  from_child r = ap (λ (t : List Place). times r t) (nodes_from mid level child)

  child_there : 1 ≤ times child (nodes_below mid (suc level) (Some root))
  child_there =
      let same : times child (nodes_below mid (suc level) (Some root)) ≡ times child (root ∷ nodes_below mid level (Some child)) =
      ap (λ (t : List Place). times child (root ∷ t)) (gathers (nodes_below mid level)) in
      let f = from_child child in
      let h = times_here child (below_children mid level child) in
      omega arith

  -- nothing below the child is the old root
  not_root : (r : Place) → 1 ≤ times r (nodes_below mid level (Some child)) → r ≢ root
  not_root r some e =
      let there : 1 ≤ times root (nodes_below mid level (Some child)) = subst (λ (q : Place). 1 ≤ times q (nodes_below mid level (Some child))) e some in
      let h = times_here root [] in
      let all = all_places root in
      let o = once root in
      absurd (omega arith)

  child_now : new child ≡ option_map (with_parent no_place) (mid child)
  child_now = alone (not_root child (let f = from_child child in let h = times_here child (below_children mid level child) in omega arith))

  below_now : All (Agrees mid new) (below_children mid level child)
  below_now = all_by_times (Agrees mid new) (below_children mid level child)
      (λ r some. rest r (not_root r (let f = from_child r in omega arith))
      (λ e. (let there : 1 ≤ times child (below_children mid level child) = subst (λ (q : Place). 1 ≤ times q (below_children mid level child)) e some in
      let f = from_child child in
      let h = times_here child [] in
      let all = all_places child in
      let o = once child in
      absurd (omega arith))))

  some_now : 1 ≤ length (entries_of (new child))
  some_now =
      let many = child_many mid level None None child (root, only.tree) in
      let same : length (entries_of (new child)) ≡ length (entries_of (mid child)) =
      ap (λ (o : Option TreeNode). length (entries_of o)) child_now ∙ ap (λ (es : List Entry). length es) (entries_adopted (mid child) no_place) in
      omega (arith, many, same)

  abbrev SameNext : Place → Type 0
  SameNext r = next_at new r ≡ next_at mid r

  next_now : All SameNext (nodes_below mid level (Some child))
  next_now = all_by_times SameNext (nodes_below mid level (Some child)) (λ r some. elim (place_cases r child) [
    | inl e ↦ subst (λ (q : Place). SameNext q) (sym e) (ap (λ (o : Option TreeNode). next_in o) child_now ∙ next_adopted (mid child) no_place)
    | inr far ↦ ap (λ (o : Option TreeNode). next_in o) (rest r (not_root r some) far)
  ])

  leaves_now : leaves_below new level (Some child) ≡ leaves_below mid (suc level) (Some root)
  leaves_now = adopted_leaves mid new level (Some root) None None child no_place only.tree child_now below_now ∙ sym (gathers (leaves_below mid level))

  pub root_goes : Prunes nodes new (suc level) root level (Some child) key (freed ++ root ∷ [])
  root_goes = record {
    rooted = λ p is.
        subst (λ (q : Place). IsSubtree new level None None None q) (some_is is)
        (adopted_subtree mid new level (Some root) None None None child tt (λ inside. absurd (inside refl)) only.tree child_now below_now);
    some = λ p is. subst (λ (q : Place). 1 ≤ length (entries_of (new q))) (some_is is) some_now;
    held =
        adopted_held mid new level (Some root) None None child no_place only.tree child_now below_now
        ∙ (sym (gathers (held_below mid level)) ∙ held_now nodes mid (suc level) root key freed lost);
    chained = λ c.
        subst (λ (t : List Place). AreChained new t no_place) (sym leaves_now)
        (chained_same mid new (leaves_below mid (suc level) (Some root)) no_place
        (subst (λ (t : List Place). All SameNext t) (sym (gathers (leaves_below mid level))) (leaves_among mid SameNext level (Some root) None None child only.tree next_now))
        (chained_now nodes mid (suc level) root key freed lost c));
    places = λ r.
        (let same : times r (nodes_below new level (Some child)) ≡ times r (nodes_below mid level (Some child)) =
        ap (λ (t : List Place). times r t) (adopted_nodes mid new level (Some root) None None child no_place only.tree child_now below_now) in
        let all = all_places r in
        let a = times_append r freed (root ∷ []) in
        omega arith);
    rows = λ k.
        Sublist.trans
        (left_between (adopted_rows mid new k level (Some root) None None child no_place only.tree child_now below_now)
        (Sublist.append (nil-sublist (if_level k (suc level) root)) (Sublist.refl (row_below mid k level (Some child))))
        (ap (λ (t : List Place). if_level k (suc level) root ++ t) (sym (gathers (row_below mid k level)))))
        (rows_now nodes mid (suc level) root key freed lost k);
    idle = idle_now nodes mid (suc level) root key freed lost new once now
        (λ r some. rest r (freed_far nodes mid (suc level) root key freed lost new once now r root some (root_there nodes mid (suc level) root key freed lost))
        (freed_far nodes mid (suc level) root key freed lost new once now r child some child_there));
    others = λ r none.
        rest r (outside_far nodes mid (suc level) root key freed lost new once now r root none (root_there nodes mid (suc level) root key freed lost))
        (outside_far nodes mid (suc level) root key freed lost new once now r child none child_there)
        ∙ lost.others r none;
  }

-- ---- in the segments

tree_held : (r : RegionState) (level : ℕ) (parent : Option Place) (low high : Option (List ℕ)) (p : Place) → HoldNodes (live_at r) → IsSubtree (nodes_of (live_at r)) level parent low high p
    → HoldsNode (live_at r) p
tree_held r zero parent low high p hold sub = hold p (is_live (live_at r) p sub.0 sub.1)
tree_held r (suc level) parent low high p hold sub = hold p (is_live (live_at r) p sub.0 sub.1)

pub trunk_held : (r : RegionState) (level : ℕ) (root : Place) → HoldNodes (live_at r) → IsTrunk (nodes_of (live_at r)) level None None None root → HoldsNode (live_at r) root
trunk_held r zero root hold t = hold root (is_live (live_at r) root t.0 t.1)
trunk_held r (suc level) root hold t = hold root (is_live (live_at r) root t.node t.is)

pub empty_by : (o : Option TreeNode) (n : ℕ) → IfSome o (λ node. n ≡ length node.entries) → n ≡ 0 → length (entries_of o) ≡ 0
empty_by None n is none = refl
empty_by (Some node) n is none = sym is ∙ none

pub some_by : (o : Option TreeNode) (n : ℕ) → IfSome o (λ node. n ≡ length node.entries) → (node : TreeNode) × (o ≡ Some node) → 1 ≤ n → 1 ≤ length (entries_of o)
some_by None n is there some = some_none there.1 refl
some_by (Some node) n is there some = subst (λ k. 1 ≤ k) is some

pub started_now : (r s : RegionState) (root : Place) → HoldsNode (live_at r) root → WritesNode root (λ _. started 0) r s → nodes_of (live_at s) root ≡ Some (started 0)
started_now r s root holds w = w.here ∙ ap (λ (o : Option TreeNode). option_map (λ (_ : TreeNode). started 0) o) (node_there r root holds).1

pub hold_still : (p : Place) (change : TreeNode → TreeNode) (r s : RegionState) → WritesNode p change r s → HoldNodes (live_at r) → HoldNodes (live_at s)
hold_still p change r s w hold q some = elim (place_cases q p) [
  | inl e ↦ subst (λ (x : Place). HoldsNode (live_at s) x) (sym e) w.holds
  | inr far ↦ held_same r s q (w.others q far) (hold q (subst (λ (o : Option Item). IsSome o) (w.others q far) some))
]

-- the root has one child, at the place that was read
module _ (r a b : RegionState) (level : ℕ) (root child : Place) (hold : HoldNodes (live_at r)) (link : ℕ) (read : IfSome (nodes_of (live_at r) root) (λ node. link ≡ child_at node 0)) (place : child ≡ place_of_link link)
    (count : ℕ) (counted : IfSome (nodes_of (live_at r) root) (λ node. count ≡ length node.entries)) (empty : count ≡ 0) (inner : 1 ≤ level) where
  child_is : (k : ℕ) → IsTrunk (nodes_of (live_at r)) (suc k) None None None root → OnlyChild (nodes_of (live_at r)) k root child
  child_is k trunk =
      let only = only_child (nodes_of (live_at r)) k root trunk (empty_by (nodes_of (live_at r) root) count counted empty) in
      subst (λ (q : Place). OnlyChild (nodes_of (live_at r)) k root q) (sym (place ∙ child_link (nodes_of (live_at r)) k root only.0 only.1 link read)) only.1

  pub child_held : IsTrunk (nodes_of (live_at r)) level None None None root → HoldsNode (live_at r) child
  child_held trunk = go level inner trunk
    where
      go : (k : ℕ) → 1 ≤ k → IsTrunk (nodes_of (live_at r)) k None None None root → HoldsNode (live_at r) child
      go zero some t = absurd (omega arith)
      go (suc k) some t = tree_held r k (Some root) None None child hold (child_is k t).tree

  pub child_alone : (nodes : Nodes) (key : List ℕ) (freed : List Place) (none : ℕ) → none ≡ no_place → HoldsNode (live_at a) root → ChangesNode child (with_parent none) r a → WritesNode root (λ _. started 0) a b
      → Loses nodes (nodes_of (live_at r)) level None None None root key freed → ((x : Place) → times x (nodes_below nodes level (Some root)) ≤ 1)
      → Prunes nodes (nodes_of (live_at b)) level root (level - 1) (Some child) key (freed ++ root ∷ [])
  child_alone nodes key freed none is_none holds c w = go level inner
    where
      go : (k : ℕ) → 1 ≤ k → Loses nodes (nodes_of (live_at r)) k None None None root key freed → ((x : Place) → times x (nodes_below nodes k (Some root)) ≤ 1)
          → Prunes nodes (nodes_of (live_at b)) k root (k - 1) (Some child) key (freed ++ root ∷ [])
      go zero some lost once = absurd (omega arith)
      go (suc k) some lost once =
          subst (λ m. Prunes nodes (nodes_of (live_at b)) (suc k) root m (Some child) key (freed ++ root ∷ [])) {x = k} {y = suc k - 1} (omega arith)
          (root_goes nodes (nodes_of (live_at r)) (nodes_of (live_at b)) k root child key freed lost (child_is k lost.trunk) (started_now a b root holds w)
          (λ far. node_past root (λ _. started 0) a b child w far ∙ (c.here ∙ ap (λ l. option_map (with_parent l) (nodes_of (live_at r) child)) is_none))
          (λ x far other. node_past root (λ _. started 0) a b x w far ∙ node_past child (with_parent none) r a x (eases child (with_parent none) r a c) other)
          once)
