-- A key put into a leaf of the segments.
use Rattle.std.proofs.Common.{◌≡◌, ◌≢◌, ℕ, zero, suc, ◌+◌, ◌-◌, ◌<◌, ◌≤◌, ◌^◌, Bool, true, false, true≢false, List, [], ◌∷◌, ◌++◌, All, length, take, drop, get_or, Option, Some, None, sym, ap, subst, ◌∙◌, arith, is_lt}
use Rattle.std.specs.Prelude.{◌↔◌, IfSome, IsTrue}
use Rattle.std.specs.List.{insert}
use Rattle.std.proofs.lemmas.List.{drop_all, drop_more}
use Rattle.std.proofs.lemmas.List.Elements.{All-cons, All-get_or, All-head}
use Rattle.regions.specs.Segments.{RegionState}
use Rattle.regions.specs.Contents.{live_at}
use Rattle.regions.specs.declared.place.Place.{Place}
use Rattle.tree_nodes.specs.Nodes.{TreeNode, entry_at}
use Rattle.tree_nodes.specs.Order.{AreRising, count_below, key_cmp}
use Rattle.index_tree.specs.Inserts.{Branch, Grows, IsRoom, Touched, times}
use Rattle.regions.specs.Places.{HasRoom, link_to}
use Rattle.index_tree.specs.Links.{Nodes}
use Rattle.index_tree.specs.Splits.{CutsLeaf, branch_of}
use Rattle.index_tree.specs.Store.{HoldsNode, nodes_of}
use Rattle.index_tree.specs.Trees.{IsFrom, IsSubtree, IsUpTo}
use Rattle.index_tree.specs.Ways.{AllAbove, AllBelow}
use Rattle.index_tree.specs.Writes.{WritesNode, with_entry, with_number_at}
use Rattle.index_tree.specs.declared.split.Split.{Split}
use Rattle.index_tree.proofs.FrameRows.{branch}
use Rattle.index_tree.proofs.InsertLeaf.{leaf_grown, leaf_replaced, leaf_split, refilled}
use Rattle.index_tree.proofs.InsertRows.{keyed, times_here, times_own, times_past}
use Rattle.place_lemmas.proofs.Places.{some_same}
use Rattle.index_tree.proofs.SearchNode.{SplitsAt, behind_rise, leads_to, splits}
use Rattle.index_tree.proofs.Touches.{live_same, node_past, touched_among, touched_by, value_of}
use Rattle.index_tree.proofs.KeyOrder.{not_itself}

-- so many entries have keys below the key; and what is told of the entry behind them
abbrev pub Counts : List ℕ → ℕ → TreeNode → Type 0
Counts key i node = i ≡ count_below node.entries key

abbrev pub Has : List ℕ → ℕ → Bool → TreeNode → Type 0
Has key i b node = IsTrue b ↔ ((i < length node.entries) × ((entry_at node i).key ≡ key))

-- no entry at the index has the key
abbrev pub Free : List ℕ → ℕ → TreeNode → Type 0
Free key i node = i < length node.entries → (entry_at node i).key ≢ key

pub free_other : (o : Option TreeNode) (key : List ℕ) (i : ℕ) (b : Bool) → IfSome o (Has key i b) → b ≡ false → IfSome o (Free key i)
free_other None key i b has is = tt
free_other (Some node) key i b has is = λ within e. true≢false (sym (has.1 (within, e)) ∙ is)

pub times_get : (ps : List Place) (j : ℕ) (d : Place) → j < length ps → 1 ≤ times (get_or ps j d) ps
times_get [] j d within = absurd (omega arith)
times_get (p ∷ ps) zero d within = times_here p ps
times_get (p ∷ ps) (suc j) d within = let rest = times_get ps j d (omega arith) in omega arith

module _ (r : RegionState) (p : Place) (spares : List Place) (key : List ℕ) (number : ℕ) (room : IsRoom (live_at r) 0 p spares key number) where
  nodes : Nodes
  nodes = nodes_of (live_at r)

  pub leaf_node : (node : TreeNode) × (nodes_of (live_at r) p ≡ Some node) × AreRising node.entries
  leaf_node = (room.subtree.0, room.subtree.1, room.subtree.3.rising)

  pub all_held : All (HoldsNode (live_at r)) (p ∷ spares)
  all_held = All-cons (HoldsNode (live_at r)) p spares (All-head (HoldsNode (live_at r)) p [] room.below) room.spares_hold

  rising_of : (node : TreeNode) → nodes_of (live_at r) p ≡ Some node → AreRising node.entries
  rising_of node is = subst (λ (n : TreeNode). AreRising n.entries) (some_same leaf_node.1 is) leaf_node.2

  abbrev Spot : ℕ → TreeNode → Type 0
  Spot i node = (i ≤ length node.entries) × AllBelow key (take i node.entries) × AllAbove key (drop i node.entries)

  spot_free : (i : ℕ) → IfSome (nodes_of (live_at r) p) (Counts key i) → IfSome (nodes_of (live_at r) p) (Free key i) → (node : TreeNode) → nodes_of (live_at r) p ≡ Some node → Spot i node
  spot_free i counted free node is =
      let counts : i ≡ count_below node.entries key = value_of (Counts key i) (nodes_of (live_at r) p) node is counted in
      let cut : SplitsAt node.entries key i = subst (λ n. SplitsAt node.entries key n) (sym counts) (splits key node.entries (rising_of node is)) in
      let other : Free key i node = value_of (Free key i) (nodes_of (live_at r) p) node is free in
      (cut.within, cut.below, (leads_to node key i (rising_of node is) counts (λ found. other found.0 found.1)).above)

  abbrev pub GrowsInto : RegionState → List Branch → List Place → Type 0
  GrowsInto s cs used = (parent : Option Place) (low high : Option (List ℕ)) → IsSubtree (nodes_of (live_at r)) 0 parent low high p → IsFrom low (keyed key number) → IsUpTo high (keyed key number)
      → Grows (nodes_of (live_at r)) (nodes_of (live_at s)) 0 parent low high p cs key number used

  none_used : drop (length spares) spares ≡ []
  none_used = drop_all (length spares) spares (omega arith)

  module _ (s : RegionState) (i : ℕ) (some_key : 1 ≤ length key) (short_key : length key ≤ 256) (small : number < 2 ^ 32) (counted : IfSome (nodes_of (live_at r) p) (Counts key i)) where
    pub set_grows : (b : Bool) → IfSome (nodes_of (live_at r) p) (Has key i b) → b ≡ true → WritesNode p (with_number_at i number) r s → GrowsInto s [] (drop (length spares) spares)
    set_grows b has is w parent low high sub least up =
        subst (λ (used : List Place). Grows (nodes_of (live_at r)) (nodes_of (live_at s)) 0 parent low high p [] key number used) (sym none_used)
        (leaf_replaced (nodes_of (live_at r)) (nodes_of (live_at s)) parent low high p key number i some_key short_key small least up sub
        (λ node at.
        (let counts : i ≡ count_below node.entries key = value_of (Counts key i) (nodes_of (live_at r) p) node at counted in
        let found : (i < length node.entries) × ((entry_at node i).key ≡ key) = (value_of (Has key i b) (nodes_of (live_at r) p) node at has).0 is in
        let cut : SplitsAt node.entries key i = subst (λ k. SplitsAt node.entries key k) (sym counts) (splits key node.entries (rising_of node at)) in
        let not_less : is_lt (key_cmp (entry_at node i).key key) ≡ false = ap (λ (k : List ℕ). is_lt (key_cmp k key)) found.1 ∙ not_itself key in
        let next : i + 1 ≡ suc i = omega arith in
        (found.0, found.1, cut.below, subst (λ k. AllAbove key (drop k node.entries)) next (behind_rise node.entries key i (rising_of node at) found.0 not_less))))
        w.here (λ q far. node_past p (with_number_at i number) r s q w far))

    pub set_touched : WritesNode p (with_number_at i number) r s → Touched (p ∷ spares) r s
    set_touched w = touched_by (p ∷ spares) p (with_number_at i number) r s all_held (times_here p spares) w

    pub add_touched : WritesNode p (with_entry i (keyed key number)) r s → Touched (p ∷ spares) r s
    add_touched w = touched_by (p ∷ spares) p (with_entry i (keyed key number)) r s all_held (times_here p spares) w

    pub add_grows : (n : ℕ) → IfSome (nodes_of (live_at r) p) (λ node. n ≡ length node.entries) → IfSome (nodes_of (live_at r) p) (Free key i) → n < 16
        → WritesNode p (with_entry i (keyed key number)) r s → GrowsInto s [] (drop (length spares) spares)
    add_grows n many free few w parent low high sub least up =
        subst (λ (used : List Place). Grows (nodes_of (live_at r)) (nodes_of (live_at s)) 0 parent low high p [] key number used) (sym none_used)
        (leaf_grown (nodes_of (live_at r)) (nodes_of (live_at s)) parent low high p key number i some_key short_key small least up sub
        (λ node at.
        (let spot = spot_free i counted free node at in
        let l : n ≡ length node.entries = value_of (λ (m : TreeNode). n ≡ length m.entries) (nodes_of (live_at r) p) node at many in
        (spot.0, omega arith, spot.1, spot.2)))
        w.here (λ q far. node_past p (with_entry i (keyed key number)) r s q w far))

    last : ℕ
    last = length spares - 1

    pub spare_apart : (d : Place) → p ≢ get_or spares (length spares - 1) d
    spare_apart d e =
        let many : 0 < length spares = room.many in
        let there : 1 ≤ times p spares = subst (λ (q : Place). 1 ≤ times q spares) (sym e) (times_get spares (length spares - 1) d (omega arith)) in
        let once : times p (p ∷ spares) ≤ 1 = room.once p in
        let twice = times_own p spares in
        omega arith

    pub split_touched : (d : Place) → Touched (p ∷ get_or spares (length spares - 1) d ∷ []) r s → Touched (p ∷ spares) r s
    split_touched d t =
        touched_among (p ∷ get_or spares (length spares - 1) d ∷ []) (p ∷ spares) r s all_held among t
      where
        among : (q : Place) → times q (p ∷ spares) ≡ 0 → times q (p ∷ get_or spares (length spares - 1) d ∷ []) ≡ 0
        among q none =
            let many : 0 < length spares = room.many in
            let far : q ≢ get_or spares (length spares - 1) d = λ e. (let there : 1 ≤ times q spares = subst (λ (x : Place). 1 ≤ times x spares) (sym e) (times_get spares (length spares - 1) d (omega arith)) in absurd (omega arith)) in
            let past = times_past q (get_or spares (length spares - 1) d) [] far in
            omega arith

    pub split_grows : (d : Place) (x : Split) → IfSome (nodes_of (live_at r) p) (Free key i)
        → IfSome (nodes_of (live_at r) p) (λ node. CutsLeaf i (keyed key number) p (get_or spares (length spares - 1) d) node x (nodes_of (live_at s)))
        → Touched (p ∷ get_or spares (length spares - 1) d ∷ []) r s → GrowsInto s (branch_of x ∷ []) (drop (length spares - 1) spares)
    split_grows d x free cuts t parent low high sub least up =
        let q : Place = get_or spares (length spares - 1) d in
        let many : 0 < length spares = room.many in
        let within : length spares - 1 < length spares = omega arith in
        let node = leaf_node.0 in
        let cut : CutsLeaf i (keyed key number) p q node x (nodes_of (live_at s)) =
        value_of (λ (n : TreeNode). CutsLeaf i (keyed key number) p q n x (nodes_of (live_at s))) (nodes_of (live_at r) p) node leaf_node.1 cuts in
        let spot = spot_free i counted free node leaf_node.1 in
        let used : q ∷ [] ≡ drop (length spares - 1) spares =
        sym (drop_more spares (length spares - 1) d within ∙ ap (λ (t : List Place). q ∷ t) (drop_all (length spares - 1 + 1) spares (omega arith))) in
        let same : branch (keyed cut.first.key 0) q ≡ branch_of x = ap (λ (k : List ℕ). branch (keyed k 0) q) (sym cut.key) ∙ ap (λ (y : Place). branch (keyed (take x.len x.key) 0) y) (sym cut.place) in
        let g : Grows (nodes_of (live_at r)) (nodes_of (live_at s)) 0 parent low high p (branch (keyed cut.first.key 0) q ∷ []) key number (q ∷ []) =
        leaf_split (nodes_of (live_at r)) (nodes_of (live_at s)) parent low high p key number i some_key short_key small least up q cut.front cut.first cut.rest
        (All-get_or HasRoom spares (length spares - 1) d within room.rooms) (λ e. spare_apart d (sym e)) sub
        (λ n at. subst (λ (m : TreeNode). (insert m.entries i (keyed key number) ≡ cut.front ++ cut.first ∷ cut.rest) × AllBelow key (take i m.entries) × AllAbove key (drop i m.entries)
        × (nodes_of (live_at s) p ≡ Some (refilled cut.front (link_to (Some q)) m)) × (nodes_of (live_at s) q ≡ Some (refilled (cut.first ∷ cut.rest) m.next_leaf m)))
        (some_same leaf_node.1 at) (cut.parts, spot.1, spot.2, cut.here, cut.behind))
        cut.front_many.0 cut.front_many.1 cut.rest_many.0 cut.rest_many.1
        (λ y far_p far_q. live_same r s y (t.others y (let a = times_past y p (q ∷ []) far_p in let b = times_past y q [] far_q in omega arith))) in
        subst (λ (b : Branch). Grows (nodes_of (live_at r)) (nodes_of (live_at s)) 0 parent low high p (b ∷ []) key number (drop (length spares - 1) spares)) same
        (subst (λ (us : List Place). Grows (nodes_of (live_at r)) (nodes_of (live_at s)) 0 parent low high p (branch (keyed cut.first.key 0) q ∷ []) key number us) used g)
