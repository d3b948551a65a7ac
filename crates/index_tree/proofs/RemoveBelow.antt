-- A key taken away below an inner node: the child to which it leads.
use Rattle.std.proofs.Common.{◌≡◌, ◌≢◌, ℕ, zero, suc, ◌+◌, ◌-◌, ◌<◌, ◌≤◌, List, [], ◌∷◌, length, All, take, drop, map, Option, Some, refl, sym, ap, subst, ◌∙◌, arith}
use Rattle.std.specs.Prelude.{IfSome, IsSome, option_map}
use Rattle.std.specs.Ordering.{is_lt}
use Rattle.std.specs.List.{flat_map}
use Rattle.regions.specs.declared.place.Place.{Place}
use Rattle.tree_nodes.specs.Nodes.{Entry, TreeNode, child_at, entry_at, no_place}
use Rattle.tree_nodes.specs.Order.{count_below, key_cmp}
use Rattle.index_tree.specs.Indexes.{number_of}
use Rattle.regions.specs.Places.{led_to, place_of_link}
use Rattle.index_tree.specs.Links.{Nodes}
use Rattle.index_tree.specs.Limits.{fewest_entries}
use Rattle.index_tree.specs.Trees.{IsFrom, IsSubtree, IsUpTo, entries_of, held_below, left_of, nodes_below, right_of}
use Rattle.index_tree.specs.Ways.{AllAbove, AllBelow, LeadsTo}
use Rattle.index_tree.specs.Writes.{without_entries}
use Rattle.index_tree.specs.Inserts.{Branch, entry_of, of_row, times}
use Rattle.index_tree.specs.Removes.{CanLose, IsShort, Loses}
use Rattle.place_lemmas.proofs.Places.{some_none, some_same}
use Rattle.index_tree.proofs.Moved.{room_of}
use Rattle.index_tree.proofs.FrameRows.{Opened, gathered, left_in, left_of_in, links_of, open_node, right_in, right_of_in}
use Rattle.index_tree.proofs.InsertRows.{child_in, keyed, times_append}
use Rattle.index_tree.proofs.SearchNode.{SplitsAt, behind_rise, splits}
use Rattle.index_tree.proofs.SearchDown.{led_place}
use Rattle.index_tree.proofs.RemovePair.{from_at, up_at}
use Rattle.index_tree.proofs.RemoveKept.{found_at, kept_loses, number_child}
use Rattle.index_tree.proofs.RemoveLeaf.{leaf_loses}
use Rattle.index_tree.proofs.RemoveShort.{branches_size, child_led, child_link, child_room}
use Rattle.index_tree.proofs.RemoveSteps.{child_tree}
use Rattle.index_tree.proofs.RemoveInner.{HasLinks}
use Rattle.index_tree.proofs.KeyOrder.{not_itself}
use Rattle.index_tree.proofs.Positions.{same_link}
use Rattle.index_tree.proofs.Touches.{value_of}

child_among : (nodes : Nodes) (level : ℕ) (top : Place) (ds : List Branch) (j : ℕ) → j ≤ length ds → (r : Place) → times r (nodes_below nodes level (Some (child_in top ds j))) ≤ times r (of_row (nodes_below nodes level) top ds)
child_among nodes level top ds zero within r = let a = times_append r (nodes_below nodes level (Some top)) (flat_map (λ (d : Branch). nodes_below nodes level (Some d.place)) ds) in omega arith
child_among nodes level top [] (suc j) within r = absurd (omega arith)
child_among nodes level top (d ∷ ds) (suc j) within r =
    let a = times_append r (nodes_below nodes level (Some top)) (of_row (nodes_below nodes level) d.place ds) in
    let b = child_among nodes level d.place ds j (omega arith) r in
    omega arith

opened_has : (nodes : Nodes) (level : ℕ) (parent : Option Place) (low high : Option (List ℕ)) (p : Place) (o : Opened nodes level parent low high p) → HasLinks o.node.children o.first o.branches
opened_has nodes level parent low high p o =
    let size = branches_size nodes level parent low high p o in
    record {
      size = o.of.stands.children;
      small = o.of.stands.places;
      front = subst (λ k. take (suc k) o.node.children ≡ links_of o.first o.branches) size o.links;
      others = subst (λ k. All (λ link. link ≡ no_place) (drop (suc k) o.node.children)) size o.inner.others;
    }

module _ (nodes : Nodes) (k : ℕ) (parent : Option Place) (low high : Option (List ℕ)) (p : Place) (key : List ℕ) (i : ℕ) (tree : IsSubtree nodes (suc k) parent low high p)
    (from : IsFrom low (keyed key 0)) (up : IsUpTo high (keyed key 0)) (once : (r : Place) → times r (nodes_below nodes (suc k) (Some p)) ≤ 1)
    (leads : IfSome (nodes p) (λ node. LeadsTo node key i)) where
  pub node_open : Opened nodes k parent low high p
  node_open = open_node nodes k parent low high p tree

  leads_open : LeadsTo node_open.node key i
  leads_open = value_of (λ node. LeadsTo node key i) (nodes p) node_open.node node_open.is leads

  inside : i ≤ length node_open.branches
  inside = let a = leads_open.within in let b = branches_size nodes k parent low high p node_open in omega (arith, a, b)

  abbrev pub the_child : Place
  the_child = child_in node_open.first node_open.branches i

  pub led_child : (link : ℕ) → IfSome (nodes p) (λ node. link ≡ child_at node i) → led_to link ≡ Some the_child
  led_child link read = child_led nodes k parent low high p node_open i link inside (value_of (λ node. link ≡ child_at node i) (nodes p) node_open.node node_open.is read)

  pub child_sub : IsSubtree nodes k (Some p) (left_in low (map entry_of node_open.branches) i) (right_in (map entry_of node_open.branches) high i) the_child
  child_sub = child_tree nodes k p i node_open.first node_open.branches low high node_open.row inside

  pub child_from : IsFrom (left_in low (map entry_of node_open.branches) i) (keyed key 0)
  child_from = subst (λ (t : List Entry). IsFrom (left_in low t i) (keyed key 0)) node_open.entries (from_at node_open.node key i leads_open low i (omega arith) from)

  pub child_up : IsUpTo (right_in (map entry_of node_open.branches) high i) (keyed key 0)
  child_up = subst (λ (t : List Entry). IsUpTo (right_in t high i) (keyed key 0)) node_open.entries (up_at node_open.node key i leads_open high i (omega arith) up)

  among : (r : Place) → times r (nodes_below nodes k (Some the_child)) ≤ times r (of_row (nodes_below nodes k) node_open.first node_open.branches)
  among r = child_among nodes k node_open.first node_open.branches i inside r

  child_once : (r : Place) → times r (nodes_below nodes k (Some the_child)) ≤ 1
  child_once r =
      let a : times r (p ∷ of_row (nodes_below nodes k) node_open.first node_open.branches) ≤ 1 =
      subst (λ (t : List Place). times r (p ∷ t) ≤ 1) (gathered (nodes_below nodes k) nodes k parent low high p node_open) (once r) in
      let b = among r in
      omega (arith, a, b)

  pub child_number : number_of key (held_below nodes (suc k) (Some p)) ≡ number_of key (held_below nodes k (Some the_child))
  child_number =
      number_child nodes k parent low high p tree.0 tree.3 tree.5 key i leads_tree tree.1
      ∙ ap (λ (q : Place). number_of key (held_below nodes k (Some q))) same
    where
      leads_tree : LeadsTo tree.0 key i
      leads_tree = value_of (λ node. LeadsTo node key i) (nodes p) tree.0 tree.1 leads

      same : (tree.5 i leads_tree.within).0 ≡ the_child
      same =
          same_link (tree.5 i leads_tree.within).0 the_child
          (room_of nodes k (Some p) (left_of tree.0 low i) (right_of tree.0 high i) (tree.5 i leads_tree.within).0 (tree.5 i leads_tree.within).2)
          (child_room nodes k parent low high p node_open i inside)
          (sym (tree.5 i leads_tree.within).1 ∙ (ap (λ (n : TreeNode). child_at n i) (some_same tree.1 node_open.is) ∙ child_link nodes k parent low high p node_open i inside))

  pub child_can : CanLose nodes k the_child key
  child_can = record {
    parent = Some p;
    low = left_in low (map entry_of node_open.branches) i;
    high = right_in (map entry_of node_open.branches) high i;
    tree = child_sub;
    from = child_from;
    up = child_up;
    once = child_once;
  }

  module _ (mid : Nodes) (freed : List Place)
      (lost : Loses nodes mid k (Some p) (left_in low (map entry_of node_open.branches) i) (right_in (map entry_of node_open.branches) high i) the_child key freed) where
    pub below_kept : fewest_entries ≤ length (entries_of (mid the_child)) → Loses nodes mid (suc k) parent low high p key freed
    below_kept many = kept_loses nodes mid k parent low high p key i freed node_open leads_open from up once inside lost many among (opened_has nodes k parent low high p node_open)

    pub below_short : length (entries_of (mid the_child)) < 8 → IsShort nodes mid k parent low high p i key freed
    below_short few = record {
      tree = tree;
      node = node_open.node;
      is = node_open.is;
      leads = leads_open;
      from = from;
      up = up;
      once = once;
      child = the_child;
      link = child_link nodes k parent low high p node_open i inside;
      room = child_room nodes k parent low high p node_open i inside;
      loses =
          subst (λ (x : Option (List ℕ)). Loses nodes mid k (Some p) (left_of node_open.node low i) x the_child key freed)
          (sym (right_of_in node_open.node high i ∙ ap (λ (t : List Entry). right_in t high i) node_open.entries))
          (subst (λ (x : Option (List ℕ)). Loses nodes mid k (Some p) x (right_in (map entry_of node_open.branches) high i) the_child key freed)
          (sym (left_of_in node_open.node low i leads_open.within ∙ ap (λ (t : List Entry). left_in low t i) node_open.entries)) lost);
      seven = (let many = lost.many (λ e. some_none {a = p} refl e) in omega (arith, many, few));
    }

-- ---- a leaf

-- where the key is in it
pub record FoundIn (nodes : Nodes) (p : Place) (key : List ℕ) (n : ℕ) : Type 0 where
  pub node : TreeNode
  pub is : nodes p ≡ Some node
  pub within : n < length node.entries
  pub key_is : (entry_at node n).key ≡ key
  pub below : AllBelow key (take n node.entries)
  pub above : AllAbove key (drop (n + 1) node.entries)

pub leaf_found : (nodes : Nodes) (level : ℕ) (parent : Option Place) (low high : Option (List ℕ)) (p : Place) (key : List ℕ) (n : ℕ) → level ≡ 0 → IsSubtree nodes level parent low high p
    → IsSome (number_of key (entries_of (nodes p))) → IfSome (nodes p) (λ node. n ≡ count_below node.entries key) → FoundIn nodes p key n
leaf_found nodes (suc level) parent low high p key n e tree there counted = absurd (omega arith)
leaf_found nodes zero parent low high p key n e (node, is, here, of, none) there counted =
    let count : n ≡ count_below node.entries key = value_of (λ node. n ≡ count_below node.entries key) (nodes p) node is counted in
    let found = found_at node key n of.rising count (subst (λ (o : Option TreeNode). IsSome (number_of key (entries_of o))) is there) in
    let cut : SplitsAt node.entries key n = subst (λ k. SplitsAt node.entries key k) (sym count) (splits key node.entries of.rising) in
    record {
      node = node;
      is = is;
      within = found.0;
      key_is = found.1;
      below = cut.below;
      above = behind_rise node.entries key n of.rising found.0 (ap (λ (k : List ℕ). is_lt (key_cmp k key)) found.1 ∙ not_itself key);
    }

pub leaf_lost : (nodes new : Nodes) (level : ℕ) (parent : Option Place) (low high : Option (List ℕ)) (p : Place) (key : List ℕ) (n : ℕ) → level ≡ 0 → IsSubtree nodes level parent low high p → FoundIn nodes p key n
    → new p ≡ option_map (without_entries n 1) (nodes p) → ((r : Place) → r ≢ p → new r ≡ nodes r) → Loses nodes new level parent low high p key []
leaf_lost nodes new (suc level) parent low high p key n e tree f now others = absurd (omega arith)
leaf_lost nodes new zero parent low high p key n e tree f now others =
    leaf_loses nodes new parent low high p key n tree
    (λ node is. subst (λ (x : TreeNode). (n < length x.entries) × ((entry_at x n).key ≡ key) × AllBelow key (take n x.entries) × AllAbove key (drop (n + 1) x.entries)) (some_same f.is is) (f.within, f.key_is, f.below, f.above)) now others

pub is_there : (o : Option ℕ) (n : ℕ) → o ≡ Some n → IsSome o
is_there o n is = subst (λ (x : Option ℕ). IsSome x) (sym is) refl

-- what a leaf holds
pub leaf_held : (nodes : Nodes) (level : ℕ) (p : Place) (key : List ℕ) → level ≡ 0 → number_of key (entries_of (nodes p)) ≡ number_of key (held_below nodes level (Some p))
leaf_held nodes level p key e = ap (λ l. number_of key (held_below nodes l (Some p))) (sym e)

-- ---- one step down

-- what a step down to a child of this level gives
pub record Step (nodes : Nodes) (k level : ℕ) (parent : Option Place) (low high : Option (List ℕ)) (p : Place) (key : List ℕ) (i : ℕ) (child : Place) : Type 0 where
  pub lo : Option (List ℕ)
  pub hi : Option (List ℕ)
  pub sub : IsSubtree nodes k (Some p) lo hi child
  pub from : IsFrom lo (keyed key 0)
  pub up : IsUpTo hi (keyed key 0)
  pub can : CanLose nodes k child key
  pub number : number_of key (held_below nodes level (Some p)) ≡ number_of key (held_below nodes k (Some child))
  pub kept : (mid : Nodes) (freed : List Place) → Loses nodes mid k (Some p) lo hi child key freed → fewest_entries ≤ length (entries_of (mid child)) → Loses nodes mid level parent low high p key freed
  pub short : (mid : Nodes) (freed : List Place) → Loses nodes mid k (Some p) lo hi child key freed → length (entries_of (mid child)) < 8 → IsShort nodes mid k parent low high p i key freed
  pub level_is : level ≡ suc k

pub led_step : (nodes : Nodes) (level : ℕ) (parent : Option Place) (low high : Option (List ℕ)) (p : Place) (key : List ℕ) (i : ℕ) → 0 < level → IsSubtree nodes level parent low high p
    → IsFrom low (keyed key 0) → IsUpTo high (keyed key 0) → ((r : Place) → times r (nodes_below nodes level (Some p)) ≤ 1) → IfSome (nodes p) (λ node. LeadsTo node key i)
    → (link : ℕ) → IfSome (nodes p) (λ node. link ≡ child_at node i) → (q : Place) × (led_to link ≡ Some q) × Step nodes (level - 1) level parent low high p key i q
led_step nodes zero parent low high p key i some tree from up once leads link read = absurd (omega arith)
led_step nodes (suc k) parent low high p key i some tree from up once leads link read =
    let q : Place = the_child nodes k parent low high p key i tree from up once leads in (
      q,
      led_child nodes k parent low high p key i tree from up once leads link read,
      subst (λ n. Step nodes n (suc k) parent low high p key i q) {x = k} {y = suc k - 1} (omega arith)
          (record {
            lo = left_in low (map entry_of (node_open nodes k parent low high p key i tree from up once leads).branches) i;
            hi = right_in (map entry_of (node_open nodes k parent low high p key i tree from up once leads).branches) high i;
            sub = child_sub nodes k parent low high p key i tree from up once leads;
            from = child_from nodes k parent low high p key i tree from up once leads;
            up = child_up nodes k parent low high p key i tree from up once leads;
            can = child_can nodes k parent low high p key i tree from up once leads;
            number = child_number nodes k parent low high p key i tree from up once leads;
            kept = below_kept nodes k parent low high p key i tree from up once leads;
            short = below_short nodes k parent low high p key i tree from up once leads;
            level_is = refl;
          }),
    )

pub step_of : (nodes : Nodes) (level : ℕ) (parent : Option Place) (low high : Option (List ℕ)) (p : Place) (key : List ℕ) (i : ℕ) → 0 < level → IsSubtree nodes level parent low high p
    → IsFrom low (keyed key 0) → IsUpTo high (keyed key 0) → ((r : Place) → times r (nodes_below nodes level (Some p)) ≤ 1) → IfSome (nodes p) (λ node. LeadsTo node key i)
    → (link : ℕ) → IfSome (nodes p) (λ node. link ≡ child_at node i) → (child : Place) → child ≡ place_of_link link → Step nodes (level - 1) level parent low high p key i child
step_of nodes level parent low high p key i some tree from up once leads link read child is =
    let s = led_step nodes level parent low high p key i some tree from up once leads link read in
    subst (λ (q : Place). Step nodes (level - 1) level parent low high p key i q) (sym (led_place link child s.0 is s.1)) s.2
