-- Where the nodes of a tree stand in it: each with the subtree below it and the node above it.
use Rattle.std.proofs.Common.{◌≡◌, ◌≢◌, ℕ, zero, suc, ◌<◌, ◌≤◌, ◌⊎◌, inl, inr, List, [], ◌∷◌, ◌++◌, All, length, take, drop, get_or, Option, Some, refl, sym, ap, subst, ◌∙◌, arith, append_assoc, append-nil}
use Rattle.std.specs.List.{flat_map, slice_get}
use Rattle.std.proofs.lemmas.List.Elements.{All-head, All-tail}
use Rattle.regions.specs.declared.place.Place.{Place}
use Rattle.tree_nodes.specs.Nodes.{TreeNode, CanStand, child_at, no_place}
use Rattle.regions.specs.Places.{HasRoom, led_to, link_to, place_of_link}
use Rattle.index_tree.specs.Links.{Nodes}
use Rattle.index_tree.specs.Trees.{IsSubtree, children_of, leaves_below, left_of, nodes_below, right_of}
use Rattle.index_tree.specs.inside.Climbs.{HasSubtree}
use Rattle.place_lemmas.proofs.Places.{leads_on, led_back, some_is, some_none}
use Rattle.index_tree.proofs.Lists.{Among, AreApart, among_flat, apart_behind, apart_within, in_flat, split_one}
use Rattle.index_tree.proofs.Moved.{room_of}

-- ---- links

pub no_link : (p : Place) → HasRoom p → no_place ≢ link_to (Some p)
no_link p room e = let s = room.0 in let a = room.1 in omega (arith, e, s, a)

pub same_link : (p q : Place) → HasRoom p → HasRoom q → link_to (Some p) ≡ link_to (Some q) → p ≡ q
same_link p q room_p room_q e = sym (led_back p room_p) ∙ (ap (λ l. place_of_link l) e ∙ led_back q room_q)

pub none_child : (links : List ℕ) (i : ℕ) → All (λ l. l ≡ no_place) links → get_or links i no_place ≡ no_place
none_child [] i all = refl
none_child (l ∷ links) zero all = All-head (λ l. l ≡ no_place) l links all
none_child (l ∷ links) (suc i) all = none_child links i (All-tail (λ l. l ≡ no_place) l links all)

pub none_past : (k : ℕ) (links : List ℕ) (i : ℕ) → All (λ l. l ≡ no_place) (drop k links) → k ≤ i → get_or links i no_place ≡ no_place
none_past zero links i all past = none_child links i all
none_past (suc k) [] i all past = refl
none_past (suc k) (l ∷ links) zero all past = absurd (omega (arith, past))
none_past (suc k) (l ∷ links) (suc i) all past = none_past k links i all (omega (arith, past))

-- a link of the first few, and its number
pub got_child : (k : ℕ) (links : List ℕ) (i link : ℕ) → slice_get (take k links) i ≡ Some link → (i < k) × (get_or links i no_place ≡ link)
got_child zero links i link e = some_none e refl
got_child (suc k) [] i link e = some_none e refl
got_child (suc k) (l ∷ links) zero link e = (omega arith, some_is e)
got_child (suc k) (l ∷ links) (suc i) link e = let w = got_child k links i link e in (let short = w.0 in omega (arith, short), w.1)

pub child_got : (k : ℕ) (links : List ℕ) (i : ℕ) → i < k → k ≤ length links → slice_get (take k links) i ≡ Some (get_or links i no_place)
child_got zero links i short many = absurd (omega (arith, short))
child_got (suc k) [] i short many = absurd (omega (arith, many))
child_got (suc k) (l ∷ links) zero short many = refl
child_got (suc k) (l ∷ links) (suc i) short many = child_got k links i (omega (arith, short)) (omega (arith, many))

-- ---- the node of a subtree

pub record IsNodeAt (nodes : Nodes) (level : ℕ) (parent : Option Place) (p : Place) : Type 0 where
  pub node : TreeNode
  pub is : nodes p ≡ Some node
  pub room : HasRoom p
  pub level_is : node.level ≡ level
  pub parent_is : node.parent ≡ link_to parent
  pub stands : CanStand node

pub node_at : (nodes : Nodes) (level : ℕ) (parent : Option Place) (p : Place) → HasSubtree nodes level parent p → IsNodeAt nodes level parent p
node_at nodes level parent p sub = go level sub.low sub.high sub.tree
  where
    go : (level : ℕ) (low high : Option (List ℕ)) → IsSubtree nodes level parent low high p → IsNodeAt nodes level parent p
    go zero low high (node, is, room, of, rest) = record { node = node; is = is; room = room; level_is = of.level_is; parent_is = of.parent_is; stands = of.stands }
    go (suc level) low high (node, is, room, of, inner, children) =
        record { node = node; is = is; room = room; level_is = of.level_is; parent_is = of.parent_is; stands = of.stands }

-- a leaf has no child
pub record IsLeafAt (nodes : Nodes) (p : Place) : Type 0 where
  pub node : TreeNode
  pub is : nodes p ≡ Some node
  pub none : (i : ℕ) → child_at node i ≡ no_place

pub leaf_at : (nodes : Nodes) (parent : Option Place) (p : Place) → HasSubtree nodes zero parent p → IsLeafAt nodes p
leaf_at nodes parent p sub = go sub.tree
  where
    go : IsSubtree nodes zero parent sub.low sub.high p → IsLeafAt nodes p
    go (node, is, room, of, none) = record { node = node; is = is; none = λ i. none_child node.children i none }

-- a child of an inner node, by its number
pub record IsChildAt (nodes : Nodes) (level : ℕ) (p : Place) (link : ℕ) : Type 0 where
  pub place : Place
  pub link_is : link ≡ link_to (Some place)
  pub room : HasRoom place
  pub leads : led_to link ≡ Some place
  pub sub : HasSubtree nodes level (Some p) place

-- an inner node: its children, as many as keys and one more, and no next leaf
pub record IsInnerAt (nodes : Nodes) (level : ℕ) (p : Place) : Type 0 where
  pub node : TreeNode
  pub is : nodes p ≡ Some node
  pub next : node.next_leaf ≡ no_place
  pub some : 1 ≤ length node.entries
  pub many : suc (length node.entries) ≤ length node.children
  pub children : (i : ℕ) → i ≤ length node.entries → IsChildAt nodes level p (child_at node i)
  pub none : (i : ℕ) → suc (length node.entries) ≤ i → child_at node i ≡ no_place

pub inner_at : (nodes : Nodes) (level : ℕ) (parent : Option Place) (p : Place) → HasSubtree nodes (suc level) parent p → IsInnerAt nodes level p
inner_at nodes level parent p sub = go sub.tree
  where
    go : IsSubtree nodes (suc level) parent sub.low sub.high p → IsInnerAt nodes level p
    go (node, is, here, of, inner, children) = record {
      node = node;
      is = is;
      next = inner.next;
      some = inner.some;
      many = (let few = of.stands.few in let many = of.stands.children in omega (arith, few, many));
      children = λ i within.
          (let q : Place = (children i within).0 in
          let room = room_of nodes level (Some p) (left_of node sub.low i) (right_of node sub.high i) q (children i within).2 in
          record {
            place = q;
            link_is = (children i within).1;
            room = room;
            leads = ap led_to (children i within).1 ∙ leads_on (Some q) room;
            sub = record { low = left_of node sub.low i; high = right_of node sub.high i; tree = (children i within).2 };
          });
      none = λ i past. none_past (suc (length node.entries)) node.children i inner.others past;
    }

-- ---- all nodes below a root

-- the node above one, and which of its children the one is
pub record HasParent (nodes : Nodes) (all : List Place) (level : ℕ) (above : Option Place) (p : Place) : Type 0 where
  pub place : Place
  pub among : Among place all
  pub is_above : above ≡ Some place
  pub higher : Option Place
  pub sub : HasSubtree nodes (suc level) higher place
  pub node : TreeNode
  pub is : nodes place ≡ Some node
  pub index : ℕ
  pub within : index ≤ length node.entries
  pub child : child_at node index ≡ link_to (Some p)

pub record Spot (nodes : Nodes) (level : ℕ) (parent : Option Place) (root p : Place) : Type 0 where
  pub own : ℕ
  pub above : Option Place
  pub sub : HasSubtree nodes own above p
  pub lower : own ≤ level
  pub apart : AreApart (nodes_below nodes own (Some p))
  pub before : List Place
  pub behind : List Place
  pub leaves : leaves_below nodes level (Some root) ≡ before ++ (leaves_below nodes own (Some p) ++ behind)
  pub up : ((own ≡ level) × (p ≡ root) × (above ≡ parent)) ⊎ HasParent nodes (nodes_below nodes level (Some root)) own above p

spot_self : (nodes : Nodes) (level : ℕ) (parent : Option Place) (root : Place) → HasSubtree nodes level parent root → AreApart (nodes_below nodes level (Some root))
    → Spot nodes level parent root root
spot_self nodes level parent root sub apart = record {
  own = level;
  above = parent;
  sub = sub;
  lower = omega arith;
  apart = apart;
  before = [];
  behind = [];
  leaves = sym (append-nil (leaves_below nodes level (Some root)));
  up = inl (refl, refl, refl);
}

-- a spot below a child is one below the node
spot_above : (nodes : Nodes) (level : ℕ) (parent : Option Place) (root : Place) (sub : HasSubtree nodes (suc level) parent root) (node : TreeNode) (i : ℕ) (q p : Place) → nodes root ≡ Some node
    → i ≤ length node.entries → child_at node i ≡ link_to (Some q) → slice_get (children_of (nodes root)) i ≡ Some (child_at node i) → led_to (child_at node i) ≡ Some q
    → Spot nodes level (Some root) q p → Spot nodes (suc level) parent root p
spot_above nodes level parent root sub node i q p is within link got leads s = record {
  own = s.own;
  above = s.above;
  sub = s.sub;
  lower = (let l = s.lower in omega (arith, l));
  apart = s.apart;
  before = parts.0 ++ s.before;
  behind = s.behind ++ parts.1;
  leaves =
      parts.2
      ∙ (ap (λ (o : Option Place). parts.0 ++ (leaves_below nodes level o ++ parts.1)) leads
      ∙ (ap (λ (ps : List Place). parts.0 ++ (ps ++ parts.1)) s.leaves ∙ regroup parts.0 s.before (leaves_below nodes s.own (Some p)) s.behind parts.1));
  up = up s.up;
}
  where
    gather : ℕ → List Place
    gather l = leaves_below nodes level (led_to l)

    below : ℕ → List Place
    below l = nodes_below nodes level (led_to l)

    parts : (before : List Place) × (behind : List Place) × (flat_map (λ l. leaves_below nodes level (led_to l)) (children_of (nodes root)) ≡ before ++ (leaves_below nodes level (led_to (child_at node i)) ++ behind))
    parts = split_one (λ l. leaves_below nodes level (led_to l)) (children_of (nodes root)) i (child_at node i) got

    regroup : (a b c d e : List Place) → a ++ ((b ++ (c ++ d)) ++ e) ≡ (a ++ b) ++ (c ++ (d ++ e))
    regroup a b c d e = simp append_assoc

    up : ((s.own ≡ level) × (p ≡ q) × (s.above ≡ Some root)) ⊎ HasParent nodes (nodes_below nodes level (Some q)) s.own s.above p
        → ((s.own ≡ suc level) × (p ≡ root) × (s.above ≡ parent)) ⊎ HasParent nodes (nodes_below nodes (suc level) (Some root)) s.own s.above p
    up (inl h) = inr (record {
      place = root;
      among = (zero, refl);
      is_above = h.2;
      higher = parent;
      sub = subst (λ n. HasSubtree nodes (suc n) parent root) (sym h.0) sub;
      node = node;
      is = is;
      index = i;
      within = within;
      child = link ∙ ap (λ (x : Place). link_to (Some x)) (sym h.1);
    })
    up (inr h) = inr (record {
      place = h.place;
      among = (let w = among_flat (λ l. nodes_below nodes level (led_to l)) (children_of (nodes root)) i (child_at node i) h.place got
          (subst (λ (o : Option Place). Among h.place (nodes_below nodes level o)) (sym leads) h.among) in (suc w.0, w.1));
      is_above = h.is_above;
      higher = h.higher;
      sub = h.sub;
      node = h.node;
      is = h.is;
      index = h.index;
      within = h.within;
      child = h.child;
    })

pub spot : (nodes : Nodes) (level : ℕ) (parent : Option Place) (root p : Place) → HasSubtree nodes level parent root → AreApart (nodes_below nodes level (Some root))
    → Among p (nodes_below nodes level (Some root)) → Spot nodes level parent root p
spot nodes zero parent root p sub apart (zero, e) = subst (λ q. Spot nodes zero parent root q) (some_is e) (spot_self nodes zero parent root sub apart)
spot nodes zero parent root p sub apart (suc i, e) = some_none e refl
spot nodes (suc level) parent root p sub apart (zero, e) = subst (λ q. Spot nodes (suc level) parent root q) (some_is e) (spot_self nodes (suc level) parent root sub apart)
spot nodes (suc level) parent root p sub apart (suc k, e) =
    let inner = inner_at nodes level parent root sub in
    let node : TreeNode = inner.node in
    let below : ℕ → List Place = λ l. nodes_below nodes level (led_to l) in
    let w = in_flat below (children_of (nodes root)) p (k, e) in
    let got : slice_get (take (suc (length node.entries)) node.children) w.0 ≡ Some w.1 = sym (ap (λ (o : Option TreeNode). slice_get (children_of o) w.0) inner.is) ∙ w.2 in
    let c = got_child (suc (length node.entries)) node.children w.0 w.1 got in
    let short : w.0 < suc (length node.entries) = c.0 in
    let within : w.0 ≤ length node.entries = omega (arith, short) in
    let child = inner.children w.0 within in
    let leads : led_to w.1 ≡ Some child.place = ap led_to (sym c.1) ∙ child.leads in
    let rest : AreApart (flat_map below (children_of (nodes root))) = apart_behind (root ∷ []) (flat_map below (children_of (nodes root))) apart in
    spot_above nodes level parent root sub node w.0 child.place p inner.is within child.link_is (w.2 ∙ ap (λ (l : ℕ). Some l) (sym c.1)) child.leads
    (spot nodes level (Some root) child.place p child.sub
    (subst (λ (o : Option Place). AreApart (nodes_below nodes level o)) leads (apart_within below (children_of (nodes root)) rest w.0 w.1 w.2))
    (subst (λ (o : Option Place). Among p (nodes_below nodes level o)) leads w.3))
