-- Which nodes of a tree have the place of one: its children as their parent, its parent as a child, and the leaf in front of it as
-- its next leaf.
use Rattle.std.proofs.Common.{◌≡◌, ◌≢◌, ℕ, zero, suc, ◌+◌, ◌≤◌, ◌⊎◌, inl, inr, List, [], ◌∷◌, ◌++◌, All, length, take, Option, Some, None, refl, sym, ap, subst, ◌∙◌, arith}
use Rattle.std.specs.List.{flat_map, slice_get}
use Rattle.std.proofs.lemmas.Bool.Decides.{leb_tells}
use Rattle.std.proofs.lemmas.List.Elements.{All-nil, All-cons, All-head, All-tail}
use Rattle.regions.specs.declared.place.Place.{Place}
use Rattle.tree_nodes.specs.Nodes.{TreeNode, child_at, no_place}
use Rattle.regions.specs.Places.{HasRoom, led_to, link_to}
use Rattle.index_tree.specs.Links.{Nodes}
use Rattle.index_tree.specs.Trees.{AreLinked, IsSpare, IsSubtree, TreeState, children_of, leaves_below, next_at, next_in, nodes_below, places_of}
use Rattle.index_tree.specs.inside.Climbs.{HasSubtree, IsBefore, IsTreeIn, child_in, parent_in}
use Rattle.place_lemmas.proofs.Places.{leads_on, some_is, some_none, some_same}
use Rattle.index_tree.proofs.Lists.{Among, AreApart, among_either, apart_behind, apart_both, apart_index, apart_less, got_behind}
use Rattle.index_tree.proofs.Moved.{room_of}
use Rattle.index_tree.proofs.Positions.{IsInnerAt, Spot, child_got, inner_at, leaf_at, no_link, node_at, none_child, same_link, spot}
use Rattle.index_tree.proofs.Whole.{Stands, all_flat_map, got_all, leaves_stand, of_children}

-- ---- leaves that are linked

linked_next : (nodes : Nodes) (ps : List Place) (i : ℕ) (a b : Place) → AreLinked nodes ps → slice_get ps i ≡ Some a → slice_get ps (suc i) ≡ Some b → next_at nodes a ≡ link_to (Some b)
linked_next nodes [] i a b linked at_i at_j = some_none at_i refl
linked_next nodes (p ∷ []) i a b linked at_i at_j = some_none at_j refl
linked_next nodes (p ∷ q ∷ ps) zero a b linked at_i at_j = ap (λ x. next_at nodes x) (sym (some_is at_i)) ∙ (linked.0 ∙ ap (λ (x : Place). link_to (Some x)) (some_is at_j))
linked_next nodes (p ∷ q ∷ ps) (suc i) a b linked at_i at_j = linked_next nodes (q ∷ ps) i a b linked.1 at_i at_j

next_follows : (nodes : Nodes) (ps : List Place) (i : ℕ) (a b : Place) → AreLinked nodes ps → All (Stands nodes) ps → HasRoom b → slice_get ps i ≡ Some a → next_at nodes a ≡ link_to (Some b)
    → slice_get ps (suc i) ≡ Some b
next_follows nodes [] i a b linked all room at_i next = some_none at_i refl
next_follows nodes (p ∷ []) zero a b linked all room at_i next = absurd (no_link b room (sym linked ∙ (ap (λ x. next_at nodes x) (some_is at_i) ∙ next)))
next_follows nodes (p ∷ []) (suc i) a b linked all room at_i next = some_none at_i refl
next_follows nodes (p ∷ q ∷ ps) zero a b linked all room at_i next =
    let behind = All-tail (Stands nodes) p (q ∷ ps) all in
    ap (λ (x : Place). Some x) (same_link q b (All-head (Stands nodes) q ps behind).0 room (sym linked.0 ∙ (ap (λ x. next_at nodes x) (some_is at_i) ∙ next)))
next_follows nodes (p ∷ q ∷ ps) (suc i) a b linked all room at_i next = next_follows nodes (q ∷ ps) i a b linked.1 (All-tail (Stands nodes) p (q ∷ ps) all) room at_i next

-- the leaves are among the nodes, and no leaf is one twice
pub leaves_less : (nodes : Nodes) (level : ℕ) (o : Option Place)
    → ((p : Place) → Among p (leaves_below nodes level o) → Among p (nodes_below nodes level o)) × (AreApart (nodes_below nodes level o) → AreApart (leaves_below nodes level o))
leaves_less nodes level None = (λ p among. among, λ apart. apart)
leaves_less nodes zero (Some p) = (λ q among. among, λ apart. apart)
leaves_less nodes (suc level) (Some p) =
    let below : ℕ → List Place = λ l. nodes_below nodes level (led_to l) in
    let each = apart_less (λ l. leaves_below nodes level (led_to l)) (λ l. nodes_below nodes level (led_to l)) (children_of (nodes p))
    (λ l. (leaves_less nodes level (led_to l)).1) (λ l. (leaves_less nodes level (led_to l)).0) in (
      λ q among. (let w = each.0 q among in (suc w.0, w.1)),
      λ apart. each.1 (apart_behind (p ∷ []) (flat_map below (children_of (nodes p))) apart),
    )

-- a leaf's level is zero
abbrev IsLow : Nodes → Place → Type 0
IsLow nodes p = (node : TreeNode) × (nodes p ≡ Some node) × (node.level ≡ 0)

leaves_low : (nodes : Nodes) (level : ℕ) (parent : Option Place) (low high : Option (List ℕ)) (p : Place) → IsSubtree nodes level parent low high p → All (IsLow nodes) (leaves_below nodes level (Some p))
leaves_low nodes zero parent low high p (node, is, here, of, none) = All-cons (IsLow nodes) p [] (node, is, of.level_is) (All-nil (IsLow nodes))
leaves_low nodes (suc level) parent low high p (node, is, here, of, inner, children) =
    let gather : ℕ → List Place = λ link. leaves_below nodes level (led_to link) in
    subst (λ (o : Option TreeNode). All (IsLow nodes) (flat_map gather (children_of o))) (sym is)
    (all_flat_map (IsLow nodes) gather (take (suc (length node.entries)) node.children)
    (of_children nodes level p low high node parent (λ link. All (IsLow nodes) (gather link)) of children
    (λ q lower upper sub. subst (λ (o : Option Place). All (IsLow nodes) (leaves_below nodes level o)) (sym (leads_on (Some q) (room_of nodes level (Some p) lower upper q sub)))
    (leaves_low nodes level (Some p) lower upper q sub))))

-- ---- a node and its child

-- the one is a child of the other
pub record IsChildOf (nodes : Nodes) (q p : Place) (i : ℕ) : Type 0 where
  pub level : ℕ
  pub above : Option Place
  pub high : HasSubtree nodes (suc level) above q
  pub low : HasSubtree nodes level (Some q) p
  pub inner : IsInnerAt nodes level q
  pub within : i ≤ length inner.node.entries
  pub apart : AreApart (nodes_below nodes (suc level) (Some q))

within_inner : (nodes : Nodes) (level : ℕ) (q : Place) (inner : IsInnerAt nodes level q) (i : ℕ) → child_in (nodes q) i ≢ no_place → i ≤ length inner.node.entries
within_inner nodes level q inner i some = elim (leb_tells (suc (length inner.node.entries)) i) [
  | inl k ↦ absurd (some (ap (λ (o : Option TreeNode). child_in o i) inner.is ∙ inner.none i k.1))
  | inr k ↦ (let short = k.1 in omega (arith, short))
]

some_link : (link : ℕ) (p : Place) → HasRoom p → link ≡ link_to (Some p) → link ≢ no_place
some_link link p room e none = no_link p room (sym none ∙ e)

child_below : (nodes : Nodes) (own : ℕ) (above : Option Place) (q p : Place) (i : ℕ) → HasRoom p → HasSubtree nodes own above q → AreApart (nodes_below nodes own (Some q))
    → child_in (nodes q) i ≡ link_to (Some p) → IsChildOf nodes q p i
child_below nodes zero above q p i room sub apart e =
    let leaf = leaf_at nodes above q sub in
    absurd (some_link (child_in (nodes q) i) p room e (ap (λ (o : Option TreeNode). child_in o i) leaf.is ∙ leaf.none i))
child_below nodes (suc level) above q p i room sub apart e =
    let inner = inner_at nodes level above q sub in
    let within = within_inner nodes level q inner i (some_link (child_in (nodes q) i) p room e) in
    let child = inner.children i within in
    let same : child.place ≡ p = same_link child.place p child.room room (sym child.link_is ∙ (sym (ap (λ (o : Option TreeNode). child_in o i) inner.is) ∙ e)) in
    record { level = level; above = above; high = sub; low = subst (λ (x : Place). HasSubtree nodes level (Some q) x) same child.sub; inner = inner; within = within; apart = apart }

head_below : (nodes : Nodes) (level : ℕ) (q : Place) → Among q (nodes_below nodes level (Some q))
head_below nodes zero q = (zero, refl)
head_below nodes (suc level) q = (zero, refl)

pub child_once : (nodes : Nodes) (q p : Place) (i j : ℕ) → HasRoom p → IsChildOf nodes q p i → child_in (nodes q) i ≡ link_to (Some p) → child_in (nodes q) j ≡ link_to (Some p) → i ≡ j
child_once nodes q p i j room c at_i at_j =
    let below : ℕ → List Place = λ l. nodes_below nodes c.level (led_to l) in
    let node : TreeNode = c.inner.node in
    let k = suc (length node.entries) in
    let short : j ≤ length node.entries = within_inner nodes c.level q c.inner j (some_link (child_in (nodes q) j) p room at_j) in
    let got : (n : ℕ) → n ≤ length node.entries → slice_get (children_of (nodes q)) n ≡ Some (child_at node n) =
    (λ n within. ap (λ (o : Option TreeNode). slice_get (children_of o) n) c.inner.is ∙ child_got k node.children n (omega (arith, within)) c.inner.many) in
    let here : (n : ℕ) → n ≤ length node.entries → child_in (nodes q) n ≡ link_to (Some p) → Among p (below (child_at node n)) =
    (λ n within e.
    let child = c.inner.children n within in
    let same : child.place ≡ p = same_link child.place p child.room room (sym child.link_is ∙ (sym (ap (λ (o : Option TreeNode). child_in o n) c.inner.is) ∙ e)) in
    subst (λ (o : Option Place). Among p (nodes_below nodes c.level o)) (sym child.leads)
    (subst (λ (x : Place). Among p (nodes_below nodes c.level (Some x))) (sym same) (head_below nodes c.level p))) in
    apart_index below (children_of (nodes q)) (apart_behind (q ∷ []) (flat_map below (children_of (nodes q))) c.apart) i j (child_at node i) (child_at node j) p
    (got i c.within) (got j short) (here i c.within at_i) (here j short at_j)

-- a node's level is one alone
pub one_level : (nodes : Nodes) (l m : ℕ) (a b : Option Place) (p : Place) → HasSubtree nodes l a p → HasSubtree nodes m b p → l ≡ m
one_level nodes l m a b p x y =
    let u = node_at nodes l a p x in
    let v = node_at nodes m b p y in
    sym u.level_is ∙ (ap (λ (n : TreeNode). n.level) (some_same u.is v.is) ∙ v.level_is)

module _ (nodes : Nodes) (t : TreeState) (tree : IsTreeIn nodes t) where
  -- ---- where a node stands

  pub record IsBelow (p : Place) : Type 0 where
    pub root : Place
    pub root_is : t.root ≡ Some root
    pub at : Spot nodes t.level None root p

  pub below_at : (p : Place) → Among p (nodes_below nodes t.level t.root) → IsBelow p
  below_at p among = go t.root refl among
    where
      go : (o : Option Place) → t.root ≡ o → Among p (nodes_below nodes t.level o) → IsBelow p
      go None e (i, got) = some_none got refl
      go (Some root) e a = record {
        root = root;
        root_is = e;
        at = spot nodes t.level None root p (record { low = None; high = None; tree = tree.rooted root e })
            (subst (λ (o : Option Place). AreApart (nodes_below nodes t.level o)) e (apart_behind t.spares (nodes_below nodes t.level t.root) tree.apart)) a;
      }

  pub spare_at : (p : Place) → Among p t.spares → IsSpare nodes p
  spare_at p (i, got) = got_all (IsSpare nodes) t.spares i p tree.idle got

  pub stands_at : (p : Place) → Among p (places_of nodes t) → IsSpare nodes p ⊎ IsBelow p
  stands_at p among = elim (among_either t.spares (nodes_below nodes t.level t.root) p among) [ inl h ↦ inl (spare_at p h) | inr h ↦ inr (below_at p h) ]

  -- ---- children and parents

  -- a node that has the place as a child
  pub child_known : (q p : Place) (i : ℕ) → HasRoom p → Among q (places_of nodes t) → child_in (nodes q) i ≡ link_to (Some p) → IsChildOf nodes q p i
  child_known q p i room among e = elim (stands_at q among) [
    | inl s ↦ absurd (some_link (child_in (nodes q) i) p room e (ap (λ (o : Option TreeNode). child_in o i) s.is ∙ none_child s.node.children i s.children))
    | inr b ↦ child_below nodes b.at.own b.at.above q p i room b.at.sub b.at.apart e
  ]

  pub child_only : (q p : Place) (i : ℕ) → HasRoom p → Among q (places_of nodes t) → child_in (nodes q) i ≡ link_to (Some p) → parent_in (nodes p) ≡ link_to (Some q)
  child_only q p i room among e =
      let c = child_known q p i room among e in
      let n = node_at nodes c.level (Some q) p c.low in
      ap (λ (o : Option TreeNode). parent_in o) n.is ∙ n.parent_is

  -- a node that has the place as its parent is a child of the node there
  pub parent_only : (q p : Place) → HasRoom p → Among q (places_of nodes t) → parent_in (nodes q) ≡ link_to (Some p)
      → (node : TreeNode) × (nodes p ≡ Some node) × (i : ℕ) × (i ≤ length node.entries) × (child_at node i ≡ link_to (Some q))
  parent_only q p room among e = elim (stands_at q among) [
    | inl s ↦ absurd (some_link (parent_in (nodes q)) p room e (ap (λ (o : Option TreeNode). parent_in o) s.is ∙ s.parent))
    | inr b ↦ below b
  ]
    where
      below : IsBelow q → (node : TreeNode) × (nodes p ≡ Some node) × (i : ℕ) × (i ≤ length node.entries) × (child_at node i ≡ link_to (Some q))
      below b =
          let n = node_at nodes b.at.own b.at.above q b.at.sub in
          let here : parent_in (nodes q) ≡ link_to b.at.above = ap (λ (o : Option TreeNode). parent_in o) n.is ∙ n.parent_is in
          elim b.at.up [
            | inl h ↦ absurd (some_link (parent_in (nodes q)) p room e (here ∙ ap (λ (o : Option Place). link_to o) h.2))
            | inr h ↦
                (let up = node_at nodes (suc b.at.own) h.higher h.place h.sub in
                let same : h.place ≡ p = same_link h.place p up.room room (sym (ap (λ (o : Option Place). link_to o) h.is_above) ∙ (sym here ∙ e)) in
                (h.node, ap (λ (x : Place). nodes x) (sym same) ∙ h.is, h.index, h.within, h.child))
          ]

  -- a child of a node has its place as parent
  pub child_back : (p : Place) → Among p (places_of nodes t) → (i : ℕ) (q : Place) → led_to (child_in (nodes p) i) ≡ Some q
      → (parent_in (nodes q) ≡ link_to (Some p)) × (child_in (nodes p) i ≡ link_to (Some q))
  child_back p among i q e = elim (stands_at p among) [
    | inl s ↦ none (ap (λ (o : Option TreeNode). child_in o i) s.is ∙ none_child s.node.children i s.children)
    | inr b ↦ below b.at.own b.at.sub
  ]
    where
      none : child_in (nodes p) i ≡ no_place → (parent_in (nodes q) ≡ link_to (Some p)) × (child_in (nodes p) i ≡ link_to (Some q))
      none gone = some_none e (ap (λ l. led_to l) gone)

      below : {above : Option Place} (own : ℕ) → HasSubtree nodes own above p → (parent_in (nodes q) ≡ link_to (Some p)) × (child_in (nodes p) i ≡ link_to (Some q))
      below {above} zero sub = (let leaf = leaf_at nodes above p sub in none (ap (λ (o : Option TreeNode). child_in o i) leaf.is ∙ leaf.none i))
      below {above} (suc level) sub =
          let inner = inner_at nodes level above p sub in
          let here : child_in (nodes p) i ≡ child_at inner.node i = ap (λ (o : Option TreeNode). child_in o i) inner.is in
          elim (leb_tells (suc (length inner.node.entries)) i) [
            | inl k ↦ none (here ∙ inner.none i k.1)
            | inr k ↦
                (let child = inner.children i (let short = k.1 in omega (arith, short)) in
                let same : child.place ≡ q = some_same child.leads (ap (λ l. led_to l) (sym here) ∙ e) in
                let n = node_at nodes level (Some p) child.place child.sub in
                (subst (λ (x : Place). parent_in (nodes x) ≡ link_to (Some p)) same (ap (λ (o : Option TreeNode). parent_in o) n.is ∙ n.parent_is), here ∙ (child.link_is ∙ ap (λ (x : Place). link_to (Some x)) same)))
          ]

  -- no node is its own child or parent
  pub no_own_child : (p : Place) (i : ℕ) → HasRoom p → Among p (places_of nodes t) → child_in (nodes p) i ≢ link_to (Some p)
  no_own_child p i room among e =
      let c = child_known p p i room among e in
      let same : suc c.level ≡ c.level = one_level nodes (suc c.level) c.level c.above (Some p) p c.high c.low in
      omega (arith, same)

  pub no_own_parent : (p : Place) → HasRoom p → Among p (places_of nodes t) → parent_in (nodes p) ≢ link_to (Some p)
  no_own_parent p room among e =
      let w = parent_only p p room among e in
      no_own_child p w.2 room among (ap (λ (o : Option TreeNode). child_in o w.2) w.1 ∙ w.4)

  -- ---- leaves

  leaves_apart : AreApart (leaves_below nodes t.level t.root)
  leaves_apart = (leaves_less nodes t.level t.root).1 (apart_behind t.spares (nodes_below nodes t.level t.root) tree.apart)

  all_leaves_stand : All (Stands nodes) (leaves_below nodes t.level t.root)
  all_leaves_stand = go t.root refl
    where
      go : (o : Option Place) → t.root ≡ o → All (Stands nodes) (leaves_below nodes t.level o)
      go None e = All-nil (Stands nodes)
      go (Some root) e = leaves_stand nodes t.level None None None root (tree.rooted root e)

  -- what has a next leaf is one of the leaves
  leaf_among : (p b : Place) → HasRoom b → Among p (places_of nodes t) → next_at nodes p ≡ link_to (Some b) → Among p (leaves_below nodes t.level t.root)
  leaf_among p b room among e = elim (stands_at p among) [
    | inl s ↦ absurd (some_link (next_at nodes p) b room e (ap (λ (o : Option TreeNode). next_in o) s.is ∙ s.next))
    | inr h ↦ below h h.at.above h.at.before h.at.behind h.at.own h.at.sub h.at.leaves
  ]
    where
      below : (h : IsBelow p) (above : Option Place) (before behind : List Place) (own : ℕ) → HasSubtree nodes own above p
          → leaves_below nodes t.level (Some h.root) ≡ before ++ (leaves_below nodes own (Some p) ++ behind) → Among p (leaves_below nodes t.level t.root)
      below h above before behind zero sub is = (
        length before + zero,
        ap (λ (o : Option Place). slice_get (leaves_below nodes t.level o) (length before + zero)) h.root_is
            ∙ (ap (λ (ps : List Place). slice_get ps (length before + zero)) is ∙ got_behind before (p ∷ behind) zero p refl),
      )
      below h above before behind (suc level) sub is =
          let inner = inner_at nodes level above p sub in
          absurd (some_link (next_at nodes p) b room e (ap (λ (o : Option TreeNode). next_in o) inner.is ∙ inner.next))

  -- the leaf behind one, by its number
  behind_it : (p b : Place) → HasRoom b → Among p (places_of nodes t) → next_at nodes p ≡ link_to (Some b)
      → (k : ℕ) × (slice_get (leaves_below nodes t.level t.root) k ≡ Some p) × (slice_get (leaves_below nodes t.level t.root) (suc k) ≡ Some b)
  behind_it p b room among e =
      let w = leaf_among p b room among e in
      (w.0, w.1, next_follows nodes (leaves_below nodes t.level t.root) w.0 p b tree.linked all_leaves_stand room w.1 e)

  -- a place at which a node of the tree stands can be led to
  pub place_room : (p : Place) → Among p (places_of nodes t) → HasRoom p
  place_room p among = elim (stands_at p among) [ inl s ↦ s.room | inr b ↦ (node_at nodes b.at.own b.at.above p b.at.sub).room ]

  pub node_here : (p : Place) → Among p (places_of nodes t) → (node : TreeNode) × (nodes p ≡ Some node)
  node_here p among = elim (stands_at p among) [ inl s ↦ (s.node, s.is) | inr b ↦ (let n = node_at nodes b.at.own b.at.above p b.at.sub in (n.node, n.is)) ]

  all_leaves_low : All (IsLow nodes) (leaves_below nodes t.level t.root)
  all_leaves_low = go t.root refl
    where
      go : (o : Option Place) → t.root ≡ o → All (IsLow nodes) (leaves_below nodes t.level o)
      go None e = All-nil (IsLow nodes)
      go (Some root) e = leaves_low nodes t.level None None None root (tree.rooted root e)

  -- no leaf is in front of what is no leaf
  pub before_inner : (p : Place) (node : TreeNode) → Among p (places_of nodes t) → nodes p ≡ Some node → 1 ≤ node.level → IsBefore nodes (places_of nodes t) p None
  before_inner p node among is high = record {
    there = λ q e. some_none e refl;
    only = λ q i got e.
        (let w = behind_it q p (place_room p among) (i, got) e in
        let low = got_all (IsLow nodes) (leaves_below nodes t.level t.root) (suc w.0) p all_leaves_low w.2 in
        let zero_level : node.level ≡ 0 = ap (λ (n : TreeNode). n.level) (some_same is low.1) ∙ low.2 in
        absurd (omega (arith, high, zero_level)));
  }

  -- nor in front of a spare node
  pub before_spare : (p : Place) → Among p t.spares → IsBefore nodes (places_of nodes t) p None
  before_spare p spare = record {
    there = λ q e. some_none e refl;
    only = λ q i got e.
        (let w = behind_it q p (spare_at p spare).room (i, got) e in
        absurd (apart_both t.spares (nodes_below nodes t.level t.root) p tree.apart spare ((leaves_less nodes t.level t.root).0 p (suc w.0, w.2))));
  }

  pub no_own_next : (p : Place) → HasRoom p → Among p (places_of nodes t) → next_at nodes p ≢ link_to (Some p)
  no_own_next p room among e =
      let w = behind_it p p room among e in
      let same : w.0 ≡ suc w.0 = leaves_apart w.0 (suc w.0) p w.1 w.2 in
      omega (arith, same)

  -- no leaf is in front of the first one
  pub before_first : (leaf : Place) (behind : List Place) → HasRoom leaf → leaves_below nodes t.level t.root ≡ leaf ∷ behind → IsBefore nodes (places_of nodes t) leaf None
  before_first leaf behind room is = record {
    there = λ p e. some_none e refl;
    only = λ p i got e.
        (let w = behind_it p leaf room (i, got) e in
        let same : suc w.0 ≡ zero = leaves_apart (suc w.0) zero leaf w.2 (ap (λ (ps : List Place). slice_get ps zero) is) in
        absurd (omega (arith, same)));
  }

  -- of two leaves that follow, the one is in front of the other
  pub before_next : (before leaf : Place) (front behind : List Place) → HasRoom leaf → leaves_below nodes t.level t.root ≡ front ++ (before ∷ leaf ∷ behind)
      → IsBefore nodes (places_of nodes t) leaf (Some before)
  before_next before leaf front behind room is =
      let n = length front in
      let at_before : slice_get (leaves_below nodes t.level t.root) n ≡ Some before =
      ap (λ (ps : List Place). slice_get ps n) is ∙ subst (λ k. slice_get (front ++ (before ∷ leaf ∷ behind)) k ≡ Some before) (omega arith) (got_behind front (before ∷ leaf ∷ behind) zero before refl) in
      let at_leaf : slice_get (leaves_below nodes t.level t.root) (suc n) ≡ Some leaf =
      ap (λ (ps : List Place). slice_get ps (suc n)) is ∙ subst (λ k. slice_get (front ++ (before ∷ leaf ∷ behind)) k ≡ Some leaf) (omega arith) (got_behind front (before ∷ leaf ∷ behind) (suc zero) leaf refl) in
      record {
        there = λ p e. subst (λ (x : Place). next_at nodes x ≡ link_to (Some leaf)) (some_is e)
            (linked_next nodes (leaves_below nodes t.level t.root) n before leaf tree.linked at_before at_leaf);
        only = λ p i got e.
            (let w = behind_it p leaf room (i, got) e in
            let same : suc w.0 ≡ suc n = leaves_apart (suc w.0) (suc n) leaf w.2 at_leaf in
            let number : w.0 ≡ n = omega (arith, same) in
            sym at_before ∙ (ap (λ k. slice_get (leaves_below nodes t.level t.root) k) (sym number) ∙ w.1));
      }
