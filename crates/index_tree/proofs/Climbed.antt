-- The steps of a climb from a node to the leaf in front of its first one.
use Rattle.std.proofs.Common.{◌≡◌, ℕ, zero, suc, ◌-◌, ◌≤◌, inl, inr, List, [], ◌∷◌, ◌++◌, All, length, take, Option, Some, None, refl, sym, ap, subst, ◌∙◌, arith, append_assoc, append-nil}
use Rattle.std.specs.List.{flat_map, slice_get}
use Rattle.std.specs.Prelude.{IfSome}
use Rattle.std.proofs.lemmas.List.{length-take-le}
use Rattle.std.proofs.lemmas.List.Elements.{All-head}
use Rattle.regions.specs.declared.place.Place.{Place}
use Rattle.tree_nodes.specs.Nodes.{TreeNode, child_at}
use Rattle.regions.specs.Places.{HasRoom, led_to, link_to}
use Rattle.index_tree.specs.Links.{Nodes}
use Rattle.index_tree.specs.Trees.{TreeState, children_of, leaves_below, nodes_below, places_of}
use Rattle.index_tree.specs.inside.Climbs.{HasSubtree, IsBefore, IsLast, IsTreeIn, child_in, parent_in}
use Rattle.place_lemmas.proofs.Places.{leads_on, some_is, some_none, some_same}
use Rattle.index_tree.proofs.Lists.{Among, among_either, split_first, split_two}
use Rattle.index_tree.proofs.Positions.{child_got, inner_at, node_at}
use Rattle.index_tree.proofs.Neighbors.{IsBelow, before_first, before_next, before_spare, below_at, one_level, spare_at}
use Rattle.index_tree.proofs.Whole.{Stands, leaves_stand}

-- ---- the last leaf

split_last : (f : ℕ → List Place) (xs : List ℕ) (i x : ℕ) → slice_get xs i ≡ Some x → suc i ≡ length xs → (front : List Place) × (flat_map f xs ≡ front ++ f x)
split_last f [] i x e long = some_none e refl
split_last f (y ∷ []) zero x e long = ([], append-nil (f y) ∙ ap (λ z. f z) (some_is e))
split_last f (y ∷ z ∷ xs) zero x e long = absurd (omega (arith, long))
split_last f (y ∷ xs) (suc i) x e long =
    let w = split_last f xs i x e (omega (arith, long)) in
    (f y ++ w.0, ap (λ ps. f y ++ ps) w.1 ∙ sym (append_assoc (f y) w.0 (f x)))

-- the last child of an inner node, and that the last leaf below it is that of the node
pub record LastChild (nodes : Nodes) (level : ℕ) (p : Place) : Type 0 where
  pub node : TreeNode
  pub is : nodes p ≡ Some node
  pub place : Place
  pub leads : led_to (child_at node (length node.entries)) ≡ Some place
  pub sub : HasSubtree nodes level (Some p) place
  pub last : (leaf : Place) → IsLast nodes level place leaf → IsLast nodes (suc level) p leaf

pub last_child : (nodes : Nodes) (level : ℕ) (parent : Option Place) (p : Place) → HasSubtree nodes (suc level) parent p → LastChild nodes level p
last_child nodes level parent p sub =
    let inner = inner_at nodes level parent p sub in
    let node : TreeNode = inner.node in
    let k = suc (length node.entries) in
    let many = inner.many in
    let child = inner.children (length node.entries) (omega arith) in
    let gather : ℕ → List Place = λ l. leaves_below nodes level (led_to l) in
    let got : slice_get (take k node.children) (length node.entries) ≡ Some (child_at node (length node.entries)) = child_got k node.children (length node.entries) (omega arith) many in
    let w = split_last gather (take k node.children) (length node.entries) (child_at node (length node.entries)) got (sym (length-take-le k node.children many)) in
    record {
      node = node;
      is = inner.is;
      place = child.place;
      leads = child.leads;
      sub = child.sub;
      last = λ leaf h. (
        w.0 ++ h.0,
        ap (λ (o : Option TreeNode). flat_map gather (children_of o)) inner.is
            ∙ (w.1
            ∙ (ap (λ (o : Option Place). w.0 ++ leaves_below nodes level o) child.leads
            ∙ (ap (λ (ps : List Place). w.0 ++ ps) h.1 ∙ sym (append_assoc w.0 h.0 (leaf ∷ []))))),
      );
    }

-- the same a level above zero
pub record IsDeeper (nodes : Nodes) (level : ℕ) (p : Place) : Type 0 where
  pub node : TreeNode
  pub is : nodes p ≡ Some node
  pub place : Place
  pub leads : led_to (child_at node (length node.entries)) ≡ Some place
  pub sub : HasSubtree nodes (level - 1) (Some p) place
  pub last : (leaf : Place) → IsLast nodes (level - 1) place leaf → IsLast nodes level p leaf

pub deeper : (nodes : Nodes) (level : ℕ) (p : Place) → 1 ≤ level → (parent : Option Place) × HasSubtree nodes level parent p → IsDeeper nodes level p
deeper nodes level p some (parent, sub) =
    let higher : level ≡ suc (level - 1) = omega (arith, some) in
    let c = last_child nodes (level - 1) parent p (subst (λ l. HasSubtree nodes l parent p) higher sub) in
    record {
      node = c.node;
      is = c.is;
      place = c.place;
      leads = c.leads;
      sub = c.sub;
      last = λ leaf h. subst (λ l. IsLast nodes l p leaf) (sym higher) (c.last leaf h);
    }

-- what is read of a node at a place
pub read_of : (P : TreeNode → Type 0) (nodes : Nodes) (p : Place) (node : TreeNode) → nodes p ≡ Some node → IfSome (nodes p) P → P node
read_of P nodes p node is h = subst (λ (o : Option TreeNode). IfSome o P) is h

pub there_of : (P : TreeNode → Type 0) (nodes : Nodes) (p : Place) (node : TreeNode) → nodes p ≡ Some node → P node → IfSome (nodes p) P
there_of P nodes p node is h = subst (λ (o : Option TreeNode). IfSome o P) (sym is) h

-- where the number that is read of a node's parent leads
pub parent_led : (nodes : Nodes) (p : Place) (node : TreeNode) (link : ℕ) (o : Option Place) → nodes p ≡ Some node → IfSome (nodes p) (λ n. link ≡ n.parent) → o ≡ led_to link
    → led_to (parent_in (nodes p)) ≡ o
parent_led nodes p node link o is read leads =
    ap (λ (x : Option TreeNode). led_to (parent_in x)) is ∙ (ap (λ l. led_to l) (sym (read_of (λ n. link ≡ n.parent) nodes p node is read)) ∙ sym leads)

-- where that of a child leads
pub child_led : (nodes : Nodes) (p : Place) (node : TreeNode) (i link : ℕ) (o : Option Place) → nodes p ≡ Some node → IfSome (nodes p) (λ n. link ≡ child_at n i) → o ≡ led_to link
    → led_to (child_in (nodes p) i) ≡ o
child_led nodes p node i link o is read leads =
    ap (λ (x : Option TreeNode). led_to (child_in x i)) is ∙ (ap (λ l. led_to l) (sym (read_of (λ n. link ≡ child_at n i) nodes p node is read)) ∙ sym leads)

-- the place that the last child's number leads to
pub last_read : (nodes : Nodes) (level : ℕ) (p : Place) (d : IsDeeper nodes level p) (count link : ℕ) (o : Option Place) → IfSome (nodes p) (λ node. count ≡ length node.entries)
    → IfSome (nodes p) (λ node. link ≡ child_at node count) → o ≡ led_to link → o ≡ Some d.place
last_read nodes level p d count link o counted read is =
    let many : count ≡ length d.node.entries = read_of (λ node. count ≡ length node.entries) nodes p d.node d.is counted in
    let child : link ≡ child_at d.node count = read_of (λ node. link ≡ child_at node count) nodes p d.node d.is read in
    is ∙ (ap (λ l. led_to l) (child ∙ ap (λ n. child_at d.node n) many) ∙ d.leads)

-- ---- the leaf in front

regroup_next : (a b front rest behind after : List Place) (r leaf : Place)
    → a ++ ((b ++ ((front ++ r ∷ []) ++ ((leaf ∷ rest) ++ behind))) ++ after) ≡ (a ++ (b ++ front)) ++ (r ∷ leaf ∷ ((rest ++ behind) ++ after))
regroup_next a b front rest behind after r leaf = simp append_assoc

module _ (nodes : Nodes) (t : TreeState) (tree : IsTreeIn nodes t) where
  -- the first leaf below a node that is below the root
  first_room : (p : Place) (level : ℕ) (above : Option Place) (leaf : Place) (rest : List Place) → HasSubtree nodes level above p → leaves_below nodes level (Some p) ≡ leaf ∷ rest → HasRoom leaf
  first_room p level above leaf rest sub is =
      (All-head (Stands nodes) leaf rest (subst (λ (ps : List Place). All (Stands nodes) ps) is (leaves_stand nodes level above sub.low sub.high p sub.tree))).0

  -- at the root
  pub no_parent : (p : Place) (level : ℕ) (above : Option Place) → Among p (nodes_below nodes t.level t.root) → HasSubtree nodes level above p → led_to (parent_in (nodes p)) ≡ None
      → (leaf : Place) (rest : List Place) → leaves_below nodes level (Some p) ≡ leaf ∷ rest → IsBefore nodes (places_of nodes t) leaf None
  no_parent p level above among sub none leaf rest is =
      let b = below_at nodes t tree p among in
      let n = node_at nodes b.at.own b.at.above p b.at.sub in
      let same : b.at.own ≡ level = one_level nodes b.at.own level b.at.above above p b.at.sub sub in
      let link : parent_in (nodes p) ≡ link_to b.at.above = ap (λ (o : Option TreeNode). parent_in o) n.is ∙ n.parent_is in
      elim b.at.up [
        | inl h ↦
            before_first nodes t tree leaf rest (first_room p level above leaf rest sub is)
            (ap (λ (o : Option Place). leaves_below nodes t.level o) (b.root_is ∙ ap (λ (x : Place). Some x) (sym h.1))
            ∙ (ap (λ l. leaves_below nodes l (Some p)) (sym h.0 ∙ same) ∙ is))
        | inr h ↦
            (let up = node_at nodes (suc b.at.own) h.higher h.place h.sub in
            some_none (leads_on (Some h.place) up.room)
            (ap (λ l. led_to l) (sym (ap (λ (o : Option Place). link_to o) h.is_above) ∙ sym link) ∙ none))
      ]

  -- the node above one
  pub record IsAbove (p q : Place) (level : ℕ) : Type 0 where
    pub among : Among q (nodes_below nodes t.level t.root)
    pub higher : Option Place
    pub sub : HasSubtree nodes (suc level) higher q
    pub node : TreeNode
    pub is : nodes q ≡ Some node
    pub level_is : node.level ≡ suc level
    pub short : suc level ≤ t.level
    pub few : length node.entries ≤ 16
    pub index : ℕ
    pub within : index ≤ length node.entries
    pub child : child_at node index ≡ link_to (Some p)

  pub above_it : (p q : Place) (level : ℕ) (above : Option Place) → Among p (nodes_below nodes t.level t.root) → HasSubtree nodes level above p → led_to (parent_in (nodes p)) ≡ Some q → IsAbove p q level
  above_it p q level above among sub leads =
      let b = below_at nodes t tree p among in
      let n = node_at nodes b.at.own b.at.above p b.at.sub in
      let same : b.at.own ≡ level = one_level nodes b.at.own level b.at.above above p b.at.sub sub in
      let link : parent_in (nodes p) ≡ link_to b.at.above = ap (λ (o : Option TreeNode). parent_in o) n.is ∙ n.parent_is in
      elim b.at.up [
        | inl h ↦ some_none leads (ap (λ l. led_to l) (link ∙ ap (λ (o : Option Place). link_to o) h.2))
        | inr h ↦
            (let up = node_at nodes (suc b.at.own) h.higher h.place h.sub in
            let here : h.place ≡ q =
            some_is (sym (leads_on (Some h.place) up.room) ∙ (ap (λ l. led_to l) (sym (ap (λ (o : Option Place). link_to o) h.is_above) ∙ sym link) ∙ leads)) in
            let there : Among h.place (nodes_below nodes t.level t.root) = subst (λ (o : Option Place). Among h.place (nodes_below nodes t.level o)) (sym b.root_is) h.among in
            let top = below_at nodes t tree h.place there in
            let levels : top.at.own ≡ suc b.at.own = one_level nodes top.at.own (suc b.at.own) top.at.above h.higher h.place top.at.sub h.sub in
            let lower = top.at.lower in
            let one : up.node ≡ h.node = some_same up.is h.is in
            record {
              among = subst (λ (x : Place). Among x (nodes_below nodes t.level t.root)) here there;
              higher = h.higher;
              sub = subst (λ (x : Place). HasSubtree nodes (suc level) h.higher x) here (subst (λ l. HasSubtree nodes (suc l) h.higher h.place) same h.sub);
              node = h.node;
              is = ap (λ (x : Place). nodes x) (sym here) ∙ h.is;
              level_is = ap (λ (x : TreeNode). x.level) (sym one) ∙ (up.level_is ∙ ap (λ l. suc l) same);
              short = omega (arith, levels, lower, same);
              few = subst (λ (x : TreeNode). length x.entries ≤ 16) one up.stands.few;
              index = h.index;
              within = h.within;
              child = h.child;
            })
      ]

  -- the first child of a node has its first leaf
  pub first_child : (p q : Place) (level : ℕ) (above : Option Place) → IsAbove p q level → HasSubtree nodes level above p → child_in (nodes q) 0 ≡ link_to (Some p)
      → (leaf : Place) (rest : List Place) → leaves_below nodes level (Some p) ≡ leaf ∷ rest
      → (behind : List Place) × (leaves_below nodes (suc level) (Some q) ≡ leaf ∷ behind)
  first_child p q level above up sub link leaf rest is =
      let inner = inner_at nodes level up.higher q up.sub in
      let node : TreeNode = inner.node in
      let k = suc (length node.entries) in
      let gather : ℕ → List Place = λ l. leaves_below nodes level (led_to l) in
      let here : child_at node 0 ≡ link_to (Some p) = sym (ap (λ (o : Option TreeNode). child_in o 0) inner.is) ∙ link in
      let got : slice_get (take k node.children) 0 ≡ Some (child_at node 0) = child_got k node.children 0 (omega arith) inner.many in
      let w = split_first gather (take k node.children) (child_at node 0) got in
      let room = (node_at nodes level above p sub).room in (
        rest ++ w.0,
        ap (λ (o : Option TreeNode). flat_map gather (children_of o)) inner.is
            ∙ (w.1 ∙ (ap (λ (o : Option Place). leaves_below nodes level o ++ w.0) (ap (λ l. led_to l) here ∙ leads_on (Some p) room) ∙ ap (λ (ps : List Place). ps ++ w.0) is)),
      )

  -- the child in front of one, and that its last leaf is the one in front
  pub record IsInFront (p q : Place) (level i : ℕ) : Type 0 where
    pub place : Place
    pub leads : led_to (child_in (nodes q) i) ≡ Some place
    pub sub : HasSubtree nodes level (Some q) place
    pub before : (leaf : Place) (rest : List Place) (last : Place) → leaves_below nodes level (Some p) ≡ leaf ∷ rest → IsLast nodes level place last → IsBefore nodes (places_of nodes t) leaf (Some last)

  pub in_front : (p q : Place) (level i : ℕ) (above : Option Place) → IsAbove p q level → HasSubtree nodes level above p → (n : TreeNode) → nodes q ≡ Some n → suc i ≤ length n.entries
      → child_at n (suc i) ≡ link_to (Some p) → IsInFront p q level i
  in_front p q level i above up sub n is_n within_n link_n =
      let inner = inner_at nodes level up.higher q up.sub in
      let node : TreeNode = inner.node in
      let one : n ≡ node = some_same is_n inner.is in
      let within : suc i ≤ length node.entries = subst (λ (x : TreeNode). suc i ≤ length x.entries) one within_n in
      let here : child_at node (suc i) ≡ link_to (Some p) = ap (λ (x : TreeNode). child_at x (suc i)) (sym one) ∙ link_n in
      let k = suc (length node.entries) in
      let gather : ℕ → List Place = λ l. leaves_below nodes level (led_to l) in
      let at_i : slice_get (take k node.children) i ≡ Some (child_at node i) = child_got k node.children i (omega (arith, within)) inner.many in
      let at_next : slice_get (take k node.children) (suc i) ≡ Some (child_at node (suc i)) = child_got k node.children (suc i) (omega (arith, within)) inner.many in
      let w = split_two gather (take k node.children) i (child_at node i) (child_at node (suc i)) at_i at_next in
      let room = (node_at nodes level above p sub).room in
      let child = inner.children i (omega (arith, within)) in
      let b = below_at nodes t tree q up.among in
      let same : b.at.own ≡ suc level = one_level nodes b.at.own (suc level) b.at.above up.higher q b.at.sub up.sub in
      record {
        place = child.place;
        leads = ap (λ (o : Option TreeNode). led_to (child_in o i)) inner.is ∙ child.leads;
        sub = child.sub;
        before = λ leaf rest last first is_last.
            (let below_q : leaves_below nodes (suc level) (Some q) ≡ w.0 ++ ((is_last.0 ++ last ∷ []) ++ ((leaf ∷ rest) ++ w.1)) =
            ap (λ (o : Option TreeNode). flat_map gather (children_of o)) inner.is
            ∙ (w.2
            ∙ (ap (λ (o : Option Place). w.0 ++ (leaves_below nodes level o ++ (gather (child_at node (suc i)) ++ w.1))) child.leads
            ∙ (ap (λ (o : Option Place). w.0 ++ (leaves_below nodes level (Some child.place) ++ (leaves_below nodes level o ++ w.1))) (ap (λ l. led_to l) here ∙ leads_on (Some p) room)
            ∙ (ap (λ (ps : List Place). w.0 ++ (ps ++ (leaves_below nodes level (Some p) ++ w.1))) is_last.1
            ∙ ap (λ (ps : List Place). w.0 ++ ((is_last.0 ++ last ∷ []) ++ (ps ++ w.1))) first)))) in
            before_next nodes t tree last leaf (b.at.before ++ (w.0 ++ is_last.0)) ((rest ++ w.1) ++ b.at.behind) (first_room p level above leaf rest sub first)
            (ap (λ (o : Option Place). leaves_below nodes t.level o) b.root_is
            ∙ (b.at.leaves
            ∙ (ap (λ l. b.at.before ++ (leaves_below nodes l (Some q) ++ b.at.behind)) same
            ∙ (ap (λ (ps : List Place). b.at.before ++ (ps ++ b.at.behind)) below_q ∙ regroup_next b.at.before w.0 is_last.0 rest w.1 b.at.behind last leaf)))));
      }

  -- ---- a node of level zero

  low_sub : (p : Place) (node : TreeNode) (b : IsBelow nodes t tree p) → nodes p ≡ Some node → node.level ≡ 0 → HasSubtree nodes 0 b.at.above p
  low_sub p node b is low =
      let n = node_at nodes b.at.own b.at.above p b.at.sub in
      subst (λ l. HasSubtree nodes l b.at.above p) (sym n.level_is ∙ (ap (λ (x : TreeNode). x.level) (some_same n.is is) ∙ low)) b.at.sub

  pub before_top : (p : Place) (node : TreeNode) → Among p (places_of nodes t) → nodes p ≡ Some node → node.level ≡ 0 → led_to (parent_in (nodes p)) ≡ None → IsBefore nodes (places_of nodes t) p None
  before_top p node among is low none = elim (among_either t.spares (nodes_below nodes t.level t.root) p among) [
    | inl spare ↦ before_spare nodes t tree p spare
    | inr below ↦
        (let b = below_at nodes t tree p below in
        no_parent p 0 b.at.above below (low_sub p node b is low) none p [] refl)
  ]

  pub low_stands : (p : Place) (node : TreeNode) (q : Place) → Among p (places_of nodes t) → nodes p ≡ Some node → node.level ≡ 0
      → led_to (parent_in (nodes p)) ≡ Some q → (above : Option Place) × HasSubtree nodes 0 above p × Among p (nodes_below nodes t.level t.root)
  low_stands p node q among is low some = elim (among_either t.spares (nodes_below nodes t.level t.root) p among) [
    | inl spare ↦
        (let s = spare_at nodes t tree p spare in
        some_none some (ap (λ l. led_to l) (ap (λ (o : Option TreeNode). parent_in o) s.is ∙ s.parent)))
    | inr below ↦ (let b = below_at nodes t tree p below in (b.at.above, low_sub p node b is low, below))
  ]
