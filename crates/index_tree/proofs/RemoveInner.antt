-- Two inner nodes side by side, made even or made one: children come under another parent.
use Rattle.std.proofs.Common.{◌≡◌, ℕ, zero, suc, ◌<◌, ◌≤◌, ◌^◌, List, [], ◌∷◌, ◌++◌, All, length, take, drop, map, Option, Some, None, refl, sym, ap, subst, ◌∙◌, append-nil, arith}
use Rattle.std.specs.Prelude.{option_map}
use Rattle.std.specs.List.{flat_map}
use Rattle.std.proofs.lemmas.List.{length-map, map-append}
use Rattle.std.proofs.lemmas.List.Elements.{All-append, All-cons, All-head, All-tail, All-weaker}
use Rattle.regions.specs.declared.place.Place.{Place}
use Rattle.tree_nodes.specs.Nodes.{Entry, TreeNode, CanStand, IsEntry, no_place}
use Rattle.regions.specs.Places.{HasRoom, led_to, link_to}
use Rattle.index_tree.specs.Links.{Nodes, with_parent}
use Rattle.index_tree.specs.Limits.{fewest_entries}
use Rattle.index_tree.specs.Trees.{IsFrom, IsSubtree, children_of, entries_of, held_below, leaves_below, next_at, next_in, nodes_below, row_below}
use Rattle.index_tree.specs.Inserts.{AreChained, Branch, Row, entry_of, first_link, of_row, place_in, times}
use Rattle.index_tree.specs.Removes.{Alters, IsInnerTrunk}
use Rattle.place_lemmas.proofs.Places.{some_none}
use Rattle.index_tree.proofs.Frame.{Agrees, adopted_held, adopted_leaves, adopted_nodes, adopted_rows, adopted_subtree, all_back, all_front, below_children, nodes_from}
use Rattle.index_tree.proofs.FrameRows.{Opened, branch, close_node, gathered, links_of, row_gathered}
use Rattle.index_tree.proofs.InsertRows.{IsAbove, RowKeys, above_from, leaves_among, of_row_append, row_keys, times_append}
use Rattle.index_tree.proofs.Rows.{left_same, rows_even, rows_one}
use Rattle.index_tree.proofs.RemoveLeaf.{same_index}

-- ---- children of any parent

module _ (nodes : Nodes) (level : ℕ) where
  abbrev pub IsChild : Option (List ℕ) → Option (List ℕ) → Place → Type 0
  IsChild low high q = (parent : Place) × IsSubtree nodes level (Some parent) low high q

  abbrev pub AnyRow : Option (List ℕ) → Place → List Branch → Option (List ℕ) → Type 0
  AnyRow low first [] high = IsChild low high first
  AnyRow low first (b ∷ bs) high = IsChild low (Some b.entry.key) first × AnyRow (Some b.entry.key) b.place bs high

  pub any_of : (parent : Place) (first : Place) (bs : List Branch) (low high : Option (List ℕ)) → Row nodes level (Some parent) low first bs high → AnyRow low first bs high
  any_of parent first [] low high row = (parent, row)
  any_of parent first (b ∷ bs) low high row = ((parent, row.0), any_of parent b.place bs (Some b.entry.key) high row.1)

  pub any_joined : (low high : Option (List ℕ)) (first : Place) (cs : List Branch) (b : Branch) (bs : List Branch)
      → AnyRow low first cs (Some b.entry.key) → AnyRow (Some b.entry.key) b.place bs high → AnyRow low first (cs ++ (b ∷ bs)) high
  any_joined low high first [] b bs front back = (front, back)
  any_joined low high first (c ∷ cs) b bs front back = (front.0, any_joined (Some c.entry.key) high c.place cs b bs front.1 back)

  pub any_front : (low high : Option (List ℕ)) (first : Place) (cs : List Branch) (b : Branch) (bs : List Branch) → AnyRow low first (cs ++ (b ∷ bs)) high → AnyRow low first cs (Some b.entry.key)
  any_front low high first [] b bs row = row.0
  any_front low high first (c ∷ cs) b bs row = (row.0, any_front (Some c.entry.key) high c.place cs b bs row.1)

  pub any_back : (low high : Option (List ℕ)) (first : Place) (cs : List Branch) (b : Branch) (bs : List Branch) → AnyRow low first (cs ++ (b ∷ bs)) high → AnyRow (Some b.entry.key) b.place bs high
  any_back low high first [] b bs row = row.1
  any_back low high first (c ∷ cs) b bs row = any_back (Some c.entry.key) high c.place cs b bs row.1

  pub child_many : (low high : Option (List ℕ)) (q : Place) → (child : IsChild low high q) → fewest_entries ≤ length (entries_of (nodes q))
  child_many low high q child = go level child.1
    where
      go : (k : ℕ) → IsSubtree nodes k (Some child.0) low high q → fewest_entries ≤ length (entries_of (nodes q))
      go zero (node, is, here, of, none) = subst (λ (o : Option TreeNode). fewest_entries ≤ length (entries_of o)) (sym is) (of.many (λ e. some_none refl e))
      go (suc k) (node, is, here, of, inner, children) = subst (λ (o : Option TreeNode). fewest_entries ≤ length (entries_of o)) (sym is) (of.many (λ e. some_none refl e))

-- ---- carried under a parent

module _ (nodes new : Nodes) (level : ℕ) (parent : Place) where
  -- the child has this parent now, and nothing else below it changed
  pub record IsCarried (q : Place) : Type 0 where
    pub now : new q ≡ option_map (with_parent (link_to (Some parent))) (nodes q)
    pub below : All (Agrees nodes new) (below_children nodes level q)

  abbrev SameNext : Place → Type 0
  SameNext r = next_at new r ≡ next_at nodes r

  chained_next : (ps : List Place) (end : ℕ) → All SameNext ps → AreChained nodes ps end → AreChained new ps end
  chained_next [] end all c = tt
  chained_next (p ∷ ps) end all c = (All-head SameNext p ps all ∙ c.0, chained_next ps end (All-tail SameNext p ps all) c.1)

  same_next : (q : Place) → new q ≡ option_map (with_parent (link_to (Some parent))) (nodes q) → SameNext q
  same_next q now = ap (λ (o : Option TreeNode). next_in o) now ∙ go (nodes q)
    where
      go : (o : Option TreeNode) → next_in (option_map (with_parent (link_to (Some parent))) o) ≡ next_in o
      go None = refl
      go (Some node) = refl

  pub record CarriedRow (first : Place) (bs : List Branch) (low high : Option (List ℕ)) : Type 0 where
    pub row : Row new level (Some parent) low first bs high
    pub held : of_row (held_below new level) first bs ≡ of_row (held_below nodes level) first bs
    pub leaves : of_row (leaves_below new level) first bs ≡ of_row (leaves_below nodes level) first bs
    pub places : of_row (nodes_below new level) first bs ≡ of_row (nodes_below nodes level) first bs
    pub rows : (k : ℕ) → of_row (row_below new k level) first bs ≡ of_row (row_below nodes k level) first bs
    pub next : All SameNext (of_row (leaves_below nodes level) first bs)

  pub carried_row : HasRoom parent → (first : Place) (bs : List Branch) (low high : Option (List ℕ)) → AnyRow nodes level low first bs high
      → All IsCarried (first ∷ map place_in bs) → CarriedRow first bs low high
  carried_row room first bs low high row all = go first bs low row all
    where
      one : (q : Place) (l h : Option (List ℕ)) → IsChild nodes level l h q → IsCarried q → CarriedRow q [] l h
      one q l h child carried =
          let is_same : All SameNext (nodes_below nodes level (Some q)) =
          subst (λ (t : List Place). All SameNext t) (sym (nodes_from nodes level q))
          (All-cons SameNext q (below_children nodes level q) (same_next q carried.now)
          (All-weaker (Agrees nodes new) SameNext (λ r a. ap (λ (o : Option TreeNode). next_in o) a) (below_children nodes level q) carried.below)) in
          record {
            row = adopted_subtree nodes new level (Some child.0) (Some parent) l h q room (λ some. child_many nodes level l h q child) child.1 carried.now carried.below;
            held = ap (λ (t : List Entry). t ++ []) (adopted_held nodes new level (Some child.0) l h q (link_to (Some parent)) child.1 carried.now carried.below);
            leaves = ap (λ (t : List Place). t ++ []) (adopted_leaves nodes new level (Some child.0) l h q (link_to (Some parent)) child.1 carried.now carried.below);
            places = ap (λ (t : List Place). t ++ []) (adopted_nodes nodes new level (Some child.0) l h q (link_to (Some parent)) child.1 carried.now carried.below);
            rows = λ k. ap (λ (t : List Place). t ++ []) (adopted_rows nodes new k level (Some child.0) l h q (link_to (Some parent)) child.1 carried.now carried.below);
            next = subst (λ (t : List Place). All SameNext t) (sym (append-nil (leaves_below nodes level (Some q)))) (leaves_among nodes SameNext level (Some child.0) l h q child.1 is_same);
          }

      unjoined : {A : Type 0} (xs ys : List A) → xs ++ [] ≡ ys ++ [] → xs ≡ ys
      unjoined xs ys e = sym (append-nil xs) ∙ (e ∙ append-nil ys)

      go : (f : Place) (cs : List Branch) (l : Option (List ℕ)) → AnyRow nodes level l f cs high → All IsCarried (f ∷ map place_in cs) → CarriedRow f cs l high
      go f [] l r a = one f l high r (All-head IsCarried f [] a)
      go f (c ∷ cs) l r a =
          let here = one f l (Some c.entry.key) r.0 (All-head IsCarried f (c.place ∷ map place_in cs) a) in
          let behind = go c.place cs (Some c.entry.key) r.1 (All-tail IsCarried f (c.place ∷ map place_in cs) a) in
          record {
            row = (here.row, behind.row);
            held =
                ap (λ (t : List Entry). t ++ of_row (held_below new level) c.place cs) (unjoined (held_below new level (Some f)) (held_below nodes level (Some f)) here.held)
                ∙ ap (λ (t : List Entry). held_below nodes level (Some f) ++ t) behind.held;
            leaves =
                ap (λ (t : List Place). t ++ of_row (leaves_below new level) c.place cs) (unjoined (leaves_below new level (Some f)) (leaves_below nodes level (Some f)) here.leaves)
                ∙ ap (λ (t : List Place). leaves_below nodes level (Some f) ++ t) behind.leaves;
            places =
                ap (λ (t : List Place). t ++ of_row (nodes_below new level) c.place cs) (unjoined (nodes_below new level (Some f)) (nodes_below nodes level (Some f)) here.places)
                ∙ ap (λ (t : List Place). nodes_below nodes level (Some f) ++ t) behind.places;
            rows = λ k.
                ap (λ (t : List Place). t ++ of_row (row_below new k level) c.place cs) (unjoined (row_below new k level (Some f)) (row_below nodes k level (Some f)) (here.rows k))
                ∙ ap (λ (t : List Place). row_below nodes k level (Some f) ++ t) (behind.rows k);
            next = All-append SameNext (leaves_below nodes level (Some f)) (of_row (leaves_below nodes level) c.place cs)
                (all_front SameNext (leaves_below nodes level (Some f)) [] here.next) behind.next;
          }

-- what the children of such a node gather
pub trunk_gathered : {A : Type 0} (g : Option Place → List A) (nodes : Nodes) (level : ℕ) (parent : Option Place) (low high : Option (List ℕ)) (p : Place)
    (t : IsInnerTrunk nodes level parent low high p) → flat_map (λ link. g (led_to link)) (children_of (nodes p)) ≡ of_row g t.first t.branches
trunk_gathered {A} g nodes level parent low high p t =
    ap (λ (m : Option TreeNode). flat_map (λ link. g (led_to link)) (children_of m)) t.is
    ∙ (ap (λ (ls : List ℕ). flat_map (λ link. g (led_to link)) ls) t.links ∙ row_gathered nodes level (Some p) g t.first t.branches low high t.row)

-- ---- an inner node whose row is known

-- a node with other entries and children
abbrev pub reordered : List Entry → List ℕ → TreeNode → TreeNode
reordered es links node = record node { entries = es; children = links }

-- the children of a node are those of a row, and none behind them
pub record HasLinks (links : List ℕ) (first : Place) (bs : List Branch) : Type 0 where
  pub size : length links ≡ 17
  pub small : All (λ link. link < 2 ^ 64) links
  pub front : take (suc (length bs)) links ≡ links_of first bs
  pub others : All (λ link. link ≡ no_place) (drop (suc (length bs)) links)

module _ (nodes : Nodes) (level : ℕ) (parent : Option Place) (low high : Option (List ℕ)) (p : Place) where
  pub opened_row : (node : TreeNode) (links : List ℕ) (first : Place) (bs : List Branch) → nodes p ≡ Some (reordered (map entry_of bs) links node) → HasRoom p
      → node.level ≡ suc level → node.parent ≡ link_to parent → CanStand node → node.next_leaf ≡ no_place
      → HasLinks links first bs → All IsEntry (map entry_of bs) → All (λ (e : Entry). e.number ≡ 0) (map entry_of bs) → 8 ≤ length bs → length bs ≤ 16
      → Row nodes level (Some p) low first bs high → Opened nodes level parent low high p
  opened_row node links first bs is room level_is parent_is stands next has entries numbers more few row =
      let keys : RowKeys low high (map entry_of bs) = row_keys nodes p level first bs low high row in
      let size : length (map entry_of bs) ≡ length bs = length-map bs entry_of in
      record {
        node = reordered (map entry_of bs) links node;
        is = is;
        room = room;
        of = record {
          level_is = level_is;
          parent_is = parent_is;
          stands = record {
            parent = stands.parent;
            level = stands.level;
            next_leaf = stands.next_leaf;
            few = omega (arith, size, few);
            entries = entries;
            children = has.size;
            places = has.small;
          };
          rising = keys.rising;
          from = All-weaker (IsAbove low) (IsFrom low) (λ e h. above_from low e h) (map entry_of bs) keys.above;
          up_to = keys.up;
          many = λ some. omega (arith, size, more);
        };
        inner = record {
          some = omega (arith, size, more);
          numbers = numbers;
          next = next;
          others = subst (λ k. All (λ link. link ≡ no_place) (drop (suc k) links)) (sym size) has.others;
        };
        first = first;
        branches = bs;
        entries = refl;
        links = subst (λ k. take (suc k) links ≡ links_of first bs) (sym size) has.front;
        row = row;
      }

-- ---- two inner nodes side by side

module _ (nodes new : Nodes) (level : ℕ) (parent : Place) (low high : Option (List ℕ)) (p q : Place) (s : Entry)
    (l : IsInnerTrunk nodes level (Some parent) low (Some s.key) p) (r : IsInnerTrunk nodes level (Some parent) (Some s.key) high q)
    (fits : IsEntry s) (zero_is : s.number ≡ 0) where
  -- all of their children in one row
  abbrev pub joint : List Branch
  joint = l.branches ++ (branch s r.first ∷ r.branches)

  any_joint : AnyRow nodes level low l.first (l.branches ++ (branch s r.first ∷ r.branches)) high
  any_joint =
      any_joined nodes level low high l.first l.branches (branch s r.first) r.branches (any_of nodes level p l.first l.branches low (Some s.key) l.row)
      (any_of nodes level q r.first r.branches (Some s.key) high r.row)

  all_joint : (P : Entry → Type 0) → All P l.node.entries → P s → All P r.node.entries → All P (map entry_of (l.branches ++ (branch s r.first ∷ r.branches)))
  all_joint P left here right =
      subst (λ (t : List Entry). All P t) (sym (map-append entry_of l.branches (branch s r.first ∷ r.branches)))
      (All-append P (map entry_of l.branches) (s ∷ map entry_of r.branches) (subst (λ (t : List Entry). All P t) l.entries left)
      (All-cons P s (map entry_of r.branches) here (subst (λ (t : List Entry). All P t) r.entries right)))

  entries_joint : All IsEntry (map entry_of (l.branches ++ (branch s r.first ∷ r.branches)))
  entries_joint = all_joint IsEntry l.of.stands.entries fits r.of.stands.entries

  numbers_joint : All (λ (e : Entry). e.number ≡ 0) (map entry_of (l.branches ++ (branch s r.first ∷ r.branches)))
  numbers_joint = all_joint (λ e. e.number ≡ 0) l.inner.numbers zero_is r.inner.numbers

  -- what the two gathered
  were : {A : Type 0} (g : Option Place → List A) → of_row g l.first (l.branches ++ (branch s r.first ∷ r.branches))
      ≡ flat_map (λ link. g (led_to link)) (children_of (nodes p)) ++ (flat_map (λ link. g (led_to link)) (children_of (nodes q)) ++ [])
  were {A} g =
      let right : List A = flat_map (λ link. g (led_to link)) (children_of (nodes q)) in
      of_row_append g l.first l.branches (branch s r.first) r.branches
      ∙ (ap (λ (t : List A). t ++ of_row g r.first r.branches) (sym (trunk_gathered g nodes level (Some parent) low (Some s.key) p l))
      ∙ ap (λ (t : List A). flat_map (λ link. g (led_to link)) (children_of (nodes p)) ++ t) (sym (trunk_gathered g nodes level (Some parent) (Some s.key) high q r) ∙ sym (append-nil right)))

  -- made even: the border between them is another one
  module _ (xs : List Branch) (m : Branch) (ys : List Branch) (whole : l.branches ++ (branch s r.first ∷ r.branches) ≡ xs ++ (m ∷ ys))
      (more_x : 8 ≤ length xs) (few_x : length xs ≤ 16) (more_y : 8 ≤ length ys) (few_y : length ys ≤ 16)
      (links_p links_q : List ℕ) (has_p : HasLinks links_p l.first xs) (has_q : HasLinks links_q m.place ys)
      (now_p : new p ≡ Some (reordered (map entry_of xs) links_p l.node)) (now_q : new q ≡ Some (reordered (map entry_of ys) links_q r.node))
      (carried_p : All (IsCarried nodes new level p) (l.first ∷ map place_in xs)) (carried_q : All (IsCarried nodes new level q) (m.place ∷ map place_in ys)) where
    any_whole : AnyRow nodes level low l.first (xs ++ (m ∷ ys)) high
    any_whole = subst (λ (t : List Branch). AnyRow nodes level low l.first t high) whole any_joint

    row_p : CarriedRow nodes new level p l.first xs low (Some m.entry.key)
    row_p = carried_row nodes new level p l.room l.first xs low (Some m.entry.key) (any_front nodes level low high l.first xs m ys any_whole) carried_p

    row_q : CarriedRow nodes new level q m.place ys (Some m.entry.key) high
    row_q = carried_row nodes new level q r.room m.place ys (Some m.entry.key) high (any_back nodes level low high l.first xs m ys any_whole) carried_q

    split_entries : (P : Entry → Type 0) → All P (map entry_of (l.branches ++ (branch s r.first ∷ r.branches))) → All P (map entry_of xs) × All P (map entry_of ys)
    split_entries P all =
        let t : All P (map entry_of xs ++ (m.entry ∷ map entry_of ys)) =
        subst (λ (t : List Entry). All P t) (ap (λ (bs : List Branch). map entry_of bs) whole ∙ map-append entry_of xs (m ∷ ys)) all in
        (all_front P (map entry_of xs) (m.entry ∷ map entry_of ys) t, All-tail P m.entry (map entry_of ys) (all_back P (map entry_of xs) (m.entry ∷ map entry_of ys) t))

    open_p : Opened new level (Some parent) low (Some m.entry.key) p
    open_p =
        opened_row new level (Some parent) low (Some m.entry.key) p l.node links_p l.first xs now_p l.room l.of.level_is l.of.parent_is l.of.stands l.inner.next has_p
        (split_entries IsEntry entries_joint).0 (split_entries (λ e. e.number ≡ 0) numbers_joint).0 more_x few_x row_p.row

    open_q : Opened new level (Some parent) (Some m.entry.key) high q
    open_q =
        opened_row new level (Some parent) (Some m.entry.key) high q r.node links_q m.place ys now_q r.room r.of.level_is r.of.parent_is r.of.stands r.inner.next has_q
        (split_entries IsEntry entries_joint).1 (split_entries (λ e. e.number ≡ 0) numbers_joint).1 more_y few_y row_q.row

    pub inner_even_row : Row new (suc level) (Some parent) low p (branch m.entry q ∷ []) high
    inner_even_row = (close_node new level (Some parent) low (Some m.entry.key) p open_p, close_node new level (Some parent) (Some m.entry.key) high q open_q)

    -- what the two gather now
    are : {A : Type 0} (g h : Option Place → List A) → of_row h l.first xs ≡ of_row g l.first xs → of_row h m.place ys ≡ of_row g m.place ys
        → flat_map (λ link. h (led_to link)) (children_of (new p)) ++ (flat_map (λ link. h (led_to link)) (children_of (new q)) ++ [])
        ≡ flat_map (λ link. g (led_to link)) (children_of (nodes p)) ++ (flat_map (λ link. g (led_to link)) (children_of (nodes q)) ++ [])
    unfolding open_p opened_row open_q
    are {A} g h same_p same_q =
        ap (λ (t : List A). t ++ (flat_map (λ link. h (led_to link)) (children_of (new q)) ++ [])) (gathered h new level (Some parent) low (Some m.entry.key) p open_p ∙ same_p)
        ∙ (ap (λ (t : List A). of_row g l.first xs ++ t)
        (append-nil (flat_map (λ link. h (led_to link)) (children_of (new q))) ∙ (gathered h new level (Some parent) (Some m.entry.key) high q open_q ∙ same_q))
        ∙ (sym (of_row_append g l.first xs m ys) ∙ (ap (λ (bs : List Branch). of_row g l.first bs) (sym whole) ∙ were g)))

    leaves_next : All (SameNext nodes new level parent) (of_row (leaves_below nodes level) l.first (l.branches ++ (branch s r.first ∷ r.branches)))
    leaves_next =
        subst (λ (t : List Place). All (λ x. next_at new x ≡ next_at nodes x) t)
        (sym (of_row_append (leaves_below nodes level) l.first xs m ys) ∙ ap (λ (bs : List Branch). of_row (leaves_below nodes level) l.first bs) (sym whole))
        (All-append (λ x. next_at new x ≡ next_at nodes x) (of_row (leaves_below nodes level) l.first xs) (of_row (leaves_below nodes level) m.place ys) row_p.next row_q.next)

    pub inner_even : (e f : Entry) → Alters same_index nodes new (suc level) p (branch e q ∷ []) (branch f q ∷ []) []
    inner_even e f =
        let same_leaves = are (leaves_below nodes level) (leaves_below new level) row_p.leaves row_q.leaves in
        record {
          held = are (held_below nodes level) (held_below new level) row_p.held row_q.held;
          first_leaf = λ end. ap (λ (t : List Place). first_link t end) same_leaves;
          chained = λ end c.
              (subst (λ (t : List Place). AreChained new t end) (sym same_leaves)
              (chained_next nodes new level parent (of_row (leaves_below nodes (suc level)) p (branch e q ∷ [])) end
              (subst (λ (t : List Place). All (λ x. next_at new x ≡ next_at nodes x) t) (were (leaves_below nodes level)) leaves_next) c));
          places = λ t.
              (let same = ap (λ (ps : List Place). times t ps) (are (nodes_below nodes level) (nodes_below new level) row_p.places row_q.places) in
              let np : List Place = flat_map (λ link. nodes_below new level (led_to link)) (children_of (new p)) in
              let nq : List Place = flat_map (λ link. nodes_below new level (led_to link)) (children_of (new q)) in
              let op : List Place = flat_map (λ link. nodes_below nodes level (led_to link)) (children_of (nodes p)) in
              let oq : List Place = flat_map (λ link. nodes_below nodes level (led_to link)) (children_of (nodes q)) in
              let a = times_append t np (nq ++ []) in
              let b = times_append t op (oq ++ []) in
              let c = times_append t (p ∷ np) ((q ∷ nq) ++ []) in
              let d = times_append t (p ∷ op) ((q ∷ oq) ++ []) in
              omega arith);
          rows = λ k. left_same (rows_even nodes new k level p q (are (row_below nodes k level) (row_below new k level) (row_p.rows k) (row_q.rows k)));
        }

  -- made one
  module _ (more : 8 ≤ length (l.branches ++ (branch s r.first ∷ r.branches))) (few : length (l.branches ++ (branch s r.first ∷ r.branches)) ≤ 16)
      (links_p : List ℕ) (has_p : HasLinks links_p l.first (l.branches ++ (branch s r.first ∷ r.branches)))
      (now_p : new p ≡ Some (reordered (map entry_of (l.branches ++ (branch s r.first ∷ r.branches))) links_p l.node))
      (carried_p : All (IsCarried nodes new level p) (l.first ∷ map place_in (l.branches ++ (branch s r.first ∷ r.branches)))) where
    row_one : CarriedRow nodes new level p l.first (l.branches ++ (branch s r.first ∷ r.branches)) low high
    row_one = carried_row nodes new level p l.room l.first (l.branches ++ (branch s r.first ∷ r.branches)) low high any_joint carried_p

    open_one : Opened new level (Some parent) low high p
    open_one =
        opened_row new level (Some parent) low high p l.node links_p l.first (l.branches ++ (branch s r.first ∷ r.branches)) now_p l.room l.of.level_is l.of.parent_is l.of.stands l.inner.next has_p
        entries_joint numbers_joint more few row_one.row

    pub inner_one_row : Row new (suc level) (Some parent) low p [] high
    inner_one_row = close_node new level (Some parent) low high p open_one

    one_is : {A : Type 0} (g h : Option Place → List A) → of_row h l.first (l.branches ++ (branch s r.first ∷ r.branches)) ≡ of_row g l.first (l.branches ++ (branch s r.first ∷ r.branches))
        → flat_map (λ link. h (led_to link)) (children_of (new p)) ++ []
        ≡ flat_map (λ link. g (led_to link)) (children_of (nodes p)) ++ (flat_map (λ link. g (led_to link)) (children_of (nodes q)) ++ [])
    unfolding open_one opened_row
    one_is {A} g h same =
        append-nil (flat_map (λ link. h (led_to link)) (children_of (new p))) ∙ (gathered h new level (Some parent) low high p open_one ∙ (same ∙ were g))

    pub inner_one : (e : Entry) → Alters same_index nodes new (suc level) p (branch e q ∷ []) [] (q ∷ [])
    inner_one e =
        let same_leaves = one_is (leaves_below nodes level) (leaves_below new level) row_one.leaves in
        record {
          held = one_is (held_below nodes level) (held_below new level) row_one.held;
          first_leaf = λ end. ap (λ (t : List Place). first_link t end) same_leaves;
          chained = λ end c.
              (subst (λ (t : List Place). AreChained new t end) (sym same_leaves)
              (chained_next nodes new level parent (of_row (leaves_below nodes (suc level)) p (branch e q ∷ [])) end
              (subst (λ (t : List Place). All (λ x. next_at new x ≡ next_at nodes x) t) (were (leaves_below nodes level)) row_one.next) c));
          places = λ t.
              (let same = ap (λ (ps : List Place). times t ps) (one_is (nodes_below nodes level) (nodes_below new level) row_one.places) in
              let np : List Place = flat_map (λ link. nodes_below new level (led_to link)) (children_of (new p)) in
              let op : List Place = flat_map (λ link. nodes_below nodes level (led_to link)) (children_of (nodes p)) in
              let oq : List Place = flat_map (λ link. nodes_below nodes level (led_to link)) (children_of (nodes q)) in
              let a = times_append t op (oq ++ []) in
              let b = times_append t np [] in
              let c = times_append t (p ∷ np) [] in
              let d = times_append t (p ∷ op) ((q ∷ oq) ++ []) in
              omega arith);
          rows = λ k. rows_one nodes new k level p q (one_is (row_below nodes k level) (row_below new k level) (row_one.rows k));
        }
