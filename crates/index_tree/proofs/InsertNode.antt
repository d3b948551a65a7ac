-- A node with a row of children, and what a longer row makes of it.
use Rattle.std.proofs.Common.{◌≡◌, ◌≢◌, ℕ, zero, suc, ◌+◌, ◌-◌, ◌<◌, ◌≤◌, ◌^◌, List, [], ◌∷◌, ◌++◌, All, length, take, drop, map, Option, Some, None, refl, sym, ap, subst, ◌∙◌, arith, length-append, option_map}
use Rattle.std.specs.List.{flat_map, insert}
use Rattle.std.proofs.lemmas.List.{append-nil, length-take-le, length-drop, length-map, take-append-drop, take-map, drop-map, map-append, take_at, drop_at}
use Rattle.std.proofs.lemmas.List.Edits.{insert-append_left}
use Rattle.std.proofs.lemmas.List.Elements.{All-cons, All-head, All-map, All-nil, All-tail, All-take, All-weaker}
use Rattle.regions.specs.declared.place.Place.{Place}
use Rattle.tree_nodes.specs.Nodes.{Entry, TreeNode, IsEntry, no_place}
use Rattle.tree_nodes.specs.Order.{AreRising}
use Rattle.index_tree.specs.Indexes.{with_number}
use Rattle.regions.specs.Places.{HasRoom, led_to, link_to}
use Rattle.index_tree.specs.Links.{Nodes, with_parent}
use Rattle.index_tree.specs.Limits.{fewest_entries}
use Rattle.index_tree.specs.Trees.{IsFrom, IsSubtree, IsUpTo, children_of, entries_of, held_below, leaves_below, next_at, next_in, nodes_below}
use Rattle.index_tree.specs.Inserts.{AreChained, Branch, IsSeparator, Row, Spread, entry_of, first_link, of_row, place_in, times}
use Rattle.index_tree.proofs.Frame.{AgreeBelow, Agrees, below_children, frame_held, frame_leaves, frame_nodes, frame_subtree, nodes_from}
use Rattle.place_lemmas.proofs.Places.{some_none}
use Rattle.index_tree.proofs.FrameRows.{Opened, close_node, gathered, links_of, row_map, row_same}
use Rattle.index_tree.proofs.InsertRows.{IsAbove, RowKeys, above_from, chained_agree, row_agree, row_keys, row_leaves_among, times_append}

-- ---- a row, and the node above it

-- what the node at the place gathers of its children
pub node_gathers : {A : Type 0} (g : Option Place → List A) (nodes : Nodes) (level : ℕ) (parent : Option Place) (low high : Option (List ℕ)) (p : Place)
    (o : Opened nodes level parent low high p) → flat_map (λ link. g (led_to link)) (children_of (nodes p)) ++ [] ≡ of_row g o.first o.branches
node_gathers {A} g nodes level parent low high p o =
    append-nil (flat_map (λ link. g (led_to link)) (children_of (nodes p))) ∙ gathered g nodes level parent low high p o

-- a row that became another below one node
pub spread_above : (nodes new : Nodes) (level : ℕ) (parent : Option Place) (low high : Option (List ℕ)) (p : Place) (key : List ℕ) (number : ℕ) (used : List Place)
    (o : Opened nodes level parent low high p) (n : Opened new level parent low high p) → n.first ≡ o.first
    → Spread nodes new level (Some p) low high o.first o.branches n.branches key number used → Spread nodes new (suc level) parent low high p [] [] key number used
spread_above nodes new level parent low high p key number used o n same s =
    let now : (g : Option Place → List Place) → flat_map (λ link. g (led_to link)) (children_of (new p)) ++ [] ≡ of_row g o.first n.branches =
    λ g. node_gathers g new level parent low high p n ∙ ap (λ (q : Place). of_row g q n.branches) same in
    record {
      row = close_node new level parent low high p n;
      held =
          node_gathers (held_below new level) new level parent low high p n
          ∙ (ap (λ (q : Place). of_row (held_below new level) q n.branches) same
          ∙ (s.held ∙ ap (λ (t : List Entry). with_number key number t) (sym (node_gathers (held_below nodes level) nodes level parent low high p o))));
      first_leaf = λ end.
          (ap (λ (t : List Place). first_link t end) (now (leaves_below new level))
          ∙ (s.first_leaf end ∙ ap (λ (t : List Place). first_link t end) (sym (node_gathers (leaves_below nodes level) nodes level parent low high p o))));
      chained = λ end c.
          (subst (λ (t : List Place). AreChained new t end) (sym (now (leaves_below new level)))
          (s.chained end (subst (λ (t : List Place). AreChained nodes t end) (node_gathers (leaves_below nodes level) nodes level parent low high p o) c)));
      places = λ r.
          (let a : times r (flat_map (λ link. nodes_below new level (led_to link)) (children_of (new p)) ++ []) ≡ times r (of_row (nodes_below new level) o.first n.branches) =
          ap (λ (t : List Place). times r t) (now (nodes_below new level)) in
          let b : times r (flat_map (λ link. nodes_below nodes level (led_to link)) (children_of (nodes p)) ++ []) ≡ times r (of_row (nodes_below nodes level) o.first o.branches) =
          ap (λ (t : List Place). times r t) (node_gathers (nodes_below nodes level) nodes level parent low high p o) in
          let c = s.places r in
          omega arith);
    }

-- a row that became another, in nodes that agree with the new ones on it
pub spread_then : (nodes mid new : Nodes) (level : ℕ) (parent : Option Place) (low high : Option (List ℕ)) (first : Place) (bs cs : List Branch) (key : List ℕ) (number : ℕ) (used : List Place)
    → Spread nodes mid level parent low high first bs cs key number used → All (Agrees mid new) (of_row (nodes_below mid level) first cs)
    → Spread nodes new level parent low high first bs cs key number used
spread_then nodes mid new level parent low high first bs cs key number used s all =
    let these = row_agree mid new level first cs all in
    let held : of_row (held_below new level) first cs ≡ of_row (held_below mid level) first cs =
    row_same (held_below mid level) (held_below new level) mid level parent (AgreeBelow mid new level) (λ l h q t a. frame_held mid new level parent l h q t a) first cs low high s.row these.0 these.1 in
    let leaves : of_row (leaves_below new level) first cs ≡ of_row (leaves_below mid level) first cs =
    row_same (leaves_below mid level) (leaves_below new level) mid level parent (AgreeBelow mid new level) (λ l h q t a. frame_leaves mid new level parent l h q t a) first cs low high s.row these.0 these.1 in
    let places : of_row (nodes_below new level) first cs ≡ of_row (nodes_below mid level) first cs =
    row_same (nodes_below mid level) (nodes_below new level) mid level parent (AgreeBelow mid new level) (λ l h q t a. frame_nodes mid new level parent l h q t a) first cs low high s.row these.0 these.1 in
    record {
      row = row_map mid new level parent parent (AgreeBelow mid new level) (λ l h q t a. frame_subtree mid new level parent l h q t a) first cs low high s.row these.0 these.1;
      held = held ∙ s.held;
      first_leaf = λ end. ap (λ (t : List Place). first_link t end) leaves ∙ s.first_leaf end;
      chained = λ end c.
          (subst (λ (t : List Place). AreChained new t end) (sym leaves)
          (chained_agree mid new (of_row (leaves_below mid level) first cs) end (row_leaves_among mid (Agrees mid new) level parent first cs low high s.row all) (s.chained end c)));
      places = λ r. ap (λ (t : List Place). times r t) places ∙ s.places r;
    }

-- ---- the node's own entries and children

-- of so many and more
pub take_past : {A : Type 0} (xs ys : List A) (n m : ℕ) → length xs ≡ n → take (n + m) (xs ++ ys) ≡ xs ++ take m ys
take_past {A} [] ys n m is = ap (λ k. take k ys) {x = n + m} {y = m} (omega arith)
take_past {A} (x ∷ xs) ys n m is =
    ap (λ k. take k (x ∷ (xs ++ ys))) {x = n + m} {y = suc ((n - 1) + m)} (omega arith) ∙ ap (λ (t : List A). x ∷ t) (take_past xs ys (n - 1) m (omega arith))

pub length-links : (first : Place) (bs : List Branch) → length (links_of first bs) ≡ suc (length bs)
length-links first bs = ap suc (length-map bs (λ (b : Branch). link_to (Some b.place)))

-- a link put in behind those in front of it
pub links_inserted : (first : Place) (bs : List Branch) (i : ℕ) (b : Branch) → insert (links_of first bs) (suc i) (link_to (Some b.place)) ≡ links_of first (insert bs i b)
links_inserted first bs i b =
    let f : Branch → ℕ = λ c. link_to (Some c.place) in
    ap (λ (t : List ℕ). link_to (Some first) ∷ (t ++ f b ∷ drop i (map f bs))) (take-map f i bs)
    ∙ (ap (λ (t : List ℕ). link_to (Some first) ∷ (map f (take i bs) ++ f b ∷ t)) (drop-map f i bs)
    ∙ ap (λ (t : List ℕ). link_to (Some first) ∷ t) (sym (map-append f (take i bs) (b ∷ drop i bs))))

pub entries_inserted : (bs : List Branch) (i : ℕ) (b : Branch) → insert (map entry_of bs) i b.entry ≡ map entry_of (insert bs i b)
entries_inserted bs i b =
    ap (λ (t : List Entry). t ++ b.entry ∷ drop i (map entry_of bs)) (take-map entry_of i bs)
    ∙ (ap (λ (t : List Entry). map entry_of (take i bs) ++ b.entry ∷ t) (drop-map entry_of i bs)
    ∙ sym (map-append entry_of (take i bs) (b ∷ drop i bs)))

-- so many children, a link put in, and none behind them
module _ (children : List ℕ) (first : Place) (bs : List Branch) (i k : ℕ) (b : Branch) (within : i ≤ length bs) (as_many : length bs ≡ k) (few : k < 16) (seventeen : length children ≡ 17)
    (links : take (suc k) children ≡ links_of first bs) (others : All (λ l. l ≡ no_place) (drop (suc k) children)) where
  abbrev link : ℕ
  link = link_to (Some b.place)

  child_put : take 17 (insert children (suc i) link) ≡ links_of first (insert bs i b) ++ take (15 - k) (drop (suc k) children)
  child_put =
      let a : List ℕ = links_of first bs in
      let rest : List ℕ = drop (suc k) children in
      let parts : children ≡ a ++ rest = sym (take-append-drop (suc k) children) ∙ ap (λ (t : List ℕ). t ++ rest) links in
      let long = length-links first bs in
      let put : length (insert a (suc i) link) ≡ k + 2 =
      ap (λ (t : List ℕ). length t) (links_inserted first bs i b) ∙ (length-links first (insert bs i b) ∙ (let x = length-append (take i bs) (b ∷ drop i bs) in let y = length-take-le i bs within in let z = length-drop i bs in omega arith)) in
      ap (λ (t : List ℕ). take 17 (insert t (suc i) link)) parts
      ∙ (ap (λ (t : List ℕ). take 17 t) (insert-append_left a rest (suc i) link (omega arith))
      ∙ (ap (λ m. take m (insert a (suc i) link ++ rest)) {x = 17} {y = (k + 2) + (15 - k)} (omega arith)
      ∙ (take_past (insert a (suc i) link) rest (k + 2) (15 - k) put
      ∙ ap (λ (t : List ℕ). t ++ take (15 - k) rest) (links_inserted first bs i b))))

  length-put : length (links_of first (insert bs i b)) ≡ k + 2
  length-put = length-links first (insert bs i b) ∙ (let x = length-append (take i bs) (b ∷ drop i bs) in let y = length-take-le i bs within in let z = length-drop i bs in omega arith)

  pub put_links : take (k + 2) (take 17 (insert children (suc i) link)) ≡ links_of first (insert bs i b)
  put_links = ap (λ (t : List ℕ). take (k + 2) t) child_put ∙ take_at (links_of first (insert bs i b)) (take (15 - k) (drop (suc k) children)) (k + 2) length-put

  pub put_others : All (λ l. l ≡ no_place) (drop (k + 2) (take 17 (insert children (suc i) link)))
  put_others =
      subst (λ (t : List ℕ). All (λ l. l ≡ no_place) t) (sym (ap (λ (t : List ℕ). drop (k + 2) t) child_put ∙ drop_at (links_of first (insert bs i b)) (take (15 - k) (drop (suc k) children)) (k + 2) length-put))
      (All-take (λ l. l ≡ no_place) (15 - k) (drop (suc k) children) others)

  pub put_seventeen : length (take 17 (insert children (suc i) link)) ≡ 17
  put_seventeen =
      ap (λ (t : List ℕ). length t) child_put
      ∙ (length-append (links_of first (insert bs i b)) (take (15 - k) (drop (suc k) children))
      ∙ (let x = length-put in let y = length-drop (suc k) children in let z = length-take-le (15 - k) (drop (suc k) children) (omega arith) in omega arith))

-- ---- a node with a row of children

pub all_unmap : {A B : Type 0} (P : B → Type 0) (f : A → B) (xs : List A) → All P (map f xs) → All (λ x. P (f x)) xs
all_unmap P f [] all = All-nil (λ x. P (f x))
all_unmap P f (x ∷ xs) all = All-cons (λ y. P (f y)) x xs (All-head P (f x) (map f xs) all) (all_unmap P f xs (All-tail P (f x) (map f xs) all))

pub all_both : {A : Type 0} (P Q : A → Type 0) (xs : List A) → All P xs → All Q xs → All (λ x. P x × Q x) xs
all_both P Q [] p q = All-nil (λ x. P x × Q x)
all_both P Q (x ∷ xs) p q = All-cons (λ y. P y × Q y) x xs (All-head P x xs p, All-head Q x xs q) (all_both P Q xs (All-tail P x xs p) (All-tail Q x xs q))

-- the entries of an inner node separate its children
pub separators_of : (nodes : Nodes) (level : ℕ) (parent : Option Place) (low high : Option (List ℕ)) (p : Place) (o : Opened nodes level parent low high p) → All IsSeparator o.branches
separators_of nodes level parent low high p o =
    all_both (λ (b : Branch). IsEntry b.entry) (λ (b : Branch). b.entry.number ≡ 0) o.branches
    (all_unmap IsEntry entry_of o.branches (subst (λ (es : List Entry). All IsEntry es) o.entries o.of.stands.entries))
    (all_unmap (λ (e : Entry). e.number ≡ 0) entry_of o.branches (subst (λ (es : List Entry). All (λ (e : Entry). e.number ≡ 0) es) o.entries o.inner.numbers))

abbrev pub opened_of : (new : Nodes) (level : ℕ) (parent : Option Place) (low high : Option (List ℕ)) (p : Place) (node : TreeNode) (first : Place) (bs : List Branch)
    → new p ≡ Some node → HasRoom p → node.level ≡ suc level → node.parent ≡ link_to parent → node.parent < 2 ^ 64 → node.level < 2 ^ 16
    → node.entries ≡ map entry_of bs → length bs ≤ 16 → 1 ≤ length bs → (parent ≢ None → fewest_entries ≤ length bs)
    → length node.children ≡ 17 → All (λ l. l < 2 ^ 64) node.children → take (suc (length bs)) node.children ≡ links_of first bs → All (λ l. l ≡ no_place) (drop (suc (length bs)) node.children)
    → node.next_leaf ≡ no_place → All IsSeparator bs → Row new level (Some p) low first bs high → Opened new level parent low high p
opened_of new level parent low high p node first bs is room level_is parent_is small_parent small_level entries few some many seventeen small links others next separators row =
    let keys : RowKeys low high (map entry_of bs) = row_keys new p level first bs low high row in
    let as_many : length node.entries ≡ length bs = ap (λ (es : List Entry). length es) entries ∙ length-map bs entry_of in
    let all_of : (P : Entry → Type 0) → All P (map entry_of bs) → All P node.entries = λ P all. subst (λ (es : List Entry). All P es) (sym entries) all in
    record {
      node = node;
      is = is;
      room = room;
      of = record {
        level_is = level_is;
        parent_is = parent_is;
        stands = record {
          parent = small_parent;
          level = small_level;
          next_leaf = subst (λ n. n < 2 ^ 64) (sym next) (omega arith);
          few = omega arith;
          entries = all_of IsEntry (All-map IsEntry entry_of bs (All-weaker IsSeparator (λ (b : Branch). IsEntry b.entry) (λ b h. h.0) bs separators));
          children = seventeen;
          places = small;
        };
        rising = subst AreRising (sym entries) keys.rising;
        from = all_of (IsFrom low) (All-weaker (IsAbove low) (IsFrom low) (λ e h. above_from low e h) (map entry_of bs) keys.above);
        up_to = all_of (IsUpTo high) keys.up;
        many = λ some_parent. (let m = many some_parent in omega arith);
      };
      inner = record {
        some = omega arith;
        numbers = all_of (λ (e : Entry). e.number ≡ 0) (All-map (λ (e : Entry). e.number ≡ 0) entry_of bs (All-weaker IsSeparator (λ (b : Branch). b.entry.number ≡ 0) (λ b h. h.1) bs separators));
        next = next;
        others = subst (λ n. All (λ l. l ≡ no_place) (drop (suc n) node.children)) (sym as_many) others;
      };
      first = first;
      branches = bs;
      entries = entries;
      links = ap (λ n. take (suc n) node.children) as_many ∙ links;
      row = row;
    }

-- a half of an inner node: so many entries and children, under a parent
pub record Half (level link : ℕ) (first : Place) (bs : List Branch) (node : TreeNode) : Type 0 where
  pub level_is : node.level ≡ suc level
  pub small_level : node.level < 2 ^ 16
  pub parent_is : node.parent ≡ link
  pub small_parent : node.parent < 2 ^ 64
  pub entries : node.entries ≡ map entry_of bs
  pub seventeen : length node.children ≡ 17
  pub small : All (λ l. l < 2 ^ 64) node.children
  pub links : take (suc (length bs)) node.children ≡ links_of first bs
  pub others : All (λ l. l ≡ no_place) (drop (suc (length bs)) node.children)
  pub next : node.next_leaf ≡ no_place

-- the places of a row, and what lies below them
abbrev pub roots : Place → List Branch → List Place
roots first bs = first ∷ map place_in bs

abbrev pub below_if : Nodes → ℕ → Option Place → List Place
below_if nodes level None = []
below_if nodes level (Some q) = below_children nodes level q

pub roots_and_below : (nodes : Nodes) (level : ℕ) (r first : Place) (bs : List Branch)
    → times r (of_row (nodes_below nodes level) first bs) ≡ times r (roots first bs) + times r (of_row (below_if nodes level) first bs)
roots_and_below nodes level r first [] =
    let a = times_append r (nodes_below nodes level (Some first)) [] in
    let b = times_append r (below_children nodes level first) [] in
    let c : times r (nodes_below nodes level (Some first)) ≡ times r (first ∷ below_children nodes level first) = ap (λ (t : List Place). times r t) (nodes_from nodes level first) in
    omega arith
roots_and_below nodes level r first (b ∷ bs) =
    let a = times_append r (nodes_below nodes level (Some first)) (of_row (nodes_below nodes level) b.place bs) in
    let d = times_append r (below_children nodes level first) (of_row (below_if nodes level) b.place bs) in
    let c : times r (nodes_below nodes level (Some first)) ≡ times r (first ∷ below_children nodes level first) = ap (λ (t : List Place). times r t) (nodes_from nodes level first) in
    let e = roots_and_below nodes level r b.place bs in
    omega arith

pub next_adopted : (m : Option TreeNode) (l : ℕ) → next_in (option_map (with_parent l) m) ≡ next_in m
next_adopted None l = refl
next_adopted (Some node) l = refl

pub chained_same : (nodes new : Nodes) (ps : List Place) (end : ℕ) → All (λ r. next_at new r ≡ next_at nodes r) ps → AreChained nodes ps end → AreChained new ps end
chained_same nodes new [] end all c = tt
chained_same nodes new (p ∷ ps) end all c =
    (All-head (λ r. next_at new r ≡ next_at nodes r) p ps all ∙ c.0, chained_same nodes new ps end (All-tail (λ r. next_at new r ≡ next_at nodes r) p ps all) c.1)

pub many_below : (nodes : Nodes) (level : ℕ) (p : Place) (low high : Option (List ℕ)) (q : Place) → IsSubtree nodes level (Some p) low high q → fewest_entries ≤ length (entries_of (nodes q))
many_below nodes zero p low high q (node, is, here, of, none) =
    subst (λ (o : Option TreeNode). fewest_entries ≤ length (entries_of o)) (sym is) (of.many (λ e. some_none {a = p} refl e))
many_below nodes (suc level) p low high q (node, is, here, of, inner, children) =
    subst (λ (o : Option TreeNode). fewest_entries ≤ length (entries_of o)) (sym is) (of.many (λ e. some_none {a = p} refl e))
