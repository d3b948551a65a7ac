-- The children of a node in a row: the first one, and each further one behind the key on its left.
use Rattle.std.proofs.Common.{◌≡◌, ℕ, zero, suc, ◌<◌, ◌≤◌, inl, inr, cond, List, [], ◌∷◌, ◌++◌, All, length, take, map, get_or, Option, Some, refl, sym, ap, subst, ◌∙◌, arith}
use Rattle.std.specs.List.{flat_map}
use Rattle.std.proofs.lemmas.Bool.{cases_lt, lt-ltb, le-ltb}
use Rattle.std.proofs.lemmas.List.{length-map, get_or-take}
use Rattle.std.proofs.lemmas.List.Elements.{All-head, All-tail}
use Rattle.regions.specs.declared.place.Place.{Place}
use Rattle.tree_nodes.specs.Nodes.{Entry, TreeNode, no_entry, no_place}
use Rattle.regions.specs.Places.{HasRoom, led_to, link_to}
use Rattle.index_tree.specs.Links.{Nodes}
use Rattle.index_tree.specs.Trees.{IsInner, IsNodeOf, IsSubtree, children_of, left_of, right_of}
use Rattle.index_tree.specs.Inserts.{Branch, Row, entry_of, of_row}
use Rattle.place_lemmas.proofs.Places.{leads_on}
use Rattle.index_tree.proofs.Moved.{room_of}

abbrev pub branch : Entry → Place → Branch
branch e q = record { entry = e; place = q }

abbrev pub links_of : Place → List Branch → List ℕ
links_of first bs = link_to (Some first) ∷ map (λ (b : Branch). link_to (Some b.place)) bs

-- the keys beside a child, by the entries
abbrev pub left_in : Option (List ℕ) → List Entry → ℕ → Option (List ℕ)
left_in low es zero = low
left_in low [] (suc i) = low
left_in low (e ∷ es) (suc i) = left_in (Some e.key) es i

abbrev pub right_in : List Entry → Option (List ℕ) → ℕ → Option (List ℕ)
right_in [] high i = high
right_in (e ∷ es) high zero = Some e.key
right_in (e ∷ es) high (suc i) = right_in es high i

pub left_behind : (low : Option (List ℕ)) (es : List Entry) (i : ℕ) → i < length es → left_in low es (suc i) ≡ Some (get_or es i no_entry).key
left_behind low [] i within = absurd (omega arith)
left_behind low (e ∷ es) zero within = refl
left_behind low (e ∷ es) (suc i) within = left_behind (Some e.key) es i (omega arith)

pub left_of_in : (node : TreeNode) (low : Option (List ℕ)) (i : ℕ) → i ≤ length node.entries → left_of node low i ≡ left_in low node.entries i
left_of_in node low zero within = refl
left_of_in node low (suc i) within = sym (left_behind low node.entries i (omega arith))

pub right_within : (es : List Entry) (high : Option (List ℕ)) (i : ℕ) → i < length es → right_in es high i ≡ Some (get_or es i no_entry).key
right_within [] high i within = absurd (omega arith)
right_within (e ∷ es) high zero within = refl
right_within (e ∷ es) high (suc i) within = right_within es high i (omega arith)

pub right_past : (es : List Entry) (high : Option (List ℕ)) (i : ℕ) → length es ≤ i → right_in es high i ≡ high
right_past [] high i past = refl
right_past (e ∷ es) high zero past = absurd (omega arith)
right_past (e ∷ es) high (suc i) past = right_past es high i (omega arith)

pub right_of_in : (node : TreeNode) (high : Option (List ℕ)) (i : ℕ) → right_of node high i ≡ right_in node.entries high i
right_of_in node high i = elim (cases_lt i (length node.entries)) [
  | inl within ↦ ap (λ b. cond b (Some (get_or node.entries i no_entry).key) high) (lt-ltb i (length node.entries) within) ∙ sym (right_within node.entries high i within)
  | inr past ↦ ap (λ b. cond b (Some (get_or node.entries i no_entry).key) high) (le-ltb i (length node.entries) past) ∙ sym (right_past node.entries high i past)
]

-- ---- a node's children as a row

pub record Opened (nodes : Nodes) (level : ℕ) (parent : Option Place) (low high : Option (List ℕ)) (p : Place) : Type 0 where
  pub node : TreeNode
  pub is : nodes p ≡ Some node
  pub room : HasRoom p
  pub of : IsNodeOf (suc level) parent low high node
  pub inner : IsInner node
  pub first : Place
  pub branches : List Branch
  pub entries : node.entries ≡ map entry_of branches
  pub links : take (suc (length node.entries)) node.children ≡ links_of first branches
  pub row : Row nodes level (Some p) low first branches high

module _ (nodes : Nodes) (level : ℕ) (parent : Option Place) where
  abbrev Child : Option (List ℕ) → List Entry → List ℕ → Option (List ℕ) → ℕ → Type 0
  Child low es links high i = (q : Place) × (get_or links i no_place ≡ link_to (Some q)) × IsSubtree nodes level parent (left_in low es i) (right_in es high i) q

  abbrev Rowed : Option (List ℕ) → List Entry → List ℕ → Option (List ℕ) → Type 0
  Rowed low es links high = (first : Place) × (bs : List Branch) × (es ≡ map entry_of bs) × (take (suc (length es)) links ≡ links_of first bs) × Row nodes level parent low first bs high

  row_from : (es : List Entry) (links : List ℕ) (low high : Option (List ℕ)) → length es < length links → ((i : ℕ) → i ≤ length es → Child low es links high i) → Rowed low es links high
  row_from es [] low high long each = absurd (omega arith)
  row_from [] (l ∷ ls) low high long each =
      let here = each zero (omega arith) in
      (here.0, [], refl, ap (λ k. k ∷ []) here.1, here.2)
  row_from (e ∷ es) (l ∷ ls) low high long each =
      let here = each zero (omega arith) in
      let behind : Rowed (Some e.key) es ls high = row_from es ls (Some e.key) high (omega arith) (λ i within. each (suc i) (omega arith)) in
      (here.0, branch e behind.0 ∷ behind.1, ap (λ t. e ∷ t) behind.2, ap (λ k. k ∷ take (suc (length es)) ls) here.1 ∙ ap (λ t. link_to (Some here.0) ∷ t) behind.3, (here.2, behind.4))

  row_at : (first : Place) (bs : List Branch) (low high : Option (List ℕ)) → Row nodes level parent low first bs high → (i : ℕ) → i ≤ length bs → Child low (map entry_of bs) (links_of first bs) high i
  row_at first [] low high row zero within = (first, refl, row)
  row_at first [] low high row (suc i) within = absurd (omega arith)
  row_at first (b ∷ bs) low high row zero within = (first, refl, row.0)
  row_at first (b ∷ bs) low high row (suc i) within = row_at b.place bs (Some b.entry.key) high row.1 i (omega arith)

module _ (nodes : Nodes) (level : ℕ) (parent : Option Place) (low high : Option (List ℕ)) (p : Place) where
  pub open_node : IsSubtree nodes (suc level) parent low high p → Opened nodes level parent low high p
  open_node (node, is, room, of, inner, children) =
      let few = of.stands.few in
      let many = of.stands.children in
      let all : Rowed nodes level (Some p) low node.entries node.children high =
      row_from nodes level (Some p) node.entries node.children low high (omega (arith, few, many))
      (λ i within. (
        (children i within).0,
        (children i within).1,
        subst (λ (o : Option (List ℕ)). IsSubtree nodes level (Some p) (left_in low node.entries i) o (children i within).0) (right_of_in node high i)
            (subst (λ (o : Option (List ℕ)). IsSubtree nodes level (Some p) o (right_of node high i) (children i within).0) (left_of_in node low i within) (children i within).2),
      )) in
      record {
        node = node;
        is = is;
        room = room;
        of = of;
        inner = inner;
        first = all.0;
        branches = all.1;
        entries = all.2;
        links = all.3;
        row = all.4;
      }

  pub close_node : Opened nodes level parent low high p → IsSubtree nodes (suc level) parent low high p
  close_node o = (
    o.node,
    o.is,
    o.room,
    o.of,
    o.inner,
    λ i within.
        (let size : length o.node.entries ≡ length o.branches = ap (λ (es : List Entry). length es) o.entries ∙ length-map o.branches entry_of in
        let child = row_at nodes level (Some p) o.first o.branches low high o.row i (omega arith) in (
          child.0,
          sym (get_or-take (suc (length o.node.entries)) o.node.children i no_place (omega arith)) ∙ (ap (λ (ls : List ℕ). get_or ls i no_place) o.links ∙ child.1),
          subst (λ (r : Option (List ℕ)). IsSubtree nodes level (Some p) (left_of o.node low i) r child.0) (sym (right_of_in o.node high i))
              (subst (λ (l : Option (List ℕ)). IsSubtree nodes level (Some p) l (right_in o.node.entries high i) child.0) (sym (left_of_in o.node low i within))
              (subst (λ (es : List Entry). IsSubtree nodes level (Some p) (left_in low es i) (right_in es high i) child.0) (sym o.entries) child.2)),
        )),
  )

-- ---- what is gathered of each child

module _ (nodes : Nodes) (level : ℕ) (parent : Option Place) where
  pub row_room : (first : Place) (bs : List Branch) (low high : Option (List ℕ)) → Row nodes level parent low first bs high → HasRoom first
  row_room first [] low high row = room_of nodes level parent low high first row
  row_room first (b ∷ bs) low high row = room_of nodes level parent low (Some b.entry.key) first row.0

  pub row_gathered : {A : Type 0} (g : Option Place → List A) (first : Place) (bs : List Branch) (low high : Option (List ℕ)) → Row nodes level parent low first bs high
      → flat_map (λ link. g (led_to link)) (links_of first bs) ≡ of_row g first bs
  row_gathered {A} g first [] low high row = ap (λ (o : Option Place). g o ++ []) (leads_on (Some first) (row_room first [] low high row))
  row_gathered {A} g first (b ∷ bs) low high row =
      ap (λ (o : Option Place). g o ++ flat_map (λ link. g (led_to link)) (links_of b.place bs)) (leads_on (Some first) (row_room first (b ∷ bs) low high row))
      ∙ ap (λ (t : List A). g (Some first) ++ t) (row_gathered g b.place bs (Some b.entry.key) high row.1)

pub gathered : {A : Type 0} (g : Option Place → List A) (nodes : Nodes) (level : ℕ) (parent : Option Place) (low high : Option (List ℕ)) (p : Place)
    (o : Opened nodes level parent low high p) → flat_map (λ link. g (led_to link)) (children_of (nodes p)) ≡ of_row g o.first o.branches
gathered {A} g nodes level parent low high p o =
    ap (λ (m : Option TreeNode). flat_map (λ link. g (led_to link)) (children_of m)) o.is
    ∙ (ap (λ (ls : List ℕ). flat_map (λ link. g (led_to link)) ls) o.links ∙ row_gathered nodes level (Some p) g o.first o.branches low high o.row)

-- the children of one row as those of another
pub row_map : (nodes new : Nodes) (level : ℕ) (parent other : Option Place) (P : Place → Type 0)
    → ((low high : Option (List ℕ)) (q : Place) → IsSubtree nodes level parent low high q → P q → IsSubtree new level other low high q)
    → (first : Place) (bs : List Branch) (low high : Option (List ℕ)) → Row nodes level parent low first bs high → P first → All (λ (b : Branch). P b.place) bs
    → Row new level other low first bs high
row_map nodes new level parent other P each first [] low high row here all = each low high first row here
row_map nodes new level parent other P each first (b ∷ bs) low high row here all = (
  each low (Some b.entry.key) first row.0 here,
  row_map nodes new level parent other P each b.place bs (Some b.entry.key) high row.1 (All-head (λ (c : Branch). P c.place) b bs all) (All-tail (λ (c : Branch). P c.place) b bs all),
)

pub row_same : {A : Type 0} (g h : Option Place → List A) (nodes : Nodes) (level : ℕ) (parent : Option Place) (P : Place → Type 0)
    → ((low high : Option (List ℕ)) (q : Place) → IsSubtree nodes level parent low high q → P q → h (Some q) ≡ g (Some q))
    → (first : Place) (bs : List Branch) (low high : Option (List ℕ)) → Row nodes level parent low first bs high → P first → All (λ (b : Branch). P b.place) bs
    → of_row h first bs ≡ of_row g first bs
row_same {A} g h nodes level parent P each first [] low high row here all = ap (λ (t : List A). t ++ []) (each low high first row here)
row_same {A} g h nodes level parent P each first (b ∷ bs) low high row here all =
    ap (λ (t : List A). t ++ of_row h b.place bs) (each low (Some b.entry.key) first row.0 here)
    ∙ ap (λ (t : List A). g (Some first) ++ t)
    (row_same g h nodes level parent P each b.place bs (Some b.entry.key) high row.1 (All-head (λ (c : Branch). P c.place) b bs all) (All-tail (λ (c : Branch). P c.place) b bs all))
