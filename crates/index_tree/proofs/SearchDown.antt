-- What is held below a node, child by child.
use Rattle.std.proofs.Common.{◌≡◌, ℕ, zero, suc, ◌+◌, ◌-◌, ◌<◌, ◌≤◌, inl, inr, false, cond, get_or, refl, sym, ap, subst, ◌∙◌, arith, append-nil, is_lt}
use Rattle.std.specs.Prelude.{List, [], ◌∷◌, ◌++◌, All, length, take, drop, Option, Some, None}
use Rattle.std.specs.List.{flat_map}
use Rattle.std.proofs.lemmas.Grind.{flat_map-append}
use borrow.Author.Tests.{lt-ltb}
use Rattle.std.proofs.lemmas.Bool.Decides.{eqb_tells}
use Rattle.std.proofs.lemmas.List.{length-take-le, get_or-take, get_or-drop, length-drop, take-append-drop, drop_more}
use Rattle.std.proofs.lemmas.List.Elements.{All-get_or, All-weaker, All-from_get_or}
use Rattle.regions.specs.declared.place.Place.{Place}
use Rattle.tree_nodes.specs.Nodes.{Entry, TreeNode, child_at, entry_at, no_entry, no_place}
use Rattle.tree_nodes.specs.Order.{IsBelow, key_cmp}
use Rattle.regions.specs.Places.{led_to, link_to, no_link, place_of_link}
use Rattle.index_tree.specs.Links.{Nodes}
use Rattle.index_tree.specs.Trees.{IsBetween, IsNodeOf, IsSubtree, IsUpTo, children_of, entries_of, held_below, leaves_below, left_of, right_of}
use Rattle.index_tree.specs.Ways.{AllAbove, AllBelow, LeadsTo, held_in}
use Rattle.place_lemmas.proofs.Places.{leads_on, some_is, some_none}
use Rattle.index_tree.proofs.Moved.{room_of}
use Rattle.index_tree.proofs.Bounds.{held_between}
use Rattle.index_tree.proofs.SearchLists.{IsBefore, all_gathered, rising_at}
use Rattle.index_tree.proofs.KeyOrder.{less_from, less_less}

-- where the number of a place leads
pub led_place : (link : ℕ) (p q : Place) → p ≡ place_of_link link → led_to link ≡ Some q → p ≡ q
led_place link p q is led = elim (eqb_tells link no_link) [
  | inl e ↦ some_none led (ap (λ b. cond b None (Some (place_of_link link))) e.0)
  | inr far ↦ is ∙ some_is (sym (ap (λ b. cond b None (Some (place_of_link link))) far.0) ∙ led)
]

-- a list at one of its elements
pub split_at : {A : Type 0} (xs : List A) (i : ℕ) (d : A) → i < length xs → xs ≡ take i xs ++ (get_or xs i d ∷ drop (i + 1) xs)
split_at xs i d within = sym (take-append-drop i xs) ∙ ap (λ t. take i xs ++ t) (drop_more xs i d within)

pub gathered_twice : {A : Type 0} (f : Place → List A) (g : ℕ → List Place) (xs : List ℕ) → flat_map f (flat_map g xs) ≡ flat_map (λ x. flat_map f (g x)) xs
gathered_twice f g [] = refl
gathered_twice f g (x ∷ xs) = flat_map-append f (g x) (flat_map g xs) ∙ ap (λ t. flat_map f (g x) ++ t) (gathered_twice f g xs)

pub gathered_same : {A : Type 0} (f g : ℕ → List A) (xs : List ℕ) → ((x : ℕ) → f x ≡ g x) → flat_map f xs ≡ flat_map g xs
gathered_same f g [] same = refl
gathered_same f g (x ∷ xs) same = ap (λ t. t ++ flat_map f xs) (same x) ∙ ap (λ t. g x ++ t) (gathered_same f g xs same)

module _ (nodes : Nodes) where
  -- the leaves hold what is held below a place
  pub held_in_leaves : (level : ℕ) (o : Option Place) → held_in nodes (leaves_below nodes level o) ≡ held_below nodes level o
  held_in_leaves zero None = refl
  held_in_leaves (suc level) None = refl
  held_in_leaves zero (Some p) = append-nil (entries_of (nodes p))
  held_in_leaves (suc level) (Some p) =
      gathered_twice (λ (q : Place). entries_of (nodes q)) (λ link. leaves_below nodes level (led_to link)) (children_of (nodes p))
      ∙ gathered_same (λ link. held_in nodes (leaves_below nodes level (led_to link))) (λ link. held_below nodes level (led_to link)) (children_of (nodes p))
      (λ link. held_in_leaves level (led_to link))

  abbrev pub Children : ℕ → Place → Option (List ℕ) → Option (List ℕ) → TreeNode → Type 0
  Children level p low high node =
      (i : ℕ) → i ≤ length node.entries → (q : Place) × (child_at node i ≡ link_to (Some q)) × IsSubtree nodes level (Some p) (left_of node low i) (right_of node high i) q

  -- an inner node whose children are trees
  module _ (level : ℕ) (parent : Option Place) (low high : Option (List ℕ)) (p : Place) (node : TreeNode) (of : IsNodeOf (suc level) parent low high node)
      (children : Children level p low high node) where
    abbrev pub links : List ℕ
    links = take (suc (length node.entries)) node.children

    pub length-links : length links ≡ suc (length node.entries)
    length-links = let many = of.stands.children in let few = of.stands.few in length-take-le (suc (length node.entries)) node.children (omega (arith, many, few))

    -- the place of a child, and what is gathered below it
    abbrev pub child_place : (i : ℕ) → i ≤ length node.entries → Place
    child_place i within = (children i within).0

    pub link_is : (i : ℕ) (within : i ≤ length node.entries) → get_or links i no_place ≡ link_to (Some (child_place i within))
    link_is i within = get_or-take (suc (length node.entries)) node.children i no_place (omega arith) ∙ (children i within).1

    pub led_on : (i : ℕ) (within : i ≤ length node.entries) → led_to (link_to (Some (child_place i within))) ≡ Some (child_place i within)
    led_on i within = leads_on (Some (child_place i within)) (room_of nodes level (Some p) (left_of node low i) (right_of node high i) (child_place i within) (children i within).2)

    pub child_is : (i : ℕ) (within : i ≤ length node.entries) → led_to (get_or links i no_place) ≡ Some (child_place i within)
    child_is i within = ap (λ l. led_to l) (link_is i within) ∙ led_on i within

    -- what holds of what is gathered below each child of some
    of_some : {A : Type 0} (P : A → Type 0) (g : Option Place → List A) (some : List ℕ) (n : ℕ) → ((j : ℕ) → j < length some → (n + j ≤ length node.entries) × (get_or some j no_place ≡ get_or links (n + j) no_place))
        → ((j : ℕ) (within : j ≤ length node.entries) → n ≤ j → j < n + length some → All P (g (Some (child_place j within)))) → All P (flat_map (λ link. g (led_to link)) some)
    of_some P g some n are each =
        all_gathered P (λ link. g (led_to link)) some
        (All-from_get_or (λ link. All P (g (led_to link))) some no_place
        (λ j short.
        let within : n + j ≤ length node.entries = (are j short).0 in
        subst (λ o. All P (g o)) (sym (ap (λ l. led_to l) (are j short).1 ∙ child_is (n + j) within)) (each (n + j) within (omega arith) (omega arith))))

    -- the children in front of one, and those behind it
    pub of_front : {A : Type 0} (P : A → Type 0) (g : Option Place → List A) (i : ℕ) → i ≤ length node.entries
        → ((j : ℕ) (within : j ≤ length node.entries) → j < i → All P (g (Some (child_place j within)))) → All P (flat_map (λ link. g (led_to link)) (take i links))
    of_front P g i within each =
        let size : length (take i links) ≡ i = length-take-le i links (let long = length-links in omega (arith, long)) in
        of_some P g (take i links) 0
        (λ j short. (omega (arith, size), get_or-take i links j no_place (omega (arith, size)) ∙ ap (λ n. get_or links n no_place) {x = j} {y = 0 + j} (omega arith)))
        (λ j inside from short. each j inside (omega (arith, size)))

    pub of_behind : {A : Type 0} (P : A → Type 0) (g : Option Place → List A) (i : ℕ) → i ≤ length node.entries
        → ((j : ℕ) (within : j ≤ length node.entries) → i < j → All P (g (Some (child_place j within)))) → All P (flat_map (λ link. g (led_to link)) (drop (i + 1) links))
    of_behind P g i within each =
        let size : length (drop (i + 1) links) + (i + 1) ≡ suc (length node.entries) = (let long = length-links in let less = length-drop (i + 1) links in omega (arith, long, less)) in
        of_some P g (drop (i + 1) links) (i + 1)
        (λ j short. (omega (arith, size), get_or-drop (i + 1) links j no_place))
        (λ j inside from short. each j inside (omega arith))

    pub of_all : {A : Type 0} (P : A → Type 0) (g : Option Place → List A) → ((j : ℕ) (within : j ≤ length node.entries) → All P (g (Some (child_place j within))))
        → All P (flat_map (λ link. g (led_to link)) links)
    of_all P g each =
        let long = length-links in
        of_some P g links 0 (λ j short. (omega (arith, long), ap (λ n. get_or links n no_place) {x = j} {y = 0 + j} (omega arith))) (λ j inside from short. each j inside)

    -- what is gathered below the children: in front of one, below it, and behind it
    pub gathered_at : {A : Type 0} (g : Option Place → List A) (i : ℕ) (within : i ≤ length node.entries)
        → flat_map (λ link. g (led_to link)) links
        ≡ flat_map (λ link. g (led_to link)) (take i links) ++ (g (Some (child_place i within)) ++ flat_map (λ link. g (led_to link)) (drop (i + 1) links))
    gathered_at {A} g i within =
        let f : ℕ → List A = λ link. g (led_to link) in
        ap (λ (ls : List ℕ). flat_map f ls) (split_at links i no_place (let long = length-links in omega (arith, long)))
        ∙ (flat_map-append f (take i links) (get_or links i no_place ∷ drop (i + 1) links)
        ∙ ap (λ (o : Option Place). flat_map f (take i links) ++ (g o ++ flat_map f (drop (i + 1) links))) (child_is i within))

    -- ---- in which order the children hold their entries

    right_is : (i : ℕ) → i < length node.entries → right_of node high i ≡ Some (entry_at node i).key
    right_is i less = ap (λ b. cond b (Some (entry_at node i).key) high) (lt-ltb i (length node.entries) less)

    -- the entries of a child lie between the keys beside it
    pub child_between : (i : ℕ) (within : i ≤ length node.entries) → All (IsBetween (left_of node low i) (right_of node high i)) (held_below nodes level (Some (child_place i within)))
    child_between i within = held_between nodes level (Some p) (left_of node low i) (right_of node high i) (child_place i within) (children i within).2

    -- below the key on its right, and not below that on its left
    pub child_under : (i : ℕ) (within : i ≤ length node.entries) → i < length node.entries → All (λ e. IsBelow e.key (entry_at node i).key) (held_below nodes level (Some (child_place i within)))
    child_under i within less =
        All-weaker (IsBetween (left_of node low i) (right_of node high i)) (λ e. IsBelow e.key (entry_at node i).key)
        (λ e h. subst (λ o. IsUpTo o e) (right_is i less) h.1)
        (held_below nodes level (Some (child_place i within))) (child_between i within)

    pub child_over : (i : ℕ) (within : suc i ≤ length node.entries)
        → All (λ e. is_lt (key_cmp e.key (entry_at node i).key) ≡ false) (held_below nodes level (Some (child_place (suc i) within)))
    child_over i within =
        All-weaker (IsBetween (left_of node low (suc i)) (right_of node high (suc i))) (λ e. is_lt (key_cmp e.key (entry_at node i).key) ≡ false)
        (λ e h. h.0)
        (held_below nodes level (Some (child_place (suc i) within))) (child_between (suc i) within)

    -- each child of a rising node lies before those behind it
    pub children_apart : (i j : ℕ) (here : i ≤ length node.entries) (there : j ≤ length node.entries) → i < j
        → All (IsBefore (held_below nodes level (Some (child_place j there)))) (held_below nodes level (Some (child_place i here)))
    children_apart i zero here there less = absurd (omega arith)
    children_apart i (suc j) here there less =
        All-weaker (λ e. IsBelow e.key (entry_at node i).key) (IsBefore (held_below nodes level (Some (child_place (suc j) there))))
        (λ e under.
        let under_left : IsBelow e.key (entry_at node j).key = up_to e under in
        All-weaker (λ g. is_lt (key_cmp g.key (entry_at node j).key) ≡ false) (λ g. IsBelow e.key g.key)
        (λ g over. less_from e.key (entry_at node j).key g.key under_left over)
        (held_below nodes level (Some (child_place (suc j) there))) (child_over j there))
        (held_below nodes level (Some (child_place i here))) (child_under i here (omega arith))
      where
        up_to : (e : Entry) → IsBelow e.key (entry_at node i).key → IsBelow e.key (entry_at node j).key
        up_to e under = elim (eqb_tells i j) [
          | inl same ↦ subst (λ n. IsBelow e.key (entry_at node n).key) same.1 under
          | inr other ↦
              (let far = other.1 in
              less_less e.key (entry_at node i).key (entry_at node j).key under (rising_at node.entries i j of.rising (omega (arith, less, far)) (omega arith)))
        ]

    -- ---- a key that leads to a child

    module _ (key : List ℕ) (i : ℕ) (leads : LeadsTo node key i) where
      pub front_below : (g : Option Place → List Entry) → ((o : Option Place) → g o ≡ held_below nodes level o) → AllBelow key (flat_map (λ link. g (led_to link)) (take i links))
      front_below g same =
          of_front (λ e. IsBelow e.key key) g i leads.within
          (λ j inside less.
          let upto : is_lt (key_cmp key (entry_at node j).key) ≡ false =
          subst (λ (e : Entry). is_lt (key_cmp key e.key) ≡ false) (get_or-take i node.entries j no_entry less)
          (All-get_or (λ e. is_lt (key_cmp key e.key) ≡ false) (take i node.entries) j no_entry
          (let size = length-take-le i node.entries leads.within in omega (arith, size, less)) leads.upto) in
          subst (λ es. AllBelow key es) (sym (same (Some (child_place j inside))))
          (All-weaker (λ e. IsBelow e.key (entry_at node j).key) (λ e. IsBelow e.key key)
          (λ e under. less_from e.key (entry_at node j).key key under upto)
          (held_below nodes level (Some (child_place j inside))) (child_under j inside (let w = leads.within in omega (arith, less, w)))))

      pub behind_above : (g : Option Place → List Entry) → ((o : Option Place) → g o ≡ held_below nodes level o) → AllAbove key (flat_map (λ link. g (led_to link)) (drop (i + 1) links))
      behind_above g same =
          of_behind (λ e. IsBelow key e.key) g i leads.within (λ j inside more. at_child j inside more)
        where
          at_child : (j : ℕ) (inside : j ≤ length node.entries) → i < j → AllAbove key (g (Some (child_place j inside)))
          at_child zero inside more = absurd (omega arith)
          at_child (suc j) inside more =
              let size = length-drop i node.entries in
              let over : IsBelow key (entry_at node j).key =
              subst (λ (e : Entry). IsBelow key e.key) (get_or-drop i node.entries (j - i) no_entry ∙ ap (λ n. get_or node.entries n no_entry) {x = i + (j - i)} {y = j} (omega arith))
              (All-get_or (λ e. IsBelow key e.key) (drop i node.entries) (j - i) no_entry (omega (arith, size)) leads.above) in
              subst (λ es. AllAbove key es) (sym (same (Some (child_place (suc j) inside))))
              (All-weaker (λ e. is_lt (key_cmp e.key (entry_at node j).key) ≡ false) (λ e. IsBelow key e.key)
              (λ e above. less_from key (entry_at node j).key e.key over above)
              (held_below nodes level (Some (child_place (suc j) inside))) (child_over j inside))
