-- How many keys and nodes a tree has: at least so many keys in its levels, and at most so many nodes with its keys.
use Rattle.std.proofs.Common.{◌≡◌, ℕ, zero, suc, ◌+◌, ◌-◌, ◌*◌, ◌<◌, ◌≤◌, inl, inr, List, [], ◌∷◌, ◌++◌, All, length, take, Option, Some, None, refl, sym, subst, arith, length-append}
use Rattle.std.specs.List.{flat_map}
use Rattle.std.proofs.Math.Nat.{suc-mul}
use Rattle.std.proofs.lemmas.Nat.{mul-le}
use Rattle.std.proofs.lemmas.Bool.Decides.{leb_tells}
use Rattle.std.proofs.lemmas.List.{length-take-le}
use Rattle.std.proofs.lemmas.List.Elements.{All-head, All-tail}
use Rattle.layout.specs.Sizes.{segment_pages, most_run_pages}
use Rattle.segmented_store.specs.Room.{room}
use Rattle.regions.specs.declared.place.Place.{Place}
use Rattle.tree_nodes.specs.Nodes.{Entry, TreeNode, child_at}
use Rattle.regions.specs.Places.{led_to, link_to}
use Rattle.index_tree.specs.Links.{Nodes}
use Rattle.index_tree.specs.Sizes.{most, node_object}
use Rattle.index_tree.specs.Limits.{most_levels, most_run_levels, most_segments}
use Rattle.index_tree.specs.Store.{levels, levels_if}
use Rattle.index_tree.specs.Trees.{IsNodeOf, IsSubtree, IsTree, TreeState, children_of, entries_of, held_below, index_of, left_of, nodes_below, right_of}
use Rattle.place_lemmas.proofs.Places.{leads_on, some_none}
use Rattle.index_tree.proofs.Moved.{room_of}
use Rattle.index_tree.proofs.Whole.{of_children}

-- ---- keys

-- the fewest keys below a node that is not the root
abbrev fewest : ℕ → ℕ
fewest zero = 8
fewest (suc level) = 9 * fewest level

-- of lists that are each at least so long
long_flat : (f : ℕ → List Entry) (m : ℕ) (xs : List ℕ) → All (λ x. m ≤ length (f x)) xs → length xs * m ≤ length (flat_map f xs)
long_flat f m [] all = omega arith
long_flat f m (x ∷ xs) all =
    let here : m ≤ length (f x) = All-head (λ y. m ≤ length (f y)) x xs all in
    let rest : length xs * m ≤ length (flat_map f xs) = long_flat f m xs (All-tail (λ y. m ≤ length (f y)) x xs all) in
    let both : length (f x ++ flat_map f xs) ≡ length (f x) + length (flat_map f xs) = length-append (f x) (flat_map f xs) in
    let more : suc (length xs) * m ≡ length xs * m + m = suc-mul (length xs) m in
    omega (arith, here, rest, both, more)

module _ (nodes : Nodes) where
  -- the children of an inner node hold so many together
  children_hold : (level : ℕ) (parent : Option Place) (low high : Option (List ℕ)) (p : Place) (node : TreeNode) (m : ℕ) → nodes p ≡ Some node → IsNodeOf (suc level) parent low high node
      → ((i : ℕ) → i ≤ length node.entries → (q : Place) × (child_at node i ≡ link_to (Some q)) × IsSubtree nodes level (Some p) (left_of node low i) (right_of node high i) q)
      → ((q : Place) (lower upper : Option (List ℕ)) → IsSubtree nodes level (Some p) lower upper q → m ≤ length (held_below nodes level (Some q)))
      → suc (length node.entries) * m ≤ length (held_below nodes (suc level) (Some p))
  children_hold level parent low high p node m is of children each =
      let many = of.stands.children in
      let few = of.stands.few in
      let k = suc (length node.entries) in
      let gather : ℕ → List Entry = λ link. held_below nodes level (led_to link) in
      let size : length (take k node.children) ≡ k = length-take-le k node.children (omega (arith, many, few)) in
      subst (λ (o : Option TreeNode). k * m ≤ length (flat_map gather (children_of o))) (sym is)
      (subst (λ n. n * m ≤ length (flat_map gather (take k node.children))) size
      (long_flat gather m (take k node.children)
      (of_children nodes level p low high node parent (λ link. m ≤ length (gather link)) of children
      (λ q lower upper sub.
      subst (λ (o : Option Place). m ≤ length (held_below nodes level o)) (sym (leads_on (Some q) (room_of nodes level (Some p) lower upper q sub))) (each q lower upper sub)))))

  many_held : (level : ℕ) (parent : Place) (low high : Option (List ℕ)) (p : Place) → IsSubtree nodes level (Some parent) low high p → fewest level ≤ length (held_below nodes level (Some p))
  many_held zero parent low high p (node, is, here, of, none) =
      subst (λ (o : Option TreeNode). 8 ≤ length (entries_of o)) (sym is) (of.many (λ e. some_none refl e))
  many_held (suc level) parent low high p (node, is, here, of, inner, children) =
      let many : 8 ≤ length node.entries = of.many (λ e. some_none refl e) in
      let held = children_hold level (Some parent) low high p node (fewest level) is of children (λ q lower upper sub. many_held level p lower upper q sub) in
      let more = mul-le 9 (fewest level) (suc (length node.entries)) (fewest level) (omega (arith, many)) (omega arith) in
      omega (arith, held, more)

  root_holds : (level : ℕ) (low high : Option (List ℕ)) (p : Place) → IsSubtree nodes (suc level) None low high p → 2 * fewest level ≤ length (held_below nodes (suc level) (Some p))
  root_holds level low high p (node, is, here, of, inner, children) =
      let some = inner.some in
      let held = children_hold level None low high p node (fewest level) is of children (λ q lower upper sub. many_held level p lower upper q sub) in
      let more = mul-le 2 (fewest level) (suc (length node.entries)) (fewest level) (omega (arith, some)) (omega arith) in
      omega (arith, held, more)

-- higher levels have no fewer keys
grown : (d level top : ℕ) → level ≡ d + top → fewest top ≤ fewest level
grown zero level top is = subst (λ l. fewest top ≤ fewest l) {x = top} {y = level} (omega (arith, is)) (omega arith)
grown (suc d) zero top is = absurd (omega (arith, is))
grown (suc d) (suc level) top is = (let rest = grown d level top (omega (arith, is)) in omega (arith, rest))

-- with fewer keys than two children of the level `top` have, no root stands above it
low_level : (nodes : Nodes) (top keys level : ℕ) (low high : Option (List ℕ)) (p : Place) → keys < 2 * fewest top → IsSubtree nodes level None low high p → length (held_below nodes level (Some p)) ≤ keys
    → level ≤ top
low_level nodes top keys zero low high p far sub few = omega arith
low_level nodes top keys (suc level) low high p far sub few = elim (leb_tells top level) [
  | inl tall ↦
      (let high_enough = tall.1 in
      let held = root_holds nodes level low high p sub in
      let many = grown (level - top) level top (omega (arith, high_enough)) in
      absurd (omega (arith, held, many, few, far)))
  | inr small ↦ (let s = small.1 in omega (arith, s))
]

pub most_grows : (m n : ℕ) → m ≤ n → most m ≤ most n
most_grows m n h = omega (arith, h)

-- of so many segments, whose keys are fewer than two children of the level `top` have
levels_within : (nodes : Nodes) (t : TreeState) (top segments : ℕ) → IsTree nodes t → length (index_of nodes t) ≤ most segments → most segments < 2 * fewest top → levels t ≤ suc top
levels_within nodes t top segments tree few far = go t.root refl
  where
    go : (o : Option Place) → t.root ≡ o → levels_if o t.level ≤ suc top
    go None e = omega arith
    go (Some p) e =
        let small = low_level nodes top (most segments) t.level None None p far (tree.rooted p e)
        (subst (λ (o : Option Place). length (held_below nodes t.level o) ≤ most segments) e few) in
        omega (arith, small)

pub few_levels : (nodes : Nodes) (t : TreeState) (segments : ℕ) → IsTree nodes t → length (index_of nodes t) ≤ most segments → segments ≤ most_segments → levels t ≤ most_levels
few_levels nodes t segments tree few held =
    let more : most segments ≤ most most_segments = most_grows segments most_segments held in
    let far : most most_segments < 2 * fewest 6 = omega arith in
    levels_within nodes t 6 segments tree few (omega (arith, more, far))

pub few_run_levels : (nodes : Nodes) (t : TreeState) (segments : ℕ) → IsTree nodes t → length (index_of nodes t) ≤ most segments → segment_pages * segments ≤ most_run_pages → levels t ≤ most_run_levels
few_run_levels nodes t segments tree few held =
    let more : most segments ≤ most 2048 = most_grows segments 2048 (omega (arith, held)) in
    let far : most 2048 < 2 * fewest 5 = omega arith in
    levels_within nodes t 5 segments tree few (omega (arith, more, far))

-- ---- nodes

few_flat : (f : ℕ → List Place) (g : ℕ → List Entry) (xs : List ℕ) → All (λ x. 64 * length (f x) + 8 ≤ 9 * length (g x)) xs → 64 * length (flat_map f xs) + 8 * length xs ≤ 9 * length (flat_map g xs)
few_flat f g [] all = omega arith
few_flat f g (x ∷ xs) all =
    let here : 64 * length (f x) + 8 ≤ 9 * length (g x) = All-head (λ y. 64 * length (f y) + 8 ≤ 9 * length (g y)) x xs all in
    let rest = few_flat f g xs (All-tail (λ y. 64 * length (f y) + 8 ≤ 9 * length (g y)) x xs all) in
    let fs : length (f x ++ flat_map f xs) ≡ length (f x) + length (flat_map f xs) = length-append (f x) (flat_map f xs) in
    let gs : length (g x ++ flat_map g xs) ≡ length (g x) + length (flat_map g xs) = length-append (g x) (flat_map g xs) in
    omega (arith, here, rest, fs, gs)

module _ (nodes : Nodes) where
  children_few : (level : ℕ) (parent : Option Place) (low high : Option (List ℕ)) (p : Place) (node : TreeNode) → nodes p ≡ Some node → IsNodeOf (suc level) parent low high node
      → ((i : ℕ) → i ≤ length node.entries → (q : Place) × (child_at node i ≡ link_to (Some q)) × IsSubtree nodes level (Some p) (left_of node low i) (right_of node high i) q)
      → ((q : Place) (lower upper : Option (List ℕ)) → IsSubtree nodes level (Some p) lower upper q → 64 * length (nodes_below nodes level (Some q)) + 8 ≤ 9 * length (held_below nodes level (Some q)))
      → 64 * length (nodes_below nodes (suc level) (Some p)) + 8 * suc (length node.entries) ≤ 9 * length (held_below nodes (suc level) (Some p)) + 64
  children_few level parent low high p node is of children each =
      let many = of.stands.children in
      let few = of.stands.few in
      let k = suc (length node.entries) in
      let f : ℕ → List Place = λ link. nodes_below nodes level (led_to link) in
      let g : ℕ → List Entry = λ link. held_below nodes level (led_to link) in
      let size : length (take k node.children) ≡ k = length-take-le k node.children (omega (arith, many, few)) in
      let all = of_children nodes level p low high node parent (λ link. 64 * length (f link) + 8 ≤ 9 * length (g link)) of children
      (λ q lower upper sub.
      subst (λ (o : Option Place). 64 * length (nodes_below nodes level o) + 8 ≤ 9 * length (held_below nodes level o)) (sym (leads_on (Some q) (room_of nodes level (Some p) lower upper q sub)))
      (each q lower upper sub)) in
      let sum = few_flat f g (take k node.children) all in
      subst (λ (o : Option TreeNode). 64 * length (p ∷ flat_map f (children_of o)) + 8 * k ≤ 9 * length (flat_map g (children_of o)) + 64) (sym is) (omega (arith, sum, size))

  few_below : (level : ℕ) (parent : Place) (low high : Option (List ℕ)) (p : Place) → IsSubtree nodes level (Some parent) low high p
      → 64 * length (nodes_below nodes level (Some p)) + 8 ≤ 9 * length (held_below nodes level (Some p))
  few_below zero parent low high p (node, is, here, of, none) =
      let many : 8 ≤ length node.entries = of.many (λ e. some_none refl e) in
      subst (λ (o : Option TreeNode). 72 ≤ 9 * length (entries_of o)) (sym is) (omega (arith, many))
  few_below (suc level) parent low high p (node, is, here, of, inner, children) =
      let many : 8 ≤ length node.entries = of.many (λ e. some_none refl e) in
      let sum = children_few level (Some parent) low high p node is of children (λ q lower upper sub. few_below level p lower upper q sub) in
      omega (arith, sum, many)

  few_root : (level : ℕ) (low high : Option (List ℕ)) (p : Place) → IsSubtree nodes level None low high p → 64 * length (nodes_below nodes level (Some p)) ≤ 9 * length (held_below nodes level (Some p)) + 64
  few_root zero low high p sub = omega arith
  few_root (suc level) low high p (node, is, here, of, inner, children) =
      let some = inner.some in
      let sum = children_few level None low high p node is of children (λ q lower upper sub. few_below level p lower upper q sub) in
      omega (arith, sum, some)

  -- a root with an entry has a key below it
  pub some_below : (level : ℕ) (low high : Option (List ℕ)) (p : Place) → IsSubtree nodes level None low high p → 1 ≤ length (entries_of (nodes p)) → 1 ≤ length (held_below nodes level (Some p))
  some_below zero low high p sub some = some
  some_below (suc level) low high p (node, is, here, of, inner, children) some =
      let more = inner.some in
      let sum = children_few level None low high p node is of children (λ q lower upper sub. few_below level p lower upper q sub) in
      omega (arith, sum, more)

-- with so many keys a tree has at most so many nodes
pub few_nodes : (nodes : Nodes) (t : TreeState) → IsTree nodes t → 64 * length (nodes_below nodes t.level t.root) ≤ 9 * length (index_of nodes t) + 64
few_nodes nodes t tree = go t.root refl
  where
    go : (o : Option Place) → t.root ≡ o → 64 * length (nodes_below nodes t.level o) ≤ 9 * length (held_below nodes t.level o) + 64
    go None e = omega arith
    go (Some p) e = few_root nodes t.level None None p (tree.rooted p e)

-- and with no more than the most keys there is room for eight nodes more, where a key may be there at all
pub eight_fit : (keys count segments : ℕ) → 64 * count ≤ 9 * keys + 64 → keys ≤ most segments → 1 ≤ most segments → node_object * (count + 8) ≤ room segments
eight_fit keys count segments few within some = omega (arith, few, within, some)
