-- What each edit of a node's bytes makes of the node.
use Rattle.std.proofs.Common.{◌≡◌, ℕ, ◌+◌, ◌*◌, List, [], ◌∷◌, ◌++◌, length, map, refl, ap, sym, ◌∙◌, append_assoc, arith, length-append}
use Rattle.std.specs.List.{concat}
use Rattle.std.proofs.lemmas.List.{append-nil, length-map, map-append}
use Rattle.std.proofs.lemmas.List.Folds.{concat-append}
use Rattle.byteorder.specs.Endian.{little_bytes}
use Rattle.tree_nodes.specs.Nodes.{TreeNode, CanStand, header_bytes, entries_bytes, node_bytes}
use Rattle.tree_nodes.specs.inside.Splices.{over, put_in, taken_out}
use Rattle.tree_nodes.proofs.Splices.{over_parts, put_in_parts, taken_out_parts}
use Rattle.tree_nodes.proofs.Pieces.{length-concat}
use Rattle.tree_nodes.proofs.Fields.{length-entries, place_bytes, places_wide}

-- ---- the header

pub parent_written : (n : TreeNode) (place : ℕ) → over 0 (little_bytes 8 place) (node_bytes n) ≡ node_bytes (record n { parent = place })
unfolding node_bytes
parent_written n place = refl

pub next_written : (n : TreeNode) (place : ℕ) → over 16 (little_bytes 8 place) (node_bytes n) ≡ node_bytes (record n { next_leaf = place })
unfolding node_bytes
next_written n place = refl

abbrev pub head_of : TreeNode → ℕ → List ℕ
head_of n count = header_bytes n.parent n.level count n.next_leaf

pub count_written : (n : TreeNode) (count old : ℕ) (rest : List ℕ) → over 10 (little_bytes 2 count) (head_of n old ++ rest) ≡ head_of n count ++ rest
count_written n count old rest = refl

-- ---- the children

-- the bytes in front of the children
abbrev pub front_of : TreeNode → List ℕ
front_of n = head_of n (length n.entries) ++ entries_bytes n.entries

length-front : (n : TreeNode) → CanStand n → length (front_of n) ≡ 4248
length-front n fits = let entries = length-entries n.entries fits.entries fits.few in omega arith

abbrev pub with_children : TreeNode → List ℕ → TreeNode
with_children n children = record n { children = children }

pub node_by_children : (n : TreeNode) → node_bytes n ≡ front_of n ++ concat (map place_bytes n.children)
unfolding node_bytes
node_by_children n = sym (append_assoc (head_of n (length n.entries)) (entries_bytes n.entries) (concat (map place_bytes n.children)))

-- places as those in front of one, this one, those behind it up to another, and the others
pub joined_two : (a : List ℕ) (xs ys : List ℕ) → a ++ concat (map place_bytes (xs ++ ys)) ≡ (a ++ concat (map place_bytes xs)) ++ concat (map place_bytes ys)
joined_two a xs ys =
    ap (λ (p : List (List ℕ)). a ++ concat p) (map-append place_bytes xs ys)
    ∙ (ap (λ t. a ++ t) (concat-append (map place_bytes xs) (map place_bytes ys))
    ∙ sym (append_assoc a (concat (map place_bytes xs)) (concat (map place_bytes ys))))

pub length-places : (ps : List ℕ) → length (concat (map place_bytes ps)) ≡ 8 * length ps
length-places ps = length-concat 8 (map place_bytes ps) (places_wide ps) ∙ ap (λ k. 8 * k) (length-map ps place_bytes)

pub length-before : (n : TreeNode) (fits : CanStand n) (xs : List ℕ) (i : ℕ) → length xs ≡ i → length (front_of n ++ concat (map place_bytes xs)) ≡ 4248 + 8 * i
length-before n fits xs i is =
    let front = length-front n fits in
    let behind = length-places xs in
    length-append (front_of n) (concat (map place_bytes xs)) ∙ omega arith

-- a place is written over
pub child_over : (n : TreeNode) (fits : CanStand n) (i : ℕ) (xs ys : List ℕ) (old new : ℕ) → length xs ≡ i → n.children ≡ xs ++ old ∷ ys
    → over (4248 + 8 * i) (little_bytes 8 new) (node_bytes n) ≡ node_bytes (with_children n (xs ++ new ∷ ys))
child_over n fits i xs ys old new is_xs are =
    let before : List ℕ = front_of n ++ concat (map place_bytes xs) in
    let whole : node_bytes n ≡ before ++ (place_bytes old ++ concat (map place_bytes ys)) =
    node_by_children n ∙ (ap (λ (c : List ℕ). front_of n ++ concat (map place_bytes c)) are ∙ joined_two (front_of n) xs (old ∷ ys)) in
    ap (λ t. over (4248 + 8 * i) (little_bytes 8 new) t) whole
    ∙ (over_parts before (place_bytes old) (concat (map place_bytes ys)) (place_bytes new) (4248 + 8 * i) (length-before n fits xs i is_xs) refl
    ∙ sym (node_by_children (with_children n (xs ++ new ∷ ys)) ∙ joined_two (front_of n) xs (new ∷ ys)))

-- a place is put in, and the last one is gone
pub child_put_in : (n : TreeNode) (fits : CanStand n) (i moved : ℕ) (xs ys : List ℕ) (last new : ℕ) → length xs ≡ i → length ys * 8 ≡ moved → n.children ≡ xs ++ (ys ++ last ∷ [])
    → put_in (4248 + 8 * i) moved (little_bytes 8 new) (node_bytes n) ≡ node_bytes (with_children n (xs ++ new ∷ ys))
child_put_in n fits i moved xs ys last new is_xs is_ys are =
    let before : List ℕ = front_of n ++ concat (map place_bytes xs) in
    let mid : List ℕ = concat (map place_bytes ys) in
    let tail : concat (map place_bytes (ys ++ last ∷ [])) ≡ mid ++ (place_bytes last ++ []) = joined_two [] ys (last ∷ []) in
    let whole : node_bytes n ≡ before ++ (mid ++ (place_bytes last ++ [])) =
    node_by_children n ∙ (ap (λ (c : List ℕ). front_of n ++ concat (map place_bytes c)) are ∙ (joined_two (front_of n) xs (ys ++ last ∷ []) ∙ ap (λ t. before ++ t) tail)) in
    let length_mid : length mid ≡ moved = let l = length-places ys in omega arith in
    ap (λ t. put_in (4248 + 8 * i) moved (little_bytes 8 new) t) whole
    ∙ (put_in_parts before mid (place_bytes last) [] (place_bytes new) (4248 + 8 * i) moved (length-before n fits xs i is_xs) length_mid refl
    ∙ (ap (λ t. before ++ (place_bytes new ++ t)) (append-nil mid)
    ∙ sym (node_by_children (with_children n (xs ++ new ∷ ys)) ∙ joined_two (front_of n) xs (new ∷ ys))))

-- a place is taken out, and one stands behind the others
pub child_taken_out : (n : TreeNode) (fits : CanStand n) (i moved : ℕ) (xs ys : List ℕ) (old new : ℕ) → length xs ≡ i → length ys * 8 ≡ moved → n.children ≡ xs ++ old ∷ ys
    → taken_out (4248 + 8 * i) moved (little_bytes 8 new) (node_bytes n) ≡ node_bytes (with_children n (xs ++ (ys ++ new ∷ [])))
child_taken_out n fits i moved xs ys old new is_xs is_ys are =
    let before : List ℕ = front_of n ++ concat (map place_bytes xs) in
    let mid : List ℕ = concat (map place_bytes ys) in
    let whole : node_bytes n ≡ before ++ (place_bytes old ++ (mid ++ [])) =
    node_by_children n ∙ (ap (λ (c : List ℕ). front_of n ++ concat (map place_bytes c)) are ∙ (joined_two (front_of n) xs (old ∷ ys) ∙ ap (λ t. before ++ (place_bytes old ++ t)) (sym (append-nil mid)))) in
    let length_mid : length mid ≡ moved = let l = length-places ys in omega arith in
    let tail : concat (map place_bytes (ys ++ new ∷ [])) ≡ mid ++ (place_bytes new ++ []) = joined_two [] ys (new ∷ []) in
    ap (λ t. taken_out (4248 + 8 * i) moved (little_bytes 8 new) t) whole
    ∙ (taken_out_parts before (place_bytes old) mid [] (place_bytes new) (4248 + 8 * i) moved (length-before n fits xs i is_xs) refl length_mid
    ∙ sym (node_by_children (with_children n (xs ++ (ys ++ new ∷ []))) ∙ (joined_two (front_of n) xs (ys ++ new ∷ []) ∙ ap (λ t. before ++ t) tail)))
