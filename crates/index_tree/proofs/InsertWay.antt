-- The child to which a key goes, among the children of a node.
use Rattle.std.proofs.Common.{◌≡◌, ℕ, zero, suc, ◌<◌, ◌≤◌, false, List, [], ◌∷◌, All, length, take, drop, map, get_or, Option, Some, refl, ap, ◌∙◌, arith, is_lt}
use Rattle.std.proofs.lemmas.List.Elements.{All-head, All-tail}
use Rattle.regions.specs.declared.place.Place.{Place}
use Rattle.tree_nodes.specs.Nodes.{Entry, no_entry, no_place}
use Rattle.tree_nodes.specs.Order.{IsBelow, key_cmp}
use Rattle.index_tree.specs.Inserts.{Branch, Row, entry_of, of_row, times}
use Rattle.regions.specs.Places.{link_to, place_of_link}
use Rattle.index_tree.specs.Links.{Nodes}
use Rattle.index_tree.specs.Trees.{IsFrom, IsSubtree, IsUpTo, nodes_below}
use Rattle.index_tree.proofs.FrameRows.{left_in, links_of, right_in, row_room}
use Rattle.index_tree.proofs.InsertNode.{roots}
use Rattle.index_tree.proofs.InsertRows.{child_in, keyed, times_append}
use Rattle.place_lemmas.proofs.Places.{led_back}

-- ---- the child of a key

pub spot_left : (key : List ℕ) (number : ℕ) (es : List Entry) (i : ℕ) (low : Option (List ℕ)) → IsFrom low (keyed key number) → All (λ e. is_lt (key_cmp key e.key) ≡ false) (take i es)
    → IsFrom (left_in low es i) (keyed key number)
spot_left key number es zero low from all = from
spot_left key number [] (suc i) low from all = from
spot_left key number (e ∷ es) (suc i) low from all =
    spot_left key number es i (Some e.key) (All-head (λ x. is_lt (key_cmp key x.key) ≡ false) e (take i es) all) (All-tail (λ x. is_lt (key_cmp key x.key) ≡ false) e (take i es) all)

pub spot_right : (key : List ℕ) (number : ℕ) (es : List Entry) (i : ℕ) (high : Option (List ℕ)) → IsUpTo high (keyed key number) → All (λ e. IsBelow key e.key) (drop i es)
    → IsUpTo (right_in es high i) (keyed key number)
spot_right key number [] i high up all = up
spot_right key number (e ∷ es) zero high up all = All-head (λ x. IsBelow key x.key) e es all
spot_right key number (e ∷ es) (suc i) high up all = spot_right key number es i high up all

pub row_child : (nodes : Nodes) (level : ℕ) (parent : Option Place) (low high : Option (List ℕ)) (first : Place) (bs : List Branch) (i : ℕ) → Row nodes level parent low first bs high → i ≤ length bs
    → IsSubtree nodes level parent (left_in low (map entry_of bs) i) (right_in (map entry_of bs) high i) (child_in first bs i)
row_child nodes level parent low high first [] zero row within = row
row_child nodes level parent low high first [] (suc i) row within = absurd (omega arith)
row_child nodes level parent low high first (b ∷ bs) zero row within = row.0
row_child nodes level parent low high first (b ∷ bs) (suc i) row within = row_child nodes level parent (Some b.entry.key) high b.place bs i row.1 (omega arith)

pub got_link : (first : Place) (bs : List Branch) (i : ℕ) → i ≤ length bs → get_or (links_of first bs) i no_place ≡ link_to (Some (child_in first bs i))
got_link first bs zero within = refl
got_link first [] (suc i) within = absurd (omega arith)
got_link first (b ∷ bs) (suc i) within = got_link b.place bs i (omega arith)

pub got_entry : (bs : List Branch) (i : ℕ) (d : Branch) → i < length bs → get_or (map entry_of bs) i no_entry ≡ (get_or bs i d).entry
got_entry [] i d within = absurd (omega arith)
got_entry (b ∷ bs) zero d within = refl
got_entry (b ∷ bs) (suc i) d within = got_entry bs i d (omega arith)

-- the places that a row's links lead to
pub rooms_back : (nodes : Nodes) (level : ℕ) (parent : Option Place) (low high : Option (List ℕ)) (first : Place) (bs : List Branch) → Row nodes level parent low first bs high
    → map place_of_link (links_of first bs) ≡ roots first bs
rooms_back nodes level parent low high first [] row = ap (λ (q : Place). q ∷ []) (led_back first (row_room nodes level parent first [] low high row))
rooms_back nodes level parent low high first (b ∷ bs) row =
    ap (λ (q : Place). q ∷ map place_of_link (links_of b.place bs)) (led_back first (row_room nodes level parent first (b ∷ bs) low high row))
    ∙ ap (λ (t : List Place). first ∷ t) (rooms_back nodes level parent (Some b.entry.key) high b.place bs row.1)

-- the roots of a row are among its nodes
pub roots_among : (nodes : Nodes) (level : ℕ) (x first : Place) (bs : List Branch) → times x (roots first bs) ≤ times x (of_row (nodes_below nodes level) first bs)
roots_among nodes level x first [] =
    let a = times_append x (nodes_below nodes level (Some first)) [] in
    let b = one_root nodes level x first in
    let c : times x (first ∷ []) ≡ times x (roots first []) = refl in
    omega arith
  where
    one_root : (nodes : Nodes) (level : ℕ) (x first : Place) → times x (first ∷ []) ≤ times x (nodes_below nodes level (Some first))
    one_root nodes zero x first = omega arith
    one_root nodes (suc level) x first = omega arith
roots_among nodes level x first (b ∷ bs) =
    let a = times_append x (nodes_below nodes level (Some first)) (of_row (nodes_below nodes level) b.place bs) in
    let c = one_root nodes level x first in
    let d = roots_among nodes level x b.place bs in
    omega arith
  where
    one_root : (nodes : Nodes) (level : ℕ) (x first : Place) → times x (first ∷ []) ≤ times x (nodes_below nodes level (Some first))
    one_root nodes zero x first = omega arith
    one_root nodes (suc level) x first = omega arith

pub drop_times : (x : Place) (ps : List Place) (n : ℕ) → times x (drop n ps) ≤ times x ps
drop_times x ps zero = omega arith
drop_times x [] (suc n) = omega arith
drop_times x (p ∷ ps) (suc n) = let rest = drop_times x ps n in omega arith
