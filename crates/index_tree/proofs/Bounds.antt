-- What the leaves below a place hold lies between its bounds.
use Rattle.std.proofs.Common.{◌≡◌, ℕ, zero, suc, ◌<◌, ◌≤◌, Bool, true, false, cond, List, All, length, take, get_or, Option, Some, None, refl, sym, ap, subst, ◌∙◌, arith, nat_lt}
use Rattle.std.specs.List.{flat_map}
use Rattle.std.proofs.lemmas.List.{length-take-le, get_or-take}
use Rattle.std.proofs.lemmas.List.Elements.{All-get_or, All-weaker, All-from_get_or}
use borrow.Author.Tests.{ltb-true}
use Rattle.regions.specs.declared.place.Place.{Place}
use Rattle.tree_nodes.specs.Nodes.{Entry, TreeNode, entry_at, no_entry, no_place}
use Rattle.tree_nodes.specs.Order.{IsBelow}
use Rattle.regions.specs.Places.{led_to, link_to}
use Rattle.index_tree.specs.Links.{Nodes}
use Rattle.index_tree.specs.Trees.{IsBetween, IsFrom, IsSubtree, IsUpTo, children_of, entries_of, held_below, left_of, right_of}
use Rattle.place_lemmas.proofs.Places.{leads_on}
use Rattle.index_tree.proofs.Moved.{room_of}
use Rattle.index_tree.proofs.KeyOrder.{least_least, less_less}
use Rattle.index_tree.proofs.SearchLists.{all_gathered}

from_left : (node : TreeNode) (low : Option (List ℕ)) (i : ℕ) (e : Entry) → All (IsFrom low) node.entries → i ≤ length node.entries → IsFrom (left_of node low i) e → IsFrom low e
from_left node low zero e all within h = h
from_left node None (suc i) e all within h = tt
from_left node (Some key) (suc i) e all within h =
    least_least e.key (entry_at node i).key key h (All-get_or (IsFrom (Some key)) node.entries i no_entry (omega arith) all)

up_right : (node : TreeNode) (high : Option (List ℕ)) (i : ℕ) (e : Entry) → All (IsUpTo high) node.entries → IsUpTo (right_of node high i) e → IsUpTo high e
up_right node high i e all h = go (nat_lt i (length node.entries)) refl
  where
    over : (top : Option (List ℕ)) → All (IsUpTo top) node.entries → i < length node.entries → IsBelow e.key (entry_at node i).key → IsUpTo top e
    over None all within below = tt
    over (Some key) all within below = less_less e.key (entry_at node i).key key below (All-get_or (IsUpTo (Some key)) node.entries i no_entry within all)

    go : (b : Bool) → nat_lt i (length node.entries) ≡ b → IsUpTo high e
    go true is = over high all (ltb-true i (length node.entries) is) (subst (λ (o : Option (List ℕ)). IsUpTo o e) (ap (λ (b : Bool). cond b (Some (entry_at node i).key) high) is) h)
    go false is = subst (λ (o : Option (List ℕ)). IsUpTo o e) (ap (λ (b : Bool). cond b (Some (entry_at node i).key) high) is) h

both : (low high : Option (List ℕ)) (es : List Entry) → All (IsFrom low) es → All (IsUpTo high) es → All (IsBetween low high) es
both low high es from up_to = λ k d within. (from k d within, up_to k d within)

pub held_between : (nodes : Nodes) (level : ℕ) (parent : Option Place) (low high : Option (List ℕ)) (p : Place) → IsSubtree nodes level parent low high p
    → All (IsBetween low high) (held_below nodes level (Some p))
held_between nodes zero parent low high p (node, is, here, of, none) =
    subst (λ (o : Option TreeNode). All (IsBetween low high) (entries_of o)) (sym is) (both low high node.entries of.from of.up_to)
held_between nodes (suc level) parent low high p (node, is, here, of, inner, children) =
    let many = of.stands.children in
    let few = of.stands.few in
    let k = suc (length node.entries) in
    let gather : ℕ → List Entry = λ link. held_below nodes level (led_to link) in
    let each : (i : ℕ) → i < length (take k node.children) → All (IsBetween low high) (gather (get_or (take k node.children) i no_place)) =
    (λ i short.
    let size : length (take k node.children) ≡ k = length-take-le k node.children (omega (arith, many, few)) in
    let within : i ≤ length node.entries = omega (arith, short, size) in
    let q : Place = (children i within).0 in
    let below = (children i within).2 in
    let room = room_of nodes level (Some p) (left_of node low i) (right_of node high i) q below in
    let link : get_or (take k node.children) i no_place ≡ link_to (Some q) = get_or-take k node.children i no_place (omega arith) ∙ (children i within).1 in
    let there : gather (get_or (take k node.children) i no_place) ≡ held_below nodes level (Some q) = ap (λ l. gather l) link ∙ ap (λ (o : Option Place). held_below nodes level o) (leads_on (Some q) room) in
    subst (λ (es : List Entry). All (IsBetween low high) es) (sym there)
    (All-weaker (IsBetween (left_of node low i) (right_of node high i)) (IsBetween low high)
    (λ e h. (from_left node low i e of.from within h.0, up_right node high i e of.up_to h.1)) (held_below nodes level (Some q))
    (held_between nodes level (Some p) (left_of node low i) (right_of node high i) q below))) in
    subst (λ (o : Option TreeNode). All (IsBetween low high) (flat_map gather (children_of o))) (sym is)
    (all_gathered (IsBetween low high) gather (take k node.children) (All-from_get_or (λ l. All (IsBetween low high) (gather l)) (take k node.children) no_place each))
