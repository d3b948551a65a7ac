-- All children of a node get it as their parent: what that asks of its first children, and what it gives.
use Rattle.std.proofs.Common.{◌≡◌, ◌≢◌, ℕ, zero, suc, ◌+◌, ◌<◌, ◌≤◌, inl, inr, List, [], ◌∷◌, All, length, take, map, get_or, Option, Some, refl, sym, ap, subst, ◌∙◌, arith}
use Rattle.std.specs.Prelude.{IfSome}
use Rattle.std.proofs.lemmas.List.{get_or-take, length-map, length-take-le}
use Rattle.regions.specs.Segments.{RegionState}
use Rattle.regions.specs.Contents.{live_at}
use Rattle.regions.specs.declared.place.Place.{Place}
use Rattle.tree_nodes.specs.Nodes.{TreeNode, child_at, no_place, node_in}
use Rattle.regions.specs.Places.{HasRoom, link_to, place_of_link}
use Rattle.index_tree.specs.Inserts.{times}
use Rattle.index_tree.specs.Mended.{AdoptsAll, HasKids}
use Rattle.index_tree.specs.Splits.{Adopts, child_places}
use Rattle.index_tree.specs.Store.{HoldsNode, nodes_of}
use Rattle.place_lemmas.proofs.Places.{led_back, place_cases}
use Rattle.index_tree.proofs.Adoptions.{got_place}
use Rattle.index_tree.proofs.InnerWrites.{fits_there}
use Rattle.index_tree.proofs.InsertRows.{all_by_times, times_of_all, times_past}
use Rattle.index_tree.proofs.InsertedLeaf.{times_get}
use Rattle.index_tree.proofs.SearchNode.{node_there}
use Rattle.index_tree.proofs.Touches.{held_same, if_value, value_of}

-- a place to which one of some numbers leads
led_among : (links : List ℕ) (x : Place) → 1 ≤ times x (map place_of_link links) → (i : ℕ) × (i < length links) × (place_of_link (get_or links i no_place) ≡ x)
led_among [] x some = absurd (omega arith)
led_among (l ∷ links) x some = elim (place_cases x (place_of_link l)) [
  | inl e ↦ (zero, omega arith, sym e)
  | inr far ↦
      (let past : times x (map place_of_link (l ∷ links)) ≡ times x (map place_of_link links) = times_past x (place_of_link l) (map place_of_link links) far in
      let rest = led_among links x (omega (arith, some, past)) in
      let within = rest.1 in
      (suc rest.0, omega (arith, within), rest.2))
]

module _ (old : RegionState) (at : Place) (holds : HoldsNode (live_at old) at) (has_kids : IfSome (nodes_of (live_at old) at) (λ node. HasKids (live_at old) at node)) (m : ℕ)
    (count : IfSome (nodes_of (live_at old) at) (λ node. m ≡ length node.entries)) where
  abbrev node : TreeNode
  node = node_in holds.0.content

  abbrev is : nodes_of (live_at old) at ≡ Some node
  is = node_there (live_at old) at holds

  has : HasKids (live_at old) at node
  has = value_of (λ n. HasKids (live_at old) at n) (nodes_of (live_at old) at) node is has_kids

  counted : m ≡ length node.entries
  counted = value_of (λ n. m ≡ length n.entries) (nodes_of (live_at old) at) node is count

  abbrev kids : List Place
  kids = map place_of_link (take (m + 1) node.children)

  kids_are : child_places (m + 1) (nodes_of (live_at old) at) ≡ kids
  kids_are = ap (λ (o : Option TreeNode). child_places (m + 1) o) is

  many : length (take (m + 1) node.children) ≡ m + 1
  many =
      let size = (fits_there old at node holds is).children in let few = has.few in let same = counted in
      length-take-le (m + 1) node.children (omega (arith, size, few, same))

  -- where the number of a child leads
  place_is : (i : ℕ) (q : Place) → i ≤ length node.entries → HasRoom q → child_at node i ≡ link_to (Some q) → place_of_link (get_or (take (m + 1) node.children) i no_place) ≡ q
  place_is i q within room link =
      let same = counted in
      ap (λ l. place_of_link l) (get_or-take (m + 1) node.children i no_place (omega (arith, within, same)) ∙ link) ∙ led_back q room

  -- each place of the list is a child, and each child is there
  kid_of : (x : Place) → 1 ≤ times x kids → (i : ℕ) × (within : i ≤ length node.entries) × ((has.kids i within).0 ≡ x)
  kid_of x some =
      let found = led_among (take (m + 1) node.children) x some in
      let short = found.1 in let size = many in let same = counted in
      let within : found.0 ≤ length node.entries = omega (arith, short, size, same) in
      let k = has.kids found.0 within in
      (found.0, within, sym (place_is found.0 k.0 within k.2 k.1) ∙ found.2)

  among : (i : ℕ) (q : Place) → i ≤ length node.entries → HasRoom q → child_at node i ≡ link_to (Some q) → 1 ≤ times q kids
  among i q within room link =
      let size = many in let same = counted in let long = length-map (take (m + 1) node.children) place_of_link in
      subst (λ (x : Place). 1 ≤ times x kids)
      (got_place (take (m + 1) node.children) i at (omega (arith, within, size, same)) ∙ place_is i q within room link)
      (times_get kids i at (omega (arith, within, size, same, long)))

  pub few_kids : m + 1 ≤ 17
  few_kids = let few = has.few in let same = counted in omega (arith, few, same)

  pub kids_held : All (HoldsNode (live_at old)) (child_places (m + 1) (nodes_of (live_at old) at))
  kids_held =
      subst (λ (ps : List Place). All (HoldsNode (live_at old)) ps) (sym kids_are)
      (all_by_times (HoldsNode (live_at old)) kids (λ x some. (let k = kid_of x some in subst (λ (q : Place). HoldsNode (live_at old) q) k.2 (has.kids k.0 k.1).3)))

  pub kids_apart : times at (child_places (m + 1) (nodes_of (live_at old) at)) ≡ 0
  kids_apart = ap (λ (ps : List Place). times at ps) kids_are ∙ none (times at kids) refl
    where
      none : (n : ℕ) → times at kids ≡ n → times at kids ≡ 0
      none zero e = e
      none (suc n) e = let k = kid_of at (omega (arith, e)) in absurd ((has.kids k.0 k.1).4 k.2)

  all_adopted : (new : RegionState) → Adopts kids kids (link_to (Some at)) old new → AdoptsAll at node old new
  all_adopted new a = record {
    adopted = λ i q within room link. a.adopted q (among i q within room link);
    others = λ r past. a.others r (none r past (times r kids) refl);
    holds = λ r h. held r h (times r kids) refl;
    same = a.same;
  }
    where
      none : (r : Place) → ((i : ℕ) (q : Place) → i ≤ length node.entries → HasRoom q → child_at node i ≡ link_to (Some q) → r ≢ q) → (n : ℕ) → times r kids ≡ n → times r kids ≡ 0
      none r past zero e = e
      none r past (suc n) e =
          let k = kid_of r (omega (arith, e)) in
          let kid = has.kids k.0 k.1 in
          absurd (past k.0 kid.0 k.1 kid.2 kid.1 (sym k.2))

      held : (r : Place) → HoldsNode (live_at old) r → (n : ℕ) → times r kids ≡ n → HoldsNode (live_at new) r
      held r h zero e = held_same old new r (a.others r e) h
      held r h (suc n) e = times_of_all (HoldsNode (live_at new)) kids r a.holds (omega (arith, e))

  pub adopted_all : (new : RegionState) → Adopts (child_places (m + 1) (nodes_of (live_at old) at)) (child_places (m + 1) (nodes_of (live_at old) at)) (link_to (Some at)) old new
      → IfSome (nodes_of (live_at old) at) (λ node. AdoptsAll at node old new)
  adopted_all new a =
      if_value (λ n. AdoptsAll at n old new) (nodes_of (live_at old) at) node is
      (all_adopted new (subst (λ (ps : List Place). Adopts ps ps (link_to (Some at)) old new) kids_are a))
