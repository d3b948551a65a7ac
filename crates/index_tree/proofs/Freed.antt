-- A spare node that is dead from now on.
use Rattle.std.proofs.Common.{◌≡◌, ◌≢◌, ℕ, zero, suc, inl, inr, cond, List, [], ◌∷◌, ◌++◌, All, length, Option, Some, None, refl, sym, ap, subst, ◌∙◌, arith, true≢false}
use Rattle.std.specs.Prelude.{IsSome, option_map, slice_get}
use Rattle.std.proofs.lemmas.List.Elements.{All-nil, All-cons, All-head, All-tail}
use Rattle.regions.specs.Contents.{Item}
use Rattle.regions.specs.Stores.{Live}
use Rattle.regions.specs.declared.place.Place.{Place}
use Rattle.tree_nodes.specs.Nodes.{TreeNode, child_at, node_in}
use Rattle.regions.specs.Places.{led_to}
use Rattle.index_tree.specs.Links.{Nodes}
use Rattle.index_tree.specs.Store.{nodes_of}
use Rattle.index_tree.specs.Trees.{AreLinked, IsSpare, IsSubtree, IsTree, children_of, held_below, leaves_below, left_of, next_in, nodes_below, right_of}
use Rattle.index_tree.specs.inside.Listings.{less_place}
use Rattle.index_tree.specs.inside.Rosters.{AreListed, IsRosterOf, RosterState, unlisted, with_freed}
use Rattle.place_lemmas.proofs.Places.{leads_on, place_cases, place_tells, some_is, some_none}
use Rattle.index_tree.proofs.Lists.{Among, AreApart, among_behind, among_either, among_flat, among_front, apart_append, apart_behind, apart_both, apart_front}
use Rattle.index_tree.proofs.Lengths.{one_apart, one_place}
use Rattle.index_tree.proofs.Mended.{some_node}
use Rattle.index_tree.proofs.Moved.{room_of}
use Rattle.index_tree.proofs.Neighbors.{leaves_less}
use Rattle.index_tree.proofs.Positions.{child_got}
use Rattle.index_tree.proofs.Within.{held_within, leaves_within, nodes_within}

-- ---- a list without a place

kept_less : (p q x : Place) (xs : List Place) → Among q (x ∷ less_place p xs) → p ≢ x → (Among q (less_place p xs) → Among q xs × (p ≢ q)) → Among q (x ∷ xs) × (p ≢ q)
kept_less p q x xs (zero, e) far rest = ((zero, e), λ s. far (s ∙ sym (some_is e)))
kept_less p q x xs (suc j, e) far rest = (let w = rest (j, e) in ((suc w.0.0, w.0.1), w.1))

among_less : (p q : Place) (xs : List Place) → Among q (less_place p xs) → Among q xs × (p ≢ q)
among_less p q [] (i, e) = some_none e refl
among_less p q (x ∷ xs) (i, e) = elim (place_tells p x) [
  | inl h ↦
      (let rest = among_less p q xs (subst (λ ps. Among q ps) (ap (λ b. cond b (less_place p xs) (x ∷ less_place p xs)) h.0) (i, e)) in
      ((suc rest.0.0, rest.0.1), rest.1))
  | inr h ↦ kept_less p q x xs (subst (λ ps. Among q ps) (ap (λ b. cond b (less_place p xs) (x ∷ less_place p xs)) h.0) (i, e)) h.1 (λ w. among_less p q xs w)
]

past_more : (p q x : Place) (xs : List Place) → p ≢ q → Among q (x ∷ xs) → p ≡ x → Among q xs
past_more p q x xs far (zero, e) same = absurd (far (same ∙ some_is e))
past_more p q x xs far (suc j, e) same = (j, e)

kept_more : (p q x : Place) (xs : List Place) → Among q (x ∷ xs) → (Among q xs → Among q (less_place p xs)) → Among q (x ∷ less_place p xs)
kept_more p q x xs (zero, e) rest = (zero, e)
kept_more p q x xs (suc j, e) rest = (let w = rest (j, e) in (suc w.0, w.1))

among_more : (p q : Place) (xs : List Place) → p ≢ q → Among q xs → Among q (less_place p xs)
among_more p q [] far (i, e) = some_none e refl
among_more p q (x ∷ xs) far (i, e) = elim (place_tells p x) [
  | inl h ↦ subst (λ ps. Among q ps) (sym (ap (λ b. cond b (less_place p xs) (x ∷ less_place p xs)) h.0)) (among_more p q xs far (past_more p q x xs far (i, e) h.1))
  | inr h ↦ subst (λ ps. Among q ps) (sym (ap (λ b. cond b (less_place p xs) (x ∷ less_place p xs)) h.0)) (kept_more p q x xs (i, e) (λ w. among_more p q xs far w))
]

apart_less_place : (p : Place) (xs : List Place) → AreApart xs → AreApart (less_place p xs)
apart_less_place p [] apart = apart
apart_less_place p (x ∷ xs) apart = elim (place_tells p x) [
  | inl h ↦ subst (λ ps. AreApart ps) (sym (ap (λ b. cond b (less_place p xs) (x ∷ less_place p xs)) h.0)) (apart_less_place p xs (apart_behind (x ∷ []) xs apart))
  | inr h ↦
      subst (λ ps. AreApart ps) (sym (ap (λ b. cond b (less_place p xs) (x ∷ less_place p xs)) h.0))
      (apart_append (x ∷ []) (less_place p xs) (one_apart x) (apart_less_place p xs (apart_behind (x ∷ []) xs apart))
      (λ q a b. apart_both (x ∷ []) xs q apart a (among_less p q xs b).0))
]

less_none : (p : Place) (xs : List Place) → (Among p xs → ⊥) → less_place p xs ≡ xs
less_none p [] none = refl
less_none p (x ∷ xs) none = elim (place_tells p x) [
  | inl h ↦ absurd (none (zero, ap (λ (q : Place). Some q) (sym h.1)))
  | inr h ↦ ap (λ b. cond b (less_place p xs) (x ∷ less_place p xs)) h.0 ∙ ap (λ (ps : List Place). x ∷ ps) (less_none p xs (λ among. none (suc among.0, among.1)))
]

pub one_fewer : (p : Place) (xs : List Place) → AreApart xs → Among p xs → length xs ≡ suc (length (less_place p xs))
one_fewer p [] apart (i, e) = some_none e refl
one_fewer p (x ∷ xs) apart (i, e) = elim (place_tells p x) [
  | inl h ↦
      (let none : Among p xs → ⊥ = λ among. apart_both (x ∷ []) xs p apart (zero, ap (λ (q : Place). Some q) (sym h.1)) among in
      ap (λ (ps : List Place). suc (length ps)) (sym (ap (λ b. cond b (less_place p xs) (x ∷ less_place p xs)) h.0 ∙ less_none p xs none)))
  | inr h ↦
      (let rest = one_fewer p xs (apart_behind (x ∷ []) xs apart) (behind i e h.1) in
      ap (λ n. suc n) rest ∙ sym (ap (λ b. suc (length (cond b (less_place p xs) (x ∷ less_place p xs)))) h.0))
]
  where
    behind : (i : ℕ) → slice_get (x ∷ xs) i ≡ Some p → p ≢ x → Among p xs
    behind zero e far = absurd (far (sym (some_is e)))
    behind (suc j) e far = (j, e)

-- ---- what is below a place is the same

module _ (many few : Nodes) where
  subtree_kept : (level : ℕ) (parent : Option Place) (low high : Option (List ℕ)) (p : Place) → IsSubtree many level parent low high p
      → ((q : Place) → Among q (nodes_below many level (Some p)) → few q ≡ many q) → IsSubtree few level parent low high p
  subtree_kept zero parent low high p (node, is, room, of, none) keeps = (node, keeps p (zero, refl) ∙ is, room, of, none)
  subtree_kept (suc level) parent low high p (node, is, room, of, inner, children) keeps = (
    node,
    keeps p (zero, refl) ∙ is,
    room,
    of,
    inner,
    λ i within.
        (let q : Place = (children i within).0 in
        let sub = (children i within).2 in
        let below : ℕ → List Place = λ l. nodes_below many level (led_to l) in
        let few_entries = of.stands.few in let many_children = of.stands.children in
        let got : slice_get (children_of (many p)) i ≡ Some (child_at node i) =
        ap (λ (o : Option TreeNode). slice_get (children_of o) i) is ∙ child_got (suc (length node.entries)) node.children i (omega (arith, within)) (omega (arith, few_entries, many_children)) in
        let leads : led_to (child_at node i) ≡ Some q =
        ap (λ l. led_to l) (children i within).1 ∙ leads_on (Some q) (room_of many level (Some p) (left_of node low i) (right_of node high i) q sub) in (
          q,
          (children i within).1,
          subtree_kept level (Some p) (left_of node low i) (right_of node high i) q sub
              (λ r among.
              (let w = among_flat below (children_of (many p)) i (child_at node i) r got (subst (λ (o : Option Place). Among r (nodes_below many level o)) (sym leads) among) in
              keeps r (suc w.0, w.1))),
        )),
  )

  linked_kept : (ps : List Place) → ((q : Place) → Among q ps → few q ≡ many q) → AreLinked many ps → AreLinked few ps
  linked_kept [] keeps linked = tt
  linked_kept (p ∷ []) keeps linked = ap (λ (o : Option TreeNode). next_in o) (keeps p (zero, refl)) ∙ linked
  linked_kept (p ∷ q ∷ ps) keeps linked =
      (ap (λ (o : Option TreeNode). next_in o) (keeps p (zero, refl)) ∙ linked.0, linked_kept (q ∷ ps) (λ r among. keeps r (suc among.0, among.1)) linked.1)

  spares_kept : (ps : List Place) → ((q : Place) → Among q ps → few q ≡ many q) → All (IsSpare many) ps → All (IsSpare few) ps
  spares_kept [] keeps all = All-nil (IsSpare few)
  spares_kept (p ∷ ps) keeps all =
      let s = All-head (IsSpare many) p ps all in
      All-cons (IsSpare few) p ps
      (record { node = s.node; is = keeps p (zero, refl) ∙ s.is; room = s.room; parent = s.parent; next = s.next; children = s.children })
      (spares_kept ps (λ r among. keeps r (suc among.0, among.1)) (All-tail (IsSpare many) p ps all))

-- ---- the roster

module _ (old new : Live) (r : RosterState) (at : Place) (is : IsRosterOf (with_freed at r) old) (gone : new at ≡ None) (others : (p : Place) → p ≢ at → new p ≡ old p) where
  abbrev node : Item → TreeNode
  node i = node_in i.content

  abbrev many : Nodes
  many = nodes_of old

  abbrev few : Nodes
  few = nodes_of new

  nothing : few at ≡ None
  nothing = ap (option_map node) gone

  kept : (p : Place) → p ≢ at → few p ≡ many p
  kept p far = ap (option_map node) (others p far)

  within : (p : Place) (n : TreeNode) → few p ≡ Some n → many p ≡ Some n
  within p n e = elim (place_cases p at) [
    | inl s ↦ some_none e (ap (λ (q : Place). few q) s ∙ nothing)
    | inr far ↦ sym (kept p far) ∙ e
  ]

  abbrev below : List Place
  below = nodes_below many r.tree.level r.tree.root

  abbrev spares : List Place
  spares = r.tree.spares ++ at ∷ []

  not_below : (p : Place) → Among p below → p ≢ at
  not_below p among s =
      apart_both spares below at is.tree.apart (among_behind r.tree.spares (at ∷ []) at (zero, refl)) (subst (λ q. Among q below) s among)

  not_spare : (p : Place) → Among p r.tree.spares → p ≢ at
  not_spare p among s =
      apart_both r.tree.spares (at ∷ []) at (apart_front spares below is.tree.apart) (subst (λ q. Among q r.tree.spares) s among) (zero, refl)

  root_kept : (root : Place) → r.tree.root ≡ Some root → IsSubtree few r.tree.level None None None root
  root_kept root e =
      subtree_kept many few r.tree.level None None None root (is.tree.rooted root e)
      (λ q among. kept q (not_below q (subst (λ (o : Option Place). Among q (nodes_below many r.tree.level o)) (sym e) among)))

  same_nodes : (o : Option Place) → r.tree.root ≡ o → nodes_below many r.tree.level o ≡ nodes_below few r.tree.level o
  same_nodes None e = refl
  same_nodes (Some root) e = nodes_within few many within r.tree.level None None None root (root_kept root e)

  same_leaves : (o : Option Place) → r.tree.root ≡ o → leaves_below many r.tree.level o ≡ leaves_below few r.tree.level o
  same_leaves None e = refl
  same_leaves (Some root) e = leaves_within few many within r.tree.level None None None root (root_kept root e)

  same_held : (o : Option Place) → r.tree.root ≡ o → held_below many r.tree.level o ≡ held_below few r.tree.level o
  same_held None e = refl
  same_held (Some root) e = held_within few many within r.tree.level None None None root (root_kept root e)

  fewer_apart : AreApart (r.tree.spares ++ below)
  fewer_apart =
      apart_append r.tree.spares below (apart_front r.tree.spares (at ∷ []) (apart_front spares below is.tree.apart)) (apart_behind spares below is.tree.apart)
      (λ p a b. apart_both spares below p is.tree.apart (among_front r.tree.spares (at ∷ []) p a) b)

  every : (p : Place) (n : TreeNode) → few p ≡ Some n → Among p (r.tree.spares ++ below)
  every p n e = elim (among_either spares below p (is.tree.every p n (within p n e))) [
    | inl h ↦
        elim (among_either r.tree.spares (at ∷ []) p h) [
          | inl spare ↦ among_front r.tree.spares below p spare
          | inr here ↦ some_none e (ap (λ (q : Place). few q) (sym (one_place at p here)) ∙ nothing)
        ]
    | inr h ↦ among_behind r.tree.spares below p h
  ]

  tree_without : IsTree few r.tree
  tree_without = record {
    rooted = root_kept;
    linked = subst (λ ps. AreLinked few ps) (same_leaves r.tree.root refl)
        (linked_kept many few (leaves_below many r.tree.level r.tree.root)
        (λ q among. kept q (not_below q ((leaves_less many r.tree.level r.tree.root).0 q among))) is.tree.linked);
    idle = spares_kept many few r.tree.spares (λ q among. kept q (not_spare q among)) (front r.tree.spares (at ∷ []) is.tree.idle);
    apart = subst (λ ps. AreApart (r.tree.spares ++ ps)) (same_nodes r.tree.root refl) fewer_apart;
    every = λ p n e. subst (λ ps. Among p (r.tree.spares ++ ps)) (same_nodes r.tree.root refl) (every p n e);
  }
    where
      front : (xs ys : List Place) → All (IsSpare many) (xs ++ ys) → All (IsSpare many) xs
      front [] ys all = All-nil (IsSpare many)
      front (x ∷ xs) ys all = All-cons (IsSpare many) x xs (All-head (IsSpare many) x (xs ++ ys) all) (front xs ys (All-tail (IsSpare many) x (xs ++ ys) all))

  listed_without : AreListed few (less_place at r.known.places)
  listed_without = record {
    every = λ p n e.
        among_more at p r.known.places (λ s. some_none e (ap (λ (q : Place). few q) (sym s) ∙ nothing)) (is.listed.every p n (within p n e));
    stands = λ n p e.
        (let w = among_less at p r.known.places (n, e) in
        let there = some_node (many p) (is.listed.stands w.0.0 p w.0.1) in
        subst (λ (o : Option TreeNode). IsSome o) (sym (kept p (λ s. w.1 (sym s)) ∙ there.1)) refl);
    apart = apart_less_place at r.known.places is.listed.apart;
  }

  pub roster_without : IsRosterOf (unlisted at r) new
  roster_without = record {
    holds = λ p some. elim (place_cases p at) [
      | inl s ↦ absurd (true≢false (sym (subst (λ (o : Option Item). IsSome o) (ap new s ∙ gone) some)))
      | inr far ↦
          (let same = others p far in
          let there = is.holds p (subst (λ (o : Option Item). IsSome o) same some) in
          (there.0, same ∙ there.1, there.2))
    ];
    kinds = λ p i e. elim (place_cases p at) [
      | inl s ↦ some_none e (ap new s ∙ gone)
      | inr far ↦ is.kinds p i (sym (others p far) ∙ e)
    ];
    tree = tree_without;
    index = sym (same_held r.tree.root refl) ∙ is.index;
    listed = listed_without;
  }

  -- the place was listed
  pub was_listed : Among at r.known.places
  was_listed =
      let s = spare_last r.tree.spares is.tree.idle in
      is.listed.every at s.node s.is
    where
      spare_last : (xs : List Place) → All (IsSpare many) (xs ++ at ∷ []) → IsSpare many at
      spare_last [] all = All-head (IsSpare many) at [] all
      spare_last (x ∷ xs) all = spare_last xs (All-tail (IsSpare many) x (xs ++ at ∷ []) all)
