-- A new node, which is spare, beside those of a tree.
use Rattle.std.proofs.Common.{◌≡◌, ◌≢◌, ℕ, zero, suc, inl, inr, List, [], ◌∷◌, ◌++◌, All, replicate, Option, Some, None, refl, sym, ap, subst, ◌∙◌}
use Rattle.std.specs.Prelude.{IsSome, option_map}
use Rattle.std.proofs.lemmas.List.Elements.{All-nil, All-cons, All-append}
use Rattle.regions.specs.Contents.{Item}
use Rattle.regions.specs.Stores.{Live}
use Rattle.regions.specs.declared.place.Place.{Place}
use Rattle.tree_nodes.specs.Nodes.{TreeNode, no_place, node_in, started}
use Rattle.regions.specs.Places.{HasRoom}
use Rattle.index_tree.specs.Store.{HoldsNode, nodes_of}
use Rattle.index_tree.specs.Trees.{IsSpare, nodes_below, places_of}
use Rattle.index_tree.specs.inside.Rosters.{AreListed, IsPlaced, IsRosterOf, RosterState, with_spare}
use Rattle.place_lemmas.proofs.Places.{place_cases, some_none, some_same}
use Rattle.index_tree.proofs.Lengths.{one_apart, one_place}
use Rattle.index_tree.proofs.Lists.{Among, AreApart, among_behind, among_either, among_front, apart_append, apart_behind, apart_both, apart_front, got_either}
use Rattle.index_tree.proofs.Mended.{some_node}
use Rattle.index_tree.proofs.Neighbors.{node_here}
use Rattle.index_tree.proofs.Within.{index_within, places_within, tree_within}

pub none_started : (links : ℕ) → All (λ l. l ≡ no_place) (replicate links no_place)
none_started zero = All-nil (λ l. l ≡ no_place)
none_started (suc n) = All-cons (λ l. l ≡ no_place) no_place (replicate n no_place) refl (none_started n)

module _ (old new : Live) (r : RosterState) (is : IsRosterOf r old) (at : Place) (absent : old at ≡ None) (placed : IsPlaced (new at)) (others : (p : Place) → p ≢ at → new p ≡ old p) (room : HasRoom at) where
  abbrev node : Item → TreeNode
  node i = node_in i.content

  gone : nodes_of old at ≡ None
  gone = ap (option_map node) absent

  here : nodes_of new at ≡ Some (started 0)
  here = ap (option_map node) placed.is ∙ ap (λ (n : TreeNode). Some n) placed.node

  past : (p : Place) → p ≢ at → nodes_of new p ≡ nodes_of old p
  past p far = ap (option_map node) (others p far)

  within : (p : Place) (n : TreeNode) → nodes_of old p ≡ Some n → nodes_of new p ≡ Some n
  within p n e = elim (place_cases p at) [
    | inl s ↦ some_none e (ap (λ (q : Place). nodes_of old q) s ∙ gone)
    | inr far ↦ past p far ∙ e
  ]

  abbrev below : List Place
  below = nodes_below (nodes_of new) r.tree.level r.tree.root

  same_places : places_of (nodes_of new) r.tree ≡ places_of (nodes_of old) r.tree
  same_places = places_within (nodes_of old) (nodes_of new) within r.tree is.tree

  -- the place is not among those of the tree
  new_place : Among at (places_of (nodes_of new) r.tree) → ⊥
  new_place among =
      let w : Among at (places_of (nodes_of old) r.tree) = subst (λ ps. Among at ps) same_places among in
      let n = node_here (nodes_of old) r.tree (record { rooted = is.tree.rooted; linked = is.tree.linked; idle = is.tree.idle; apart = is.tree.apart }) at w in
      some_none n.1 gone

  abbrev spares : List Place
  spares = r.tree.spares ++ at ∷ []

  all_apart : AreApart (spares ++ below)
  all_apart =
      let was : AreApart (r.tree.spares ++ below) = subst (λ ps. AreApart ps) (sym same_places) is.tree.apart in
      apart_append spares below
      (apart_append r.tree.spares (at ∷ []) (apart_front r.tree.spares below was) (one_apart at)
      (λ p a b. new_place (among_front r.tree.spares below at (subst (λ q. Among q r.tree.spares) (sym (one_place at p b)) a))))
      (apart_behind r.tree.spares below was)
      (λ p a b. elim (among_either r.tree.spares (at ∷ []) p a) [
        | inl h ↦ apart_both r.tree.spares below p was h b
        | inr h ↦ new_place (among_behind r.tree.spares below at (subst (λ q. Among q below) (sym (one_place at p h)) b))
      ])

  every : (p : Place) (n : TreeNode) → nodes_of new p ≡ Some n → Among p (spares ++ below)
  every p n e = elim (place_cases p at) [
    | inl s ↦ subst (λ q. Among q (spares ++ below)) (sym s) (among_front spares below at (among_behind r.tree.spares (at ∷ []) at (zero, refl)))
    | inr far ↦
        (let there : Among p (r.tree.spares ++ below) = subst (λ ps. Among p ps) (sym same_places) (is.tree.every p n (sym (past p far) ∙ e)) in
        elim (among_either r.tree.spares below p there) [
          | inl h ↦ among_front spares below p (among_front r.tree.spares (at ∷ []) p h)
          | inr h ↦ among_behind spares below p h
        ])
  ]

  listed : AreListed (nodes_of new) (r.known.places ++ at ∷ [])
  listed = record {
    every = λ p n e. elim (place_cases p at) [
      | inl s ↦ subst (λ q. Among q (r.known.places ++ at ∷ [])) (sym s) (among_behind r.known.places (at ∷ []) at (zero, refl))
      | inr far ↦ among_front r.known.places (at ∷ []) p (is.listed.every p n (sym (past p far) ∙ e))
    ];
    stands = λ n p e. elim (got_either r.known.places (at ∷ []) n p e) [
      | inl h ↦
          (let there = some_node (nodes_of old p) (is.listed.stands n p h) in
          subst (λ (o : Option TreeNode). IsSome o) (sym (within p there.0 there.1)) refl)
      | inr h ↦ subst (λ (o : Option TreeNode). IsSome o) (sym (ap (λ (q : Place). nodes_of new q) (sym (one_place at p (h.0, h.2))) ∙ here)) refl
    ];
    apart = apart_append r.known.places (at ∷ []) is.listed.apart (one_apart at)
        (λ p a b.
        (let s : at ≡ p = one_place at p b in
        let there = some_node (nodes_of old p) (is.listed.stands a.0 p a.1) in
        some_none there.1 (ap (λ (q : Place). nodes_of old q) (sym s) ∙ gone)));
  }

  pub roster_with : IsRosterOf (with_spare at r) new
  roster_with =
      let tree = tree_within (nodes_of old) (nodes_of new) within r.tree is.tree in
      record {
        holds = λ p some. elim (place_cases p at) [
          | inl s ↦ subst (λ q. HoldsNode new q) (sym s) (placed.item, placed.is, placed.holds)
          | inr far ↦
              (let kept = others p far in
              let there = is.holds p (subst (λ (o : Option Item). IsSome o) kept some) in
              (there.0, kept ∙ there.1, there.2))
        ];
        kinds = λ p i e. elim (place_cases p at) [
          | inl s ↦
              (let same : placed.item ≡ i = some_same placed.is (ap new (sym s) ∙ e) in
              (ap (λ (x : Item). x.group) (sym same) ∙ placed.group, ap (λ (x : Item). x.kind) (sym same) ∙ placed.kind))
          | inr far ↦ is.kinds p i (sym (others p far) ∙ e)
        ];
        tree = record {
          rooted = tree.rooted;
          linked = tree.linked;
          idle = All-append (IsSpare (nodes_of new)) r.tree.spares (at ∷ []) tree.idle
              (All-cons (IsSpare (nodes_of new)) at []
              (record { node = started 0; is = here; room = room; parent = refl; next = refl; children = none_started 17 }) (All-nil (IsSpare (nodes_of new))));
          apart = all_apart;
          every = every;
        };
        index = index_within (nodes_of old) (nodes_of new) within r.tree is.tree ∙ is.index;
        listed = listed;
      }
