-- Children that came under a parent, by the places of a row.
use Rattle.std.proofs.Common.{◌≡◌, ℕ, zero, suc, ◌+◌, ◌<◌, ◌≤◌, inl, inr, cond, List, [], ◌∷◌, All, length, map, get_or, Some, option_map, refl, sym, ap, subst, ◌∙◌, arith}
use Rattle.std.specs.List.{flat_map}
use Rattle.std.proofs.lemmas.List.{get_or-map, get_or-take, length-map}
use Rattle.std.proofs.lemmas.List.Elements.{All-get_or}
use Rattle.regions.specs.Segments.{RegionState}
use Rattle.regions.specs.Contents.{live_at}
use Rattle.regions.specs.declared.place.Place.{Place}
use Rattle.tree_nodes.specs.Nodes.{TreeNode, no_place}
use Rattle.regions.specs.Places.{HasRoom, link_to}
use Rattle.index_tree.specs.Links.{Nodes, with_parent}
use Rattle.index_tree.specs.Trees.{nodes_below}
use Rattle.index_tree.specs.Inserts.{Branch, of_row, place_in, times}
use Rattle.index_tree.specs.Mended.{AdoptsAll}
use Rattle.index_tree.specs.Store.{nodes_of}
use Rattle.place_lemmas.proofs.Places.{place_tells}
use Rattle.index_tree.proofs.Frame.{Agrees, below_children, nodes_from}
use Rattle.index_tree.proofs.FrameRows.{links_of}
use Rattle.index_tree.proofs.InsertRows.{all_by_times, times_append}
use Rattle.index_tree.proofs.RemoveInner.{HasLinks, IsCarried}
use Rattle.index_tree.proofs.InsertedLeaf.{times_get}
use Rattle.index_tree.proofs.Positions.{same_link}

-- the places of a row
abbrev pub kids_of : Place → List Branch → List Place
kids_of first bs = first ∷ map place_in bs

-- a place of some, and what a function gives of it
times_part : (f : Place → List Place) (ps : List Place) (q r : Place) → 1 ≤ times q ps → times r (f q) ≤ times r (flat_map f ps)
times_part f [] q r some = absurd (omega arith)
times_part f (p ∷ ps) q r some =
    let whole = times_append r (f p) (flat_map f ps) in
    elim (place_tells q p) [
      | inl e ↦ (let same : times r (f q) ≡ times r (f p) = ap (λ (x : Place). times r (f x)) e.1 in omega (arith, whole, same))
      | inr far ↦
          (let one : times q (p ∷ ps) ≡ 0 + times q ps = ap (λ b. cond b 1 0 + times q ps) far.0 in
          let behind = times_part f ps q r (omega (arith, one, some)) in
          omega (arith, whole, behind))
    ]

module _ (mid : Nodes) (level : ℕ) where
  row_times : (r first : Place) (bs : List Branch) → times r (of_row (nodes_below mid level) first bs) ≡ times r (kids_of first bs) + times r (flat_map (below_children mid level) (kids_of first bs))
  row_times r first [] =
      let a = times_append r (nodes_below mid level (Some first)) [] in
      let b : times r (nodes_below mid level (Some first)) ≡ times r (first ∷ below_children mid level first) = ap (λ (t : List Place). times r t) (nodes_from mid level first) in
      let c = times_append r (below_children mid level first) [] in
      omega (arith, a, b, c)
  row_times r first (b ∷ bs) =
      let a = times_append r (nodes_below mid level (Some first)) (of_row (nodes_below mid level) b.place bs) in
      let e : times r (nodes_below mid level (Some first)) ≡ times r (first ∷ below_children mid level first) = ap (λ (t : List Place). times r t) (nodes_from mid level first) in
      let c = times_append r (below_children mid level first) (flat_map (below_children mid level) (kids_of b.place bs)) in
      let behind = row_times r b.place bs in
      omega (arith, a, e, c, behind)

  pub kid_in_row : (r first : Place) (bs : List Branch) → times r (kids_of first bs) ≤ times r (of_row (nodes_below mid level) first bs)
  kid_in_row r first bs = let a = row_times r first bs in omega (arith, a)

  -- the children of one parent, apart from others
  pub carried_side : (new : Nodes) (parent first : Place) (bs : List Branch) (others : List Place) → ((r : Place) → times r others + times r (of_row (nodes_below mid level) first bs) ≤ 1)
      → ((q : Place) → 1 ≤ times q (kids_of first bs) → times q others ≡ 0 → new q ≡ option_map (with_parent (link_to (Some parent))) (mid q))
      → ((r : Place) → times r (kids_of first bs) ≡ 0 → times r others ≡ 0 → new r ≡ mid r)
      → All (IsCarried mid new level parent) (kids_of first bs)
  carried_side new parent first bs others apart kids rest =
      all_by_times (IsCarried mid new level parent) (kids_of first bs)
      (λ q some. record {
        now = kids q some (let once = apart q in let parts = row_times q first bs in omega (arith, once, parts, some));
        below = all_by_times (Agrees mid new) (below_children mid level q)
            (λ r here.
            (let once = apart r in
            let parts = row_times r first bs in
            let part = times_part (below_children mid level) (kids_of first bs) q r some in
            rest r (omega (arith, once, parts, part, here)) (omega (arith, once, parts, part, here))));
      })

-- ---- the children of a node, by their numbers

at_kid : (first : Place) (bs : List Branch) (i : ℕ) → i ≤ length bs → get_or (links_of first bs) i no_place ≡ link_to (Some (get_or (kids_of first bs) i first))
at_kid first bs zero within = refl
at_kid first [] (suc i) within = absurd (omega arith)
at_kid first (b ∷ bs) (suc i) within =
    get_or-map (λ (c : Branch). link_to (Some c.place)) (b ∷ bs) i b no_place (omega arith)
    ∙ sym (ap (λ (p : Place). link_to (Some p)) (get_or-map place_in (b ∷ bs) i b first (omega arith)))

some_index : (ps : List Place) (q d : Place) → 1 ≤ times q ps → (i : ℕ) × (i < length ps) × (get_or ps i d ≡ q)
some_index [] q d some = absurd (omega arith)
some_index (p ∷ ps) q d some = elim (place_tells q p) [
  | inl e ↦ (0, omega arith, sym e.1)
  | inr far ↦
      (let one : times q (p ∷ ps) ≡ 0 + times q ps = ap (λ b. cond b 1 0 + times q ps) far.0 in
      let behind = some_index ps q d (omega (arith, one, some)) in
      (suc behind.0, (let w = behind.1 in omega (arith, w)), behind.2))
]

module _ {links : List ℕ} {first : Place} {bs : List Branch} (has : HasLinks links first bs) (rooms : All HasRoom (kids_of first bs)) where
  pub child_kid : (i : ℕ) → i ≤ length bs → get_or links i no_place ≡ link_to (Some (get_or (kids_of first bs) i first))
  child_kid i within = sym (get_or-take (suc (length bs)) links i no_place (omega arith)) ∙ (ap (λ (t : List ℕ). get_or t i no_place) has.front ∙ at_kid first bs i within)

  pub size_kids : length (kids_of first bs) ≡ suc (length bs)
  size_kids = ap (λ n. suc n) (length-map bs place_in)

  pub some_link : (q : Place) → 1 ≤ times q (kids_of first bs) → (i : ℕ) × (i ≤ length bs) × (get_or links i no_place ≡ link_to (Some q)) × HasRoom q
  some_link q some =
      let k = some_index (kids_of first bs) q first some in
      let size = size_kids in
      let w = k.1 in
      let within : k.0 ≤ length bs = omega (arith, size, w) in
      (k.0, within, child_kid k.0 within ∙ ap (λ (p : Place). link_to (Some p)) k.2, subst HasRoom k.2 (All-get_or HasRoom (kids_of first bs) k.0 first w rooms))

  pub is_kid : (i : ℕ) (q : Place) → i ≤ length bs → HasRoom q → get_or links i no_place ≡ link_to (Some q) → 1 ≤ times q (kids_of first bs)
  is_kid i q within room is =
      let size = size_kids in
      let short : i < length (kids_of first bs) = omega (arith, size, within) in
      let same : get_or (kids_of first bs) i first ≡ q = same_link (get_or (kids_of first bs) i first) q (All-get_or HasRoom (kids_of first bs) i first short rooms) room (sym (child_kid i within) ∙ is) in
      subst (λ (p : Place). 1 ≤ times p (kids_of first bs)) same (times_get (kids_of first bs) i first short)

-- what an adoption does, by the places of the row
module _ (at : Place) (node : TreeNode) (old new : RegionState) (first : Place) (bs : List Branch) (has : HasLinks node.children first bs) (size : length node.entries ≡ length bs)
    (rooms : All HasRoom (kids_of first bs)) (adopts : AdoptsAll at node old new) where
  pub adopted_kid : (q : Place) → 1 ≤ times q (kids_of first bs) → nodes_of (live_at new) q ≡ option_map (with_parent (link_to (Some at))) (nodes_of (live_at old) q)
  adopted_kid q some =
      let k = some_link has rooms q some in
      let w = k.1 in
      adopts.adopted k.0 q (omega (arith, size, w)) k.3 k.2

  pub not_adopted : (r : Place) → times r (kids_of first bs) ≡ 0 → live_at new r ≡ live_at old r
  not_adopted r none =
      adopts.others r (λ i q within room is e.
      (let there = is_kid has rooms i q (omega (arith, size, within)) room is in
      let same : times r (kids_of first bs) ≡ times q (kids_of first bs) = ap (λ (p : Place). times p (kids_of first bs)) e in
      absurd (omega (arith, there, same, none))))
