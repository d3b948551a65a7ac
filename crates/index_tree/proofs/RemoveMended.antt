-- An inner node whose child lost a key, once two of its children are mended.
use Rattle.std.proofs.Common.{◌≡◌, ◌≢◌, ℕ, suc, ◌+◌, ◌<◌, ◌≤◌, ◌⊎◌, inl, inr, Bool, List, [], ◌∷◌, ◌++◌, All, length, take, drop, map, Option, Some, sym, ap, subst, ◌∙◌, arith}
use Rattle.std.proofs.lemmas.List.{length-map}
use Rattle.std.proofs.lemmas.List.Elements.{All-append, All-cons, All-nil}
use Rattle.regions.specs.declared.place.Place.{Place}
use Rattle.tree_nodes.specs.Nodes.{Entry, TreeNode, no_place, started}
use Rattle.index_tree.specs.Indexes.{without}
use Rattle.index_tree.specs.Links.{Nodes}
use Rattle.index_tree.specs.Trees.{IsFrom, IsUpTo, nodes_below}
use Rattle.index_tree.specs.Ways.{LeadsTo}
use Rattle.index_tree.specs.Inserts.{Branch, entry_of, of_row, times}
use Rattle.index_tree.specs.Removes.{Alters, Loses}
use Rattle.index_tree.proofs.FrameRows.{Opened, gathered, left_in, links_of, right_in}
use Rattle.index_tree.proofs.InsertRows.{all_by_times, child_in, keyed, times_append, times_here, times_of_all}
use Rattle.index_tree.proofs.RemoveRows.{alters_then}
use Rattle.index_tree.proofs.RemoveLeaf.{same_index}
use Rattle.index_tree.proofs.RemoveInner.{HasLinks}
use Rattle.index_tree.proofs.RemoveAbove.{above_loses, pair_became}
use Rattle.index_tree.proofs.RemoveMend.{Outcome, new_row, replaced}
use Rattle.index_tree.proofs.RemovePair.{PairIn, from_at, left_lost, left_same, right_lost, right_same, up_at}

module _ (nodes mid new : Nodes) (level : ℕ) (parent : Option Place) (low high : Option (List ℕ)) (p : Place) (key : List ℕ) (i j : ℕ) (freed : List Place)
    (o : Opened nodes level parent low high p) (leads : LeadsTo o.node key i) (from : IsFrom low (keyed key 0)) (up : IsUpTo high (keyed key 0))
    (once : (r : Place) → times r (nodes_below nodes (suc level) (Some p)) ≤ 1) (within : j < length o.branches) (near : ((i ≡ 0) × (j ≡ 0)) ⊎ (i ≡ suc j))
    (pr : PairIn nodes level p low high o.first o.branches j) where
  es : List Entry
  es = map entry_of o.branches

  row_size : length o.node.entries ≡ length o.branches
  row_size = ap (λ (t : List Entry). length t) o.entries ∙ length-map o.branches entry_of

  pub opened_links : HasLinks o.node.children o.first o.branches
  opened_links = record {
    size = o.of.stands.children;
    small = o.of.stands.places;
    front = subst (λ k. take (suc k) o.node.children ≡ links_of o.first o.branches) row_size o.links;
    others = subst (λ k. All (λ link. link ≡ no_place) (drop (suc k) o.node.children)) row_size o.inner.others;
  }

  pub row_once : (r : Place) → times r (p ∷ of_row (nodes_below nodes level) o.first o.branches) ≤ 1
  row_once r = subst (λ (t : List Place). times r (p ∷ t) ≤ 1) (gathered (nodes_below nodes level) nodes level parent low high p o) (once r)

  pub row_apart : (r : Place) → times r (of_row (nodes_below nodes level) o.first o.branches) ≤ 1
  row_apart r = let a = row_once r in omega (arith, a)

  pub far_above : (r : Place) → 1 ≤ times r (of_row (nodes_below nodes level) o.first o.branches) → r ≢ p
  far_above r some e =
      (let a = row_once p in
      let b = times_here p [] in
      let same : times r (of_row (nodes_below nodes level) o.first o.branches) ≡ times p (of_row (nodes_below nodes level) o.first o.branches) = ap (λ (x : Place). times x (of_row (nodes_below nodes level) o.first o.branches)) e in
      omega (arith, a, b, same, some))

  -- the two children
  abbrev left_place : Place
  left_place = child_in o.first o.branches j

  abbrev right_place : Place
  right_place = pr.b.place

  pub pair_apart : (r : Place) → times r (nodes_below nodes level (Some (child_in o.first o.branches j))) + times r (nodes_below nodes level (Some pr.b.place)) ≤ 1
  pair_apart r =
      let a = row_apart r in
      let b = pr.among r in
      let c = times_append r (nodes_below nodes level (Some (child_in o.first o.branches j))) (of_row (nodes_below nodes level) pr.b.place []) in
      let d = times_append r (nodes_below nodes level (Some pr.b.place)) [] in
      omega (arith, a, b, c, d)

  pub pair_times : (r : Place) → times r (of_row (nodes_below nodes level) (child_in o.first o.branches j) (pr.b ∷ []))
      ≡ times r (nodes_below nodes level (Some (child_in o.first o.branches j))) + times r (nodes_below nodes level (Some pr.b.place))
  pair_times r =
      let c = times_append r (nodes_below nodes level (Some (child_in o.first o.branches j))) (of_row (nodes_below nodes level) pr.b.place []) in
      let d = times_append r (nodes_below nodes level (Some pr.b.place)) [] in
      omega (arith, c, d)

  from_in : (k : ℕ) → k ≤ i → IsFrom (left_in low (map entry_of o.branches) k) (keyed key 0)
  from_in k few = subst (λ (t : List Entry). IsFrom (left_in low t k) (keyed key 0)) o.entries (from_at o.node key i leads low k few from)

  up_in : (k : ℕ) → i ≤ k → IsUpTo (right_in (map entry_of o.branches) high k) (keyed key 0)
  up_in k more = subst (λ (t : List Entry). IsUpTo (right_in t high k) (keyed key 0)) o.entries (up_at o.node key i leads high k more up)

  -- one of them lost the key
  module _ (lost : Alters (without key) nodes mid level (child_in o.first o.branches i) [] [] freed)
      (still : (r : Place) → times r (nodes_below nodes level (Some (child_in o.first o.branches i))) ≡ 0 → mid r ≡ nodes r)
      (idle : All (λ x. mid x ≡ Some (started 0)) freed) where
    pub pair_lost : Alters (without key) nodes mid level (child_in o.first o.branches j) (pr.b ∷ []) (pr.b ∷ []) freed
    pair_lost = elim near [
      | inl e ↦
          (let here : child_in o.first o.branches i ≡ child_in o.first o.branches j = ap (λ n. child_in o.first o.branches n) (e.0 ∙ sym e.1) in
          left_lost nodes mid level p (left_in low (map entry_of o.branches) j) (right_in (map entry_of o.branches) high (suc j)) (child_in o.first o.branches j) pr.b.entry pr.b.place key freed
          pr.left_tree pr.right_tree pair_apart
          (right_same nodes mid level p (left_in low (map entry_of o.branches) j) (right_in (map entry_of o.branches) high (suc j)) (child_in o.first o.branches j) pr.b.entry pr.b.place key freed
          pr.left_tree pr.right_tree pair_apart (subst (λ (x : Place). (r : Place) → times r (nodes_below nodes level (Some x)) ≡ 0 → mid r ≡ nodes r) here still))
          (subst (λ (x : Option (List ℕ)). IsUpTo x (keyed key 0)) pr.key_right (up_in j (let a = e.0 in let b = e.1 in omega (arith, a, b))))
          (subst (λ (x : Place). Alters (without key) nodes mid level x [] [] freed) here lost))
      | inr e ↦
          (let there : child_in o.first o.branches i ≡ pr.b.place = ap (λ n. child_in o.first o.branches n) e ∙ pr.right_is in
          right_lost nodes mid level p (left_in low (map entry_of o.branches) j) (right_in (map entry_of o.branches) high (suc j)) (child_in o.first o.branches j) pr.b.entry pr.b.place key freed
          pr.left_tree pr.right_tree pair_apart
          (left_same nodes mid level p (left_in low (map entry_of o.branches) j) (right_in (map entry_of o.branches) high (suc j)) (child_in o.first o.branches j) pr.b.entry pr.b.place key freed
          pr.left_tree pr.right_tree pair_apart (subst (λ (x : Place). (r : Place) → times r (nodes_below nodes level (Some x)) ≡ 0 → mid r ≡ nodes r) there still))
          (subst (λ (x : Option (List ℕ)). IsFrom x (keyed key 0)) pr.key_left (from_in (suc j) (omega (arith, e))))
          (subst (λ (x : Place). Alters (without key) nodes mid level x [] [] freed) there lost))
    ]

    pub child_times : (r : Place) → times r (nodes_below nodes level (Some (child_in o.first o.branches i))) ≤ times r (of_row (nodes_below nodes level) (child_in o.first o.branches j) (pr.b ∷ []))
    child_times r = elim near [
      | inl e ↦
          (let same : times r (nodes_below nodes level (Some (child_in o.first o.branches i))) ≡ times r (nodes_below nodes level (Some (child_in o.first o.branches j))) =
          ap (λ n. times r (nodes_below nodes level (Some (child_in o.first o.branches n)))) (e.0 ∙ sym e.1) in
          let a = pair_times r in
          omega (arith, same, a))
      | inr e ↦
          (let same : times r (nodes_below nodes level (Some (child_in o.first o.branches i))) ≡ times r (nodes_below nodes level (Some pr.b.place)) =
          ap (λ (x : Place). times r (nodes_below nodes level (Some x))) (ap (λ n. child_in o.first o.branches n) e ∙ pr.right_is) in
          let a = pair_times r in
          omega (arith, same, a))
    ]

    -- and they are mended
    module _ (joined : Bool) (p2 r2 : TreeNode)
        (out : Outcome mid new level p (left_in low (map entry_of o.branches) j) (right_in (map entry_of o.branches) high (suc j)) (child_in o.first o.branches j) pr.b.place pr.b.entry joined j o.node p2 r2)
        (now : new p ≡ Some p2) (now_right : new pr.b.place ≡ Some r2)
        (rest : (r : Place) → r ≢ p → times r (of_row (nodes_below mid level) (child_in o.first o.branches j) (pr.b ∷ [])) ≡ 0 → new r ≡ mid r) where
      outside : (r : Place) → r ≢ p → times r (of_row (nodes_below nodes level) (child_in o.first o.branches j) (pr.b ∷ [])) ≡ 0 → new r ≡ nodes r
      outside r far none =
          let a = pair_lost.places r in
          let b = child_times r in
          rest r far (omega (arith, a, none)) ∙ still r (omega (arith, b, none))

      freed_idle : All (λ x. new x ≡ Some (started 0)) freed
      freed_idle =
          all_by_times (λ x. new x ≡ Some (started 0)) freed
          (λ x some.
          let a = pair_lost.places x in
          let b = pair_times x in
          let c = pair_apart x in
          let d = pr.among x in
          rest x (far_above x (omega (arith, a, d, some))) (omega (arith, a, b, c, some)) ∙ times_of_all (λ y. mid y ≡ Some (started 0)) freed x idle some)

      more_idle : All (λ x. new x ≡ Some (started 0)) out.freed
      more_idle = elim out.parent [
        | inl t ↦ subst (λ (ps : List Place). All (λ x. new x ≡ Some (started 0)) ps) (sym t.1.2) (All-nil (λ x. new x ≡ Some (started 0)))
        | inr g ↦
            subst (λ (ps : List Place). All (λ x. new x ≡ Some (started 0)) ps) (sym g.2)
            (All-cons (λ x. new x ≡ Some (started 0)) pr.b.place [] (now_right ∙ ap (λ (n : TreeNode). Some n) g.4) (All-nil (λ x. new x ≡ Some (started 0))))
      ]

      pub mended_loses : Loses nodes new (suc level) parent low high p key (out.freed ++ freed)
      mended_loses =
          let nr = new_row mid new level p (left_in low (map entry_of o.branches) j) (right_in (map entry_of o.branches) high (suc j)) (child_in o.first o.branches j) pr.b.place pr.b.entry joined j o.node p2 r2
          o.first o.branches o.entries opened_links o.of.stands.entries o.inner.numbers within pr.seg out in
          let became = pair_became nodes new level p key (out.freed ++ freed) j o.first o.branches out.cs low high o.row within (
            out.pair.row,
            subst (λ (t : List Branch). Alters (without key) nodes new level (child_in o.first o.branches j) t out.cs (out.freed ++ freed)) (sym pr.seg)
                (alters_then (without key) same_index nodes mid new level (child_in o.first o.branches j) (pr.b ∷ []) (pr.b ∷ []) out.cs freed out.freed pair_lost out.pair.alters),
          )
          (from_in j (elim near [ inl e ↦ (let a = e.0 in let b = e.1 in omega (arith, a, b)) | inr e ↦ omega (arith, e) ]))
          (up_in (suc j) (elim near [ inl e ↦ (let a = e.0 in omega (arith, a)) | inr e ↦ omega (arith, e) ]))
          (λ r far none. outside r far (ap (λ (t : List Branch). times r (of_row (nodes_below nodes level) (child_in o.first o.branches j) t)) (sym pr.seg) ∙ none))
          far_above row_apart in
          above_loses nodes new level parent low high p key (out.freed ++ freed) o (replaced o.branches j out.cs) nr.links nr.has (now ∙ ap (λ (n : TreeNode). Some n) nr.is) nr.fits nr.zeros nr.fewer nr.one_fewer
          became (All-append (λ x. new x ≡ Some (started 0)) out.freed freed more_idle freed_idle)
          (λ r none.
          let whole : times r (p ∷ of_row (nodes_below nodes level) o.first o.branches) ≡ 0 =
          ap (λ (t : List Place). times r (p ∷ t)) (sym (gathered (nodes_below nodes level) nodes level parent low high p o)) ∙ none in
          let part = pr.among r in
          outside r
          (λ e. (let some = times_here p [] in let same : times r (p ∷ []) ≡ times p (p ∷ []) = ap (λ (x : Place). times x (p ∷ [])) e in omega (arith, some, same, whole)))
          (omega (arith, whole, part)))
