-- What the live rows refer to, once one is moved.
use Rattle.std.proofs.Common.{◌≡◌, ◌≢◌, ℕ, ◌≤◌, inl, inr, List, [], ◌∷◌, ◌++◌, map, Option, Some, None, refl, sym, ap, subst, ◌∙◌, arith}
use Rattle.std.specs.Prelude.{option_map, slice_get}
use Rattle.common_lemmas.specs.Lists.{times}
use Rattle.std.proofs.lemmas.Bool.{cases_eq}
use Rattle.row_bytes.specs.Rows.{newer_in, older_in}
use Rattle.regions.specs.Contents.{Item}
use Rattle.regions.specs.Stores.{Live, less, renamed}
use Rattle.regions.specs.declared.place.Place.{Place}
use Rattle.row_cache.specs.Links.{content_of}
use Rattle.row_cache.specs.declared.ends.Ends.{Ends}
use Rattle.row_cache.specs.inside.Tables.{AreTablesOf, IsListed, IsRowOf, TableState}
use Rattle.row_cache.specs.inside.Chained.{IsChain, IsLinked, place_in}
use Rattle.regions.specs.Places.{leads_to}
use Rattle.row_cache.specs.inside.Moved.{references}
use Rattle.row_cache.proofs.Kept.{here_has}
use Rattle.row_cache.proofs.Listed.{listed_apart}
use Rattle.place_lemmas.proofs.Places.{less_here, less_past, renamed_here, renamed_past}
use Rattle.row_cache.proofs.Numbered.{chain_at, place_is, split_at, split_places}
use Rattle.row_cache.proofs.Relinked.{Relives}
use Rattle.row_cache.proofs.Renamed.{IsIn, chain_refs, refs}
use Rattle.row_cache.proofs.States.{place_cases, some_none, some_same}

-- each row's place is one of the places
number_in_map : (f : ℕ → Place) (ns : List ℕ) (n : ℕ) → 1 ≤ times n ns → IsIn (f n) (map f ns)
number_in_map f [] n h = absurd (omega (arith, h))
number_in_map f (m ∷ ms) n h = elim (cases_eq m n) [ inl e ↦ inl (ap f e) | inr far ↦ inr (number_in_map f ms n (listed_apart n m ms far h)) ]

live_in : (t : TableState) (live : Live) (p : Place) (i : Item) → AreTablesOf t live → live p ≡ Some i → IsIn p (map (place_in t.places) t.recency)
live_in t live p i are e =
    let w = are.every p i e in
    subst (λ q. IsIn q (map (place_in t.places) t.recency)) (place_is t.places w.0 p w.2) (number_in_map (place_in t.places) t.recency w.0 w.1)

abbrev refs_in : Option Item → List Place
refs_in o = leads_to (newer_in (content_of o)) (leads_to (older_in (content_of o)) [])

refs_known : (o : Option Item) (i : Item) → o ≡ Some i → option_map references o ≡ Some (refs_in o)
refs_known o i e = ap (option_map references) e ∙ sym (ap (λ (x : Option Item). Some (refs_in x)) e)

none_back : (o : Option Item) → ((i : Item) → o ≡ Some i → ⊥) → o ≡ None
none_back None h = refl
none_back (Some i) h = absurd (h i refl)

module _ (t : TableState) (old new : Live) (after : Ends) (n : ℕ) (from to : Place)
    (are : AreTablesOf t (less to old)) (linked : IsLinked t (less to old)) (listed : IsListed t n) (was : slice_get t.places n ≡ Some from)
    (apart : from ≢ to) (copied : old to ≡ old from) (lives : Relives old new)
    (move : (xs ys : List Place) → IsChain (less to old) t.ends (xs ++ from ∷ ys) → IsChain (less from new) after (xs ++ to ∷ ys)) where
  -- a row, by the place where it stood
  by_origin : (p q : Place) (i : Item) → p ≢ from → old p ≡ Some i → less to old q ≡ Some i → renamed from to q ≡ p
      → option_map references (less from new p) ≡ option_map (λ x. map (renamed from to) (references x)) (less from old p)
  by_origin p q i far here there names =
      let f = place_in t.places in let s = split_at n t.recency listed in
      let c = chain_at t.places (less to old) t.ends n from t.recency linked s was in
      let d = move (map f s.xs) (map f s.ys) c in
      let inside = subst (IsIn q) (split_places t.places n from t.recency s was) (live_in t (less to old) q i are there) in
      let refers = chain_refs (less to old) (less from new) t.ends after from to (map f s.xs) (map f s.ys) c d (here_has (less to old) t.ends (map f s.xs) from (map f s.ys) c).2 q inside in
      let w = are.every q i there in let h = are.rows w.0 w.1 in
      let at : h.place ≡ q = some_same h.placed w.2 in
      let item : h.item ≡ i = some_same h.is_live (ap (less to old) at ∙ there) in
      let now = lives.rows p i w.0 h.row here (subst (λ x. IsRowOf x w.0 h.row) item h.is_row) in
      let away : from ≢ p = λ e. far (sym e) in
      let seen : less from new p ≡ Some now.0 = less_past from p new away ∙ now.1 in
      let seen_old : less from old p ≡ Some i = less_past from p old away ∙ here in
      refs_known (less from new p) now.0 seen
      ∙ (ap (λ x. Some (refs (less from new) x)) (sym names)
      ∙ (ap (λ ps. Some ps) refers
      ∙ (ap (λ (x : Option Item). Some (map (renamed from to) (refs_in x))) there ∙ sym (ap (option_map (λ x. map (renamed from to) (references x))) seen_old))))

  at_live : (p : Place) (i : Item) → p ≢ from → old p ≡ Some i → option_map references (less from new p) ≡ option_map (λ x. map (renamed from to) (references x)) (less from old p)
  at_live p i far here = elim (place_cases p to) [
    | inl e ↦
        by_origin p from i far here (less_past to from old (λ q. apart (sym q)) ∙ (sym copied ∙ (ap old (sym e) ∙ here))) (renamed_here from to ∙ sym e)
    | inr past ↦ by_origin p p i far here (less_past to p old (λ q. past (sym q)) ∙ here) (renamed_past from to p (λ q. far (sym q)))
  ]

  at_any : (o : Option Item) (p : Place) → p ≢ from → old p ≡ o → option_map references (less from new p) ≡ option_map (λ x. map (renamed from to) (references x)) (less from old p)
  at_any None p far e =
      let gone : new p ≡ None = none_back (new p) (λ j is. some_none (lives.back p j is).1 e) in
      let away : from ≢ p = λ q. far (sym q) in
      ap (option_map references) (less_past from p new away ∙ gone) ∙ sym (ap (option_map (λ x. map (renamed from to) (references x))) (less_past from p old away ∙ e))
  at_any (Some i) p far e = at_live p i far e

  pub referred : (p : Place) → option_map references (less from new p) ≡ option_map (λ x. map (renamed from to) (references x)) (less from old p)
  referred p = elim (place_cases p from) [
    | inl e ↦
        ap (λ q. option_map references (less from new q)) e
        ∙ (ap (option_map references) (less_here from new)
        ∙ (sym (ap (option_map (λ x. map (renamed from to) (references x))) (less_here from old)) ∙ sym (ap (λ q. option_map (λ x. map (renamed from to) (references x)) (less from old q)) e)))
    | inr far ↦ at_any (old p) p far refl
  ]
