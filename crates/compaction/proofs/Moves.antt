-- An object is copied, its mover is told, and the first one dies: the store is the same.
use Rattle.std.proofs.Common.{◌≡◌, ◌≢◌, ◌⊎◌, inl, inr, ℕ, Bool, true, false, cond, refl, sym, ap, ◌∙◌, subst, eq-eqb}
use Rattle.std.specs.Prelude.{Option, None, Some, IsSome, is_some, option_map}
use Rattle.std.proofs.lemmas.Bool.{cases_eq, ne_eqb}
use mathlib.Core.Path.{fun_ext}
use Rattle.regions.specs.Segments.{RegionState}
use Rattle.regions.specs.Contents.{Item, Standing, item_if_live, if_live, standing_at, live_at, dead, ChangesAt}
use Rattle.regions.specs.Stores.{Live, Bare, StandsFor, found, store_of, less, renamed, is_place, without_references}
use Rattle.regions.specs.declared.place.Place.{Place}
use Rattle.compaction.specs.Emptied.{IsSameAt}

-- two places are one or they are told apart
pub told-apart : (p q : Place) → ((p ≡ q) × (is_place p q ≡ true)) ⊎ ((p ≢ q) × (is_place p q ≡ false))
told-apart p q =
    elim (cases_eq p.segment q.segment) [
      | inl same ↦
          elim (cases_eq p.at q.at) [
            | inl at ↦ inl (
              ap (λ k. let x : Place = record { segment = k; at = p.at } in x) same ∙ ap (λ k. let x : Place = record { segment = q.segment; at = k } in x) at,
              rw (eq-eqb p.segment q.segment same, eq-eqb p.at q.at at) refl,
            )
            | inr other ↦ inr (λ e. other (ap (λ (x : Place). x.at) e), rw (eq-eqb p.segment q.segment same, ne_eqb p.at q.at other) refl)
          ]
      | inr other ↦ inr (λ e. other (ap (λ (x : Place). x.segment) e), rw (ne_eqb p.segment q.segment other) refl)
    ]

-- the copy is live besides
pub copied-live : (old new : RegionState) (from to : Place) → ChangesAt to (standing_at old from) old new → standing_at old to ≡ None → live_at old ≡ less to (live_at new)
copied-live old new from to copied unused = fun_ext (λ q.
    elim (told-apart to q) [
      | inl here ↦ subst (λ z. item_if_live (standing_at old z) ≡ None) here.0 (ap item_if_live unused) ∙ sym (ap (λ b. cond b None (live_at new q)) here.1)
      | inr far ↦ sym (ap (λ b. cond b None (live_at new q)) far.1 ∙ ap item_if_live (copied.others q (λ e. far.0 (sym e))))
    ])

dies : (s : Option Standing) → item_if_live (option_map dead s) ≡ None
dies None = refl
dies (Some s) = refl

-- the one that died is live no more
pub killed-live : (old new : RegionState) (from : Place) → ChangesAt from (option_map dead (standing_at old from)) old new → less from (live_at old) ≡ live_at new
killed-live old new from killed = fun_ext (λ q.
    elim (told-apart from q) [
      | inl here ↦ ap (λ b. cond b None (live_at old q)) here.1 ∙ sym (subst (λ z. item_if_live (standing_at new z) ≡ None) here.0 (ap item_if_live killed.here ∙ dies (standing_at old from)))
      | inr far ↦ ap (λ b. cond b None (live_at old q)) far.1 ∙ ap item_if_live (sym (killed.others q (λ e. far.0 (sym e))))
    ])

bare-if : (bare : Bare) (b c : Bool) → b ≡ c → (i j : Item) → bare i ≡ bare j → option_map bare (if_live b i) ≡ option_map bare (if_live c j)
bare-if bare true true e i j h = ap (λ x. Some x) h
bare-if bare false false e i j h = refl
bare-if bare true false e i j h = absurd (let clash : true ≡ false = e in cc)
bare-if bare false true e i j h = absurd (let clash : false ≡ true = e in cc)

bare-live : (bare : Bare) (s t : Option Standing) → option_map (without_references bare) s ≡ option_map (without_references bare) t → option_map bare (item_if_live s) ≡ option_map bare (item_if_live t)
bare-live bare None None e = refl
bare-live bare None (Some t) e = absurd (let clash : None ≡ Some (without_references bare t) = e in cc)
bare-live bare (Some s) None e = absurd (let clash : Some (without_references bare s) ≡ None = e in cc)
bare-live bare (Some s) (Some t) e =
    let both : without_references bare s ≡ without_references bare t = (let some : Some (without_references bare s) ≡ Some (without_references bare t) = e in cc) in
    bare-if bare s.live t.live (ap (λ x. x.0) both) s.item t.item (ap (λ x. x.1.0) both)

-- an object that is the same, reference fields apart, is the same in the store
pub same-live : (bare : Bare) (old new : RegionState) (p : Place) → IsSameAt bare old new p → option_map bare (live_at new p) ≡ option_map bare (live_at old p)
same-live bare old new p e = bare-live bare (standing_at new p) (standing_at old p) e

-- and where none was live none is
pub same-none : (bare : Bare) (old new : RegionState) (p : Place) → IsSameAt bare old new p → live_at old p ≡ None → live_at new p ≡ None
same-none bare old new p e none = unmapped (live_at new p) (same-live bare old new p e ∙ ap (option_map bare) none) where
  unmapped : (o : Option Item) → option_map bare o ≡ None → o ≡ None
  unmapped None h = refl
  unmapped (Some i) h = absurd (let clash : Some (bare i) ≡ None = h in cc)

module _ (bare : Bare) (was now : ℕ → Option Place) (old new : Live) (from to : Place) (unused : old to ≡ None) (moved : option_map bare (new to) ≡ option_map bare (old from))
    (others : (p : Place) → p ≢ from → p ≢ to → option_map bare (new p) ≡ option_map bare (old p)) (stands : StandsFor bare (store_of bare was old) was old) where
  at-name : (n : ℕ) (p : Option Place) → was n ≡ p → found bare new (option_map (renamed from to) p) ≡ found bare old p
  at-name n None e = refl
  at-name n (Some p) e =
      elim (told-apart from p) [
        | inl here ↦ ap (λ b. option_map bare (new (cond b to p))) here.1 ∙ moved ∙ ap (λ z. option_map bare (old z)) here.0
        | inr far ↦ ap (λ b. option_map bare (new (cond b to p))) far.1 ∙ elim (told-apart to p) [
          | inl here ↦
              absurd (let clash : false ≡ true = sym (ap (λ o. is_some (option_map bare o)) (ap old (sym here.0) ∙ unused)) ∙ subst (λ o. IsSome (found bare old o)) e (stands.known n p e) in cc)
          | inr away ↦ others p (λ g. far.0 (sym g)) (λ g. away.0 (sym g))
        ]
      ]

  -- each name has what it had
  pub same-store : ((n : ℕ) → now n ≡ option_map (renamed from to) (was n)) → (n : ℕ) → store_of bare now new n ≡ store_of bare was old n
  same-store names n = ap (found bare new) (names n) ∙ at-name n (was n) refl
