-- The only object of a region, as it is placed and moved.
use Rattle.std.proofs.Common.{◌≡◌, ◌≢◌, ℕ, zero, suc, inl, inr, Option, Some, None, refl, sym, ap, ◌∙◌, subst}
use Rattle.std.specs.Prelude.{IsSome, option_map}
use Rattle.regions.specs.Segments.{RegionState}
use Rattle.regions.specs.Contents.{Item, item_if_live, standing_at, live_at, zeros, ChangesAt}
use Rattle.regions.specs.Stores.{Live, StandsFor, store_of, less, renamed}
use Rattle.regions.specs.declared.place.Place.{Place}
use Rattle.place_lemmas.proofs.Places.{place_cases, less_here, less_past, renamed_here, some_none}
use Rattle.part_examples.specs.Bookmarks.{IsOnly, place_named}

-- ---- it stands for a store of one name

module _ (place : Place) (live : Live) (only : IsOnly place live) where
  placed-named : (n : ℕ) (i : Item) → store_of (λ j. j) (place_named place) live n ≡ Some i → (p : Place) × (place_named place n ≡ Some p) × (option_map (λ j. j) (live p) ≡ Some i)
  placed-named zero i e = (place, refl, e)
  placed-named (suc n) i e = absurd (let clash : None ≡ Some i = e in cc)

  known-named : (n : ℕ) (p : Place) → place_named place n ≡ Some p → IsSome (store_of (λ j. j) (place_named place) live n)
  known-named zero p e = subst (λ o. IsSome (option_map (λ (j : Item). j) o)) (sym only.is) refl
  known-named (suc n) p e = absurd (let clash : None ≡ Some p = e in cc)

  apart-named : (m n : ℕ) (p : Place) → place_named place m ≡ Some p → place_named place n ≡ Some p → m ≡ n
  apart-named zero zero p e f = refl
  apart-named zero (suc n) p e f = absurd (let clash : None ≡ Some p = f in cc)
  apart-named (suc m) n p e f = absurd (let clash : None ≡ Some p = e in cc)

  pub stands-only : StandsFor (λ j. j) (store_of (λ j. j) (place_named place) live) (place_named place) live
  stands-only = record {
    placed = placed-named;
    known = known-named;
    apart = apart-named;
    every = λ p i e.
        (let there : place ≡ p = sym (only.only p i e) in (
          zero,
          ap (λ (q : Place). Some q) there,
          ap (λ (q : Place). option_map (λ (j : Item). j) (live q)) there ∙ ap (option_map (λ (j : Item). j)) e,
        ));
  }

-- ---- it is moved

module _ (place : Place) (live : Live) (from to : Place) (i : Item) (apart : from ≢ to) (at-from : live from ≡ Some i) (at-to : live to ≡ Some i) (only : IsOnly place (less to live)) where
  was-there : from ≡ place
  was-there = only.only from i (less_past to from live (λ e. apart (sym e)) ∙ at-from)

  pub named-moved : (n : ℕ) → place_named to n ≡ option_map (renamed from to) (place_named place n)
  named-moved zero = ap (λ (p : Place). Some p) (sym (ap (renamed from to) (sym was-there) ∙ renamed_here from to))
  named-moved (suc n) = refl

  only-there : (p : Place) (j : Item) → less from live p ≡ Some j → p ≡ to
  only-there p j e = elim (place_cases to p) [
    | inl here ↦ sym here
    | inr far ↦
        elim (place_cases from p) [
          | inl here ↦ some_none e (ap (less from live) (sym here) ∙ less_here from live)
          | inr away ↦ absurd (away (was-there ∙ sym (only.only p j (less_past to p live far ∙ (sym (less_past from p live away) ∙ e)))))
        ]
  ]

  pub only-moved : IsOnly to (less from live)
  only-moved = record { item = i; is = less_past from to live apart ∙ at-to; only = only-there }

-- ---- it is placed

pub only-placed : (old new : RegionState) (p : Place) (group : Option ℕ) (kind size : ℕ) → ((q : Place) → standing_at old q ≡ None) → ChangesAt p (Some (zeros group kind size)) old new → IsOnly p (live_at new)
only-placed old new p group kind size empty added = record {
  item = (zeros group kind size).item;
  is = ap item_if_live added.here;
  only = λ q i e. elim (place_cases q p) [ inl here ↦ here | inr far ↦ some_none e (ap item_if_live (added.others q far ∙ empty q)) ];
}

-- ---- it is the same

unchanged : (o : Option Item) → option_map (λ j. j) o ≡ o
unchanged None = refl
unchanged (Some i) = refl

pub same-object : (a b : Option Item) → option_map (λ j. j) a ≡ option_map (λ j. j) b → a ≡ b
same-object a b e = sym (unchanged a) ∙ e ∙ unchanged b
