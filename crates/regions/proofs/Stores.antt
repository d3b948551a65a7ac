-- A region by itself stands for a store.
use Rattle.std.proofs.Common.{◌≡◌, refl, sym, ◌∙◌, ap}
use Rattle.std.specs.Prelude.{Option, None, Some, IsSome, is_some, option_map}
use Rattle.regions.specs.Contents.{Item}
use Rattle.regions.specs.Stores.{Live, Bare, StandsFor, found, store_of, itself}
use Rattle.regions.specs.declared.place.Place.{Place}

-- a name that has a place is that place
own : (live : Live) (n p : Place) → itself live n ≡ Some p → n ≡ p
own live n p = elim (live n) as (λ v. option_map (λ _. n) v ≡ Some p → n ≡ p) [
  | None ↦ λ e. absurd (let clash : None ≡ Some p = e in cc)
  | Some i ↦ λ e. (let both : Some n ≡ Some p = e in cc)
]

placed-if : (bare : Bare) (live : Live) (n : Place) (i : Item) (v : Option Item) → live n ≡ v → found bare live (option_map (λ _. n) v) ≡ Some i
    → (p : Place) × (option_map (λ _. n) v ≡ Some p) × (option_map bare (live p) ≡ Some i)
placed-if bare live n i None is e = absurd (let clash : None ≡ Some i = e in cc)
placed-if bare live n i (Some j) is e = (n, refl, e)

known-if : (bare : Bare) (live : Live) (n p : Place) (v : Option Item) → live n ≡ v → option_map (λ _. n) v ≡ Some p → IsSome (found bare live (option_map (λ _. n) v))
known-if bare live n p None is e = absurd (let clash : None ≡ Some p = e in cc)
known-if bare live n p (Some j) is e = ap (λ o. is_some (option_map bare o)) is

every-if : (bare : Bare) (live : Live) (p : Place) (i : Item) (v : Option Item) → live p ≡ v → v ≡ Some i
    → (n : Place) × (option_map (λ _. n) (live n) ≡ Some p) × (found bare live (option_map (λ _. n) (live n)) ≡ Some (bare i))
every-if bare live p i v is e =
    let there : live p ≡ Some i = is ∙ e in
    (p, ap (option_map (λ _. p)) there, ap (λ o. found bare live (option_map (λ _. p) o)) there ∙ ap (option_map bare) there)

pub stands-itself : (bare : Bare) (live : Live) → StandsFor bare (store_of bare (itself live) live) (itself live) live
stands-itself bare live = record {
  placed = λ n i e. placed-if bare live n i (live n) refl e;
  known = λ n p e. known-if bare live n p (live n) refl e;
  apart = λ m n p e f. own live m p e ∙ sym (own live n p f);
  every = λ p i e. every-if bare live p i (live p) refl e;
}
