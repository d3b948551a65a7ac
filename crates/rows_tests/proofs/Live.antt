-- Which objects are live where nothing changed, and where one died.
use Rattle.std.proofs.Common.{◌≡◌, ◌≢◌, ◌⊎◌, inl, inr, true, false, cond, refl, sym, ap, ◌∙◌, subst, eq-eqb}
use Rattle.std.specs.Prelude.{Option, None, Some, option_map}
use Rattle.std.proofs.lemmas.Bool.{cases_eq, ne_eqb}
use mathlib.Core.Path.{fun_ext}
use Rattle.regions.specs.Segments.{RegionState}
use Rattle.regions.specs.Contents.{Standing, item_if_live, standing_at, live_at, dead, ChangesAt, Keeps}
use Rattle.regions.specs.Stores.{less, is_place}
use Rattle.regions.specs.declared.place.Place.{Place}

-- two places are one or they are told apart
pub told-apart : (p q : Place) → ((p ≡ q) × (is_place p q ≡ true)) ⊎ ((p ≢ q) × (is_place p q ≡ false))
told-apart p q =
    elim (cases_eq p.segment q.segment) [
      | inl same ↦
          elim (cases_eq p.at q.at) [
            | inl at ↦ inl (
              ap (λ k. let x : Place = record { segment = k; at = p.at } in x) same ∙ ap (λ k. let x : Place = record { segment = q.segment; at = k } in x) at,
              rw (eq-eqb p.segment q.segment same, eq-eqb p.at q.at at) refl,
            )
            | inr other ↦ inr (λ e. other (ap (λ (x : Place). x.at) e), rw (eq-eqb p.segment q.segment same, ne_eqb p.at q.at other) refl)
          ]
      | inr other ↦ inr (λ e. other (ap (λ (x : Place). x.segment) e), rw (ne_eqb p.segment q.segment other) refl)
    ]

-- where nothing that stands changed, the same objects are live
pub kept-live : (old new : RegionState) → Keeps old new → live_at old ≡ live_at new
kept-live old new same = fun_ext (λ p. ap item_if_live (sym (same p)))

dies : (s : Option Standing) → item_if_live (option_map dead s) ≡ None
dies None = refl
dies (Some s) = refl

-- the one that died is live no more
pub killed-live : (old new : RegionState) (from : Place) → ChangesAt from (option_map dead (standing_at old from)) old new → less from (live_at old) ≡ live_at new
killed-live old new from killed = fun_ext (λ q.
    elim (told-apart from q) [
      | inl here ↦ ap (λ b. cond b None (live_at old q)) here.1 ∙ sym (subst (λ z. item_if_live (standing_at new z) ≡ None) here.0 (ap item_if_live killed.here ∙ dies (standing_at old from)))
      | inr far ↦ ap (λ b. cond b None (live_at old q)) far.1 ∙ ap item_if_live (sym (killed.others q (λ e. far.0 (sym e))))
    ])
