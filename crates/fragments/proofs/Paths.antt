-- The way along the fragments of a value, one step after the other.
use Rattle.std.proofs.Common.{◌≡◌, ℕ, zero, suc, ◌-◌, ◌≤◌, Bool, true, false, List, [], ◌∷◌, length, map, Option, Some, None, refl, sym, ap, subst, ◌∙◌, arith, length-append}
use Rattle.std.specs.Prelude.{option_map}
use Rattle.std.specs.List.{concat}
use Rattle.regions.specs.Segments.{RegionState}
use Rattle.regions.specs.Contents.{Item, Standing, if_live, item_if_live, live_at, standing_at}
use Rattle.regions.specs.Stores.{Live}
use Rattle.regions.specs.declared.place.Place.{Place}
use Rattle.fragments.specs.Sizes.{most_fragments}
use Rattle.fragments.specs.Fragment.{IsFragment}
use Rattle.fragments.specs.Store.{bytes_at, content_of, follow, next_at, pieces_from}
use Rattle.fragments.specs.inside.Linking.{HoldsAFragment}
use Rattle.fragments.specs.inside.Paths.{IsPath, Leads}
use Rattle.place_lemmas.proofs.Places.{some_is, some_none}

pub followed : (n : ℕ) (live : Live) (from : Option Place) (ps : List Place) → IsPath live from ps → length ps ≤ n → follow n live from ≡ ps
followed zero live from [] path few = refl
followed zero live from (p ∷ ps) path few = absurd (omega (arith, few))
followed (suc n) live from [] path few = ap (follow (suc n) live) path
followed (suc n) live from (p ∷ ps) path few =
    ap (follow (suc n) live) path.0 ∙ ap (λ (qs : List Place). p ∷ qs) (followed n live (next_at live p) ps path.2 (omega (arith, few)))

pub follow_short : (n : ℕ) (live : Live) (from : Option Place) → length (follow n live from) ≤ n
follow_short zero live from = omega arith
follow_short (suc n) live None = omega arith
follow_short (suc n) live (Some p) = (let rest = follow_short n live (next_at live p) in omega (arith, rest))

-- one step
module _ (live : Live) (p : Place) (left : ℕ) (leads : Leads live (Some p) left) where
  abbrev rest : List Place
  rest = follow 85 live (next_at live p)

  pub here_holds : HoldsAFragment (live p)
  here_holds = leads.path.1

  rest_is : follow most_fragments live (next_at live p) ≡ rest
  rest_is = followed most_fragments live (next_at live p) rest leads.path.2 (let few = follow_short 85 live (next_at live p) in omega (arith, few))

  pub pieces_step : pieces_from live (Some p) ≡ bytes_at live p ∷ pieces_from live (next_at live p)
  pieces_step = ap (λ (ps : List Place). bytes_at live p ∷ map (bytes_at live) ps) (sym rest_is)

  pub enough : length (bytes_at live p) ≤ left
  enough =
      let all = leads.left_is in let split = length-append (bytes_at live p) (concat (map (bytes_at live) rest)) in
      omega (arith, all, split)

  pub leads_step : Leads live (next_at live p) (left - length (bytes_at live p))
  leads_step = record {
    path = subst (λ ps. IsPath live (next_at live p) ps) (sym rest_is) leads.path.2;
    left_is =
        (let all = leads.left_is in let split = length-append (bytes_at live p) (concat (map (bytes_at live) rest)) in
        let same = ap (λ (ps : List Place). length (concat (map (bytes_at live) ps))) rest_is in
        omega (arith, all, split, same));
  }

-- the content that is read at a place
content_live : (o : Option Standing) (bytes : List ℕ) → option_map (λ (s : Standing). s.item.content) o ≡ Some bytes → HoldsAFragment (item_if_live o) → bytes ≡ content_of (item_if_live o)
content_live None bytes e h = some_none e refl
content_live (Some s) bytes e h = by s.live s.item h (some_is e)
  where
    by : (l : Bool) (i : Item) → HoldsAFragment (if_live l i) → i.content ≡ bytes → bytes ≡ content_of (if_live l i)
    by true i h e = sym e
    by false i h e = (let x = h.is in some_none x refl)

pub content_read : (r : RegionState) (p : Place) (bytes : List ℕ) → option_map (λ (s : Standing). s.item.content) (standing_at r p) ≡ Some bytes → HoldsAFragment (live_at r p)
    → bytes ≡ content_of (live_at r p)
content_read r p bytes e h = content_live (standing_at r p) bytes e h

pub fragment_read : (live : Live) (p : Place) → HoldsAFragment (live p) → IsFragment (content_of (live p))
fragment_read live p h = subst (λ o. IsFragment (content_of o)) (sym h.is) h.fragment
