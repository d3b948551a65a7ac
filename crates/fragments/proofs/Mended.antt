-- What the tables tell of a fragment that is moved, and its entry once that is mended.
use Rattle.std.proofs.Common.{◌≡◌, ◌≢◌, ℕ, zero, suc, ◌<◌, inl, inr, List, [], ◌∷◌, length, map, Option, Some, None, refl, sym, ap, subst, ◌∙◌, arith}
use Rattle.std.specs.Prelude.{IfSome, option_map, slice_get, slice_set}
use Rattle.std.proofs.lemmas.Bool.{cases_eq}
use Rattle.std.proofs.lemmas.Bool.Decides.{leb_tells}
use Rattle.std.proofs.lemmas.List.{get_or_past, length-map}
use Rattle.regions.specs.Contents.{Item}
use Rattle.regions.specs.Stores.{Live, less, renamed}
use Rattle.regions.specs.declared.place.Place.{Place}
use Rattle.regions.specs.Places.{led_to}
use Rattle.fragments.specs.Fragment.{back_in, name_in, next_in}
use Rattle.fragments.specs.Chains.{TableState, AreChains, IsLinked, chain_at, first_at, owner, place_at, place_before}
use Rattle.fragments.specs.Store.{content_of}
use Rattle.fragments.specs.inside.Consistent.{AreEntries}
use Rattle.fragments.specs.inside.Linking.{HoldsAFragment, IsMended, back_link, next_link}
use Rattle.place_lemmas.proofs.Places.{leads_on, less_here, less_past, place_cases, renamed_here, renamed_past, some_is, some_none}
use Rattle.fragments.proofs.Positions.{earlier, first_past, first_set, owner_named, room_at, room_before}
use Rattle.fragments.proofs.Lives.{back_link_is, linked_holds, next_link_is}

-- an entry with a fragment is an entry
pub entry_below : (chains : List (List Place)) (e i : ℕ) (p : Place) → place_at chains e i ≡ Some p → e < length chains
entry_below chains e i p h = elim (leb_tells (length chains) e) [
  | inl k ↦ some_none h (ap (λ (ps : List Place). slice_get ps i) (get_or_past chains e [] k.1))
  | inr k ↦ k.1
]

not_less : (p : Place) (live : Live) (q : Place) → HoldsAFragment (less p live q) → HoldsAFragment (live q)
not_less p live q h = elim (place_cases p q) [
  | inl s ↦ (let e = h.is in some_none e (ap (less p live) (sym s) ∙ less_here p live))
  | inr far ↦ subst (λ o. HoldsAFragment o) (less_past p q live far) h
]

module _ (t : TableState) (live : Live) (from to : Place) (f j : ℕ)
    (are : AreChains t (less to live)) (apart : from ≢ to) (copied : live to ≡ live from) (at : place_at t.chains f j ≡ Some from) where
  same_object : live to ≡ less to live from
  same_object = copied ∙ sym (less_past to from live (λ e. apart (sym e)))

  linked_from : IsLinked (less to live) from (place_before t.chains f j) (place_at t.chains f (suc j)) (owner t f)
  linked_from = are.linked f j from at

  pub copy_holds : HoldsAFragment (live to)
  copy_holds = subst (λ o. HoldsAFragment o) (sym same_object) (linked_holds (less to live) from (place_before t.chains f j) (place_at t.chains f (suc j)) (owner t f) linked_from)

  pub copy_back : (o : Option Place) → o ≡ led_to (back_link live to) → o ≡ place_before t.chains f j
  copy_back o is =
      is ∙ (ap (λ (x : Option Item). led_to (back_in (content_of x))) same_object
      ∙ (ap led_to (back_link_is (less to live) from (place_before t.chains f j) (place_at t.chains f (suc j)) (owner t f) linked_from)
      ∙ leads_on (place_before t.chains f j) (room_before t (less to live) f j are)))

  pub copy_next : (o : Option Place) → o ≡ led_to (next_link live to) → o ≡ place_at t.chains f (suc j)
  copy_next o is =
      is ∙ (ap (λ (x : Option Item). led_to (next_in (content_of x))) same_object
      ∙ (ap led_to (next_link_is (less to live) from (place_before t.chains f j) (place_at t.chains f (suc j)) (owner t f) linked_from)
      ∙ leads_on (place_at t.chains f (suc j)) (room_at t (less to live) f (suc j) are)))

  pub copy_name : (n : ℕ) → IfSome (live to) (λ (item : Item). n ≡ name_in item.content) → n ≡ owner t f
  copy_name n h = by (live to) h (linked_from.item) (same_object ∙ linked_from.is_live) ∙ linked_from.name_is
    where
      by : (o : Option Item) → IfSome o (λ (item : Item). n ≡ name_in item.content) → (item : Item) → o ≡ Some item → n ≡ name_in item.content
      by None h item e = some_none e refl
      by (Some x) h item e = h ∙ ap (λ (i : Item). name_in i.content) (some_is e)

  pub copy_small : owner t f < t.names
  copy_small = are.owned f j from at

  -- the neighbours
  pub before_holds : (o : Option Place) → o ≡ place_before t.chains f j → IfSome o (λ q. HoldsAFragment (live q))
  before_holds None is = tt
  before_holds (Some q) is = neighbour j q (sym is)
    where
      neighbour : (j : ℕ) (q : Place) → place_before t.chains f j ≡ Some q → HoldsAFragment (live q)
      neighbour zero q h = some_none h refl
      neighbour (suc k) q h =
          not_less to live q (linked_holds (less to live) q (place_before t.chains f k) (place_at t.chains f (suc k)) (owner t f) (are.linked f k q h))

  pub next_holds : (o : Option Place) → o ≡ place_at t.chains f (suc j) → IfSome o (λ q. HoldsAFragment (live q))
  next_holds None is = tt
  next_holds (Some q) is = not_less to live q (linked_holds (less to live) q (place_at t.chains f j) (place_at t.chains f (suc (suc j))) (owner t f) (are.linked f (suc j) q (sym is)))

  -- ---- the entry

  past_first : (e : ℕ) → e ≢ f → first_at t.firsts e ≢ Some from
  past_first e far h = (let both = are.apart e f 0 j from (sym (are.firsts e) ∙ h) at in far both.0)

  not_renamed : (o : Option Place) → o ≢ Some from → option_map (renamed from to) o ≡ o
  not_renamed None far = refl
  not_renamed (Some p) far = ap (λ x. Some x) (renamed_past from to p (λ s. far (ap (λ x. Some x) (sym s))))

  mended_at : (entries : AreEntries t) (firsts : List (Option Place)) → f < length t.firsts → j ≡ 0 → firsts ≡ slice_set t.firsts f (Some to)
      → (e : ℕ) → first_at firsts e ≡ option_map (renamed from to) (first_at t.firsts e)
  mended_at entries firsts within is_first is e =
      let first : first_at t.firsts f ≡ Some from = are.firsts f ∙ subst (λ k. place_at t.chains f k ≡ Some from) is_first at in
      ap (λ (os : List (Option Place)). first_at os e) is
      ∙ elim (cases_eq e f) [
        | inl s ↦ subst (λ x. first_at (slice_set t.firsts f (Some to)) x ≡ option_map (renamed from to) (first_at t.firsts x)) (sym s)
            (first_set t.firsts f (Some to) within ∙ sym (ap (option_map (renamed from to)) first ∙ ap (λ x. Some x) (renamed_here from to)))
        | inr far ↦ first_past t.firsts f e (Some to) far ∙ sym (not_renamed (first_at t.firsts e) (past_first e far))
      ]

  pub first_mended : (entries : AreEntries t) (name : ℕ) (firsts : List (Option Place)) → name ≡ owner t f → j ≡ 0 → IsMended t name from to firsts
      → (e : ℕ) → first_at firsts e ≡ option_map (renamed from to) (first_at t.firsts e)
  first_mended entries name firsts named is_first m =
      let below = entry_below t.chains f j from at in let cs = entries.chains in let fs = entries.firsts in
      let first : first_at t.firsts f ≡ Some from = are.firsts f ∙ subst (λ k. place_at t.chains f k ≡ Some from) is_first at in
      elim (leb_tells (suc f) t.names) [
        | inl k ↦
            (let small = k.1 in let is : name ≡ f = named ∙ owner_named t f (omega (arith, small)) in
            mended_at entries firsts (omega (arith, small, fs)) is_first (m.there (ap (λ (x : ℕ). first_at t.firsts x) is ∙ first) ∙ ap (λ (x : ℕ). slice_set t.firsts x (Some to)) is))
        | inr k ↦
            (let great = k.1 in let is : f ≡ t.names = omega (arith, great, below, cs) in
            let small : name < t.names = subst (λ x. x < t.names) (sym named) copy_small in
            let far : name ≢ f = λ e. (omega (arith, e, small, great)) in
            mended_at entries firsts (omega (arith, below, cs, fs)) is_first (m.elsewhere (past_first name far) ∙ ap (λ (x : ℕ). slice_set t.firsts x (Some to)) (sym is)))
      ]

  pub first_kept : (firsts : List (Option Place)) → j ≢ 0 → firsts ≡ t.firsts → (e : ℕ) → first_at firsts e ≡ option_map (renamed from to) (first_at t.firsts e)
  first_kept firsts later is e =
      ap (λ (os : List (Option Place)). first_at os e) is
      ∙ sym (not_renamed (first_at t.firsts e) (λ h. (let both = are.apart e f 0 j from (sym (are.firsts e) ∙ h) at in later (sym both.1))))

  -- the first one has none before it
  pub is_first : (o : Option Place) → o ≡ place_before t.chains f j → o ≡ None → j ≡ 0
  is_first o is none = by j at (sym is ∙ none)
    where
      by : (j : ℕ) → place_at t.chains f j ≡ Some from → place_before t.chains f j ≡ None → j ≡ 0
      by zero h e = refl
      by (suc k) h e = (let b = earlier (chain_at t.chains f) k from h in some_none b.1 e)

  pub is_later : (o : Option Place) → o ≡ place_before t.chains f j → o ≢ None → j ≢ 0
  is_later o is some zero_is = some (is ∙ ap (λ k. place_before t.chains f k) zero_is)

-- where the fragment that is moved stands in its chain
pub record IsAt (t : TableState) (live : Live) (from to : Place) : Type 0 where
  pub entry : ℕ
  pub number : ℕ
  pub at : place_at t.chains entry number ≡ Some from
  pub copied : live to ≡ live from

pub found_at : (t : TableState) (live : Live) (from to : Place) (item : Item) → AreChains t (less to live) → from ≢ to → live from ≡ Some item → live to ≡ Some item → IsAt t live from to
found_at t live from to item are apart here there =
    let w = are.every from item (less_past to from live (λ e. apart (sym e)) ∙ here) in
    record { entry = w.0; number = w.1; at = w.2; copied = there ∙ sym here }

-- the lengths of the chains
pub lengths_mapped : (g : Place → Place) (chains : List (List Place)) → map length (map (map g) chains) ≡ map length chains
lengths_mapped g [] = refl
lengths_mapped g (ps ∷ chains) = ap (λ (n : ℕ). n ∷ map length (map (map g) chains)) (length-map ps g) ∙ ap (λ (ns : List ℕ). length ps ∷ ns) (lengths_mapped g chains)
