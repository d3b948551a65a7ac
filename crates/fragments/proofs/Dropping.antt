-- All fragments of an entry are dropped, one after the other.
use Rattle.std.proofs.Common.{◌≡◌, ◌≢◌, ℕ, ◌+◌, inl, inr, cond, List, [], ◌∷◌, length, Option, Some, None, refl, sym, ap, subst, ◌∙◌, arith}
use Rattle.std.specs.Prelude.{◌==◌, IsSome, option_map, slice_get}
use Rattle.std.proofs.lemmas.Bool.{cases_eq}
use Rattle.std.proofs.lemmas.Bool.Decides.{eqb_tells}
use Rattle.regions.specs.Segments.{RegionState}
use Rattle.regions.specs.Shapes.{shape}
use Rattle.regions.specs.Counts.{live_total}
use Rattle.regions.specs.Contents.{Item, live_at}
use Rattle.regions.specs.Stores.{Live, found}
use Rattle.fragments.specs.Sizes.{object_size}
use Rattle.fragments.specs.Store.{Stay}
use Rattle.fragments.specs.inside.Consistent.{size_of_parts}
use Rattle.regions.specs.declared.place.Place.{Place}
use Rattle.fragments.specs.Fragment.{bare, bare_fragment}
use Rattle.fragments.specs.Chains.{TableState, AreChains, HoldParts, Parts, chain_at, first_at, owner, place_at}
use Rattle.place_lemmas.proofs.Places.{some_none}

-- the parts, but those of one entry
abbrev pub with_parts : ℕ → List (List ℕ) → Parts → Parts
with_parts n ps all e = cond (e == n) ps (all e)

pub parts_here : (n : ℕ) (ps : List (List ℕ)) (all : Parts) → with_parts n ps all n ≡ ps
parts_here n ps all = elim (eqb_tells n n) [ inl h ↦ ap (λ b. cond b ps (all n)) h.0 | inr h ↦ absurd (h.1 refl) ]

pub parts_past : (n e : ℕ) (ps : List (List ℕ)) (all : Parts) → e ≢ n → with_parts n ps all e ≡ all e
parts_past n e ps all far = elim (eqb_tells e n) [ inl h ↦ absurd (far h.1) | inr h ↦ ap (λ b. cond b ps (all e)) h.0 ]

-- the same parts
pub parts_same : (t : TableState) (live : Live) (all others : Parts) → ((e : ℕ) → others e ≡ all e) → HoldParts t live all → HoldParts t live others
parts_same t live all others same hold = λ e i. hold e i ∙ ap (λ (ps : List (List ℕ)). option_map (bare_fragment (owner t e)) (slice_get ps i)) (sym (same e))

-- an entry without fragments holds no part
pub none_left : (t : TableState) (live : Live) (all : Parts) (n : ℕ) → HoldParts t live all → chain_at t.chains n ≡ [] → all n ≡ []
none_left t live all n hold none = by (all n) refl
  where
    by : (ps : List (List ℕ)) → all n ≡ ps → all n ≡ []
    by [] s = s
    by (p ∷ ps) s =
        some_none refl (sym (ap (λ (qs : List (List ℕ)). option_map (bare_fragment (owner t n)) (slice_get qs 0)) s) ∙ (sym (hold n 0) ∙ ap (λ (qs : List Place). found bare live (slice_get qs 0)) none))

-- and one with a first fragment holds a first part
pub one_left : (t : TableState) (live : Live) (all : Parts) (n : ℕ) (p : Place) → AreChains t live → HoldParts t live all → first_at t.firsts n ≡ Some p
    → (part : List ℕ) × (rest : List (List ℕ)) × (all n ≡ part ∷ rest)
one_left t live all n p are hold first = by (all n) refl
  where
    by : (ps : List (List ℕ)) → all n ≡ ps → (part : List ℕ) × (rest : List (List ℕ)) × (all n ≡ part ∷ rest)
    by (q ∷ qs) s = (q, qs, s)
    by [] s =
        let h : place_at t.chains n 0 ≡ Some p = sym (are.firsts n) ∙ first in
        let l = are.linked n 0 p h in
        some_none refl (sym (ap (option_map bare) l.is_live) ∙ (sym (ap (found bare live) h) ∙ (hold n 0 ∙ ap (λ (ps : List (List ℕ)). option_map (bare_fragment (owner t n)) (slice_get ps 0)) s)))

pub empty_chain : (t : TableState) (live : Live) (n : ℕ) → AreChains t live → first_at t.firsts n ≡ None → chain_at t.chains n ≡ []
empty_chain t live n are none = by (chain_at t.chains n) (sym (are.firsts n) ∙ none)
  where
    by : (ps : List Place) → slice_get ps 0 ≡ None → ps ≡ []
    by [] e = refl
    by (p ∷ ps) e = some_none refl e

-- ---- the loop

pub stays_again : (r s q : RegionState) → Stay r s → Stay s q → Stay r q
stays_again r s q a b = λ p some. (let e = b p some in e ∙ a p (still (live_at s p) (live_at q p) e some))
  where
    still : (o n : Option Item) → option_map bare n ≡ option_map bare o → IsSome n → IsSome o
    still None None e h = h
    still None (Some x) e h = some_none refl e
    still (Some y) n e h = refl

pub record IsDropping (before t : TableState) (old r : RegionState) (n : ℕ) : Type 0 where
  pub chains : AreChains t (live_at r)
  pub names : t.names ≡ before.names
  pub grows : t.grows ≡ before.grows
  pub others : (e : ℕ) → e ≢ n → chain_at t.chains e ≡ chain_at before.chains e
  pub shape_is : shape r ≡ shape old
  pub stay : Stay old r
  pub parts : (all : Parts) → HoldParts before (live_at old) all
      → (rest : List (List ℕ)) × HoldParts t (live_at r) (with_parts n rest all) × (live_total r + size_of_parts (all n) ≡ live_total old + size_of_parts rest)

pub none_dropped : (t : TableState) (r : RegionState) (n : ℕ) → AreChains t (live_at r) → IsDropping t t r r n
none_dropped t r n are = record {
  chains = are;
  names = refl;
  grows = refl;
  others = λ e far. refl;
  shape_is = refl;
  stay = λ p some. refl;
  parts = λ all hold. (all n, parts_same t (live_at r) all (with_parts n (all n) all) (same all) hold, refl);
}
  where
    same : (all : Parts) (e : ℕ) → with_parts n (all n) all e ≡ all e
    same all e = elim (eqb_tells e n) [ inl h ↦ ap (λ b. cond b (all n) (all e)) h.0 ∙ ap all (sym h.1) | inr h ↦ ap (λ b. cond b (all n) (all e)) h.0 ]

pub one_dropped : (before t u : TableState) (old r s : RegionState) (n : ℕ) (p : Place) → IsDropping before t old r n → first_at t.firsts n ≡ Some p
    → AreChains u (live_at s) → u.names ≡ t.names → u.grows ≡ t.grows → ((e : ℕ) → e ≢ n → chain_at u.chains e ≡ chain_at t.chains e) → shape s ≡ shape r → Stay r s
    → ((all fewer : Parts) (part : List ℕ) → HoldParts t (live_at r) all → all n ≡ part ∷ fewer n → ((e : ℕ) → e ≢ n → fewer e ≡ all e) → HoldParts u (live_at s) fewer)
    → ((all : Parts) (part : List ℕ) (rest : List (List ℕ)) → HoldParts t (live_at r) all → all n ≡ part ∷ rest → live_total s + object_size (length part) ≡ live_total r)
    → IsDropping before u old s n
one_dropped before t u old r s n p d first are names grows others same stay parts total = record {
  chains = are;
  names = names ∙ d.names;
  grows = grows ∙ d.grows;
  others = λ e far. others e far ∙ d.others e far;
  shape_is = same ∙ d.shape_is;
  stay = stays_again old r s d.stay stay;
  parts = λ all hold.
      (let w = d.parts all hold in let rest = w.0 in
      let one = one_left t (live_at r) (with_parts n rest all) n p d.chains w.1 first in
      let split : rest ≡ one.0 ∷ one.1 = sym (parts_here n rest all) ∙ one.2 in
      let now : with_parts n rest all n ≡ one.0 ∷ with_parts n one.1 all n = one.2 ∙ ap (λ (ps : List (List ℕ)). one.0 ∷ ps) (sym (parts_here n one.1 all)) in
      let gone = total (with_parts n rest all) one.0 one.1 w.1 one.2 in
      let were = w.2 in let sum_is = ap size_of_parts split in
      (one.1, parts (with_parts n rest all) (with_parts n one.1 all) one.0 w.1 now (λ e far. parts_past n e one.1 all far ∙ sym (parts_past n e rest all far)), omega (arith, gone, were, sum_is)));
}

-- once no fragment is left
pub all_dropped : (before t : TableState) (old r : RegionState) (n : ℕ) → IsDropping before t old r n → chain_at t.chains n ≡ [] → (all fewer : Parts) → HoldParts before (live_at old) all
    → fewer n ≡ [] → ((e : ℕ) → e ≢ n → fewer e ≡ all e) → HoldParts t (live_at r) fewer
all_dropped before t old r n d empty all fewer hold none rest =
    let w = d.parts all hold in
    let gone : w.0 ≡ [] = sym (parts_here n w.0 all) ∙ none_left t (live_at r) (with_parts n w.0 all) n w.1 empty in
    parts_same t (live_at r) (with_parts n w.0 all) fewer (same w.0 gone) w.1
  where
    same : (ps : List (List ℕ)) → ps ≡ [] → (e : ℕ) → fewer e ≡ with_parts n ps all e
    same ps gone e = elim (cases_eq e n) [
      | inl s ↦ subst (λ x. fewer x ≡ with_parts n ps all x) (sym s) (none ∙ (sym gone ∙ sym (parts_here n ps all)))
      | inr far ↦ rest e far ∙ sym (parts_past n e ps all far)
    ]

pub total_dropped : (before t : TableState) (old r : RegionState) (n : ℕ) → IsDropping before t old r n → chain_at t.chains n ≡ [] → (all : Parts) → HoldParts before (live_at old) all
    → live_total r + size_of_parts (all n) ≡ live_total old
total_dropped before t old r n d empty all hold =
    let w = d.parts all hold in
    let gone : w.0 ≡ [] = sym (parts_here n w.0 all) ∙ none_left t (live_at r) (with_parts n w.0 all) n w.1 empty in
    let sum_is = ap size_of_parts gone in let were = w.2 in omega (arith, sum_is, were)
