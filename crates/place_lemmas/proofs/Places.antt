-- Places, options of them, and where a link leads.
use Rattle.std.proofs.Common.{◌≡◌, ◌≢◌, ℕ, ◌+◌, ◌*◌, ◌/◌, ◌%◌, ◌⊎◌, inl, inr, true, false, true≢false, cond, ◌&&◌, List, ◌∷◌, Option, Some, None, refl, sym, ap, ◌∙◌, arith}
use Rattle.std.specs.Prelude.{◌==◌, is_some}
use Rattle.std.proofs.lemmas.Bool.Decides.{eqb_tells}
use Rattle.regions.specs.Stores.{Live, is_place, less, renamed}
use Rattle.regions.specs.declared.place.Place.{Place}
use Rattle.regions.specs.Places.{HasRoom, leads_to, led_to, link_to, no_link, place_of_link}

pub some_is : {A : Type 0} {a b : A} → Some a ≡ Some b → a ≡ b
some_is {A} {a} {b} e = cc

pub some_same : {A : Type 0} {a b : A} {o : Option A} → o ≡ Some a → o ≡ Some b → a ≡ b
some_same {A} {a} {b} {o} p q = (let e : Some a ≡ Some b = sym p ∙ q in cc)

pub some_none : {A : Type 0} {P : Type 0} {a : A} {o : Option A} → o ≡ Some a → o ≡ None → P
some_none {A} {P} {a} {o} p q = absurd (let clash : Some a ≡ None = sym p ∙ q in cc)

-- an option that holds nothing
pub none_of : {A : Type 0} (o : Option A) → ((a : A) → o ≡ Some a → ⊥) → o ≡ None
none_of None h = refl
none_of (Some a) h = absurd (h a refl)

pub option_cases : {A : Type 0} (o : Option A) → (o ≡ None) ⊎ ((a : A) × (o ≡ Some a))
option_cases None = inl refl
option_cases (Some a) = inr (a, refl)

pub is_none_by : {A : Type 0} (o : Option A) → is_some o ≡ false → o ≡ None
is_none_by None e = refl
is_none_by (Some a) e = absurd (true≢false e)

pub is_some_by : {A : Type 0} (o : Option A) → is_some o ≡ true → (a : A) × (o ≡ Some a)
is_some_by None e = absurd (true≢false (sym e))
is_some_by (Some a) e = (a, refl)

abbrev at_fields : ℕ → ℕ → Place
at_fields s a = record { segment = s; at = a }

pub place_tells : (p q : Place) → ((is_place p q ≡ true) × (p ≡ q)) ⊎ ((is_place p q ≡ false) × (p ≢ q))
place_tells p q = elim (eqb_tells p.segment q.segment) [
  | inl a ↦
      elim (eqb_tells p.at q.at) [
        | inl b ↦ inl (ap (λ x. x && (p.at == q.at)) a.0 ∙ b.0, ap (λ (s : ℕ). at_fields s p.at) a.1 ∙ ap (λ (x : ℕ). at_fields q.segment x) b.1)
        | inr b ↦ inr (ap (λ x. x && (p.at == q.at)) a.0 ∙ b.0, λ e. b.1 (ap (λ (x : Place). x.at) e))
      ]
  | inr a ↦ inr (ap (λ x. x && (p.at == q.at)) a.0, λ e. a.1 (ap (λ (x : Place). x.segment) e))
]

pub place_cases : (p q : Place) → (p ≡ q) ⊎ (p ≢ q)
place_cases p q = elim (place_tells p q) [ inl h ↦ inl h.1 | inr h ↦ inr h.1 ]

-- whether an option is that place
pub option_tells : (o : Option Place) (p : Place) → (o ≡ Some p) ⊎ (o ≢ Some p)
option_tells None p = inr (λ e. some_none e refl)
option_tells (Some q) p = elim (place_cases q p) [ inl e ↦ inl (ap (λ x. Some x) e) | inr far ↦ inr (λ e. far (some_is e)) ]

pub renamed_here : (from to : Place) → renamed from to from ≡ to
renamed_here from to = elim (place_tells from from) [ inl h ↦ ap (λ b. cond b to from) h.0 | inr h ↦ absurd (h.1 refl) ]

pub renamed_past : (from to p : Place) → from ≢ p → renamed from to p ≡ p
renamed_past from to p far = elim (place_tells from p) [ inl h ↦ absurd (far h.1) | inr h ↦ ap (λ b. cond b to p) h.0 ]

-- ---- the live objects less one

pub less_here : (p : Place) (live : Live) → less p live p ≡ None
less_here p live = elim (place_tells p p) [ inl h ↦ ap (λ b. cond b None (live p)) h.0 | inr h ↦ absurd (h.1 refl) ]

pub less_past : (p q : Place) (live : Live) → p ≢ q → less p live q ≡ live q
less_past p q live far = elim (place_tells p q) [ inl h ↦ absurd (far h.1) | inr h ↦ ap (λ b. cond b None (live q)) h.0 ]

-- ---- links

pub led_back : (p : Place) → HasRoom p → place_of_link (link_to (Some p)) ≡ p
led_back p h =
    let s : (p.segment * 4294967296 + p.at) / 4294967296 ≡ p.segment = (let small = h.1 in omega (arith, small)) in
    let a : (p.segment * 4294967296 + p.at) % 4294967296 ≡ p.at = (let small = h.1 in omega (arith, small)) in
    ap (λ n. at_fields n ((p.segment * 4294967296 + p.at) % 4294967296)) s ∙ ap (λ n. at_fields p.segment n) a

abbrev pub HasRoomIf : Option Place → Type 0
HasRoomIf None = Unit {0}
HasRoomIf (Some p) = HasRoom p

pub leads_on : (o : Option Place) → HasRoomIf o → led_to (link_to o) ≡ o
leads_on None h = refl
leads_on (Some p) h = elim (eqb_tells (link_to (Some p)) no_link) [
  | inl e ↦ absurd (let q = e.1 in let s = h.0 in let a = h.1 in omega (arith, q, s, a))
  | inr far ↦ ap (λ b. cond b None (Some (place_of_link (link_to (Some p))))) far.0 ∙ ap (λ q. Some q) (led_back p h)
]

abbrev pub listed : Option Place → List Place → List Place
listed None others = others
listed (Some p) others = p ∷ others

-- what a link leads to
pub leads : (o : Option Place) (others : List Place) → HasRoomIf o → leads_to (link_to o) others ≡ listed o others
leads None others h = refl
leads (Some p) others h = elim (eqb_tells (link_to (Some p)) no_link) [
  | inl e ↦ absurd (let q = e.1 in let s = h.0 in let a = h.1 in omega (arith, q, s, a))
  | inr far ↦ ap (λ b. cond b others (place_of_link (link_to (Some p)) ∷ others)) far.0 ∙ ap (λ (q : Place). q ∷ others) (led_back p h)
]
