-- The chain of the value that was written is its name's.
use Rattle.std.proofs.Common.{◌≡◌, ◌≢◌, ℕ, zero, suc, ◌<◌, ◌≤◌, ◌⊎◌, inl, inr, List, [], length, Some, None, refl, sym, ap, subst, ◌∙◌, arith}
use Rattle.std.specs.Prelude.{option_map, slice_get, slice_set}
use Rattle.std.proofs.lemmas.Bool.{cases_eq}
use Rattle.std.proofs.lemmas.List.{length-set}
use Rattle.regions.specs.Contents.{Item}
use Rattle.regions.specs.Stores.{Live, found}
use Rattle.regions.specs.declared.place.Place.{Place}
use Rattle.fragments.specs.Sizes.{most_fragments}
use Rattle.fragments.specs.Fragment.{bare, bare_fragment}
use Rattle.fragments.specs.Chains.{TableState, AreChains, HoldParts, IsLinked, Parts, chain_at, first_at, owner, place_at, place_before}
use Rattle.place_lemmas.proofs.Places.{some_none}
use Rattle.fragments.proofs.Positions.{chain_past, chain_set, first_past, first_set, owner_named, owner_written}

module _ (t u : TableState) (name : ℕ) (below : name < t.names) (n_chains : t.names < length t.chains) (n_firsts : t.names < length t.firsts)
    (is : u ≡ record t {
      firsts = slice_set (slice_set t.firsts name (first_at t.firsts t.names)) t.names None;
      chains = slice_set (slice_set t.chains name (chain_at t.chains t.names)) t.names [];
    })
    (grows : t.grows ≡ name) (none : chain_at t.chains name ≡ []) where
  abbrev n : ℕ
  n = t.names

  abbrev half : List (List Place)
  half = slice_set t.chains name (chain_at t.chains n)

  abbrev after : List (List Place)
  after = slice_set half n []

  chain_here : chain_at after name ≡ chain_at t.chains n
  chain_here = chain_past half n name [] (λ e. (omega (arith, e, below))) ∙ chain_set t.chains name (chain_at t.chains n) (omega (arith, below, n_chains))

  chain_gone : chain_at after n ≡ []
  chain_gone = chain_set half n [] (let e = length-set t.chains name (chain_at t.chains n) in omega (arith, e, n_chains))

  chain_beside : (e : ℕ) → e ≢ name → e ≢ n → chain_at after e ≡ chain_at t.chains e
  chain_beside e far away = chain_past half n e [] away ∙ chain_past t.chains name e (chain_at t.chains n) far

  here : (i : ℕ) → place_at after name i ≡ place_at t.chains n i
  here i = ap (λ (ps : List Place). slice_get ps i) chain_here

  here_before : (i : ℕ) → place_before after name i ≡ place_before t.chains n i
  here_before zero = refl
  here_before (suc i) = here i

  gone : (i : ℕ) → place_at after n i ≡ None
  gone i = ap (λ (ps : List Place). slice_get ps i) chain_gone

  beside : (e i : ℕ) → e ≢ name → e ≢ n → place_at after e i ≡ place_at t.chains e i
  beside e i far away = ap (λ (ps : List Place). slice_get ps i) (chain_beside e far away)

  beside_before : (e i : ℕ) → e ≢ name → e ≢ n → place_before after e i ≡ place_before t.chains e i
  beside_before e zero far away = refl
  beside_before e (suc i) far away = beside e i far away

  owners : owner t n ≡ owner t name
  owners = owner_written t n (omega arith) ∙ (grows ∙ sym (owner_named t name below))

  abbrev Was : ℕ → ℕ → Place → Type 0
  Was e i q = ((e ≡ name) × (place_at t.chains n i ≡ Some q)) ⊎ ((e ≢ name) × (e ≢ n) × (place_at t.chains e i ≡ Some q))

  was : (e i : ℕ) (q : Place) → place_at after e i ≡ Some q → Was e i q
  was e i q h = elim (cases_eq e name) [
    | inl s ↦ inl (s, sym (here i) ∙ subst (λ x. place_at after x i ≡ Some q) s h)
    | inr far ↦ elim (cases_eq e n) [
      | inl s ↦ some_none (subst (λ x. place_at after x i ≡ Some q) s h) (gone i)
      | inr away ↦ inr (far, away, sym (beside e i far away) ∙ h)
    ]
  ]

  module _ (live : Live) (are : AreChains t live) where
    linked_all : (e i : ℕ) (q : Place) → place_at after e i ≡ Some q → IsLinked live q (place_before after e i) (place_at after e (suc i)) (owner t e)
    linked_all e i q h = elim (was e i q h) [
      | inl a ↦ subst (λ x. IsLinked live q (place_before after x i) (place_at after x (suc i)) (owner t x)) (sym a.0)
          (subst (λ o. IsLinked live q o (place_at after name (suc i)) (owner t name)) (sym (here_before i))
          (subst (λ o. IsLinked live q (place_before t.chains n i) o (owner t name)) (sym (here (suc i)))
          (subst (λ k. IsLinked live q (place_before t.chains n i) (place_at t.chains n (suc i)) k) owners (are.linked n i q a.1))))
      | inr b ↦ subst (λ o. IsLinked live q o (place_at after e (suc i)) (owner t e)) (sym (beside_before e i b.0 b.1))
          (subst (λ o. IsLinked live q (place_before t.chains e i) o (owner t e)) (sym (beside e (suc i) b.0 b.1)) (are.linked e i q b.2))
    ]

    owned_all : (e i : ℕ) (q : Place) → place_at after e i ≡ Some q → owner t e < t.names
    owned_all e i q h = elim (was e i q h) [
      | inl a ↦ subst (λ x. owner t x < t.names) (sym a.0) (subst (λ k. k < t.names) owners (are.owned n i q a.1))
      | inr b ↦ are.owned e i q b.2
    ]

    apart_all : (e f i j : ℕ) (q : Place) → place_at after e i ≡ Some q → place_at after f j ≡ Some q → (e ≡ f) × (i ≡ j)
    apart_all e f i j q h k = elim (was e i q h) [
      | inl a ↦ elim (was f j q k) [
        | inl b ↦ (let both = are.apart n n i j q a.1 b.1 in (a.0 ∙ sym b.0, both.1))
        | inr b ↦ (let both = are.apart n f i j q a.1 b.2 in absurd (b.1 (sym both.0)))
      ]
      | inr a ↦ elim (was f j q k) [
        | inl b ↦ (let both = are.apart e n i j q a.2 b.1 in absurd (a.1 both.0))
        | inr b ↦ are.apart e f i j q a.2 b.2
      ]
    ]

    every_all : (q : Place) (item : Item) → live q ≡ Some item → (e : ℕ) × (i : ℕ) × (place_at after e i ≡ Some q)
    every_all q item h = (let w = are.every q item h in at w.0 w.1 w.2)
      where
        at : (e i : ℕ) → place_at t.chains e i ≡ Some q → (e : ℕ) × (i : ℕ) × (place_at after e i ≡ Some q)
        at e i g = elim (cases_eq e n) [
          | inl s ↦ (name, i, here i ∙ subst (λ x. place_at t.chains x i ≡ Some q) s g)
          | inr away ↦ elim (cases_eq e name) [
            | inl s ↦ some_none (subst (λ x. place_at t.chains x i ≡ Some q) s g) (ap (λ (ps : List Place). slice_get ps i) none)
            | inr far ↦ (e, i, beside e i far away ∙ g)
          ]
        ]

    firsts_all : (e : ℕ) → first_at (slice_set (slice_set t.firsts name (first_at t.firsts n)) n None) e ≡ place_at after e 0
    firsts_all e =
        let firsts = slice_set t.firsts name (first_at t.firsts n) in
        elim (cases_eq e n) [
          | inl s ↦ subst (λ x. first_at (slice_set firsts n None) x ≡ place_at after x 0) (sym s)
              (first_set firsts n None (let k = length-set t.firsts name (first_at t.firsts n) in omega (arith, k, n_firsts)) ∙ sym (gone 0))
          | inr away ↦ elim (cases_eq e name) [
            | inl s ↦ subst (λ x. first_at (slice_set firsts n None) x ≡ place_at after x 0) (sym s)
                (first_past firsts n name None (λ k. (omega (arith, k, below))) ∙ (first_set t.firsts name (first_at t.firsts n) (omega (arith, below, n_firsts)) ∙ (are.firsts n ∙ sym (here 0))))
            | inr far ↦ first_past firsts n e None away ∙ (first_past t.firsts name e (first_at t.firsts n) far ∙ (are.firsts e ∙ sym (beside e 0 far away)))
          ]
        ]

    short_all : (e : ℕ) → length (chain_at after e) ≤ most_fragments
    short_all e = elim (cases_eq e name) [
      | inl s ↦ subst (λ x. length (chain_at after x) ≤ most_fragments) (sym s) (subst (λ (ps : List Place). length ps ≤ most_fragments) (sym chain_here) (are.short n))
      | inr far ↦ elim (cases_eq e n) [
        | inl s ↦ subst (λ x. length (chain_at after x) ≤ most_fragments) (sym s) (subst (λ (ps : List Place). length ps ≤ most_fragments) (sym chain_gone) (omega arith))
        | inr away ↦ subst (λ (ps : List Place). length ps ≤ most_fragments) (sym (chain_beside e far away)) (are.short e)
      ]
    ]

    pub chains_settled : AreChains u live
    chains_settled = subst (λ (x : TableState). AreChains x live) (sym is) (record {
      firsts = firsts_all;
      linked = linked_all;
      owned = owned_all;
      apart = apart_all;
      every = every_all;
      short = short_all;
    })

  pub parts_settled : (live : Live) (all settled : Parts) → HoldParts t live all → settled name ≡ all n → settled n ≡ [] → ((e : ℕ) → e ≢ name → e ≢ n → settled e ≡ all e)
      → HoldParts u live settled
  parts_settled live all settled hold now empty rest = subst (λ (x : TableState). HoldParts x live settled) (sym is) (λ e i. elim (cases_eq e name) [
    | inl s ↦ subst (λ x. found bare live (place_at after x i) ≡ option_map (bare_fragment (owner t x)) (slice_get (settled x) i)) (sym s)
        (ap (found bare live) (here i) ∙ (hold n i ∙ (ap (λ k. option_map (bare_fragment k) (slice_get (all n) i)) owners
        ∙ ap (λ (ps : List (List ℕ)). option_map (bare_fragment (owner t name)) (slice_get ps i)) (sym now))))
    | inr far ↦ elim (cases_eq e n) [
      | inl s ↦ subst (λ x. found bare live (place_at after x i) ≡ option_map (bare_fragment (owner t x)) (slice_get (settled x) i)) (sym s)
          (ap (found bare live) (gone i) ∙ sym (ap (λ (ps : List (List ℕ)). option_map (bare_fragment (owner t n)) (slice_get ps i)) empty))
      | inr away ↦ ap (found bare live) (beside e i far away)
          ∙ (hold e i ∙ ap (λ (ps : List (List ℕ)). option_map (bare_fragment (owner t e)) (slice_get ps i)) (sym (rest e far away)))
    ]
  ])

  pub empty_after : chain_at u.chains n ≡ []
  empty_after = ap (λ (x : TableState). chain_at x.chains n) is ∙ chain_gone
