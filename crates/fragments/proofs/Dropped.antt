-- The first fragment of an entry is taken out.
use Rattle.std.proofs.Common.{◌≡◌, ◌≢◌, ℕ, zero, suc, ◌<◌, ◌≤◌, ◌⊎◌, inl, inr, List, [], ◌∷◌, drop, length, Option, Some, None, refl, sym, ap, subst, ◌∙◌, arith, length-drop}
use Rattle.std.specs.Prelude.{option_map, slice_get, slice_set, IfSome, IsSome}
use Rattle.std.proofs.lemmas.Bool.{cases_eq}
use Rattle.regions.specs.Contents.{Item, size_of}
use Rattle.regions.specs.Stores.{Live, found}
use Rattle.regions.specs.declared.place.Place.{Place}
use Rattle.fragments.specs.Sizes.{most_fragments, object_size}
use Rattle.regions.specs.Places.{led_to, link_to}
use Rattle.fragments.specs.Fragment.{back_in, bare, bare_fragment, next_in}
use Rattle.fragments.specs.Chains.{TableState, AreChains, HoldParts, IsLinked, Parts, chain_at, first_at, owner, place_at, place_before}
use Rattle.fragments.specs.Store.{content_of}
use Rattle.fragments.specs.inside.Linking.{LeadsBack, back_link, next_link}
use Rattle.place_lemmas.proofs.Places.{leads_on, some_is, some_none, some_same}
use Rattle.fragments.proofs.Positions.{chain_past, chain_set, dropped_at, first_past, first_set, room_at}
use Rattle.fragments.proofs.Lives.{back_link_is, linked_now, next_link_is, there_too}
use Rattle.fragments.proofs.Read.{length_by_body}

-- where the first fragment of an entry leads
pub second_is : (t : TableState) (old : Live) (n : ℕ) (p : Place) (next : Option Place) → AreChains t old → first_at t.firsts n ≡ Some p → next ≡ led_to (next_link old p)
    → next ≡ place_at t.chains n 1
second_is t old n p next are first is =
    let l = are.linked n 0 p (sym (are.firsts n) ∙ first) in
    is ∙ (ap led_to (next_link_is old p None (place_at t.chains n 1) (owner t n) l) ∙ leads_on (place_at t.chains n 1) (room_at t old n 1 are))

-- the bytes of an object that holds a part
pub size_of_part : (o : Option Item) (name : ℕ) (part : List ℕ) → option_map bare o ≡ Some (bare_fragment name part) → IfSome o (λ item. size_of item ≡ object_size (length part))
size_of_part None name part e = tt
size_of_part (Some item) name part e = length_by_body item.content name part (ap (λ (i : Item). i.content) (some_is e))

module _ (t u : TableState) (old middle new : Live) (n : ℕ) (p : Place) (next : Option Place)
    (are : AreChains t old) (n_chains : n < length t.chains) (n_firsts : n < length t.firsts)
    (is : u ≡ record t { firsts = slice_set t.firsts n next; chains = slice_set t.chains n (drop 1 (chain_at t.chains n)) })
    (first : first_at t.firsts n ≡ Some p) (next_is : next ≡ place_at t.chains n 1) (back : LeadsBack next None old middle)
    (same : (q : Place) → option_map bare (middle q) ≡ option_map bare (old q)) (gone : new p ≡ None) (others : (q : Place) → q ≢ p → new q ≡ middle q) where
  abbrev after : List (List Place)
  after = slice_set t.chains n (drop 1 (chain_at t.chains n))

  was_first : place_at t.chains n 0 ≡ Some p
  was_first = sym (are.firsts n) ∙ first

  moved_up : (i : ℕ) → place_at after n i ≡ place_at t.chains n (suc i)
  moved_up i = ap (λ (ps : List Place). slice_get ps i) (chain_set t.chains n (drop 1 (chain_at t.chains n)) n_chains) ∙ dropped_at (chain_at t.chains n) i

  beside : (e i : ℕ) → e ≢ n → place_at after e i ≡ place_at t.chains e i
  beside e i far = ap (λ (ps : List Place). slice_get ps i) (chain_past t.chains n e (drop 1 (chain_at t.chains n)) far)

  beside_before : (e i : ℕ) → e ≢ n → place_before after e i ≡ place_before t.chains e i
  beside_before e zero far = refl
  beside_before e (suc i) far = beside e i far

  later : (i : ℕ) (q : Place) → place_at t.chains n (suc i) ≡ Some q → q ≢ p
  later i q h e = (let both = are.apart n n (suc i) 0 q h (was_first ∙ ap (λ x. Some x) (sym e)) in let clash = both.1 in absurd (omega (arith, clash)))

  aside : (e i : ℕ) (q : Place) → e ≢ n → place_at t.chains e i ≡ Some q → q ≢ p
  aside e i q away h s = (let both = are.apart e n i 0 q h (was_first ∙ ap (λ x. Some x) (sym s)) in away both.0)

  kept : (q : Place) → q ≢ p → option_map bare (new q) ≡ option_map bare (old q)
  kept q far = ap (option_map bare) (others q far) ∙ same q

  back_now : (q : Place) → q ≢ p → back_link new q ≡ back_link middle q
  back_now q far = ap (λ o. back_in (content_of o)) (others q far)

  next_now : (q : Place) → q ≢ p → next_link new q ≡ next_link old q
  next_now q far = ap (λ o. next_in (content_of o)) (others q far) ∙ back.next q

  linked_up : (i : ℕ) (q : Place) → place_at t.chains n (suc i) ≡ Some q → IsLinked new q (place_before after n i) (place_at t.chains n (suc (suc i))) (owner t n)
  linked_up zero q h =
      let l = are.linked n 1 q h in let far = later 0 q h in
      linked_now old new q q (place_at t.chains n 0) (place_at t.chains n 2) None (place_at t.chains n 2) (owner t n) l l.room (kept q far)
      (back_now q far ∙ back.here q (next_is ∙ h)) (next_now q far ∙ next_link_is old q (place_at t.chains n 0) (place_at t.chains n 2) (owner t n) l)
  linked_up (suc i) q h =
      let l = are.linked n (suc (suc i)) q h in let far = later (suc i) q h in
      let past : next ≢ Some q = λ e. (let both = are.apart n n 1 (suc (suc i)) q (sym next_is ∙ e) h in let clash = both.1 in omega (arith, clash)) in
      linked_now old new q q (place_at t.chains n (suc i)) (place_at t.chains n (suc (suc (suc i)))) (place_at after n i) (place_at t.chains n (suc (suc (suc i)))) (owner t n) l l.room (kept q far)
      (back_now q far ∙ (back.others q past ∙ (back_link_is old q (place_at t.chains n (suc i)) (place_at t.chains n (suc (suc (suc i)))) (owner t n) l ∙ ap link_to (sym (moved_up i)))))
      (next_now q far ∙ next_link_is old q (place_at t.chains n (suc i)) (place_at t.chains n (suc (suc (suc i)))) (owner t n) l)

  linked_beside : (e i : ℕ) (q : Place) → e ≢ n → place_at t.chains e i ≡ Some q → IsLinked new q (place_before t.chains e i) (place_at t.chains e (suc i)) (owner t e)
  linked_beside e i q away h =
      let l = are.linked e i q h in let far = aside e i q away h in
      let past : next ≢ Some q = λ x. (let both = are.apart n e 1 i q (sym next_is ∙ x) h in away (sym both.0)) in
      linked_now old new q q (place_before t.chains e i) (place_at t.chains e (suc i)) (place_before t.chains e i) (place_at t.chains e (suc i)) (owner t e) l l.room (kept q far)
      (back_now q far ∙ (back.others q past ∙ back_link_is old q (place_before t.chains e i) (place_at t.chains e (suc i)) (owner t e) l))
      (next_now q far ∙ next_link_is old q (place_before t.chains e i) (place_at t.chains e (suc i)) (owner t e) l)

  -- where a position was before
  abbrev Was : ℕ → ℕ → Place → Type 0
  Was e i q = ((e ≡ n) × (place_at t.chains n (suc i) ≡ Some q)) ⊎ ((e ≢ n) × (place_at t.chains e i ≡ Some q))

  was : (e i : ℕ) (q : Place) → place_at after e i ≡ Some q → Was e i q
  was e i q h = elim (cases_eq e n) [
    | inl s ↦ inl (s, sym (moved_up i) ∙ subst (λ x. place_at after x i ≡ Some q) s h)
    | inr far ↦ inr (far, sym (beside e i far) ∙ h)
  ]

  linked_all : (e i : ℕ) (q : Place) → place_at after e i ≡ Some q → IsLinked new q (place_before after e i) (place_at after e (suc i)) (owner t e)
  linked_all e i q h = elim (was e i q h) [
    | inl a ↦ subst (λ x. IsLinked new q (place_before after x i) (place_at after x (suc i)) (owner t x)) (sym a.0)
        (subst (λ o. IsLinked new q (place_before after n i) o (owner t n)) (sym (moved_up (suc i))) (linked_up i q a.1))
    | inr b ↦ subst (λ o. IsLinked new q o (place_at after e (suc i)) (owner t e)) (sym (beside_before e i b.0))
        (subst (λ o. IsLinked new q (place_before t.chains e i) o (owner t e)) (sym (beside e (suc i) b.0)) (linked_beside e i q b.0 b.1))
  ]

  owned_all : (e i : ℕ) (q : Place) → place_at after e i ≡ Some q → owner t e < t.names
  owned_all e i q h = elim (was e i q h) [
    | inl a ↦ subst (λ x. owner t x < t.names) (sym a.0) (are.owned n (suc i) q a.1)
    | inr b ↦ are.owned e i q b.1
  ]

  apart_all : (e f i j : ℕ) (q : Place) → place_at after e i ≡ Some q → place_at after f j ≡ Some q → (e ≡ f) × (i ≡ j)
  apart_all e f i j q h k = elim (was e i q h) [
    | inl a ↦ elim (was f j q k) [
      | inl b ↦ (let both = are.apart n n (suc i) (suc j) q a.1 b.1 in let s = both.1 in (a.0 ∙ sym b.0, omega (arith, s)))
      | inr b ↦ (let both = are.apart n f (suc i) j q a.1 b.1 in absurd (b.0 (sym both.0)))
    ]
    | inr a ↦ elim (was f j q k) [
      | inl b ↦ (let both = are.apart e n i (suc j) q a.1 b.1 in absurd (a.0 both.0))
      | inr b ↦ are.apart e f i j q a.1 b.1
    ]
  ]

  every_all : (q : Place) (item : Item) → new q ≡ Some item → (e : ℕ) × (i : ℕ) × (place_at after e i ≡ Some q)
  every_all q item h =
      let far : q ≢ p = λ e. some_none h (ap new e ∙ gone) in
      let were = there_too (new q) (old q) item (sym (kept q far)) h in
      let w = are.every q were.0 were.1 in
      at far w.0 w.1 w.2
    where
      at_front : (i : ℕ) → q ≢ p → place_at t.chains n i ≡ Some q → (e : ℕ) × (i : ℕ) × (place_at after e i ≡ Some q)
      at_front zero far g = absurd (far (some_same g was_first))
      at_front (suc k) far g = (n, k, moved_up k ∙ g)

      at : q ≢ p → (e i : ℕ) → place_at t.chains e i ≡ Some q → (e : ℕ) × (i : ℕ) × (place_at after e i ≡ Some q)
      at far e i g = elim (cases_eq e n) [
        | inl s ↦ at_front i far (subst (λ x. place_at t.chains x i ≡ Some q) s g)
        | inr away ↦ (e, i, beside e i away ∙ g)
      ]

  firsts_all : (e : ℕ) → first_at (slice_set t.firsts n next) e ≡ place_at after e 0
  firsts_all e = elim (cases_eq e n) [
    | inl s ↦ subst (λ x. first_at (slice_set t.firsts n next) x ≡ place_at after x 0) (sym s) (first_set t.firsts n next n_firsts ∙ (next_is ∙ sym (moved_up 0)))
    | inr far ↦ first_past t.firsts n e next far ∙ (are.firsts e ∙ sym (beside e 0 far))
  ]

  short_all : (e : ℕ) → length (chain_at after e) ≤ most_fragments
  short_all e = elim (cases_eq e n) [
    | inl s ↦ subst (λ x. length (chain_at after x) ≤ most_fragments) (sym s)
        (let now = ap (λ (ps : List Place). length ps) (chain_set t.chains n (drop 1 (chain_at t.chains n)) n_chains) in
        let fewer = length-drop 1 (chain_at t.chains n) in let were = are.short n in omega (arith, now, fewer, were))
    | inr far ↦ (let now = ap (λ (ps : List Place). length ps) (chain_past t.chains n e (drop 1 (chain_at t.chains n)) far) in let were = are.short e in omega (arith, now, were))
  ]

  pub chains_dropped : AreChains u new
  chains_dropped = subst (λ (x : TableState). AreChains x new) (sym is) (record {
    firsts = firsts_all;
    linked = linked_all;
    owned = owned_all;
    apart = apart_all;
    every = every_all;
    short = short_all;
  })

  pub parts_dropped : (all fewer : Parts) (part : List ℕ) → HoldParts t old all → all n ≡ part ∷ fewer n → ((e : ℕ) → e ≢ n → fewer e ≡ all e) → HoldParts u new fewer
  parts_dropped all fewer part hold now rest = subst (λ (x : TableState). HoldParts x new fewer) (sym is) (λ e i. elim (cases_eq e n) [
    | inl s ↦ subst (λ x. found bare new (place_at after x i) ≡ option_map (bare_fragment (owner t x)) (slice_get (fewer x) i)) (sym s)
        (ap (found bare new) (moved_up i) ∙ (up (place_at t.chains n (suc i)) i refl ∙ (hold n (suc i) ∙ ap (λ (ps : List (List ℕ)). option_map (bare_fragment (owner t n)) (slice_get ps (suc i))) now)))
    | inr far ↦ ap (found bare new) (beside e i far)
        ∙ (still (place_at t.chains e i) e i far refl ∙ (hold e i ∙ ap (λ (ps : List (List ℕ)). option_map (bare_fragment (owner t e)) (slice_get ps i)) (sym (rest e far))))
  ])
    where
      up : (o : Option Place) (i : ℕ) → place_at t.chains n (suc i) ≡ o → found bare new o ≡ found bare old o
      up None i g = refl
      up (Some q) i g = kept q (later i q g)

      still : (o : Option Place) (e i : ℕ) → e ≢ n → place_at t.chains e i ≡ o → found bare new o ≡ found bare old o
      still None e i far g = refl
      still (Some q) e i far g = kept q (aside e i q far g)

  pub chain_shorter : chain_at t.chains n ≡ p ∷ chain_at u.chains n
  chain_shorter =
      front (chain_at t.chains n) was_first ∙ ap (λ (ps : List Place). p ∷ ps) (sym (ap (λ (x : TableState). chain_at x.chains n) is ∙ chain_set t.chains n (drop 1 (chain_at t.chains n)) n_chains))
    where
      front : (ps : List Place) → slice_get ps 0 ≡ Some p → ps ≡ p ∷ drop 1 ps
      front [] e = some_none e refl
      front (q ∷ ps) e = ap (λ (x : Place). x ∷ ps) (some_is e)

  pub chains_beside : (e : ℕ) → e ≢ n → chain_at u.chains e ≡ chain_at t.chains e
  chains_beside e far = ap (λ (x : TableState). chain_at x.chains e) is ∙ chain_past t.chains n e (drop 1 (chain_at t.chains n)) far

  pub part_there : (all : Parts) (part : List ℕ) (rest : List (List ℕ)) → HoldParts t old all → all n ≡ part ∷ rest → option_map bare (middle p) ≡ Some (bare_fragment (owner t n) part)
  part_there all part rest hold now =
      same p ∙ (sym (ap (found bare old) was_first) ∙ (hold n 0 ∙ ap (λ (ps : List (List ℕ)). option_map (bare_fragment (owner t n)) (slice_get ps 0)) now))

  pub stays_dropped : (q : Place) → IsSome (new q) → option_map bare (new q) ≡ option_map bare (old q)
  stays_dropped q some = kept q (λ e. some_of (new q) some (ap new e ∙ gone))
    where
      some_of : (o : Option Item) → IsSome o → o ≡ None → ⊥
      some_of None h e = absurd cc
      some_of (Some x) h e = some_none refl e
