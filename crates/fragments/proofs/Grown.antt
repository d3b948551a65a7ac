-- A fragment is placed in front of the chain of the value that is being written.
use Rattle.std.proofs.Common.{◌≡◌, ◌≢◌, ℕ, zero, suc, ◌<◌, ◌≤◌, ◌⊎◌, inl, inr, List, ◌∷◌, length, Option, Some, None, refl, sym, ap, subst, ◌∙◌, arith}
use Rattle.std.specs.Prelude.{option_map, slice_get, slice_set}
use Rattle.std.proofs.lemmas.Bool.{cases_eq}
use Rattle.regions.specs.Contents.{Item}
use Rattle.regions.specs.Stores.{Live, found}
use Rattle.regions.specs.declared.place.Place.{Place}
use Rattle.fragments.specs.Sizes.{most_fragments}
use Rattle.regions.specs.Places.{HasRoom, link_to}
use Rattle.fragments.specs.Fragment.{back_in, bare, bare_fragment, next_in}
use Rattle.fragments.specs.Chains.{TableState, AreChains, HoldParts, IsLinked, Parts, chain_at, first_at, owner, place_at, place_before}
use Rattle.fragments.specs.Store.{content_of}
use Rattle.fragments.specs.inside.Linking.{IsPlaced, LeadsBack, back_link, next_link}
use Rattle.place_lemmas.proofs.Places.{place_cases, some_none, some_same}
use Rattle.fragments.proofs.Positions.{chain_past, chain_set, first_past, first_set, owner_written}
use Rattle.fragments.proofs.Lives.{back_link_is, fragment_too, linked_now, name_too, next_link_is, there_too}
use Rattle.fragments.proofs.Read.{name_read}

-- a placed fragment without its links
pub placed_bare : (o : Option Item) (next : Option Place) (name : ℕ) (bytes : List ℕ) → IsPlaced o next name bytes → option_map bare o ≡ Some (bare_fragment name bytes)
placed_bare o next name bytes p =
    ap (option_map bare) p.is
    ∙ (ap (λ (g : Option ℕ). Some (made g p.item.kind (drop_links p.item.content))) p.group
    ∙ (ap (λ k. Some (made (Some 0) k (drop_links p.item.content))) p.kind ∙ ap (λ (c : List ℕ). Some (made (Some 0) 2 c)) p.holds.body))
  where
    made : Option ℕ → ℕ → List ℕ → Item
    made group kind content = record { group = group; kind = kind; content = content }

    drop_links : List ℕ → List ℕ
    drop_links content = (bare (made None 0 content)).content

module _ (t u : TableState) (old middle new : Live) (p : Place) (bytes : List ℕ)
    (are : AreChains t old) (n_chains : t.names < length t.chains) (n_firsts : t.names < length t.firsts)
    (is : u ≡ record t { firsts = slice_set t.firsts t.names (Some p); chains = slice_set t.chains t.names (p ∷ chain_at t.chains t.names) })
    (absent : old p ≡ None) (placed : IsPlaced (middle p) (first_at t.firsts t.names) t.grows bytes) (others : (q : Place) → q ≢ p → middle q ≡ old q)
    (room : HasRoom p) (back : LeadsBack (first_at t.firsts t.names) (Some p) middle new) (same : (q : Place) → option_map bare (new q) ≡ option_map bare (middle q))
    (few : length (chain_at t.chains t.names) < most_fragments) (small : t.grows < t.names) where
  abbrev n : ℕ
  n = t.names

  abbrev after : List (List Place)
  after = slice_set t.chains n (p ∷ chain_at t.chains n)

  -- what stands at a position
  here : place_at after n 0 ≡ Some p
  here = ap (λ (ps : List Place). slice_get ps 0) (chain_set t.chains n (p ∷ chain_at t.chains n) n_chains)

  behind : (i : ℕ) → place_at after n (suc i) ≡ place_at t.chains n i
  behind i = ap (λ (ps : List Place). slice_get ps (suc i)) (chain_set t.chains n (p ∷ chain_at t.chains n) n_chains)

  beside : (e i : ℕ) → e ≢ n → place_at after e i ≡ place_at t.chains e i
  beside e i far = ap (λ (ps : List Place). slice_get ps i) (chain_past t.chains n e (p ∷ chain_at t.chains n) far)

  beside_before : (e i : ℕ) → e ≢ n → place_before after e i ≡ place_before t.chains e i
  beside_before e zero far = refl
  beside_before e (suc i) far = beside e i far

  first_is : first_at t.firsts n ≡ place_at t.chains n 0
  first_is = are.firsts n

  -- a place of a chain is not the new one
  other : (e i : ℕ) (q : Place) → place_at t.chains e i ≡ Some q → q ≢ p
  other e i q h same_place = (let l = are.linked e i q h in some_none l.is_live (ap old same_place ∙ absent))

  kept : (q : Place) → q ≢ p → option_map bare (new q) ≡ option_map bare (old q)
  kept q far = same q ∙ ap (option_map bare) (others q far)

  not_first : (q : Place) → q ≢ p → first_at t.firsts n ≢ Some q → back_link new q ≡ back_link old q
  not_first q far past = back.others q past ∙ ap (λ o. back_in (content_of o)) (others q far)

  on : (q : Place) → q ≢ p → next_link new q ≡ next_link old q
  on q far = back.next q ∙ ap (λ o. next_in (content_of o)) (others q far)

  owners : (e : ℕ) → owner u e ≡ owner t e
  owners e = ap (λ (x : TableState). owner x e) is

  linked_here : IsLinked new p None (place_at t.chains n 0) (owner t n)
  linked_here =
      let far : first_at t.firsts n ≢ Some p = λ e. other n 0 p (sym first_is ∙ e) refl in
      let now = there new p in
      record {
        item = now.0;
        is_live = now.1;
        room = room;
        fragment = fragment_too placed.item now.0 now.2 (t.grows, bytes, placed.holds);
        back_is = sym (ap (λ o. back_in (content_of o)) now.1) ∙ (back.others p far ∙ (ap (λ o. back_in (content_of o)) placed.is ∙ placed.back));
        next_is = sym (ap (λ o. next_in (content_of o)) now.1) ∙ (back.next p ∙ (ap (λ o. next_in (content_of o)) placed.is ∙ (placed.next_is ∙ ap link_to first_is)));
        name_is = name_too placed.item now.0 now.2 ∙ (name_read placed.item.content t.grows bytes placed.holds ∙ sym (owner_written t n (omega arith)));
      }
    where
      there : (live : Live) (q : Place) → (now : Item) × (new p ≡ Some now) × (bare now ≡ bare placed.item)
      there live q = there_too (middle p) (new p) placed.item (same p) placed.is

  linked_behind : (i : ℕ) (q : Place) → place_at t.chains n i ≡ Some q → IsLinked new q (place_at after n i) (place_at t.chains n (suc i)) (owner t n)
  linked_behind zero q h =
      let l = are.linked n 0 q h in let far = other n 0 q h in
      linked_now old new q q None (place_at t.chains n 1) (place_at after n 0) (place_at t.chains n 1) (owner t n) l l.room (kept q far)
      (back.here q (first_is ∙ h) ∙ ap link_to (sym here)) (on q far ∙ next_link_is old q None (place_at t.chains n 1) (owner t n) l)
  linked_behind (suc i) q h =
      let l = are.linked n (suc i) q h in let far = other n (suc i) q h in
      let past : first_at t.firsts n ≢ Some q = λ e. (let both = are.apart n n 0 (suc i) q (sym first_is ∙ e) h in let clash = both.1 in omega (arith, clash)) in
      linked_now old new q q (place_at t.chains n i) (place_at t.chains n (suc (suc i))) (place_at after n (suc i)) (place_at t.chains n (suc (suc i))) (owner t n) l l.room (kept q far)
      (not_first q far past ∙ (back_link_is old q (place_at t.chains n i) (place_at t.chains n (suc (suc i))) (owner t n) l ∙ ap link_to (sym (behind i))))
      (on q far ∙ next_link_is old q (place_at t.chains n i) (place_at t.chains n (suc (suc i))) (owner t n) l)

  linked_beside : (e i : ℕ) (q : Place) → e ≢ n → place_at t.chains e i ≡ Some q → IsLinked new q (place_before t.chains e i) (place_at t.chains e (suc i)) (owner t e)
  linked_beside e i q away h =
      let l = are.linked e i q h in let far = other e i q h in
      let past : first_at t.firsts n ≢ Some q = λ x. (let both = are.apart n e 0 i q (sym first_is ∙ x) h in away (sym both.0)) in
      linked_now old new q q (place_before t.chains e i) (place_at t.chains e (suc i)) (place_before t.chains e i) (place_at t.chains e (suc i)) (owner t e) l l.room (kept q far)
      (not_first q far past ∙ back_link_is old q (place_before t.chains e i) (place_at t.chains e (suc i)) (owner t e) l)
      (on q far ∙ next_link_is old q (place_before t.chains e i) (place_at t.chains e (suc i)) (owner t e) l)

  -- where a position was before
  abbrev Was : ℕ → ℕ → Place → Type 0
  Was e i q = ((e ≡ n) × (i ≡ 0) × (q ≡ p)) ⊎ (((k : ℕ) × (e ≡ n) × (i ≡ suc k) × (place_at t.chains n k ≡ Some q)) ⊎ ((e ≢ n) × (place_at t.chains e i ≡ Some q)))

  was : (e i : ℕ) (q : Place) → place_at after e i ≡ Some q → Was e i q
  was e i q h = elim (cases_eq e n) [ inl same_entry ↦ at_front i (subst (λ x. place_at after x i ≡ Some q) same_entry h) same_entry | inr far ↦ inr (inr (far, sym (beside e i far) ∙ h)) ]
    where
      at_front : (i : ℕ) → place_at after n i ≡ Some q → e ≡ n → Was e i q
      at_front zero g s = inl (s, refl, some_same g here)
      at_front (suc k) g s = inr (inl (k, s, refl, sym (behind k) ∙ g))

  linked_all : (e i : ℕ) (q : Place) → place_at after e i ≡ Some q → IsLinked new q (place_before after e i) (place_at after e (suc i)) (owner t e)
  linked_all e i q h = elim (cases_eq e n) [
    | inl s ↦ subst (λ x. IsLinked new q (place_before after x i) (place_at after x (suc i)) (owner t x)) (sym s) (in_front i (subst (λ x. place_at after x i ≡ Some q) s h))
    | inr far ↦ subst (λ o. IsLinked new q o (place_at after e (suc i)) (owner t e)) (sym (beside_before e i far))
        (subst (λ o. IsLinked new q (place_before t.chains e i) o (owner t e)) (sym (beside e (suc i) far)) (linked_beside e i q far (sym (beside e i far) ∙ h)))
  ]
    where
      in_front : (i : ℕ) → place_at after n i ≡ Some q → IsLinked new q (place_before after n i) (place_at after n (suc i)) (owner t n)
      in_front zero g =
          subst (λ x. IsLinked new x None (place_at after n 1) (owner t n)) (some_same here g) (subst (λ o. IsLinked new p None o (owner t n)) (sym (behind 0)) linked_here)
      in_front (suc k) g =
          subst (λ o. IsLinked new q (place_at after n k) o (owner t n)) (sym (behind (suc k))) (linked_behind k q (sym (behind k) ∙ g))

  owned_all : (e i : ℕ) (q : Place) → place_at after e i ≡ Some q → owner t e < t.names
  owned_all e i q h = elim (was e i q h) [
    | inl a ↦ subst (λ x. owner t x < t.names) (sym a.0) by_writing
    | inr b ↦ elim b [ inl c ↦ subst (λ x. owner t x < t.names) (sym c.1) by_writing | inr c ↦ are.owned e i q c.1 ]
  ]
    where
      by_writing : owner t n < t.names
      by_writing = subst (λ k. k < t.names) (sym (owner_written t n (omega arith))) small

  apart_all : (e f i j : ℕ) (q : Place) → place_at after e i ≡ Some q → place_at after f j ≡ Some q → (e ≡ f) × (i ≡ j)
  apart_all e f i j q h k = elim (was e i q h) [
    | inl a ↦ elim (was f j q k) [
      | inl b ↦ (a.0 ∙ sym b.0, a.1 ∙ sym b.1)
      | inr b ↦ elim b [ inl c ↦ absurd (other n c.0 q c.3 a.2) | inr c ↦ absurd (other f j q c.1 a.2) ]
    ]
    | inr a ↦ elim a [
      | inl x ↦ elim (was f j q k) [
        | inl b ↦ absurd (other n x.0 q x.3 b.2)
        | inr b ↦ elim b [
          | inl y ↦ (let both = are.apart n n x.0 y.0 q x.3 y.3 in (x.1 ∙ sym y.1, x.2 ∙ (ap suc both.1 ∙ sym y.2)))
          | inr y ↦ (let both = are.apart n f x.0 j q x.3 y.1 in absurd (y.0 (sym both.0)))
        ]
      ]
      | inr x ↦ elim (was f j q k) [
        | inl b ↦ absurd (other e i q x.1 b.2)
        | inr b ↦ elim b [
          | inl y ↦ (let both = are.apart e n i y.0 q x.1 y.3 in absurd (x.0 both.0))
          | inr y ↦ are.apart e f i j q x.1 y.1
        ]
      ]
    ]
  ]

  every_all : (q : Place) (item : Item) → new q ≡ Some item → (e : ℕ) × (i : ℕ) × (place_at after e i ≡ Some q)
  every_all q item h = elim (place_cases q p) [
    | inl s ↦ (n, 0, here ∙ ap (λ x. Some x) (sym s))
    | inr far ↦
        (let back_then = there_too (new q) (old q) item (sym (kept q far)) h in
        let w = are.every q back_then.0 back_then.1 in
        at w.0 w.1 w.2)
  ]
    where
      at : (e i : ℕ) → place_at t.chains e i ≡ Some q → (e : ℕ) × (i : ℕ) × (place_at after e i ≡ Some q)
      at e i g = elim (cases_eq e n) [
        | inl s ↦ (n, suc i, behind i ∙ subst (λ x. place_at t.chains x i ≡ Some q) s g)
        | inr far ↦ (e, i, beside e i far ∙ g)
      ]

  firsts_all : (e : ℕ) → first_at (slice_set t.firsts n (Some p)) e ≡ place_at after e 0
  firsts_all e = elim (cases_eq e n) [
    | inl s ↦ subst (λ x. first_at (slice_set t.firsts n (Some p)) x ≡ place_at after x 0) (sym s) (first_set t.firsts n (Some p) n_firsts ∙ sym here)
    | inr far ↦ first_past t.firsts n e (Some p) far ∙ (are.firsts e ∙ sym (beside e 0 far))
  ]

  short_all : (e : ℕ) → length (chain_at after e) ≤ most_fragments
  short_all e = elim (cases_eq e n) [
    | inl s ↦ subst (λ x. length (chain_at after x) ≤ most_fragments) (sym s)
        (let now = ap (λ (ps : List Place). length ps) (chain_set t.chains n (p ∷ chain_at t.chains n) n_chains) in omega (arith, now, few))
    | inr far ↦ (let now = ap (λ (ps : List Place). length ps) (chain_past t.chains n e (p ∷ chain_at t.chains n) far) in let were = are.short e in omega (arith, now, were))
  ]

  pub chains_grown : AreChains u new
  chains_grown = subst (λ (x : TableState). AreChains x new) (sym is) (record {
    firsts = firsts_all;
    linked = linked_all;
    owned = owned_all;
    apart = apart_all;
    every = every_all;
    short = short_all;
  })

  pub parts_grown : (all more : Parts) → HoldParts t old all → more n ≡ bytes ∷ all n → ((e : ℕ) → e ≢ n → more e ≡ all e) → HoldParts u new more
  parts_grown all more hold now rest = subst (λ (x : TableState). HoldParts x new more) (sym is) (λ e i. elim (cases_eq e n) [
    | inl s ↦ subst (λ x. found bare new (place_at after x i) ≡ option_map (bare_fragment (owner t x)) (slice_get (more x) i)) (sym s) (in_front i)
    | inr far ↦ ap (found bare new) (beside e i far) ∙ (still (place_at t.chains e i) e i refl ∙ (hold e i ∙ ap (λ (ps : List (List ℕ)). option_map (bare_fragment (owner t e)) (slice_get ps i)) (sym (rest e far))))
  ])
    where
      still : (o : Option Place) (e i : ℕ) → place_at t.chains e i ≡ o → found bare new o ≡ found bare old o
      still None e i g = refl
      still (Some q) e i g = kept q (other e i q g)

      in_front : (i : ℕ) → found bare new (place_at after n i) ≡ option_map (bare_fragment (owner t n)) (slice_get (more n) i)
      in_front zero =
          ap (found bare new) here
          ∙ (same p ∙ (placed_bare (middle p) (first_at t.firsts n) t.grows bytes placed
          ∙ (ap (λ k. Some (bare_fragment k bytes)) (sym (owner_written t n (omega arith))) ∙ ap (λ (ps : List (List ℕ)). option_map (bare_fragment (owner t n)) (slice_get ps 0)) (sym now))))
      in_front (suc k) =
          ap (found bare new) (behind k)
          ∙ (still (place_at t.chains n k) n k refl ∙ (hold n k ∙ ap (λ (ps : List (List ℕ)). option_map (bare_fragment (owner t n)) (slice_get ps (suc k))) (sym now)))
