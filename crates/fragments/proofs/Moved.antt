-- A fragment is moved, and the tables stand for the store of all fragments.
use Rattle.std.proofs.Common.{◌≡◌, ◌≢◌, ℕ, zero, suc, ◌+◌, ◌*◌, ◌/◌, ◌%◌, ◌<◌, inl, inr, List, [], length, map, Option, Some, None, refl, sym, ap, subst, ◌∙◌, arith}
use Rattle.std.specs.Prelude.{IsSome, option_map}
use Rattle.std.proofs.lemmas.List.{length-map}
use Rattle.std.proofs.lemmas.Option.{slice_get_within}
use Rattle.regions.specs.Contents.{Item}
use Rattle.regions.specs.Stores.{Live, StandsFor, found, less, renamed, store_of}
use Rattle.regions.specs.declared.place.Place.{Place}
use Rattle.fragments.specs.Sizes.{most_fragments}
use Rattle.regions.specs.Places.{HasRoom, leads_to, link_to}
use Rattle.fragments.specs.Fragment.{back_in, bare, next_in, references}
use Rattle.fragments.specs.Chains.{TableState, AreChains, IsLinked, chain_at, first_at, owner, place_at, place_before, place_of}
use Rattle.fragments.specs.Store.{content_of}
use Rattle.fragments.specs.inside.Linking.{LeadsBack, LeadsOn, back_link, next_link}
use Rattle.place_lemmas.proofs.Places.{HasRoomIf, leads, less_here, less_past, listed, none_of, option_tells, place_cases, renamed_here, renamed_past, some_is, some_none}
use Rattle.fragments.proofs.Positions.{before_mapped, chain_mapped, place_mapped, room_at, room_before}
use Rattle.fragments.proofs.Lives.{back_link_is, linked_now, next_link_is, there_too}

-- ---- the store

number_back : (e i : ℕ) → i < most_fragments → ((e * most_fragments + i) / most_fragments ≡ e) × ((e * most_fragments + i) % most_fragments ≡ i)
number_back e i h = (omega (arith, h), omega (arith, h))

same_number : (m n : ℕ) → m / most_fragments ≡ n / most_fragments → m % most_fragments ≡ n % most_fragments → m ≡ n
same_number m n a b = omega (arith, a, b)

-- the name of the fragment with a number in the chain of an entry
pub named : (t : TableState) (live : Live) → AreChains t live → (e i : ℕ) (p : Place) → place_at t.chains e i ≡ Some p → place_of t (e * most_fragments + i) ≡ Some p
named t live are e i p h =
    let short = are.short e in
    let inside : i < most_fragments = (let w = slice_get_within (chain_at t.chains e) i p h in omega (arith, w, short)) in
    let back = number_back e i inside in
    ap (λ k. place_at t.chains k ((e * most_fragments + i) % most_fragments)) back.0 ∙ (ap (λ k. place_at t.chains e k) back.1 ∙ h)

pub chains_stand : (t : TableState) (live : Live) → AreChains t live → StandsFor bare (store_of bare (place_of t) live) (place_of t) live
chains_stand t live are = record {
  placed = λ n i e. stored (place_of t n) n i refl e;
  known = λ n p e.
      (let l = are.linked (n / most_fragments) (n % most_fragments) p e in
      subst (λ o. IsSome (found bare live o)) (sym e) (subst (λ o. IsSome (option_map bare o)) (sym l.is_live) refl));
  apart = λ m n p em en. (let both = are.apart (m / most_fragments) (n / most_fragments) (m % most_fragments) (n % most_fragments) p em en in same_number m n both.0 both.1);
  every = λ p i e.
      (let w = are.every p i e in let there = named t live are w.0 w.1 p w.2 in
      (w.0 * most_fragments + w.1, there, ap (found bare live) there ∙ ap (option_map bare) e));
}
  where
    stored : (o : Option Place) (n : ℕ) (i : Item) → place_of t n ≡ o → found bare live (place_of t n) ≡ Some i → (p : Place) × (place_of t n ≡ Some p) × (option_map bare (live p) ≡ Some i)
    stored None n i is e = some_none e (ap (found bare live) is)
    stored (Some p) n i is e = (p, is, sym (ap (found bare live) is) ∙ e)

-- ---- one fragment is moved

refs_in : Option Item → List Place
refs_in o = leads_to (back_in (content_of o)) (leads_to (next_in (content_of o)) [])

refs_known : (o : Option Item) (i : Item) → o ≡ Some i → option_map references o ≡ Some (refs_in o)
unfolding refs_in
refs_known o i e = ap (option_map references) e ∙ sym (ap (λ (x : Option Item). Some (refs_in x)) e)

refs_renamed : (g : Place → Place) (item : Item) → Some (map g (refs_in (Some item))) ≡ option_map (λ x. map g (references x)) (Some item)
unfolding refs_in
refs_renamed g item = refl

-- what a fragment whose links are known refers to
refs_listed : (live : Live) (p : Place) (back next : Option Place) → back_link live p ≡ link_to back → next_link live p ≡ link_to next → HasRoomIf back → HasRoomIf next
    → refs_in (live p) ≡ listed back (listed next [])
unfolding refs_in
refs_listed live p back next b n rb rn =
    ap (λ l. leads_to l (leads_to (next_in (content_of (live p))) [])) b
    ∙ (leads back (leads_to (next_in (content_of (live p))) []) rb ∙ ap (λ (ps : List Place). listed back ps) (ap (λ l. leads_to l []) n ∙ leads next [] rn))

listed_mapped : (g : Place → Place) (back next : Option Place) → listed (option_map g back) (listed (option_map g next) []) ≡ map g (listed back (listed next []))
listed_mapped g None None = refl
listed_mapped g None (Some q) = refl
listed_mapped g (Some p) None = refl
listed_mapped g (Some p) (Some q) = refl

module _ (t u : TableState) (old middle new : Live) (from to : Place) (f j : ℕ)
    (are : AreChains t (less to old)) (apart : from ≢ to) (copied : old to ≡ old from) (at : place_at t.chains f j ≡ Some from) (room : HasRoom to)
    (on : LeadsOn (place_before t.chains f j) (Some to) old middle) (back : LeadsBack (place_at t.chains f (suc j)) (Some to) middle new)
    (same : (q : Place) → option_map bare (new q) ≡ option_map bare (old q))
    (names : u.names ≡ t.names) (grows : u.grows ≡ t.grows) (chains : u.chains ≡ map (map (renamed from to)) t.chains)
    (firsts : (e : ℕ) → first_at u.firsts e ≡ option_map (renamed from to) (first_at t.firsts e)) where
  abbrev ren : Place → Place
  ren = renamed from to

  -- no chain has the new place
  away : (e i : ℕ) (p : Place) → place_at t.chains e i ≡ Some p → to ≢ p
  away e i p h s = (let l = are.linked e i p h in some_none l.is_live (ap (less to old) (sym s) ∙ less_here to old))

  before_away : (e i : ℕ) → place_before t.chains e i ≢ Some to
  before_away e zero h = some_none h refl
  before_away e (suc i) h = away e i to h refl

  -- the object of a chain's place, as it was with the copy
  was : (e i : ℕ) (p : Place) → place_at t.chains e i ≡ Some p → less to old p ≡ old p
  was e i p h = less_past to p old (away e i p h)

  -- the object of a chain's place stands at the renamed one
  is_copied : (p : Place) → old (ren p) ≡ old p
  is_copied p = elim (place_cases from p) [
    | inl s ↦ subst (λ x. old (ren x) ≡ old x) s (ap old (renamed_here from to) ∙ copied)
    | inr far ↦ ap old (renamed_past from to p far)
  ]

  -- a place that is there already is no renamed one
  renamed_is : (p q : Place) → to ≢ q → ren p ≡ q → (p ≡ q) × (from ≢ p)
  renamed_is p q far h = elim (place_cases from p) [
    | inl s ↦ absurd (far (sym (renamed_here from to) ∙ (ap ren s ∙ h)))
    | inr past ↦ (sym (renamed_past from to p past) ∙ h, past)
  ]

  by_rename : (o : Option Place) → o ≢ Some from → option_map ren o ≡ o
  by_rename None far = refl
  by_rename (Some p) far = ap (λ x. Some x) (renamed_past from to p (λ s. far (ap (λ x. Some x) (sym s))))

  -- the link to the next fragment
  next_now : (e i : ℕ) (p : Place) → place_at t.chains e i ≡ Some p → next_link new (ren p) ≡ link_to (option_map ren (place_at t.chains e (suc i)))
  next_now e i p h =
      let l = are.linked e i p h in
      let was_next : next_link old p ≡ link_to (place_at t.chains e (suc i)) =
      ap (λ o. next_in (content_of o)) (sym (was e i p h)) ∙ next_link_is (less to old) p (place_before t.chains e i) (place_at t.chains e (suc i)) (owner t e) l in
      elim (option_tells (place_at t.chains e (suc i)) from) [
        | inl s ↦
            (let both = are.apart e f (suc i) j from s at in
            let before : place_before t.chains f j ≡ Some p = subst (λ x. place_before t.chains f x ≡ Some p) both.1 (subst (λ x. place_at t.chains x i ≡ Some p) both.0 h) in
            let past : from ≢ p = λ x. (let again = are.apart e f i j p h (at ∙ ap (λ y. Some y) x) in let one = again.1 in let two = both.1 in absurd (omega (arith, one, two))) in
            ap (λ x. next_link new x) (renamed_past from to p past)
            ∙ (back.next p ∙ (on.here p before ∙ sym (ap (λ o. link_to (option_map ren o)) s ∙ ap (λ x. link_to (Some x)) (renamed_here from to)))))
        | inr far ↦
            (let past : place_before t.chains f j ≢ Some (ren p) = λ b. not_before e i p h far (ren p) refl b in
            back.next (ren p) ∙ (on.others (ren p) past ∙ (ap (λ o. next_in (content_of o)) (is_copied p) ∙ (was_next ∙ ap link_to (sym (by_rename (place_at t.chains e (suc i)) far))))))
      ]
    where
      leads : (f j e i : ℕ) (p : Place) → place_before t.chains f j ≡ Some p → place_at t.chains e i ≡ Some p → place_at t.chains f j ≡ Some from → place_at t.chains e (suc i) ≡ Some from
      leads f zero e i p b h g = some_none b refl
      leads f (suc k) e i p b h g = (let both = are.apart f e k i p b h in subst (λ x. place_at t.chains x (suc i) ≡ Some from) both.0 (subst (λ x. place_at t.chains f (suc x) ≡ Some from) both.1 g))

      not_before : (e i : ℕ) (p : Place) → place_at t.chains e i ≡ Some p → place_at t.chains e (suc i) ≢ Some from → (q : Place) → ren p ≡ q → place_before t.chains f j ≢ Some q
      not_before e i p h far q is b = elim (place_cases to q) [
        | inl s ↦ before_away f j (b ∙ ap (λ x. Some x) (sym s))
        | inr past ↦ (let r = renamed_is p q past is in far (leads f j e i p (b ∙ ap (λ x. Some x) (sym r.0)) h at))
      ]

  -- the link to the one before
  back_now : (e i : ℕ) (p : Place) → place_at t.chains e i ≡ Some p → back_link new (ren p) ≡ link_to (option_map ren (place_before t.chains e i))
  back_now e i p h =
      let l = are.linked e i p h in
      let was_back : back_link old p ≡ link_to (place_before t.chains e i) =
      ap (λ o. back_in (content_of o)) (sym (was e i p h)) ∙ back_link_is (less to old) p (place_before t.chains e i) (place_at t.chains e (suc i)) (owner t e) l in
      elim (option_tells (place_before t.chains e i) from) [
        | inl s ↦
            (let next = next_is e i p h s in
            let past : from ≢ p = λ x. itself e i p h s x in
            ap (λ x. back_link new x) (renamed_past from to p past)
            ∙ (back.here p next ∙ sym (ap (λ o. link_to (option_map ren o)) s ∙ ap (λ x. link_to (Some x)) (renamed_here from to))))
        | inr far ↦
            (let past : place_at t.chains f (suc j) ≢ Some (ren p) = λ b. not_next e i p h far (ren p) refl b in
            back.others (ren p) past ∙ (on.back (ren p) ∙ (ap (λ o. back_in (content_of o)) (is_copied p) ∙ (was_back ∙ ap link_to (sym (by_rename (place_before t.chains e i) far))))))
      ]
    where
      next_is : (e i : ℕ) (p : Place) → place_at t.chains e i ≡ Some p → place_before t.chains e i ≡ Some from → place_at t.chains f (suc j) ≡ Some p
      next_is e zero p h s = some_none s refl
      next_is e (suc k) p h s = (let both = are.apart e f k j from s at in subst (λ x. place_at t.chains x (suc j) ≡ Some p) both.0 (subst (λ x. place_at t.chains e (suc x) ≡ Some p) both.1 h))

      itself : (e i : ℕ) (p : Place) → place_at t.chains e i ≡ Some p → place_before t.chains e i ≡ Some from → from ≡ p → ⊥
      itself e zero p h s x = some_none s refl
      itself e (suc k) p h s x = (let both = are.apart e e k (suc k) from s (h ∙ ap (λ y. Some y) (sym x)) in let clash = both.1 in absurd (omega (arith, clash)))

      leads : (e i : ℕ) (p : Place) → place_at t.chains f (suc j) ≡ Some p → place_at t.chains e i ≡ Some p → place_before t.chains e i ≡ Some from
      leads e i p b h = (let both = are.apart f e (suc j) i p b h in subst (λ x. place_before t.chains x i ≡ Some from) both.0 (subst (λ x. place_before t.chains f x ≡ Some from) both.1 at))

      not_next : (e i : ℕ) (p : Place) → place_at t.chains e i ≡ Some p → place_before t.chains e i ≢ Some from → (q : Place) → ren p ≡ q → place_at t.chains f (suc j) ≢ Some q
      not_next e i p h far q is b = (let r = renamed_is p q (away f (suc j) q b) is in far (leads e i p (b ∙ ap (λ x. Some x) (sym r.0)) h))

  -- ---- the chains

  position : (e i : ℕ) → place_at u.chains e i ≡ option_map ren (place_at t.chains e i)
  position e i = ap (λ (cs : List (List Place)). place_at cs e i) chains ∙ place_mapped ren t.chains e i

  position_before : (e i : ℕ) → place_before u.chains e i ≡ option_map ren (place_before t.chains e i)
  position_before e i = ap (λ (cs : List (List Place)). place_before cs e i) chains ∙ before_mapped ren t.chains e i

  abbrev Came : ℕ → ℕ → Place → Type 0
  Came e i q = (p : Place) × (place_at t.chains e i ≡ Some p) × (ren p ≡ q)

  came : (e i : ℕ) (q : Place) → place_at u.chains e i ≡ Some q → Came e i q
  came e i q h = by (place_at t.chains e i) refl
    where
      by : (o : Option Place) → place_at t.chains e i ≡ o → Came e i q
      by None s = some_none h (position e i ∙ ap (option_map ren) s)
      by (Some p) s = (p, s, some_is (sym (ap (option_map ren) s) ∙ (sym (position e i) ∙ h)))

  owners : (e : ℕ) → owner u e ≡ owner t e
  owners e = ap (λ k. cond_owner k u.grows) names ∙ ap (λ k. cond_owner t.names k) grows
    where
      cond_owner : ℕ → ℕ → ℕ
      cond_owner n g = owner (record t { names = n; grows = g }) e

  gone_new : less from new from ≡ None
  gone_new = less_here from new

  here_new : (e i : ℕ) (p : Place) → place_at t.chains e i ≡ Some p → less from new (ren p) ≡ new (ren p)
  here_new e i p h = less_past from (ren p) new (λ s. elim (place_cases from p) [
    | inl x ↦ apart (s ∙ (ap ren (sym x) ∙ renamed_here from to))
    | inr x ↦ x (s ∙ renamed_past from to p x)
  ])

  room_new : (e i : ℕ) (p : Place) → place_at t.chains e i ≡ Some p → HasRoom (ren p)
  room_new e i p h = elim (place_cases from p) [
    | inl x ↦ subst HasRoom (sym (ap ren (sym x) ∙ renamed_here from to)) room
    | inr x ↦ subst HasRoom (sym (renamed_past from to p x)) (let l = are.linked e i p h in l.room)
  ]

  linked_new : (e i : ℕ) (p : Place) → place_at t.chains e i ≡ Some p
      → IsLinked (less from new) (ren p) (option_map ren (place_before t.chains e i)) (option_map ren (place_at t.chains e (suc i))) (owner t e)
  linked_new e i p h =
      let l = are.linked e i p h in let seen = here_new e i p h in
      linked_now (less to old) (less from new) p (ren p) (place_before t.chains e i) (place_at t.chains e (suc i)) (option_map ren (place_before t.chains e i))
      (option_map ren (place_at t.chains e (suc i))) (owner t e) l (room_new e i p h)
      (ap (option_map bare) seen ∙ (same (ren p) ∙ (ap (option_map bare) (is_copied p) ∙ ap (option_map bare) (sym (was e i p h)))))
      (ap (λ o. back_in (content_of o)) seen ∙ back_now e i p h) (ap (λ o. next_in (content_of o)) seen ∙ next_now e i p h)

  linked_all : (e i : ℕ) (q : Place) → place_at u.chains e i ≡ Some q → IsLinked (less from new) q (place_before u.chains e i) (place_at u.chains e (suc i)) (owner u e)
  linked_all e i q h =
      let w = came e i q h in
      subst (λ x. IsLinked (less from new) x (place_before u.chains e i) (place_at u.chains e (suc i)) (owner u e)) w.2
      (subst (λ k. IsLinked (less from new) (ren w.0) (place_before u.chains e i) (place_at u.chains e (suc i)) k) (sym (owners e))
      (subst (λ o. IsLinked (less from new) (ren w.0) o (place_at u.chains e (suc i)) (owner t e)) (sym (position_before e i))
      (subst (λ o. IsLinked (less from new) (ren w.0) (option_map ren (place_before t.chains e i)) o (owner t e)) (sym (position e (suc i))) (linked_new e i w.0 w.1))))

  -- renamed places are apart
  one_origin : (e i g k : ℕ) (p q : Place) → place_at t.chains e i ≡ Some p → place_at t.chains g k ≡ Some q → ren p ≡ ren q → p ≡ q
  one_origin e i g k p q h x s = elim (place_cases from p) [
    | inl a ↦ elim (place_cases from q) [
      | inl b ↦ sym a ∙ b
      | inr b ↦ absurd (away g k q x (sym (renamed_here from to) ∙ (ap ren a ∙ (s ∙ renamed_past from to q b))))
    ]
    | inr a ↦ elim (place_cases from q) [
      | inl b ↦ absurd (away e i p h (sym (renamed_here from to) ∙ (ap ren b ∙ (sym s ∙ renamed_past from to p a))))
      | inr b ↦ sym (renamed_past from to p a) ∙ (s ∙ renamed_past from to q b)
    ]
  ]

  apart_all : (e g i k : ℕ) (q : Place) → place_at u.chains e i ≡ Some q → place_at u.chains g k ≡ Some q → (e ≡ g) × (i ≡ k)
  apart_all e g i k q h x =
      let a = came e i q h in let b = came g k q x in
      let one = one_origin e i g k a.0 b.0 a.1 b.1 (a.2 ∙ sym b.2) in
      are.apart e g i k a.0 a.1 (b.1 ∙ ap (λ y. Some y) (sym one))

  -- where a live object came from
  origin : (q : Place) (item : Item) → less from new q ≡ Some item → (p : Place) × (e : ℕ) × (i : ℕ) × (place_at t.chains e i ≡ Some p) × (ren p ≡ q)
  origin q item h = elim (place_cases from q) [
    | inl s ↦ some_none h (ap (less from new) (sym s) ∙ gone_new)
    | inr far ↦
        (let now = there_too (new q) (old q) item (sym (same q)) (sym (less_past from q new far) ∙ h) in
        elim (place_cases to q) [
          | inl s ↦ (from, f, j, at, renamed_here from to ∙ s)
          | inr past ↦ (let w = are.every q now.0 (less_past to q old past ∙ now.1) in (q, w.0, w.1, w.2, renamed_past from to q far))
        ])
  ]

  pub chains_moved : AreChains u (less from new)
  chains_moved = record {
    firsts = λ e. firsts e ∙ (ap (option_map ren) (are.firsts e) ∙ sym (position e 0));
    linked = linked_all;
    owned = λ e i q h. (let w = came e i q h in subst (λ k. k < u.names) (sym (owners e)) (subst (λ k. owner t e < k) (sym names) (are.owned e i w.0 w.1)));
    apart = apart_all;
    every = λ q item h. (let w = origin q item h in (w.1, w.2, position w.1 w.2 ∙ (ap (option_map ren) w.3 ∙ ap (λ x. Some x) w.4)));
    short = λ e. (let same_length = ap (λ (cs : List (List Place)). length (chain_at cs e)) chains ∙ (ap (λ (ps : List Place). length ps) (chain_mapped ren t.chains e) ∙ length-map (chain_at t.chains e) ren) in
        let were = are.short e in omega (arith, same_length, were));
  }

  pub names_moved : (n : ℕ) → place_of u n ≡ option_map (renamed from to) (place_of t n)
  names_moved n = position (n / most_fragments) (n % most_fragments)

  -- ---- the references

  refs_moved : (e i : ℕ) (p : Place) → place_at t.chains e i ≡ Some p → refs_in (less from new (ren p)) ≡ map ren (refs_in (old p))
  refs_moved e i p h =
      let l = are.linked e i p h in let m = linked_new e i p h in
      let before = place_before t.chains e i in let next = place_at t.chains e (suc i) in
      refs_listed (less from new) (ren p) (option_map ren before) (option_map ren next)
      (back_link_is (less from new) (ren p) (option_map ren before) (option_map ren next) (owner t e) m)
      (next_link_is (less from new) (ren p) (option_map ren before) (option_map ren next) (owner t e) m)
      (has_room before (room_before t (less to old) e i are) (λ q g. renamed_room q g)) (has_room next (room_at t (less to old) e (suc i) are) (λ q g. renamed_room q g))
      ∙ (listed_mapped ren before next
      ∙ ap (map ren) (sym (ap refs_in (sym (was e i p h)) ∙ refs_listed (less to old) p before next (back_link_is (less to old) p before next (owner t e) l)
      (next_link_is (less to old) p before next (owner t e) l) (room_before t (less to old) e i are) (room_at t (less to old) e (suc i) are))))
    where
      renamed_room : (q : Place) → HasRoom q → HasRoom (ren q)
      renamed_room q g = elim (place_cases from q) [
        | inl x ↦ subst HasRoom (sym (ap ren (sym x) ∙ renamed_here from to)) room
        | inr x ↦ subst HasRoom (sym (renamed_past from to q x)) g
      ]

      has_room : (o : Option Place) → HasRoomIf o → ((q : Place) → HasRoom q → HasRoom (ren q)) → HasRoomIf (option_map ren o)
      has_room None g r = tt
      has_room (Some q) g r = r q g

  by_origin : (e i : ℕ) (p q : Place) (item : Item) → place_at t.chains e i ≡ Some p → ren p ≡ q → from ≢ q → old q ≡ Some item
      → option_map references (less from new q) ≡ option_map (λ x. map (renamed from to) (references x)) (less from old q)
  by_origin e i p q item h is far here =
      let seen : less from old q ≡ Some item = less_past from q old far ∙ here in
      let now = there_too (old q) (new q) item (same q) here in
      let seen_now : less from new q ≡ Some now.0 = less_past from q new far ∙ now.1 in
      let there : old p ≡ Some item = sym (is_copied p) ∙ (ap old is ∙ here) in
      refs_known (less from new q) now.0 seen_now
      ∙ (ap (λ x. Some (refs_in (less from new x))) (sym is)
      ∙ (ap (λ ps. Some ps) (refs_moved e i p h) ∙ (ap (λ (x : Option Item). Some (map (renamed from to) (refs_in x))) there
      ∙ (refs_renamed (renamed from to) item ∙ sym (ap (option_map (λ x. map (renamed from to) (references x))) seen)))))

  pub references_moved : (q : Place) → option_map references (less from new q) ≡ option_map (λ x. map (renamed from to) (references x)) (less from old q)
  references_moved q = elim (place_cases from q) [
    | inl s ↦
        subst (λ x. option_map references (less from new x) ≡ option_map (λ y. map (renamed from to) (references y)) (less from old x)) s
        (ap (option_map references) (less_here from new) ∙ sym (ap (option_map (λ x. map (renamed from to) (references x))) (less_here from old)))
    | inr far ↦ at_any (old q) far refl
  ]
    where
      at_any : (o : Option Item) → from ≢ q → old q ≡ o → option_map references (less from new q) ≡ option_map (λ x. map (renamed from to) (references x)) (less from old q)
      at_any None far e =
          let gone : new q ≡ None = none_of (new q) (λ i is. (let b = there_too (new q) (old q) i (sym (same q)) is in some_none b.1 e)) in
          ap (option_map references) (less_past from q new far ∙ gone) ∙ sym (ap (option_map (λ x. map (renamed from to) (references x))) (less_past from q old far ∙ e))
      at_any (Some item) far e = elim (place_cases to q) [
        | inl s ↦ by_origin f j from q item at (renamed_here from to ∙ s) far e
        | inr past ↦ (let w = are.every q item (less_past to q old past ∙ e) in by_origin w.0 w.1 q q item w.2 (renamed_past from to q far) far e)
      ]
