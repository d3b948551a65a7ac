-- What stands at the offsets of a segment, and what a change of its bytes does to that.
use Rattle.std.proofs.Common.{◌≡◌, ◌≢◌, ℕ, suc, ◌+◌, ◌-◌, ◌<◌, ◌≤◌, ◌⊎◌, inl, inr, Bool, true, false, cond, List, [], ◌∷◌, ◌++◌, take, drop, refl, sym, ap, ◌∙◌, subst, arith}
use Rattle.std.specs.Prelude.{◌==◌, Option, None, Some, option_map, IsSome, is_some, Any}
use Rattle.std.proofs.lemmas.Bool.{eq-eqb, ne_eqb, eqb-true, cases_eq}
use Rattle.std.proofs.lemmas.List.{take-take, drop-take, drop-drop}
use Rattle.object_log.specs.Objects.{Object, object_at, objects, AreObjects, IsSegment, live}
use Rattle.regions.specs.Counts.{live_bytes}
use Rattle.regions.specs.Contents.{Item, Standing, standing, standing_among, item_if_live, if_live, object_with}

-- objects end where they end
pub objects-below : (bytes : List ℕ) (a used : ℕ) (os : List Object) → AreObjects bytes a used os → a ≤ used
objects-below bytes a used [] h = omega (arith, h)
objects-below bytes a used (o ∷ os) h = let rest = objects-below bytes (a + o.size) used os h.2 in omega (arith, rest)

-- no object stands below the first, nor where they end
pub none-before : (bytes : List ℕ) (a used at : ℕ) (os : List Object) → AreObjects bytes a used os → at < a → object_with at os ≡ None
none-before bytes a used at [] h low = refl
none-before bytes a used at (o ∷ os) h low =
    let here : o.at ≡ a = ap (λ p. p.at) h.0 in
    rw (ne_eqb o.at at (λ e. omega (arith, e, here, low))) (none-before bytes (a + o.size) used at os h.2 (omega (arith, low)))

pub none-behind : (bytes : List ℕ) (a used at : ℕ) (os : List Object) → AreObjects bytes a used os → used ≤ at → object_with at os ≡ None
none-behind bytes a used at [] h high = refl
none-behind bytes a used at (o ∷ os) h high =
    let here : o.at ≡ a = ap (λ p. p.at) h.0 in let rest = objects-below bytes (a + o.size) used os h.2 in let some = h.1.4.0 in
    rw (ne_eqb o.at at (λ e. omega (arith, e, here, rest, some, high))) (none-behind bytes (a + o.size) used at os h.2 high)

-- what is found
pub record IsFound (bytes : List ℕ) (a used at : ℕ) (o : Object) : Type 0 where
  pub place : o.at ≡ at
  pub is : o ≡ object_at bytes at
  pub low : a ≤ at
  pub least : 16 ≤ o.size
  pub most : o.size ≤ 12296
  pub high : at + o.size ≤ used

pub found : (bytes : List ℕ) (a used at : ℕ) (os : List Object) (o : Object) → AreObjects bytes a used os → object_with at os ≡ Some o → IsFound bytes a used at o
found bytes a used at [] o h e = absurd (let clash : None ≡ Some o = e in cc)
found bytes a used at (p ∷ os) o h e =
    let here : p.at ≡ a = ap (λ p. p.at) h.0 in let rest = objects-below bytes (a + p.size) used os h.2 in let some = h.1.4 in
    elim (cases_eq p.at at) [
      | inl is ↦
          let first : object_with at (p ∷ os) ≡ Some p = rw (eq-eqb p.at at is) refl in
          let same : p ≡ o = (let both : Some p ≡ Some o = sym first ∙ e in cc) in
          subst (IsFound bytes a used at) same (record {
            place = is;
            is = subst (λ k. p ≡ object_at bytes k) (sym here ∙ is) h.0;
            low = omega (arith, here, is);
            least = some.0;
            most = some.1;
            high = omega (arith, here, is, rest);
          })
      | inr ne ↦
          let later : object_with at (p ∷ os) ≡ object_with at os = rw (ne_eqb p.at at ne) refl in
          let f = found bytes (a + p.size) used at os o h.2 (sym later ∙ e) in
          record { place = f.place; is = f.is; low = omega (arith, f.low); least = f.least; most = f.most; high = f.high }
    ]

any-here : {X : Type 0} (P : X → Type 0) (x : X) (xs : List X) → P x → Any P (x ∷ xs)
any-here P x xs h = (0, x, omega arith, refl, h)

any-later : {X : Type 0} (P : X → Type 0) (x : X) (xs : List X) → Any P xs → Any P (x ∷ xs)
any-later P x xs (k, y, w, e, h) = (suc k, y, omega (arith, w), e, h)

-- what is found is one of the objects
pub found-any : (P : Object → Type 0) (at : ℕ) (os : List Object) (o : Object) → object_with at os ≡ Some o → P o → Any P os
found-any P at [] o e h = absurd (let clash : None ≡ Some o = e in cc)
found-any P at (p ∷ os) o e h =
    elim (cases_eq p.at at) [
      | inl is ↦
          let first : object_with at (p ∷ os) ≡ Some p = rw (eq-eqb p.at at is) refl in
          let same : p ≡ o = (let both : Some p ≡ Some o = sym first ∙ e in cc) in any-here P p os (subst P (sym same) h)
      | inr ne ↦
          let later : object_with at (p ∷ os) ≡ object_with at os = rw (ne_eqb p.at at ne) refl in any-later P p os (found-any P at os o (sym later ∙ e) h)
    ]

-- bytes in front of u are the same, so those of a part of them are
pub window : (i n u : ℕ) (xs ys : List ℕ) → i + n ≤ u → take u ys ≡ take u xs → take n (drop i ys) ≡ take n (drop i xs)
window i n u xs ys fits same =
    sym (drop-take i n ys) ∙ ap (drop i) (sym (take-take (i + n) u ys fits) ∙ ap (take (i + n)) same ∙ take-take (i + n) u xs fits) ∙ drop-take i n xs

-- bytes from hi on are the same, so those from a later place on are
pub window-behind : (hi i : ℕ) (xs ys : List ℕ) → hi ≤ i → drop hi ys ≡ drop hi xs → drop i ys ≡ drop i xs
window-behind hi i xs ys fits same =
    let e : hi + (i - hi) ≡ i = omega (arith, fits) in
    subst (λ k. drop k ys ≡ drop k xs) e (sym (drop-drop (i - hi) hi ys) ∙ ap (drop (i - hi)) same ∙ drop-drop (i - hi) hi xs)

-- what stands there is told by the bytes of the object's content
pub content-same : (g : Option ℕ) (o : Object) (xs ys : List ℕ) → take (o.size - 8) (drop (o.at + 8) ys) ≡ take (o.size - 8) (drop (o.at + 8) xs) → standing g ys o ≡ standing g xs o
content-same g o xs ys e = ap (λ c. let s : Standing = record { live = o.state == 1; item = record { group = g; kind = o.kind; content = c } } in s) e

-- the bytes below are the same
pub standing-below : (g : Option ℕ) (xs ys : List ℕ) (a used at : ℕ) (os : List Object) → AreObjects xs a used os → take used ys ≡ take used xs → standing_among g ys at os ≡ standing_among g xs at os
standing-below g xs ys a used at [] h same = refl
standing-below g xs ys a used at (o ∷ os) h same =
    let here : o.at ≡ a = ap (λ p. p.at) h.0 in let rest = objects-below xs (a + o.size) used os h.2 in let some = h.1.4 in
    elim (cases_eq o.at at) [
      | inl is ↦ rw (eq-eqb o.at at is) (ap (λ s. Some s) (content-same g o xs ys (window (o.at + 8) (o.size - 8) used xs ys (omega (arith, here, rest, some.0)) same)))
      | inr ne ↦ rw (ne_eqb o.at at ne) (standing-below g xs ys (a + o.size) used at os h.2 same)
    ]

-- the bytes behind are the same
pub standing-behind : (g : Option ℕ) (xs ys : List ℕ) (hi a used at : ℕ) (os : List Object) → AreObjects xs a used os → hi ≤ a + 8 → drop hi ys ≡ drop hi xs → standing_among g ys at os ≡ standing_among g xs at os
standing-behind g xs ys hi a used at [] h low same = refl
standing-behind g xs ys hi a used at (o ∷ os) h low same =
    let here : o.at ≡ a = ap (λ p. p.at) h.0 in let some = h.1.4 in
    elim (cases_eq o.at at) [
      | inl is ↦ rw (eq-eqb o.at at is) (ap (λ s. Some s) (content-same g o xs ys (ap (take (o.size - 8)) (window-behind hi (o.at + 8) xs ys (omega (arith, here, low)) same))))
      | inr ne ↦ rw (ne_eqb o.at at ne) (standing-behind g xs ys hi (a + o.size) used at os h.2 (omega (arith, low)) same)
    ]

-- only bytes of the object at `at` differ, those from lo up to hi
pub standing-beside : (g : Option ℕ) (xs ys : List ℕ) (lo hi a used at b : ℕ) (os : List Object) (it : Object) → AreObjects xs a used os → object_with at os ≡ Some it → at ≤ lo → hi ≤ at + it.size
    → take lo ys ≡ take lo xs → drop hi ys ≡ drop hi xs → (b ≢ at) ⊎ (hi ≤ at + 8) → standing_among g ys b os ≡ standing_among g xs b os
standing-beside g xs ys lo hi a used at b [] it h e low high front back which = refl
standing-beside g xs ys lo hi a used at b (o ∷ os) it h e low high front back which =
    let here : o.at ≡ a = ap (λ p. p.at) h.0 in let rest = objects-below xs (a + o.size) used os h.2 in let some = h.1.4 in
    elim (cases_eq o.at at) [
      | inl is ↦
          let first : object_with at (o ∷ os) ≡ Some o = rw (eq-eqb o.at at is) refl in
          let same : o ≡ it = (let both : Some o ≡ Some it = sym first ∙ e in cc) in
          let size : o.size ≡ it.size = ap (λ p. p.size) same in
          let tail = standing-behind g xs ys hi (a + o.size) used b os h.2 (omega (arith, here, is, size, high)) back in
          elim (cases_eq o.at b) [
            | inl that ↦
                elim which [
                  | inl other ↦ absurd (other (sym that ∙ is))
                  | inr near ↦
                      rw (eq-eqb o.at b that)
                      (ap (λ s. Some s) (content-same g o xs ys (ap (take (o.size - 8)) (window-behind hi (o.at + 8) xs ys (omega (arith, is, near)) back))))
                ]
            | inr that ↦ rw (ne_eqb o.at b that) tail
          ]
      | inr ne ↦
          let later : object_with at (o ∷ os) ≡ object_with at os = rw (ne_eqb o.at at ne) refl in
          let it-is = sym later ∙ e in
          let f = found xs (a + o.size) used at os it h.2 it-is in
          elim (cases_eq o.at b) [
            | inl that ↦ rw (eq-eqb o.at b that) (ap (λ s. Some s) (content-same g o xs ys (window (o.at + 8) (o.size - 8) lo xs ys (omega (arith, here, f.low, low, some.0)) front)))
            | inr that ↦ rw (ne_eqb o.at b that) (standing-beside g xs ys lo hi (a + o.size) used at b os it h.2 it-is low high front back which)
          ]
    ]

-- the live bytes lie below the end
pub live-below : (bytes : List ℕ) (a used : ℕ) (os : List Object) → AreObjects bytes a used os → live_bytes os + a ≤ used
live-below bytes a used [] h = omega (arith, h)
live-below bytes a used (o ∷ os) h =
    let rest = live-below bytes (a + o.size) used os h.2 in
    elim (o.state == 1) as (λ b. cond b o.size 0 + live_bytes os + a ≤ used) [ true ↦ omega (arith, rest) | false ↦ omega (arith, rest) ]

pub live-added : (os : List Object) (at kind size : ℕ) → live_bytes (os ++ live at kind size ∷ []) ≡ live_bytes os + size
live-added [] at kind size = omega arith
live-added (o ∷ os) at kind size = let rest = live-added os at kind size in omega (arith, rest)

-- one object more
pub with-added : (os : List Object) (o : Object) (at : ℕ) → o.at ≢ at → object_with at (os ++ o ∷ []) ≡ object_with at os
with-added [] o at ne = rw (ne_eqb o.at at ne) refl
with-added (p ∷ os) o at ne = ap (λ f. cond (p.at == at) (Some p) f) (with-added os o at ne)

pub added-there : (os : List Object) (o : Object) (at : ℕ) → o.at ≡ at → object_with at os ≡ None → object_with at (os ++ o ∷ []) ≡ Some o
added-there [] o at is none = rw (eq-eqb o.at at is) refl
added-there (p ∷ os) o at is none =
    elim (cases_eq p.at at) [
      | inl e ↦
          let first : object_with at (p ∷ os) ≡ Some p = rw (eq-eqb p.at at e) refl in
          absurd (let clash : Some p ≡ None = sym first ∙ none in cc)
      | inr ne ↦
          let later : object_with at (p ∷ os) ≡ object_with at os = rw (ne_eqb p.at at ne) refl in
          rw (ne_eqb p.at at ne) (added-there os o at is (sym later ∙ none))
    ]

-- what stands there is one of the objects
pub some-found : (g : Option ℕ) (bytes : List ℕ) (at : ℕ) (os : List Object) → IsSome (standing_among g bytes at os) → (o : Object) × (object_with at os ≡ Some o)
some-found g bytes at os =
    elim (object_with at os) as (λ v. is_some (option_map (standing g bytes) v) ≡ true → (o : Object) × (v ≡ Some o)) [
      | None ↦ λ h. absurd (let clash : false ≡ true = h in cc)
      | Some o ↦ λ h. (o, refl)
    ]

if-live-true : (b : Bool) (i : Item) → is_some (if_live b i) ≡ true → b ≡ true
if-live-true true i h = refl
if-live-true false i h = absurd (let clash : false ≡ true = h in cc)

pub live-found : (g : Option ℕ) (bytes : List ℕ) (at : ℕ) (os : List Object) → IsSome (item_if_live (standing_among g bytes at os)) → (o : Object) × (object_with at os ≡ Some o) × (o.state ≡ 1)
live-found g bytes at os =
    elim (object_with at os) as (λ v. is_some (item_if_live (option_map (standing g bytes) v)) ≡ true → (o : Object) × (v ≡ Some o) × (o.state ≡ 1)) [
      | None ↦ λ h. absurd (let clash : false ≡ true = h in cc)
      | Some o ↦ λ h. (o, refl, eqb-true o.state 1 (if-live-true (o.state == 1) (standing g bytes o).item h))
    ]

pub live-standing : (s : Option Standing) → IsSome (item_if_live s) → IsSome s
live-standing None h = h
live-standing (Some s) h = refl

-- in a g segment nothing stands
pub begun-if : (bytes : List ℕ) (used at : ℕ) (g : Option ℕ) → (g ≡ None → used ≡ 0) → IsSome (standing_among g bytes at (objects bytes used)) → IsSome g
begun-if bytes used at (Some g) z h = refl
begun-if bytes used at None z h =
    absurd (let clash : false ≡ true = subst (λ k. IsSome (standing_among None bytes at (objects bytes k))) (z refl) h in cc)

-- where no byte is live no object is
none-live : (g : Option ℕ) (bytes : List ℕ) (a used at : ℕ) (os : List Object) → AreObjects bytes a used os → live_bytes os ≡ 0 → item_if_live (standing_among g bytes at os) ≡ None
none-live g bytes a used at [] h z = refl
none-live g bytes a used at (o ∷ os) h z =
    elim (cases_eq o.state 1) [
      | inl one ↦
          let some : o.size + live_bytes os ≡ 0 = sym (ap (λ b. cond b o.size 0 + live_bytes os) (eq-eqb o.state 1 one)) ∙ z in
          let least = h.1.4.0 in absurd (omega (arith, some, least))
      | inr other ↦
          let rest : 0 + live_bytes os ≡ 0 = sym (ap (λ b. cond b o.size 0 + live_bytes os) (ne_eqb o.state 1 other)) ∙ z in
          elim (cases_eq o.at at) [
            | inl is ↦ rw (eq-eqb o.at at is) (ap (λ b. if_live b (standing g bytes o).item) (ne_eqb o.state 1 other))
            | inr ne ↦ rw (ne_eqb o.at at ne) (none-live g bytes (a + o.size) used at os h.2 (omega (arith, rest)))
          ]
    ]

pub dead-segment : (bytes : List ℕ) (used : ℕ) (g : Option ℕ) → (g ≡ None → used ≡ 0) → (IsSome g → IsSegment bytes used) → live_bytes (objects bytes used) ≡ 0
    → (at : ℕ) → item_if_live (standing_among g bytes at (objects bytes used)) ≡ None
dead-segment bytes used None unused s z at = subst (λ k. item_if_live (standing_among None bytes at (objects bytes k)) ≡ None) (sym (unused refl)) refl
dead-segment bytes used (Some g) unused s z at = none-live (Some g) bytes 0 used at (objects bytes used) (s refl).objects z

-- no more bytes are live than are used
pub live-within : (bytes : List ℕ) (used : ℕ) (g : Option ℕ) → (g ≡ None → used ≡ 0) → (IsSome g → IsSegment bytes used) → live_bytes (objects bytes used) ≤ used
live-within bytes used None unused s = subst (λ k. live_bytes (objects bytes k) ≤ k) (sym (unused refl)) (omega arith)
live-within bytes used (Some g) unused s = let b = live-below bytes 0 used (objects bytes used) (s refl).objects in omega (arith, b)

next-of : (bytes : List ℕ) (a used at : ℕ) (p : Object) (os : List Object) → AreObjects bytes a used os → a ≡ at → p.at < at → (at ≡ used) ⊎ IsSome (object_with at (p ∷ os))
next-of bytes a used at p [] h e low = inl (sym e ∙ h)
next-of bytes a used at p (q ∷ os) h e low =
    let here : q.at ≡ at = ap (λ x. x.at) h.0 ∙ e in
    inr (rw (ne_eqb p.at at (λ g. omega (arith, g, low))) (rw (eq-eqb q.at at here) refl))

-- behind an object stands the next one, or the end, and none between
pub after-found : (bytes : List ℕ) (a used at : ℕ) (os : List Object) (o : Object) → AreObjects bytes a used os → object_with at os ≡ Some o
    → ((at + o.size ≡ used) ⊎ IsSome (object_with (at + o.size) os)) × ((b : ℕ) → at < b → b < at + o.size → object_with b os ≡ None)
after-found bytes a used at [] o h e = absurd (let clash : None ≡ Some o = e in cc)
after-found bytes a used at (p ∷ os) o h e =
    let here : p.at ≡ a = ap (λ q. q.at) h.0 in let some = h.1.4.0 in
    elim (cases_eq p.at at) [
      | inl is ↦
          let first : object_with at (p ∷ os) ≡ Some p = rw (eq-eqb p.at at is) refl in
          let same : p ≡ o = (let both : Some p ≡ Some o = sym first ∙ e in cc) in
          let size : p.size ≡ o.size = ap (λ q. q.size) same in (
            next-of bytes (a + p.size) used (at + o.size) p os h.2 (omega (arith, here, is, size)) (omega (arith, is, some, size)),
            λ b low high. rw (ne_eqb p.at b (λ g. omega (arith, g, is, low))) (none-before bytes (a + p.size) used b os h.2 (omega (arith, high, here, is, size))),
          )
      | inr far ↦
          let later : object_with at (p ∷ os) ≡ object_with at os = rw (ne_eqb p.at at far) refl in
          let it = sym later ∙ e in
          let f = found bytes (a + p.size) used at os o h.2 it in
          let rest = after-found bytes (a + p.size) used at os o h.2 it in (
            elim rest.0 [
              | inl ends ↦ inl ends
              | inr more ↦ inr (rw (ne_eqb p.at (at + o.size) (λ g. omega (arith, g, here, f.low, some))) more)
            ],
            λ b low high. rw (ne_eqb p.at b (λ g. omega (arith, g, here, f.low, some, low))) (rest.1 b low high),
          )
    ]

-- the first object begins where all begin, or they end there
pub first-start : (g : Option ℕ) (bytes : List ℕ) (a used : ℕ) (os : List Object) → AreObjects bytes a used os → IsSome (standing_among g bytes a os) ⊎ (a ≡ used)
first-start g bytes a used [] h = inr h
first-start g bytes a used (o ∷ os) h = inl (ap (λ b. is_some (option_map (standing g bytes) (cond b (Some o) (object_with a os)))) (eq-eqb o.at a (ap (λ p. p.at) h.0)))
