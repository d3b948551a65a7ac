-- What the reading of a segment's objects rests on.
use Rattle.std.proofs.Common.{◌≡◌, ℕ, zero, suc, ◌+◌, ◌-◌, ◌*◌, ◌<◌, ◌≤◌, ◌⊎◌, inl, inr, List, [], ◌∷◌, ◌++◌, drop, refl, sym, ap, ap₂, ◌∙◌, subst, arith}
use Rattle.std.specs.Prelude.{slice_index, Any, All}
use Rattle.std.specs.List.Sorted.{IsStrictlyIncreasing}
use Rattle.std.proofs.lemmas.List.Elements.{All-cons}
use Rattle.std.proofs.lemmas.Bool.{lt-ltb, le-ltb}
use Rattle.std.proofs.lemmas.List.{get_or-drop}
use Rattle.byteorder.specs.Endian.{little_number}
use Rattle.object_log.specs.Objects.{Object, object_at, described, descriptor_at, state_of, state_byte, objects_from, objects, IsObject, AreObjects, IsSize, StandsAt, offsets}

-- objects end where they end, and each has its descriptor before that
pub objects-below : (bytes : List ℕ) (at used : ℕ) (os : List Object) → AreObjects bytes at used os → at ≤ used
objects-below bytes at used [] h = omega (arith, h)
objects-below bytes at used (o ∷ os) h = let rest = objects-below bytes (at + o.size) used os h.2 in omega (arith, rest)

-- the list of objects is what is read
pub objects-read : (n : ℕ) (bytes : List ℕ) (at used : ℕ) (os : List Object) → AreObjects bytes at used os → used ≤ n + at → objects_from n bytes at used ≡ os
objects-read zero bytes at used [] h e = refl
objects-read (suc n) bytes at used [] h e = rw (le-ltb at used (omega (arith, h))) refl
objects-read zero bytes at used (o ∷ os) h e =
    let rest = objects-below bytes (at + o.size) used os h.2 in let some = h.1.4.0 in absurd (omega (arith, rest, some, e))
objects-read (suc n) bytes at used (o ∷ os) h e =
    let rest = objects-below bytes (at + o.size) used os h.2 in let some = h.1.4.0 in
    let size : o.size ≡ (object_at bytes at).size = ap (λ p. p.size) h.0 in
    let more : used ≤ n + (at + o.size) = omega (arith, e, some) in
    rw (lt-ltb at used (omega (arith, rest, some)))
    (ap₂ (λ p ps. p ∷ ps) (sym h.0) (ap (λ s. objects_from n bytes (at + s) used) (sym size) ∙ objects-read n bytes (at + o.size) used os h.2 more))

pub objects-are : (bytes : List ℕ) (used : ℕ) (os : List Object) → AreObjects bytes 0 used os → objects bytes used ≡ os
objects-are bytes used os h = objects-read used bytes 0 used os h (omega arith)

-- the bytes from low up to high are the same
abbrev pub SameOn : ℕ → ℕ → List ℕ → List ℕ → Type 0
SameOn low high xs ys = (i : ℕ) → low ≤ i → i < high → slice_index ys i ≡ slice_index xs i

number-at : (n : ℕ) (xs : List ℕ) → little_number 4 (drop n xs) ≡ slice_index xs (n + 0) + 256 * (slice_index xs (n + 1) + 256 * (slice_index xs (n + 2) + 256 * (slice_index xs (n + 3) + 256 * 0)))
number-at n xs = rw (get_or-drop n xs 0 0, get_or-drop n xs 1 0, get_or-drop n xs 2 0, get_or-drop n xs 3 0) refl

pub number-same : (n : ℕ) (xs ys : List ℕ) → SameOn n (n + 4) xs ys → little_number 4 (drop n ys) ≡ little_number 4 (drop n xs)
number-same n xs ys same =
    number-at n ys
    ∙ rw (same (n + 0) (omega arith) (omega arith), same (n + 1) (omega arith) (omega arith), same (n + 2) (omega arith) (omega arith), same (n + 3) (omega arith) (omega arith)) (sym (number-at n xs))

abbrev object : ℕ → ℕ → ℕ → ℕ → Object
object at state kind size = record { at = at; state = state; kind = kind; size = size }

pub object-is : (at s k n s' k' n' : ℕ) → s ≡ s' → k ≡ k' → n ≡ n' → object at s k n ≡ object at s' k' n'
object-is at s k n s' k' n' e f g = ap (λ x. object at x k n) e ∙ ap (λ x. object at s' x n) f ∙ ap (λ x. object at s' k' x) g

pub object-same : (at : ℕ) (xs ys : List ℕ) → SameOn at (at + 8) xs ys → object_at ys at ≡ object_at xs at
object-same at xs ys same =
    object-is at _ _ _ _ _ _ (same at (omega arith) (omega arith)) (same (at + 1) (omega arith) (omega arith))
    (number-same (at + 4) xs ys (λ i low high. same i (omega (arith, low)) (omega (arith, high))))

pub objects-same : (at used : ℕ) (xs ys : List ℕ) (os : List Object) → SameOn at used xs ys → AreObjects xs at used os → AreObjects ys at used os
objects-same at used xs ys [] same h = h
objects-same at used xs ys (o ∷ os) same h =
    let rest = objects-below xs (at + o.size) used os h.2 in let some = h.1.4.0 in
    let here : o.at ≡ at = ap (λ p. p.at) h.0 in (
      h.0 ∙ sym (object-same at xs ys (λ i low high. same i low (omega (arith, high, rest, some)))),
      (h.1.0, h.1.1, same (o.at + 2) (omega (arith, here)) (omega (arith, here, rest, some)) ∙ h.1.2, same (o.at + 3) (omega (arith, here)) (omega (arith, here, rest, some)) ∙ h.1.3, h.1.4),
      objects-same (at + o.size) used xs ys os (λ i low high. same i (omega (arith, low)) high) h.2,
    )

pub objects-snoc : (bytes : List ℕ) (at used : ℕ) (os : List Object) (o : Object) → AreObjects bytes at used os → o ≡ object_at bytes used → IsObject bytes o → AreObjects bytes at (used + o.size) (os ++ o ∷ [])
objects-snoc bytes at used [] o h e fits = (subst (λ k. o ≡ object_at bytes k) (sym h) e, fits, ap (λ k. k + o.size) h)
objects-snoc bytes at used (p ∷ os) o h e fits = (h.0, h.1, objects-snoc bytes (at + p.size) used os o h.2 e fits)

-- some element is the first or one behind it
pub any-cases : {X : Type 0} (P : X → Type 0) (x : X) (xs : List X) → Any P (x ∷ xs) → P x ⊎ Any P xs
any-cases P x xs (zero, y, w, e, h) = inl (subst P (sym e) h)
any-cases P x xs (suc k, y, w, e, h) = inr (k, y, omega (arith, w), e, h)

pub any-none : {X : Type 0} (P : X → Type 0) {Y : Type 0} → Any P [] → Y
any-none P h = absurd (omega (arith, h.2))

pub stands-within : (bytes : List ℕ) (a used at : ℕ) (os : List Object) → AreObjects bytes a used os → StandsAt at os → (a ≤ at) × (at + 16 ≤ used)
stands-within bytes a used at [] h stands = any-none (λ (o : Object). o.at ≡ at) stands
stands-within bytes a used at (o ∷ os) h stands =
    let rest = objects-below bytes (a + o.size) used os h.2 in let some = h.1.4.0 in
    let here : o.at ≡ a = ap (λ p. p.at) h.0 in
    elim (any-cases (λ (p : Object). p.at ≡ at) o os stands) [
      | inl e ↦ (omega (arith, e, here), omega (arith, e, here, rest, some))
      | inr more ↦ let w = stands-within bytes (a + o.size) used at os h.2 more in (omega (arith, w.0), w.1)
    ]

-- the first of the objects, and the others
pub objects-step : (bytes : List ℕ) (at used : ℕ) (os : List Object) → objects_from (used - at) bytes at used ≡ os → AreObjects bytes at used os → (at ≡ used → ⊥)
    → let next = at + (object_at bytes at).size in
    (objects_from (used - at) bytes at used ≡ object_at bytes at ∷ objects_from (used - next) bytes next used) × AreObjects bytes next used (objects_from (used - next) bytes next used) × (at + 16 ≤ used) × (next ≤ used)
objects-step bytes at used [] e h more = absurd (more h)
objects-step bytes at used (o ∷ os) e h more =
    let next = at + (object_at bytes at).size in let some = h.1.4.0 in
    let size : o.size ≡ (object_at bytes at).size = ap (λ p. p.size) h.0 in
    let rest : AreObjects bytes next used os = subst (λ s. AreObjects bytes (at + s) used os) size h.2 in
    let below = objects-below bytes next used os rest in
    let read : objects_from (used - next) bytes next used ≡ os = objects-read (used - next) bytes next used os rest (omega (arith, below)) in
    (e ∙ ap₂ (λ p ps. p ∷ ps) h.0 (sym read), subst (AreObjects bytes next used) (sym read) rest, omega (arith, below, size, some), below)

-- objects stand one behind the other
pub offsets-rise : (bytes : List ℕ) (at used : ℕ) (os : List Object) → AreObjects bytes at used os → IsStrictlyIncreasing (offsets os)
offsets-rise bytes at used [] h k w = absurd (omega (arith, w))
offsets-rise bytes at used (o ∷ []) h k w = absurd (omega (arith, w))
offsets-rise bytes at used (o ∷ (p ∷ ps)) h zero w =
    let here : o.at ≡ at = ap (λ x. x.at) h.0 in let next : p.at ≡ at + o.size = ap (λ x. x.at) h.2.0 in omega (arith, here, next, h.1.4.0)
offsets-rise bytes at used (o ∷ (p ∷ ps)) h (suc k) w =
    let e : suc (k + 1) ≡ suc k + 1 = omega arith in
    let rest = offsets-rise bytes (at + o.size) used (p ∷ ps) h.2 k (omega (arith, w)) in
    subst (λ n. slice_index (offsets (p ∷ ps)) k < slice_index (offsets (o ∷ (p ∷ ps))) n) e rest

-- an object is what its descriptor says
pub objects-described : (bytes : List ℕ) (a used at : ℕ) (os : List Object) → AreObjects bytes a used os → All (λ o. o.at ≡ at → o ≡ object_at bytes at) os
objects-described bytes a used at [] h = λ k d w. absurd (omega (arith, w))
objects-described bytes a used at (o ∷ os) h =
    let P : Object → Type 0 = λ p. p.at ≡ at → p ≡ object_at bytes at in
    let here : o.at ≡ a = ap (λ x. x.at) h.0 in
    All-cons P o os (λ e. subst (λ k. o ≡ object_at bytes k) (sym here ∙ e) h.0) (objects-described bytes (a + o.size) used at os h.2)

-- the state of an object is read as its byte says
state-back : (byte : ℕ) → (byte ≡ 1) ⊎ (byte ≡ 2) → state_byte (state_of byte) ≡ byte
state-back byte (inl one) = subst (λ n. state_byte (state_of n) ≡ n) (sym one) refl
state-back byte (inr two) = subst (λ n. state_byte (state_of n) ≡ n) (sym two) refl

-- an object is the one that its descriptor is read as
pub objects-told : (bytes : List ℕ) (a used at : ℕ) (os : List Object) → AreObjects bytes a used os → All (λ o. o.at ≡ at → o ≡ described at (descriptor_at bytes at)) os
objects-told bytes a used at [] h = λ k d w. absurd (omega (arith, w))
objects-told bytes a used at (o ∷ os) h =
    let P : Object → Type 0 = λ p. p.at ≡ at → p ≡ described at (descriptor_at bytes at) in
    let here : o.at ≡ a = ap (λ x. x.at) h.0 in
    let told : o.at ≡ at → o ≡ described at (descriptor_at bytes at) =
    λ e. (
    let it : o ≡ object_at bytes at = subst (λ k. o ≡ object_at bytes k) (sym here ∙ e) h.0 in
    let known : (slice_index bytes at ≡ 1) ⊎ (slice_index bytes at ≡ 2) = subst (λ n. (n ≡ 1) ⊎ (n ≡ 2)) (ap (λ p. p.state) it) h.1.0 in
    it ∙ ap (λ s. object at s (slice_index bytes (at + 1)) (little_number 4 (drop (at + 4) bytes))) (sym (state-back (slice_index bytes at) known)))
    in
    All-cons P o os told (objects-told bytes (a + o.size) used at os h.2)

-- the bytes ys are those of xs but in the content of an object
pub content-kept : (a used at size : ℕ) (xs ys : List ℕ) (os : List Object) → AreObjects xs a used os → Any (λ o. (o.at ≡ at) × (o.size ≡ size)) os
    → ((i : ℕ) → (i < at + 8) ⊎ (at + size ≤ i) → slice_index ys i ≡ slice_index xs i) → AreObjects ys a used os
content-kept a used at size xs ys [] h stands same = h
content-kept a used at size xs ys (o ∷ os) h stands same =
    let P : Object → Type 0 = λ p. (p.at ≡ at) × (p.size ≡ size) in
    let here : o.at ≡ a = ap (λ p. p.at) h.0 in let some = h.1.4.0 in
    elim (any-cases P o os stands) [
      | inl e ↦
          let front : SameOn a (a + 8) xs ys = λ i low high. same i (inl (omega (arith, high, here, e.0))) in (
            h.0 ∙ sym (object-same a xs ys front),
            (h.1.0, h.1.1, front (o.at + 2) (omega (arith, here)) (omega (arith, here)) ∙ h.1.2, front (o.at + 3) (omega (arith, here)) (omega (arith, here)) ∙ h.1.3, h.1.4),
            objects-same (a + o.size) used xs ys os (λ i low high. same i (inr (omega (arith, low, here, e.0, e.1)))) h.2,
          )
      | inr more ↦
          let w = stands-within xs (a + o.size) used at os h.2 (more.0, more.1, more.2, more.3, more.4.0) in
          let front : SameOn a (a + 8) xs ys = λ i low high. same i (inl (omega (arith, high, w.0, some))) in (
            h.0 ∙ sym (object-same a xs ys front),
            (h.1.0, h.1.1, front (o.at + 2) (omega (arith, here)) (omega (arith, here)) ∙ h.1.2, front (o.at + 3) (omega (arith, here)) (omega (arith, here)) ∙ h.1.3, h.1.4),
            content-kept (a + o.size) used at size xs ys os h.2 more same,
          )
    ]

-- an object that stands somewhere has its size there, and ends in time
pub stands-fits : (bytes : List ℕ) (a used at : ℕ) (os : List Object) → AreObjects bytes a used os → StandsAt at os → IsSize (object_at bytes at).size × (at + (object_at bytes at).size ≤ used)
stands-fits bytes a used at [] h stands = any-none (λ (o : Object). o.at ≡ at) stands
stands-fits bytes a used at (o ∷ os) h stands =
    let here : o.at ≡ a = ap (λ p. p.at) h.0 in
    elim (any-cases (λ (p : Object). p.at ≡ at) o os stands) [
      | inl e ↦
          let it : a ≡ at = sym here ∙ e in
          let size : o.size ≡ (object_at bytes at).size = ap (λ p. p.size) (subst (λ k. o ≡ object_at bytes k) it h.0) in
          (subst IsSize size h.1.4, omega (arith, size, it, objects-below bytes (a + o.size) used os h.2))
      | inr more ↦ stands-fits bytes (a + o.size) used at os h.2 more
    ]
