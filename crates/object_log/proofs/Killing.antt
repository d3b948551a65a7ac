-- What a segment reads as once the state byte of an object is 2.
use Rattle.std.proofs.Common.{◌≡◌, ℕ, ◌+◌, ◌<◌, ◌≤◌, ◌≢◌, ◌⊎◌, inl, inr, List, [], ◌∷◌, length, take, refl, sym, ap, ◌∙◌, subst, arith, eq-eqb}
use Rattle.std.specs.Prelude.{slice_index, slice_set}
use Rattle.std.proofs.lemmas.Bool.{ne_eqb}
use Rattle.std.proofs.lemmas.List.{get_or-set_same, get_or-set_other, length-set, drop-set-lt}
use Rattle.object_log.specs.Objects.{Object, object_at, objects, AreObjects, IsSegment, StandsAt, LivesAt, killed}
use Rattle.object_log.proofs.Reading.{SameOn, objects-are, objects-same, object-same, number-same, object-is, any-cases, any-none, stands-within}

-- what lives somewhere stands there
pub stands : (at : ℕ) (os : List Object) → LivesAt at os → StandsAt at os
stands at os h = (h.0, h.1, h.2, h.3, h.4.0)

killed-behind : (bytes : List ℕ) (a used at : ℕ) (os : List Object) → AreObjects bytes a used os → at < a → killed at os ≡ os
killed-behind bytes a used at [] h low = refl
killed-behind bytes a used at (o ∷ os) h low =
    let here : o.at ≡ a = ap (λ p. p.at) h.0 in let some = h.1.4.0 in
    rw (ne_eqb o.at at (λ e. omega (arith, e, here, low))) (ap (λ ps. o ∷ ps) (killed-behind bytes (a + o.size) used at os h.2 (omega (arith, low))))

module _ (bytes : List ℕ) (at : ℕ) (inside : at < length bytes) where
  abbrev after : List ℕ
  after = slice_set bytes at 2

  other : (i : ℕ) → i ≢ at → slice_index after i ≡ slice_index bytes i
  other i ne = get_or-set_other bytes at i 2 0 ne

  beside : (low high : ℕ) → (at < low) ⊎ (high ≤ at) → SameOn low high bytes after
  beside low high (inl h) i l r = other i (λ e. omega (arith, e, h, l, r))
  beside low high (inr h) i l r = other i (λ e. omega (arith, e, h, l, r))

  -- the object there is dead, and otherwise as it was
  dead : object_at after at ≡ record (object_at bytes at) { state = 2 }
  dead =
      object-is at _ _ _ _ _ _ (get_or-set_same bytes at 2 0 inside) (beside (at + 1) (at + 8) (inl (omega arith)) (at + 1) (omega arith) (omega arith))
      (number-same (at + 4) bytes after (λ i l r. beside (at + 1) (at + 8) (inl (omega arith)) i (omega (arith, l)) (omega (arith, r))))

  kills : (a used : ℕ) (os : List Object) → AreObjects bytes a used os → LivesAt at os → AreObjects after a used (killed at os)
  kills a used [] h lives = any-none (λ (o : Object). (o.at ≡ at) × (o.state ≡ 1)) lives
  kills a used (o ∷ os) h lives =
      let here : o.at ≡ a = ap (λ p. p.at) h.0 in let some = h.1.4.0 in
      elim (any-cases (λ (p : Object). (p.at ≡ at) × (p.state ≡ 1)) o os lives) [
        | inl e ↦
            let it : at ≡ a = sym e.0 ∙ here in
            let o' : Object = record o { state = 2 } in
            let is : o' ≡ object_at after a = subst (λ k. o' ≡ object_at after k) it (sym (dead ∙ ap (λ (p : Object). record p { state = 2 }) (sym (subst (λ k. o ≡ object_at bytes k) (sym it) h.0)))) in
            let rest : AreObjects after (a + o.size) used os = objects-same (a + o.size) used bytes after os (beside (a + o.size) used (inl (omega (arith, it, some)))) h.2 in
            let same : killed at os ≡ os = killed-behind bytes (a + o.size) used at os h.2 (omega (arith, it, some)) in
            let two = beside (o.at + 1) (o.at + 8) (inl (omega (arith, e.0))) in
            rw (eq-eqb o.at at e.0) (is, (inr refl, h.1.1, two (o.at + 2) (omega arith) (omega arith) ∙ h.1.2, two (o.at + 3) (omega arith) (omega arith) ∙ h.1.3, h.1.4), subst (AreObjects after (a + o.size) used) (sym same) rest)
        | inr more ↦
            let w = stands-within bytes (a + o.size) used at os h.2 (stands at os more) in
            let front = beside a (a + 8) (inr (omega (arith, w.0, some))) in
            let is : o ≡ object_at after a = h.0 ∙ sym (object-same a bytes after front) in
            rw (ne_eqb o.at at (λ e. omega (arith, e, here, some, w.0)))
            (is, (h.1.0, h.1.1, front (o.at + 2) (omega (arith, here)) (omega (arith, here)) ∙ h.1.2, front (o.at + 3) (omega (arith, here)) (omega (arith, here)) ∙ h.1.3, h.1.4), kills (a + o.size) used os h.2 more)
      ]

-- a live object has its place in the segment
pub lives-inside : (bytes : List ℕ) (used at : ℕ) → IsSegment bytes used → LivesAt at (objects bytes used) → at + 16 ≤ used
lives-inside bytes used at s lives = (stands-within bytes 0 used at (objects bytes used) s.objects (stands at (objects bytes used) lives)).1

module _ (bytes : List ℕ) (used at : ℕ) (s : IsSegment bytes used) (lives : LivesAt at (objects bytes used)) where
  near : at + 16 ≤ used
  near = lives-inside bytes used at s lives

  listed : AreObjects (slice_set bytes at 2) 0 used (killed at (objects bytes used))
  listed = kills bytes at (omega (arith, near, s.inside, s.long)) 0 used (objects bytes used) s.objects lives

  pub objects-killed : objects (slice_set bytes at 2) used ≡ killed at (objects bytes used)
  objects-killed = objects-are (slice_set bytes at 2) used (killed at (objects bytes used)) listed

  pub IsSegment-killed : IsSegment (slice_set bytes at 2) used
  IsSegment-killed = record {
    long = length-set bytes at 2 ∙ s.long;
    inside = s.inside;
    objects = subst (AreObjects (slice_set bytes at 2) 0 used) (sym objects-killed) listed;
    ended = λ h. ap (take 8) (drop-set-lt used bytes at 2 (omega (arith, near))) ∙ s.ended h;
  }
