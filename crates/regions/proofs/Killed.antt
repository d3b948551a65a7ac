-- A segment once an object of it is dead.
use Rattle.std.proofs.Common.{◌≡◌, ◌≢◌, ℕ, ◌+◌, ◌-◌, ◌<◌, inl, inr, cond, List, [], ◌∷◌, length, take, drop, refl, sym, ap, ◌∙◌, subst, arith, eq-eqb}
use Rattle.std.specs.Prelude.{◌==◌, Option, None, Some, option_map, slice_set}
use Rattle.std.specs.List.{refill}
use Rattle.std.proofs.lemmas.Bool.{ne_eqb, cases_eq}
use Rattle.std.proofs.lemmas.List.{take-set, drop-set-lt, length-set}
use Rattle.object_log.specs.Objects.{Object, objects, killed, AreObjects, IsSegment}
use Rattle.raw_range.specs.Memory.{Lent}
use Rattle.regions.specs.Segments.{SegmentState}
use Rattle.regions.specs.Shapes.{identity, slot_of}
use Rattle.regions.specs.Counts.{live_bytes, live_in}
use Rattle.regions.specs.Contents.{Standing, standing, standing_among, standing_in, object_with, dead, ChangesIn}
use Rattle.regions.proofs.Objects.{found, standing-beside, content-same, window-behind}
use Rattle.regions.proofs.Appended.{refill-same}

abbrev made-dead : Object → Object
made-dead o = record o { state = 2 }

killed-behind : (bytes : List ℕ) (a used at : ℕ) (os : List Object) → AreObjects bytes a used os → at < a → killed at os ≡ os
killed-behind bytes a used at [] h low = refl
killed-behind bytes a used at (o ∷ os) h low =
    let here : o.at ≡ a = ap (λ p. p.at) h.0 in let some = h.1.4.0 in
    rw (ne_eqb o.at at (λ e. omega (arith, e, here, low))) (ap (λ ps. o ∷ ps) (killed-behind bytes (a + o.size) used at os h.2 (omega (arith, low))))

killed-other : (at b : ℕ) (os : List Object) → b ≢ at → object_with b (killed at os) ≡ object_with b os
killed-other at b [] ne = refl
killed-other at b (o ∷ os) ne =
    elim (cases_eq o.at at) [
      | inl is ↦
          let other : o.at ≢ b = λ e. ne (sym e ∙ is) in
          rw (eq-eqb o.at at is, ne_eqb o.at b other) (killed-other at b os ne)
      | inr far ↦ rw (ne_eqb o.at at far) (ap (λ f. cond (o.at == b) (Some o) f) (killed-other at b os ne))
    ]

killed-there : (at : ℕ) (os : List Object) (it : Object) → object_with at os ≡ Some it → object_with at (killed at os) ≡ Some (made-dead it)
killed-there at [] it e = absurd (let clash : None ≡ Some it = e in cc)
killed-there at (o ∷ os) it e =
    elim (cases_eq o.at at) [
      | inl is ↦
          let first : object_with at (o ∷ os) ≡ Some o = rw (eq-eqb o.at at is) refl in
          let same : o ≡ it = (let both : Some o ≡ Some it = sym first ∙ e in cc) in
          rw (eq-eqb o.at at is) (rw (eq-eqb o.at at is) (ap (λ p. Some (made-dead p)) same))
      | inr far ↦
          let later : object_with at (o ∷ os) ≡ object_with at os = rw (ne_eqb o.at at far) refl in
          rw (ne_eqb o.at at far) (rw (ne_eqb o.at at far) (killed-there at os it (sym later ∙ e)))
    ]

pub live-killed : (bytes : List ℕ) (a used at : ℕ) (os : List Object) (it : Object) → AreObjects bytes a used os → object_with at os ≡ Some it → it.state ≡ 1
    → live_bytes (killed at os) + it.size ≡ live_bytes os
live-killed bytes a used at [] it h e one = absurd (let clash : None ≡ Some it = e in cc)
live-killed bytes a used at (o ∷ os) it h e one =
    elim (cases_eq o.at at) [
      | inl is ↦
          let here : o.at ≡ a = ap (λ p. p.at) h.0 in let some = h.1.4.0 in
          let first : object_with at (o ∷ os) ≡ Some o = rw (eq-eqb o.at at is) refl in
          let same : o ≡ it = (let both : Some o ≡ Some it = sym first ∙ e in cc) in
          let alive : o.state ≡ 1 = ap (λ p. p.state) same ∙ one in
          let size : o.size ≡ it.size = ap (λ p. p.size) same in
          let tail = killed-behind bytes (a + o.size) used at os h.2 (omega (arith, here, is, some)) in
          rw (eq-eqb o.at at is, eq-eqb o.state 1 alive, tail) (omega (arith, size))
      | inr far ↦
          let later : object_with at (o ∷ os) ≡ object_with at os = rw (ne_eqb o.at at far) refl in
          let rest = live-killed bytes (a + o.size) used at os it h.2 (sym later ∙ e) one in
          rw (ne_eqb o.at at far) (omega (arith, rest))
    ]

-- the segment afterwards
pub record IsKilled (p : Lent) (new : List ℕ) (used at : ℕ) (g : Option ℕ) (it : Object) (old : SegmentState) : Type 0 where
  pub kept : IsSegment (refill (length p.bytes) p.bytes new) used
  pub slot : slot_of (record { piece = record p { bytes = refill (length p.bytes) p.bytes new }; used = used; group = g }) ≡ slot_of old
  pub live : live_in (Some old) ≡ live_in (Some (record { piece = record p { bytes = refill (length p.bytes) p.bytes new }; used = used; group = g })) + it.size
  pub killed : ChangesIn at (option_map dead (standing_in (Some old) at)) (Some old) (Some (record { piece = record p { bytes = refill (length p.bytes) p.bytes new }; used = used; group = g }))

module _ (p : Lent) (g : Option ℕ) (now new : List ℕ) (used at : ℕ) (is-now : now ≡ p.bytes) (stated : new ≡ slice_set now at 2) (buried-now : objects new used ≡ killed at (objects now used))
    (segment : IsSegment p.bytes used) (it : Object) (is-it : object_with at (objects p.bytes used) ≡ Some it) (one : it.state ≡ 1) (still : IsSegment new used) (old : SegmentState) (is-old : record { piece = p; used = used; group = g } ≡ old) where
  state : new ≡ slice_set p.bytes at 2
  state = rw is-now at stated

  gone : objects new used ≡ killed at (objects p.bytes used)
  gone = rw is-now at buried-now

  as-long : length new ≡ length p.bytes
  as-long = ap length state ∙ length-set p.bytes at 2

  is-new : refill (length p.bytes) p.bytes new ≡ new
  is-new = refill-same (length p.bytes) p.bytes new refl as-long

  abbrev after : List ℕ → SegmentState
  after bytes = record { piece = record p { bytes = bytes }; used = used; group = g }

  live-less : live_bytes (objects new used) + it.size ≡ live_bytes (objects p.bytes used)
  live-less = ap (λ os. live_bytes os + it.size) gone ∙ live-killed p.bytes 0 used at (objects p.bytes used) it segment.objects is-it one

  live-shrunk : live_in (Some old) ≡ live_in (Some (after (refill (length p.bytes) p.bytes new))) + it.size
  live-shrunk =
      subst (λ h. live_in (Some h) ≡ live_in (Some (after (refill (length p.bytes) p.bytes new))) + it.size) is-old
      (sym (ap (λ b. live_in (Some (after b)) + it.size) is-new ∙ live-less))

  slot-same : slot_of (after (refill (length p.bytes) p.bytes new)) ≡ slot_of old
  slot-same =
      subst (λ h. slot_of (after (refill (length p.bytes) p.bytes new)) ≡ slot_of h) is-old
      (ap (λ n. record { piece = record (identity p) { length = n }; group = g }) (ap length is-new ∙ as-long))

  front : take at new ≡ take at p.bytes
  front = ap (take at) state ∙ take-set p.bytes at 2

  back : drop (at + 1) new ≡ drop (at + 1) p.bytes
  back = ap (drop (at + 1)) state ∙ drop-set-lt (at + 1) p.bytes at 2 (omega arith)

  beside : (b : ℕ) → standing_among g new b (objects p.bytes used) ≡ standing_among g p.bytes b (objects p.bytes used)
  beside b =
      let f = found p.bytes 0 used at (objects p.bytes used) it segment.objects is-it in
      standing-beside g p.bytes new at (at + 1) 0 used at b (objects p.bytes used) it segment.objects is-it (omega arith) (omega (arith, f.least)) front back (inr (omega arith))

  lies : standing g new it ≡ standing g p.bytes it
  lies =
      let f = found p.bytes 0 used at (objects p.bytes used) it segment.objects is-it in
      content-same g it p.bytes new (ap (take (it.size - 8)) (window-behind (at + 1) (it.at + 8) p.bytes new (omega (arith, f.place)) back))

  changed : ChangesIn at (option_map dead (standing_in (Some old) at)) (Some old) (Some (record { piece = record p { bytes = refill (length p.bytes) p.bytes new }; used = used; group = g }))
  changed =
      subst (λ h. ChangesIn at (option_map dead (standing_in (Some h) at)) (Some h) (Some (after (refill (length p.bytes) p.bytes new)))) is-old
      (subst (λ b. ChangesIn at (option_map dead (standing_among g p.bytes at (objects p.bytes used))) (Some (record { piece = p; used = used; group = g })) (Some (after b))) (sym is-new)
      (record {
        here =
            ap (λ os. standing_among g new at os) gone ∙ ap (option_map (standing g new)) (killed-there at (objects p.bytes used) it is-it)
            ∙ ap (λ (s : Standing). Some (dead s)) lies
            ∙ sym (ap (λ f. option_map dead (option_map (standing g p.bytes) f)) is-it);
        others = λ b ne.
            ap (λ os. standing_among g new b os) gone ∙ ap (option_map (standing g new)) (killed-other at b (objects p.bytes used) ne) ∙ beside b;
      }))

  pub is-killed : IsKilled p new used at g it old
  is-killed = record { kept = subst (λ b. IsSegment b used) (sym is-new) still; slot = slot-same; live = live-shrunk; killed = changed }
