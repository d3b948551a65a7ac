-- From one object of a segment to the next one.
use Rattle.std.proofs.Common.{◌≡◌, ℕ, ◌+◌, ◌<◌, ◌≤◌, ◌⊎◌, inl, inr, true, false, cond, List, [], ◌∷◌, refl, sym, ap, ◌∙◌, subst, arith, eq-eqb}
use Rattle.std.specs.Prelude.{◌==◌, Option, None, Some, IsSome, option_map}
use Rattle.std.proofs.lemmas.Bool.{cases_eq, eqb-true, ne_eqb}
use Rattle.std.proofs.Math.Nat.{eq-or-lt_of_le}
use Rattle.std.proofs.lemmas.Bool.Decides.{leb_tells}
use Rattle.object_log.specs.Objects.{Object, objects, descriptor_at, is_live, state_of, AreObjects, IsObject, IsSegment}
use Rattle.object_log.specs.declared.descriptor.Descriptor.{Descriptor}
use Rattle.object_log.specs.declared.descriptor.State.TheVariants.{End, Live, Dead}
use Rattle.raw_range.specs.Memory.{Lent}
use Rattle.regions.specs.Segments.{SegmentState}
use Rattle.regions.specs.Counts.{live_bytes}
use Rattle.regions.specs.Contents.{IsLiveAt, starts_in, standing, standing_among, item_if_live, if_live, object_with}
use Rattle.regions.proofs.Objects.{found, some-found, after-found, objects-below}
use Rattle.regions.proofs.Written.{IsThere, content-size}

pub there-at : (g : Option ℕ) (bytes : List ℕ) (used at : ℕ) → IsSegment bytes used → at < used → IsSome (standing_among g bytes at (objects bytes used)) ⊎ (at ≡ used) → IsThere bytes used at
there-at g bytes used at s low start =
    let there : IsSome (standing_among g bytes at (objects bytes used)) = elim start [ inl h ↦ h | inr e ↦ absurd (omega (arith, e, low)) ] in
    let f = some-found g bytes at (objects bytes used) there in record { segment = s; it = f.0; is-it = f.1; found = found bytes 0 used at (objects bytes used) f.0 s.objects f.1 }

-- where an object of a begun segment starts below the end, one stands
pub stands-there : (piece : Lent) (used : ℕ) (g : Option ℕ) (h : SegmentState) (at : ℕ) → record { piece = piece; used = used; group = g } ≡ h → (IsSome g → IsSegment piece.bytes used)
    → IsSome h.group → at < used → starts_in (Some h) at → IsThere h.piece.bytes h.used at
stands-there piece used g h at is begun unfree low start =
    there-at h.group h.piece.bytes h.used at (subst (λ (k : SegmentState). IsSegment k.piece.bytes k.used) is (begun (subst (λ (k : SegmentState). IsSome k.group) (sym is) unfree))) (subst (λ (k : SegmentState). at < k.used) is low) start

is-object : (bytes : List ℕ) (a used at : ℕ) (os : List Object) (o : Object) → AreObjects bytes a used os → object_with at os ≡ Some o → IsObject bytes o
is-object bytes a used at [] o h e = absurd (let clash : None ≡ Some o = e in cc)
is-object bytes a used at (p ∷ os) o h e =
    elim (cases_eq p.at at) [
      | inl is ↦
          let first : object_with at (p ∷ os) ≡ Some p = rw (eq-eqb p.at at is) refl in
          let same : p ≡ o = (let both : Some p ≡ Some o = sym first ∙ e in cc) in subst (IsObject bytes) same h.1
      | inr far ↦
          let later : object_with at (p ∷ os) ≡ object_with at os = rw (ne_eqb p.at at far) refl in is-object bytes (a + p.size) used at os o h.2 (sym later ∙ e)
    ]

some-standing : (g : Option ℕ) (bytes : List ℕ) (o : Option Object) → IsSome o → IsSome (option_map (standing g bytes) o)
some-standing g bytes None h = h
some-standing g bytes (Some o) h = refl

-- a live object is counted
pub live-counted : (at : ℕ) (os : List Object) (o : Object) → object_with at os ≡ Some o → o.state ≡ 1 → o.size ≤ live_bytes os
live-counted at [] o e one = absurd (let clash : None ≡ Some o = e in cc)
live-counted at (p ∷ os) o e one =
    elim (cases_eq p.at at) [
      | inl is ↦
          let first : object_with at (p ∷ os) ≡ Some p = rw (eq-eqb p.at at is) refl in
          let same : p ≡ o = (let both : Some p ≡ Some o = sym first ∙ e in cc) in
          let counted : live_bytes (p ∷ os) ≡ p.size + live_bytes os = ap (λ b. cond b p.size 0 + live_bytes os) (eq-eqb p.state 1 (ap (λ q. q.state) same ∙ one)) in
          let size : p.size ≡ o.size = ap (λ q. q.size) same in omega (arith, counted, size)
      | inr far ↦
          let later : object_with at (p ∷ os) ≡ object_with at os = rw (ne_eqb p.at at far) refl in
          let rest = live-counted at os o (sym later ∙ e) one in
          let counted : live_bytes (p ∷ os) ≡ cond (p.state == 1) p.size 0 + live_bytes os = refl in omega (arith, counted, rest)
    ]

-- where no object lives no byte is live
pub none-counted : (g : Option ℕ) (bytes : List ℕ) (a used : ℕ) (os : List Object) → AreObjects bytes a used os → ((b : ℕ) → a ≤ b → b < used → item_if_live (standing_among g bytes b os) ≡ None) → live_bytes os ≡ 0
none-counted g bytes a used [] h dead = refl
none-counted g bytes a used (o ∷ os) h dead =
    let here : o.at ≡ a = ap (λ q. q.at) h.0 in let some = h.1.4.0 in let rest = objects-below bytes (a + o.size) used os h.2 in
    elim (cases_eq o.state 1) [
      | inl one ↦
          let there : item_if_live (standing_among g bytes a (o ∷ os)) ≡ Some (standing g bytes o).item =
          ap (λ b. item_if_live (option_map (standing g bytes) (cond b (Some o) (object_with a os)))) (eq-eqb o.at a here) ∙ ap (λ b. if_live b (standing g bytes o).item) (eq-eqb o.state 1 one)
          in absurd (let clash : None ≡ Some (standing g bytes o).item = sym (dead a (omega arith) (omega (arith, some, rest))) ∙ there in cc)
      | inr other ↦
          ap (λ b. cond b o.size 0 + live_bytes os) (ne_eqb o.state 1 other)
          ∙ ap (λ n. 0 + n) (none-counted g bytes (a + o.size) used os h.2
          (λ b low high. sym (ap (λ t. item_if_live (option_map (standing g bytes) (cond t (Some o) (object_with b os)))) (ne_eqb o.at b (λ g. omega (arith, g, here, some, low)))) ∙ dead b (omega (arith, low)) high))
    ]

-- the byte of a live object's state is 1
live-byte : (byte : ℕ) → is_live (state_of byte) ≡ (byte == 1)
live-byte byte =
    elim (byte == 1) as (λ b. is_live (cond b Live (cond (byte == 2) Dead End)) ≡ b) [
      | true ↦ refl
      | false ↦ elim (byte == 2) as (λ b. is_live (cond b Dead End) ≡ false) [ true ↦ refl | false ↦ refl ]
    ]

module _ (g : Option ℕ) (bytes : List ℕ) (used at : ℕ) (t : IsThere bytes used at) (d : Descriptor) (is : d ≡ descriptor_at bytes at) where
  open t use {segment, it, is-it, found as f}

  alive-is : is_live d.state ≡ (it.state == 1)
  alive-is = ap (λ (e : Descriptor). is_live e.state) is ∙ ap (λ b. is_live (state_of b)) (sym (ap (λ o. o.state) f.is)) ∙ live-byte it.state

  pub kind-is : it.kind ≡ d.kind
  kind-is = ap (λ o. o.kind) f.is ∙ sym (ap (λ e. e.kind) is)

  pub size-is : it.size ≡ d.size
  size-is = ap (λ o. o.size) f.is ∙ sym (ap (λ e. e.size) is)

  pub some-kind : 1 ≤ d.kind
  some-kind = let k = (is-object bytes 0 used at (objects bytes used) it segment.objects is-it).1 in omega (arith, k, kind-is)

  pub step : (16 ≤ d.size) × (at + d.size ≤ used) × (used ≤ 131072)
  step = (omega (arith, f.least, size-is), omega (arith, f.high, size-is), segment.inside)

  pub live-there : is_live d.state ≡ true → IsLiveAt (item_if_live (standing_among g bytes at (objects bytes used))) d.kind d.size
  live-there one = record {
    item = (standing g bytes it).item;
    is = ap (λ o. item_if_live (option_map (standing g bytes) o)) is-it ∙ ap (λ b. if_live b (standing g bytes it).item) (sym alive-is ∙ one);
    kind_is = kind-is;
    size_is = sym (content-size bytes used at t) ∙ size-is;
  }

  pub counted : is_live d.state ≡ true → d.size ≤ live_bytes (objects bytes used)
  counted one = let k = live-counted at (objects bytes used) it is-it (eqb-true it.state 1 (sym alive-is ∙ one)) in omega (arith, k, size-is)

  after : ((at + it.size ≡ used) ⊎ IsSome (object_with (at + it.size) (objects bytes used))) × ((b : ℕ) → at < b → b < at + it.size → object_with b (objects bytes used) ≡ None)
  after = after-found bytes 0 used at (objects bytes used) it segment.objects is-it

  pub next-starts : IsSome (standing_among g bytes (at + d.size) (objects bytes used)) ⊎ (at + d.size ≡ used)
  next-starts =
      elim after.0 [
        | inl ends ↦ inr (ap (λ n. at + n) (sym size-is) ∙ ends)
        | inr more ↦ inl (subst (λ n. IsSome (standing_among g bytes (at + n) (objects bytes used))) size-is (some-standing g bytes (object_with (at + it.size) (objects bytes used)) more))
      ]

  pub none-between : (b : ℕ) → at < b → b < at + d.size → standing_among g bytes b (objects bytes used) ≡ None
  none-between b low high = ap (option_map (standing g bytes)) (after.1 b low (omega (arith, high, size-is)))

  -- a dead object is passed over
  pub passed : (from : ℕ) → is_live d.state ≡ false → ((b : ℕ) → from ≤ b → b < at → item_if_live (standing_among g bytes b (objects bytes used)) ≡ None)
      → (b : ℕ) → from ≤ b → b < at + d.size → item_if_live (standing_among g bytes b (objects bytes used)) ≡ None
  passed from dead before b low high =
      elim (leb_tells at b) [
        | inl up ↦ elim (eq-or-lt_of_le up.1) [
          | inl e ↦
              subst (λ k. item_if_live (standing_among g bytes k (objects bytes used)) ≡ None) e
              (ap (λ o. item_if_live (option_map (standing g bytes) o)) is-it ∙ ap (λ b. if_live b (standing g bytes it).item) (sym alive-is ∙ dead))
          | inr over ↦ ap item_if_live (none-between b over high)
        ]
        | inr under ↦ before b low under.1
      ]
