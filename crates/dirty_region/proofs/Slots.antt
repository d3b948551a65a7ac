-- The slots and the positions of a ring.
use Rattle.std.proofs.Common.{◌≡◌, ℕ, suc, ◌+◌, ◌-◌, ◌^◌, ◌<◌, ◌≤◌, ◌⊎◌, inl, inr, cond, ap, ◌∙◌, arith}
use Rattle.std.proofs.lemmas.Bool.Decides.{leb_tells}
use Rattle.dirty_region.specs.inside.Rings.{RingState, IsRing, wrapped, slot, position, popped}

pub wrapped_is : (room n : ℕ) → ((n < room) × (wrapped room n ≡ n)) ⊎ ((room ≤ n) × (wrapped room n ≡ n - room))
wrapped_is room n = elim (leb_tells (suc n) room) [
  | inl h ↦ inl (let low = h.1 in omega (arith, low), ap (λ b. cond b n (n - room)) h.0)
  | inr h ↦ inr (let high = h.1 in omega (arith, high), ap (λ b. cond b n (n - room)) h.0)
]

pub slot_inside : (r : RingState) (k : ℕ) → IsRing r → k < r.room → slot r k < r.room
slot_inside r k is low =
    let head = is.begins (omega (arith, low)) in
    elim (wrapped_is r.room (r.head + k)) [ inl h ↦ (let e = h.1 in let l = h.0 in omega (arith, e, l)) | inr h ↦ (let e = h.1 in let l = h.0 in omega (arith, e, l, head, low)) ]

pub slot_apart : (r : RingState) (j k : ℕ) → IsRing r → j < r.room → k < r.room → slot r j ≡ slot r k → j ≡ k
slot_apart r j k is jl kl same =
    let head = is.begins (omega (arith, jl)) in
    elim (wrapped_is r.room (r.head + j)) [
      | inl a ↦ (let ae = a.1 in let al = a.0 in elim (wrapped_is r.room (r.head + k)) [
        | inl b ↦ (let be = b.1 in let bl = b.0 in omega (arith, same, ae, be))
        | inr b ↦ (let be = b.1 in let bl = b.0 in omega (arith, same, ae, be, al, bl, jl, kl, head))
      ])
      | inr a ↦ (let ae = a.1 in let al = a.0 in elim (wrapped_is r.room (r.head + k)) [
        | inl b ↦ (let be = b.1 in let bl = b.0 in omega (arith, same, ae, be, al, bl, jl, kl, head))
        | inr b ↦ (let be = b.1 in let bl = b.0 in omega (arith, same, ae, be, al, bl))
      ])
    ]

-- behind the oldest put
pub slot_next : (r : RingState) (k : ℕ) → IsRing r → suc k < r.room → slot (popped r) k ≡ slot r (suc k)
slot_next r k is low =
    let head = is.begins (omega (arith, low)) in
    elim (wrapped_is r.room (r.head + 1)) [
      | inl a ↦ ap (λ n. wrapped r.room (n + k)) a.1 ∙ ap (wrapped r.room) (omega arith)
      | inr a ↦
          (let ae = a.1 in let al = a.0 in
          let start : wrapped r.room (r.head + 1) + k ≡ k = omega (arith, ae, head) in
          ap (wrapped r.room) start
          ∙ (elim (wrapped_is r.room k) [
            | inl b ↦ (elim (wrapped_is r.room (r.head + suc k)) [
              | inl c ↦ absurd (let cl = c.0 in omega (arith, cl, al))
              | inr c ↦ (let be = b.1 in let ce = c.1 in omega (arith, be, ce, al, head))
            ])
            | inr b ↦ absurd (let bl = b.0 in omega (arith, bl, low))
          ]))
    ]

pub position_next : (r : RingState) (k : ℕ) → position (popped r) k ≡ position r (suc k)
position_next r k = omega arith

pub position_apart : (r : RingState) (j k : ℕ) → j < 2 ^ 32 → k < 2 ^ 32 → position r j ≡ position r k → j ≡ k
position_apart r j k jl kl same = omega (arith, jl, kl, same)

pub ring_of_popped : (r : RingState) → IsRing r → 1 ≤ r.count → IsRing (popped r)
ring_of_popped r is some =
    let few = is.few in let head = is.begins (omega (arith, few, some)) in
    let low : wrapped r.room (r.head + 1) < r.room =
    elim (wrapped_is r.room (r.head + 1)) [ inl h ↦ (let e = h.1 in let l = h.0 in omega (arith, e, l)) | inr h ↦ (let e = h.1 in let l = h.0 in omega (arith, e, l, head, few, some)) ]
    in
    record {
      small = is.small;
      long = is.long;
      few = omega (arith, few);
      head = omega (arith, low);
      begins = λ _. low;
      first = omega arith;
    }
