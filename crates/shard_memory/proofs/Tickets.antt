-- Which tickets are idle, and how many are not, after one of them changes.
use Rattle.std.proofs.Common.{◌≡◌, ◌≢◌, inl, inr, ℕ, zero, suc, ◌+◌, ◌<◌, ◌≤◌, Bool, true, false, cond, ◌||◌, eq-eqb, [], ◌∷◌, length, set, Option, Some, None, is_some, slice_get, refl, sym, ap, subst, ◌∙◌, arith}
use Rattle.std.specs.Prelude.{All, IsNone}
use Rattle.std.proofs.lemmas.Bool.{ne_eqb}
use Rattle.std.proofs.lemmas.Bool.Decides.{eqb_tells}
use Rattle.std.proofs.lemmas.Option.{none-some, same_Some}
use Rattle.std.proofs.lemmas.List.Sums.{sum_by-cons}
use Rattle.foreign_list.specs.declared.piece_id.PieceId.{PieceId}
use Rattle.shard_memory.specs.Tickets.{Tickets, IsIdle, IsLentWith, tickets_out}
use Rattle.shard_memory.specs.inside.Lending.{begins_at, is_lent_at}

pub got_set : (lent : Tickets) (t : ℕ) (a b : Option PieceId) → slice_get lent t ≡ Some a → slice_get (set lent t b) t ≡ Some b
got_set [] t a b e = absurd (none-some a e)
got_set (x ∷ xs) zero a b e = refl
got_set (x ∷ xs) (suc t) a b e = got_set xs t a b e

pub got_past_set : (lent : Tickets) (t u : ℕ) (b : Option PieceId) → u ≢ t → slice_get (set lent t b) u ≡ slice_get lent u
got_past_set [] t u b n = refl
got_past_set (x ∷ xs) zero zero b n = absurd (n refl)
got_past_set (x ∷ xs) zero (suc u) b n = refl
got_past_set (x ∷ xs) (suc t) zero b n = refl
got_past_set (x ∷ xs) (suc t) (suc u) b n = got_past_set xs t u b (λ e. n (ap suc e))

-- 1 where the ticket is not idle
abbrev pub one_if : Option PieceId → ℕ
one_if o = cond (is_some o) 1 0

pub out_set : (lent : Tickets) (t : ℕ) (a b : Option PieceId) → slice_get lent t ≡ Some a → tickets_out (set lent t b) + one_if a ≡ tickets_out lent + one_if b
out_set [] t a b e = absurd (none-some a e)
out_set (x ∷ xs) zero a b e =
    let p = sum_by-cons one_if b xs in let q = sum_by-cons one_if x xs in
    let same : one_if x ≡ one_if a = ap one_if (same_Some x a e) in omega (arith, p, q, same)
out_set (x ∷ xs) (suc t) a b e = let p = sum_by-cons one_if x (set xs t b) in let q = sum_by-cons one_if x xs in let r = out_set xs t a b e in omega (arith, p, q, r)

one_most : (o : Option PieceId) → one_if o ≤ 1
one_most None = omega arith
one_most (Some a) = omega arith

pub most_out : (lent : Tickets) → tickets_out lent ≤ length lent
most_out [] = omega arith
most_out (x ∷ xs) = let q = sum_by-cons one_if x xs in let r = most_out xs in let m = one_most x in omega (arith, q, r, m)

pub fewer_out : (lent : Tickets) (t : ℕ) → IsIdle lent t → tickets_out lent < length lent
fewer_out lent t idle = by lent t idle
  where
    by : (lent : Tickets) (t : ℕ) → slice_get lent t ≡ Some None → tickets_out lent < length lent
    by [] t e = absurd (none-some None e)
    by (x ∷ xs) zero e = let q = sum_by-cons one_if x xs in let same : one_if x ≡ 0 = ap one_if (same_Some x None e) in let r = most_out xs in omega (arith, q, same, r)
    by (x ∷ xs) (suc t) e = let q = sum_by-cons one_if x xs in let r = by xs t e in let m = one_most x in omega (arith, q, r, m)

pub none_out : (lent : Tickets) → All IsNone lent → tickets_out lent ≡ 0
none_out [] h = refl
none_out (x ∷ xs) h =
    let p = sum_by-cons one_if x xs in let f = first x (h 0 x (omega arith)) in let r = none_out xs (λ k d l. h (suc k) d (omega (arith, l))) in omega (arith, p, f, r)
  where
    first : (x : Option PieceId) → IsNone x → one_if x ≡ 0
    first None e = refl
    first (Some a) e = absurd (let clash : true ≡ false = e in cc)

pub none_are : (lent : Tickets) → tickets_out lent ≡ 0 → All IsNone lent
none_are [] e k d l = absurd (omega (arith, l))
none_are (x ∷ xs) e zero d l = by x (let p = sum_by-cons one_if x xs in omega (arith, p, e))
  where
    by : (o : Option PieceId) → one_if o ≡ 0 → IsNone o
    by None e = refl
    by (Some a) e = absurd (omega (arith, e))
none_are (x ∷ xs) e (suc k) d l = none_are xs (let p = sum_by-cons one_if x xs in omega (arith, p, e)) k d (omega (arith, l))

pub all_idle_out : (lent : Tickets) (t : ℕ) (a : PieceId) → All IsNone lent → ¬ IsLentWith lent t a
all_idle_out [] t a h e = none-some (Some a) e
all_idle_out (x ∷ xs) zero a h e = absurd (let clash : true ≡ false = subst IsNone (same_Some x (Some a) e) (h 0 x (omega arith)) in cc)
all_idle_out (x ∷ xs) (suc t) a h e = all_idle_out xs t a (λ k d l. h (suc k) d (omega (arith, l))) e

-- ---- what begins where

pub lent_at_same : (at : ℕ) (lent : Tickets) (t : ℕ) (a b : Option PieceId) → slice_get lent t ≡ Some a → begins_at at b ≡ begins_at at a → is_lent_at (set lent t b) at ≡ is_lent_at lent at
lent_at_same at [] t a b e same = refl
lent_at_same at (x ∷ xs) zero a b e same = ap (λ z. z || is_lent_at xs at) (same ∙ ap (begins_at at) (sym (same_Some x a e)))
lent_at_same at (x ∷ xs) (suc t) a b e same = ap (λ z. begins_at at x || z) (lent_at_same at xs t a b e same)

pub lent_at_there : (lent : Tickets) (t : ℕ) (a : PieceId) → IsLentWith lent t a → is_lent_at lent a.at ≡ true
lent_at_there [] t a e = absurd (none-some (Some a) e)
lent_at_there (x ∷ xs) zero a e = ap (λ o. begins_at a.at o || is_lent_at xs a.at) (same_Some x (Some a) e) ∙ ap (λ z. z || is_lent_at xs a.at) (eq-eqb a.at a.at refl)
lent_at_there (x ∷ xs) (suc t) a e = ap (λ z. begins_at a.at x || z) (lent_at_there xs t a e) ∙ or_true (begins_at a.at x)
  where
    or_true : (z : Bool) → (z || true) ≡ true
    or_true true = refl
    or_true false = refl

pub lent_at_from : (lent : Tickets) (at : ℕ) → is_lent_at lent at ≡ true → (t : ℕ) × (a : PieceId) × IsLentWith lent t a × (a.at ≡ at)
lent_at_from [] at e = absurd (let clash : false ≡ true = e in cc)
lent_at_from (x ∷ xs) at e = by x (begins_at at x) (λ later. lent_at_from xs at later) refl e
  where
    at_of : (x : Option PieceId) → begins_at at x ≡ true → (a : PieceId) × (x ≡ Some a) × (a.at ≡ at)
    at_of None e = absurd (let clash : false ≡ true = e in cc)
    at_of (Some a) e = elim (eqb_tells a.at at) [
      | inl same ↦ (a, refl, same.1)
      | inr other ↦ absurd (let clash : true ≡ false = sym e ∙ other.0 in cc)
    ]

    by : (x : Option PieceId) (b : Bool) → (is_lent_at xs at ≡ true → (t : ℕ) × (a : PieceId) × IsLentWith xs t a × (a.at ≡ at))
        → begins_at at x ≡ b → (begins_at at x || is_lent_at xs at) ≡ true → (t : ℕ) × (a : PieceId) × (slice_get (x ∷ xs) t ≡ Some (Some a)) × (a.at ≡ at)
    by x true rest is e = let h = at_of x is in (0, h.0, ap Some h.1, h.2)
    by x false rest is e = let r = rest (sym (ap (λ z. z || is_lent_at xs at) is) ∙ e) in (suc r.0, r.1, r.2, r.3)

pub begins_elsewhere : (a : PieceId) (at : ℕ) → a.at ≢ at → begins_at at (Some a) ≡ false
begins_elsewhere a at n = ne_eqb a.at at n
