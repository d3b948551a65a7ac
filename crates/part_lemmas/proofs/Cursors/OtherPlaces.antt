-- Where the number of a shard stands among those of the shards other than s, in rising order.
use Rattle.std.proofs.Common.{◌≡◌, ◌≢◌, ℕ, zero, suc, ◌+◌, ◌-◌, ◌<◌, ◌≤◌, ◌==◌, true, false, not, List, length, map, get_or, slice_get, Some, inl, inr, arith, sym, ap, subst, ◌∙◌}
use Rattle.std.specs.List.{All, Contains, filter, range_with_len}
use Rattle.std.proofs.lemmas.Bool.{cases_eq, cases_lt, true≢false}
use Rattle.std.proofs.lemmas.Bool.Decides.{nat_tests}
use Rattle.std.proofs.lemmas.List.{get_or-map, length-map}
use Rattle.std.proofs.lemmas.List.Elements.{All-contains, All-filter, Contains-get_or, filter_passes}
use Rattle.std.proofs.lemmas.List.FromFn.{get_or-range_with_len, length-range_with_len}
use Rattle.std.proofs.lemmas.Option.{get_or_from_slice_get, slice_get_within}
use Rattle.part_lemmas.specs.Exchange.{others}

eqb-same : (n : ℕ) → (n == n) ≡ true
eqb-same n = grind (arith, nat_tests)

-- another shard is one of the shards, and not s
pub other-below : (n s q : ℕ) → Contains (others n s) q → q < n
other-below n s q there =
    All-contains (λ (p : ℕ). p < n) (others n s) q
    (All-filter (λ p. not (p == s)) (λ p. p < n) (range_with_len 0 n)
    (λ k d below.
    let many = length-range_with_len 0 n in
    let is = get_or-range_with_len 0 n k d (omega (arith, many, below)) in
    omega (arith, many, is, below))) there

pub other-is : (n s q : ℕ) → Contains (others n s) q → q ≢ s
other-is n s q there same =
    let passes : not (q == s) ≡ true = All-contains (λ p. not (p == s) ≡ true) (others n s) q (filter_passes (λ p. not (p == s)) (range_with_len 0 n)) there in
    let is : (q == s) ≡ true = ap (λ p. p == s) same ∙ eqb-same s in
    true≢false (sym passes ∙ ap not is)

kept : (q s : ℕ) → q ≢ s → not (q == s) ≡ true
kept q s other = grind (arith, nat_tests)

-- above s each shard is another
above-all : (a k s j : ℕ) → s < a → j < k → slice_get (filter (λ q. not (q == s)) (range_with_len a k)) j ≡ Some (a + j)
above-all a zero s j above below = absurd (omega (arith, below))
above-all a (suc k) s zero above below =
    let stays = kept a s (λ same. omega (arith, same, above)) in
    rw stays (ap Some (let e : a ≡ a + 0 = omega arith in e))
above-all a (suc k) s (suc j) above below =
    let stays = kept a s (λ same. omega (arith, same, above)) in
    rw stays (above-all (a + 1) k s j (omega (arith, above)) (omega (arith, below)) ∙ ap Some (let e : a + 1 + j ≡ a + suc j = omega arith in e))

-- below s each stands at its number, and above it one place before
below-place : (a k s j : ℕ) → a + j < s → j < k → slice_get (filter (λ q. not (q == s)) (range_with_len a k)) j ≡ Some (a + j)
below-place a zero s j less below = absurd (omega (arith, below))
below-place a (suc k) s zero less below =
    let stays = kept a s (λ same. omega (arith, same, less)) in
    rw stays (ap Some (let e : a ≡ a + 0 = omega arith in e))
below-place a (suc k) s (suc j) less below =
    let stays = kept a s (λ same. omega (arith, same, less)) in
    rw stays (below-place (a + 1) k s j (omega (arith, less)) (omega (arith, below)) ∙ ap Some (let e : a + 1 + j ≡ a + suc j = omega arith in e))

above-place : (a k s j : ℕ) → a ≤ s → s ≤ a + j → suc j < k → slice_get (filter (λ q. not (q == s)) (range_with_len a k)) j ≡ Some (a + j + 1)
above-place a zero s j from less below = absurd (omega (arith, below))
above-place a (suc k) s zero from less below =
    let same : a ≡ s = omega (arith, from, less) in
    let goes : not (a == s) ≡ false = ap (λ n. not (n == s)) same ∙ ap not (eqb-same s) in
    rw goes (above-all (a + 1) k s 0 (omega (arith, same)) (omega (arith, below)) ∙ ap Some (let e : a + 1 + 0 ≡ a + 0 + 1 = omega arith in e))
above-place a (suc k) s (suc j) from less below = elim (cases_eq a s) [
  | inl same ↦
      let goes : not (a == s) ≡ false = ap (λ n. not (n == s)) same ∙ ap not (eqb-same s) in
      rw goes (above-all (a + 1) k s (suc j) (omega (arith, same)) (omega (arith, below)) ∙ ap Some (let e : a + 1 + suc j ≡ a + suc j + 1 = omega arith in e))
  | inr apart ↦
      let stays = kept a s apart in
      rw stays
      (above-place (a + 1) k s j (omega (arith, apart, from)) (omega (arith, less)) (omega (arith, below)) ∙ ap Some (let e : a + 1 + j + 1 ≡ a + suc j + 1 = omega arith in e))
]

pub place-below : (n s q : ℕ) → q < s → Contains (others n s) q → slice_get (others n s) q ≡ Some q
place-below n s q less there = below-place 0 n s q (omega (arith, less)) (other-below n s q there) ∙ ap Some (let e : 0 + q ≡ q = omega arith in e)

pub place-above : (n s q : ℕ) → s ≤ q → Contains (others n s) q → slice_get (others n s) (q - 1) ≡ Some q
place-above n s q from there =
    let other = other-is n s q there in
    let below = other-below n s q there in
    above-place 0 n s (q - 1) (omega arith) (omega (arith, other, from)) (omega (arith, below, other, from))
    ∙ ap Some (let e : 0 + (q - 1) + 1 ≡ q = omega (arith, other, from) in e)

-- so are the numbers of all peers
pub all-other : {P : Type 0} (number : P → ℕ) (peers : List P) (n s : ℕ) → map number peers ≡ others n s → All (λ p. number p ≢ s) peers
all-other number peers n s are k d below =
    let many : length (others n s) ≡ length peers = ap length (sym are) ∙ length-map peers number in
    let is : get_or (others n s) k 0 ≡ number (get_or peers k d) = ap (λ qs. get_or qs k 0) (sym are) ∙ get_or-map number peers k d 0 below in
    subst (λ q. q ≢ s) is (other-is n s (get_or (others n s) k 0) (Contains-get_or (others n s) k 0 (omega (arith, many, below))))

-- each of the shards but s is among them
there-at : (n s q k : ℕ) → slice_get (others n s) k ≡ Some q → Contains (others n s) q
there-at n s q k here = (k, slice_get_within (others n s) k q here, get_or_from_slice_get (others n s) k q q here)

pub other-there : (n s q : ℕ) → q < n → q ≢ s → Contains (others n s) q
other-there n s q below other = elim (cases_lt q s) [
  | inl less ↦ there-at n s q q (below-place 0 n s q (omega (arith, less)) below ∙ ap Some (let e : 0 + q ≡ q = omega arith in e))
  | inr from ↦
      there-at n s q (q - 1)
      (above-place 0 n s (q - 1) (omega arith) (omega (arith, other, from)) (omega (arith, below, other, from))
      ∙ ap Some (let e : 0 + (q - 1) + 1 ≡ q = omega (arith, other, from) in e))
]

-- which shard stands at a place
pub at-below : (n s at : ℕ) → at < s → at < n → slice_get (others n s) at ≡ Some at
at-below n s at less below = below-place 0 n s at (omega (arith, less)) below ∙ ap Some (let e : 0 + at ≡ at = omega arith in e)

pub at-above : (n s at : ℕ) → s ≤ at → at + 1 < n → slice_get (others n s) at ≡ Some (at + 1)
at-above n s at from below = above-place 0 n s at (omega arith) (omega (arith, from)) (omega (arith, below)) ∙ ap Some (let e : 0 + at + 1 ≡ at + 1 = omega arith in e)
