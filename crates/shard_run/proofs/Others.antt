-- Where the number of a shard stands among those of the shards other than s, in rising order.
use Rattle.std.proofs.Common.{◌≡◌, ◌≢◌, ℕ, zero, suc, ◌+◌, ◌<◌, ◌≤◌, ◌==◌, ◌⊎◌, inl, inr, true, false, not, cond, List, [], ◌∷◌, length, Some, slice_get, arith, ap, subst}
use Rattle.std.specs.List.{filter, range_with_len}
use Rattle.std.proofs.lemmas.Bool.{cases_eq}
use Rattle.std.proofs.lemmas.Bool.Decides.{nat_tests}
use Rattle.std.proofs.lemmas.Option.{slice_get_within, same_Some}
use Rattle.shard_node.specs.Nodes.{others}

stays : (q s : ℕ) → q ≢ s → not (q == s) ≡ true
stays q s other = grind (arith, nat_tests)

goes : (q s : ℕ) → q ≡ s → not (q == s) ≡ false
goes q s same = grind (arith, nat_tests)

abbrev those_from : ℕ → ℕ → ℕ → List ℕ
those_from a k s = filter (λ q. not (q == s)) (range_with_len a k)

those_stay : (a k s : ℕ) → a ≢ s → those_from a (suc k) s ≡ a ∷ those_from (a + 1) k s
those_stay a k s other = ap (λ b. cond b (a ∷ those_from (a + 1) k s) (those_from (a + 1) k s)) (stays a s other)

those_go : (a k s : ℕ) → a ≡ s → those_from a (suc k) s ≡ those_from (a + 1) k s
those_go a k s same = ap (λ b. cond b (a ∷ those_from (a + 1) k s) (those_from (a + 1) k s)) (goes a s same)

-- above s each is another
above_count : (a k s : ℕ) → s < a → length (those_from a k s) ≡ k
above_count a zero s above = omega arith
above_count a (suc k) s above =
    let rest = above_count (a + 1) k s (omega (arith, above)) in
    let first = ap length (those_stay a k s (λ same. absurd (omega (arith, same, above)))) in
    omega (arith, rest, first)

above_at : (a k s j q : ℕ) → s < a → slice_get (those_from a k s) j ≡ Some q → q ≡ a + j
above_at a zero s j q above at = absurd (let w = slice_get_within [] j q at in omega (arith, w))
above_at a (suc k) s zero q above at =
    let first = same_Some a q (subst (λ l. slice_get l 0 ≡ Some q) (those_stay a k s (λ same. absurd (omega (arith, same, above)))) at) in
    omega (arith, first)
above_at a (suc k) s (suc j) q above at =
    let next = above_at (a + 1) k s j q (omega (arith, above)) (subst (λ l. slice_get l (suc j) ≡ Some q) (those_stay a k s (λ same. absurd (omega (arith, same, above)))) at) in
    omega (arith, next)

-- from below s on one less
count_from : (a k s : ℕ) → a ≤ s → s < a + k → length (those_from a k s) + 1 ≡ k
count_from a zero s from below = absurd (omega (arith, from, below))
count_from a (suc k) s from below = elim (cases_eq a s) [
  | inl same ↦ (let all = above_count (a + 1) k s (omega (arith, same)) in let less = ap length (those_go a k s same) in omega (arith, all, less))
  | inr other ↦ (
      let rest = count_from (a + 1) k s (omega (arith, other, from)) (omega (arith, below)) in
      let first = ap length (those_stay a k s other) in
      omega (arith, rest, first))
]

place_from : (a k s j q : ℕ) → a ≤ s → slice_get (those_from a k s) j ≡ Some q → ((q < s) × (q ≡ a + j)) ⊎ ((s < q) × (q ≡ a + j + 1))
place_from a zero s j q from at = absurd (let w = slice_get_within [] j q at in omega (arith, w))
place_from a (suc k) s j q from at = elim (cases_eq a s) [
  | inl same ↦ inr (
      let is = above_at (a + 1) k s j q (omega (arith, same)) (subst (λ l. slice_get l j ≡ Some q) (those_go a k s same) at) in
      (omega (arith, is, same), omega (arith, is)))
  | inr other ↦ later j (omega (arith, other, from)) (subst (λ l. slice_get l j ≡ Some q) (those_stay a k s other) at) (λ i. place_from (a + 1) k s i q (omega (arith, other, from)))
]
  where
    later : (i : ℕ) → a < s → slice_get (a ∷ those_from (a + 1) k s) i ≡ Some q
        → ((i : ℕ) → slice_get (those_from (a + 1) k s) i ≡ Some q → ((q < s) × (q ≡ a + 1 + i)) ⊎ ((s < q) × (q ≡ a + 1 + i + 1))) → ((q < s) × (q ≡ a + i)) ⊎ ((s < q) × (q ≡ a + i + 1))
    later zero less here rest = inl (let is = same_Some a q here in (omega (arith, is, less), omega (arith, is)))
    later (suc i) less here rest = elim (rest i here) [
      | inl low ↦ inl (low.0, let e = low.1 in omega (arith, e))
      | inr high ↦ inr (high.0, let e = high.1 in omega (arith, e))
    ]

-- there is one less than there are shards
pub so_many_others : (n s : ℕ) → s < n → length (others n s) + 1 ≡ n
so_many_others n s below = count_from 0 n s (omega arith) (omega (arith, below))

-- one below s stands at its number, and one above s one place before
pub place_of_other : (n s j q : ℕ) → slice_get (others n s) j ≡ Some q → ((q < s) × (q ≡ j)) ⊎ ((s < q) × (q ≡ j + 1))
place_of_other n s j q at = elim (place_from 0 n s j q (omega arith) at) [
  | inl low ↦ inl (low.0, let e = low.1 in omega (arith, e))
  | inr high ↦ inr (high.0, let e = high.1 in omega (arith, e))
]
