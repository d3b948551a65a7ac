-- The halves of a span, and buddies.
use Rattle.std.proofs.Common.{◌≡◌, ℕ, ◌+◌, ◌*◌, ◌/◌, ◌%◌, ◌^◌, ◌<◌, ◌⊎◌, inl, inr, min, max, sym, ap, subst, ◌∙◌, arith}
use Rattle.std.proofs.Math.Nat.{mul-mod_left, div-add-mod'}
use Rattle.std.proofs.lemmas.Nat.{pow_pos, pow_below, mod_below}
use Rattle.std.specs.Int.Bits.{bit_xor, xor_shifted, xor_assoc, xor_self, xor_zero_r}
use Rattle.common_lemmas.proofs.Powers.{pow_twice, start_is}
use Rattle.span_lists.specs.Buddies.{buddy}
use Rattle.span_lists.specs.Layout.{span_start}

zero_or_one : (n : ℕ) → n < 2 → (n ≡ 0) ⊎ (n ≡ 1)
zero_or_one n h = grind arith

-- the lower and the upper half
pub half_of : (x k : ℕ) → x % 2 ^ k ≡ 0 → (x % 2 ^ (k + 1) ≡ 0) ⊎ ((y : ℕ) × (x ≡ y + 2 ^ k) × (y % 2 ^ (k + 1) ≡ 0))
half_of x k a =
    let m = x / 2 ^ k in
    let ex : m * 2 ^ k ≡ x = (let d = div-add-mod' x (2 ^ k) in omega (arith, d, a)) in
    let em = div-add-mod' m 2 in
    let lt = mod_below m 2 (omega arith) in
    let two = pow_twice k in
    let h = m / 2 in
    let pairs : h * 2 ^ (k + 1) ≡ h * 2 * 2 ^ k = (subst (λ t. h * t ≡ h * 2 * 2 ^ k) (sym two) (grind arith)) in
    let multiple : h * 2 ^ (k + 1) % 2 ^ (k + 1) ≡ 0 = mul-mod_left h (2 ^ (k + 1)) in
    elim (zero_or_one (m % 2) lt) [
      | inl e ↦ inl (subst (λ n. n % 2 ^ (k + 1) ≡ 0) (pairs ∙ (let s : h * 2 ≡ m = omega (arith, em, e) in ap (λ n. n * 2 ^ k) s) ∙ ex) multiple)
      | inr e ↦ inr (h * 2 ^ (k + 1), sym ex ∙ (let s : m ≡ h * 2 + 1 = omega (arith, em, e) in ap (λ n. n * 2 ^ k) s) ∙ (let d : (h * 2 + 1) * 2 ^ k ≡ h * 2 * 2 ^ k + 2 ^ k = grind arith in d) ∙ ap (λ n. n + 2 ^ k) (sym pairs), multiple)
    ]

-- ---- buddies

pub buddy_twice : (x k : ℕ) → buddy (buddy x k) k ≡ x
buddy_twice x k = xor_assoc x (2 ^ k) (2 ^ k) ∙ ap (λ n. bit_xor x n) (xor_self (2 ^ k)) ∙ xor_zero_r x

pub buddy_of_lower : (x k : ℕ) → x % 2 ^ (k + 1) ≡ 0 → buddy x k ≡ x + 2 ^ k
buddy_of_lower x k a =
    let m = x / 2 ^ (k + 1) in
    let ex : m * 2 ^ (k + 1) ≡ x = (let d = div-add-mod' x (2 ^ (k + 1)) in omega (arith, d, a)) in
    subst (λ n. bit_xor n (2 ^ k) ≡ n + 2 ^ k) ex (xor_shifted m (k + 1) (2 ^ k) (pow_below k (k + 1) (omega arith)))

pub buddy_of_upper : (y k : ℕ) → y % 2 ^ (k + 1) ≡ 0 → buddy (y + 2 ^ k) k ≡ y
buddy_of_upper y k a = ap (λ n. buddy n k) (sym (buddy_of_lower y k a)) ∙ buddy_twice y k

-- a span is the lower half or the upper half of the one that is twice as long, and its buddy the other
pub buddy_cases : (x k : ℕ) → x % 2 ^ k ≡ 0 → ((x % 2 ^ (k + 1) ≡ 0) × (buddy x k ≡ x + 2 ^ k)) ⊎ ((buddy x k % 2 ^ (k + 1) ≡ 0) × (x ≡ buddy x k + 2 ^ k))
buddy_cases x k a = elim (half_of x k a) [
  | inl e ↦ inl (e, buddy_of_lower x k e)
  | inr p ↦ inr (let b : buddy x k ≡ p.0 = ap (λ n. buddy n k) p.1 ∙ buddy_of_upper p.0 k p.2 in
      (subst (λ n. n % 2 ^ (k + 1) ≡ 0) (sym b) p.2, p.1 ∙ ap (λ n. n + 2 ^ k) (sym b)))
]

-- the lower and the upper one of two buddies
pub buddy_ends : (x k : ℕ) → x % 2 ^ k ≡ 0 → (min x (buddy x k) % 2 ^ (k + 1) ≡ 0) × (max x (buddy x k) ≡ min x (buddy x k) + 2 ^ k) × (min x (buddy x k) ≡ span_start x (k + 1))
    × (((min x (buddy x k) ≡ x) × (max x (buddy x k) ≡ buddy x k)) ⊎ ((min x (buddy x k) ≡ buddy x k) × (max x (buddy x k) ≡ x)))
buddy_ends x k a =
    let pos = pow_pos k in let two = pow_twice k in
    elim (buddy_cases x k a) [
      | inl h ↦
          (let b = h.1 in
          let low : min x (buddy x k) ≡ x = omega arith in
          let high : max x (buddy x k) ≡ buddy x k = omega arith in
          (subst (λ n. n % 2 ^ (k + 1) ≡ 0) (sym low) h.0, high ∙ b ∙ ap (λ n. n + 2 ^ k) (sym low), low ∙ sym (start_is x x (k + 1) h.0 (omega arith) (omega arith)), inl (low, high)))
      | inr h ↦
          (let b = h.1 in
          let low : min x (buddy x k) ≡ buddy x k = omega arith in
          let high : max x (buddy x k) ≡ x = omega arith in
          (subst (λ n. n % 2 ^ (k + 1) ≡ 0) (sym low) h.0, high ∙ b ∙ ap (λ n. n + 2 ^ k) (sym low), low ∙ sym (start_is x (buddy x k) (k + 1) h.0 (omega arith) (omega arith)), inr (low, high)))
    ]
