-- Powers of two, and their multiples.
use Rattle.std.proofs.Common.{◌≡◌, ℕ, suc, ◌+◌, ◌-◌, ◌*◌, ◌/◌, ◌%◌, ◌^◌, ◌<◌, ◌≤◌, inl, inr, subst, ap, ◌∙◌, arith}
use Rattle.std.proofs.Math.Nat.{pow-suc, mul-le-mul_right, mul-mod_left, div-add-mod', dvd_of_mod-eq-zero, mod-eq-zero_of_dvd, dvd_trans, dvd-add, dvd-mul_left}
use Rattle.std.proofs.lemmas.Nat.{pow_pos, pow-add, pow_below, mod_below}
use Rattle.common_lemmas.proofs.Orders.{lt_or_ge, trichotomy}

pub pow_twice : (k : ℕ) → 2 ^ (k + 1) ≡ 2 ^ k + 2 ^ k
pow_twice k =
    let e : k + 1 ≡ suc k = omega arith in
    let double : 2 ^ k * 2 ≡ 2 ^ k + 2 ^ k = omega arith in
    ap (λ n. 2 ^ n) e ∙ pow-suc 2 k ∙ double

pub pow_same : (j k : ℕ) → 2 ^ j ≡ 2 ^ k → j ≡ k
pow_same j k e = elim (trichotomy j k) [
  | inl h ↦ h
  | inr (inl h) ↦ absurd (let l = pow_below j k h in omega (arith, l, e))
  | inr (inr h) ↦ absurd (let l = pow_below k j h in omega (arith, l, e))
]

-- one multiple below another is below it by a whole step
pub aligned_step : (x y n : ℕ) → 0 < n → x % n ≡ 0 → y % n ≡ 0 → x < y → x + n ≤ y
aligned_step x y n pos ax ay h =
    let ex = div-add-mod' x n in
    let ey = div-add-mod' y n in
    let steps : x / n + 1 ≤ y / n = (elim (lt_or_ge (x / n) (y / n)) [
      | inl l ↦ omega arith
      | inr g ↦ absurd (let le = mul-le-mul_right n g in omega (arith, le, ex, ey))
    ]) in
    let le : (x / n + 1) * n ≤ y / n * n = mul-le-mul_right n steps in
    omega (arith, le, ex, ey)

-- what is aligned to a power is aligned to each lower one
pub coarser : (x j k : ℕ) → j ≤ k → x % 2 ^ k ≡ 0 → x % 2 ^ j ≡ 0
coarser x j k h a =
    let e : (k - j) + j ≡ k = omega arith in
    let factor : 2 ^ k ≡ 2 ^ (k - j) * 2 ^ j = (subst (λ n. 2 ^ n ≡ 2 ^ (k - j) * 2 ^ j) e (pow-add 2 (k - j) j)) in
    let a' : x % (2 ^ (k - j) * 2 ^ j) ≡ 0 = subst (λ n. x % n ≡ 0) factor a in
    mod-eq-zero_of_dvd (2 ^ j) (dvd_trans (2 ^ j) (dvd-mul_left (2 ^ j) (2 ^ (k - j))) (dvd_of_mod-eq-zero (2 ^ (k - j) * 2 ^ j) a'))

pub aligned_add : (x y n : ℕ) → x % n ≡ 0 → y % n ≡ 0 → (x + y) % n ≡ 0
aligned_add x y n ax ay = mod-eq-zero_of_dvd n (dvd-add n (dvd_of_mod-eq-zero n ax) (dvd_of_mod-eq-zero n ay))

pub aligned_pow : (j k : ℕ) → j ≤ k → 2 ^ k % 2 ^ j ≡ 0
aligned_pow j k h = coarser (2 ^ k) j k h (let e : 1 * 2 ^ k ≡ 2 ^ k = omega arith in subst (λ n. n % 2 ^ k ≡ 0) e (mul-mod_left 1 (2 ^ k)))

-- the end of a longer span is aligned as a shorter one is
pub ends_aligned : (y j k : ℕ) → j ≤ k → y % 2 ^ k ≡ 0 → (y + 2 ^ k) % 2 ^ j ≡ 0
ends_aligned y j k h a = aligned_add y (2 ^ k) (2 ^ j) (coarser y j k h a) (aligned_pow j k h)

-- a shorter span that begins in a longer one lies in it
pub nested : (x y j k : ℕ) → j ≤ k → x % 2 ^ j ≡ 0 → y % 2 ^ k ≡ 0 → x < y + 2 ^ k → x + 2 ^ j ≤ y + 2 ^ k
nested x y j k h ax ay l = aligned_step x (y + 2 ^ k) (2 ^ j) (pow_pos j) ax (ends_aligned y j k h ay) l

-- ---- the multiple of a power at or below a number

abbrev pub multiple_below : ℕ → ℕ → ℕ
multiple_below x k = x / 2 ^ k * 2 ^ k

pub start_aligned : (x k : ℕ) → multiple_below x k % 2 ^ k ≡ 0
start_aligned x k = mul-mod_left (x / 2 ^ k) (2 ^ k)

pub start_bounds : (x k : ℕ) → (multiple_below x k ≤ x) × (x < multiple_below x k + 2 ^ k)
start_bounds x k =
    let d = div-add-mod' x (2 ^ k) in
    let m = mod_below x (2 ^ k) (pow_pos k) in
    (omega (arith, d), omega (arith, d, m))

pub start_is : (x y k : ℕ) → y % 2 ^ k ≡ 0 → y ≤ x → x < y + 2 ^ k → multiple_below x k ≡ y
start_is x y k a low high =
    let s = start_aligned x k in
    let b = start_bounds x k in
    elim (trichotomy (multiple_below x k) y) [
      | inl e ↦ e
      | inr (inl l) ↦ absurd (let t = aligned_step (multiple_below x k) y (2 ^ k) (pow_pos k) s a l in omega (arith, t, b.1))
      | inr (inr l) ↦ absurd (let t = aligned_step y (multiple_below x k) (2 ^ k) (pow_pos k) a s l in omega (arith, t, b.0))
    ]

pub start_of_start : (x k : ℕ) → multiple_below (multiple_below x k) (k + 1) ≡ multiple_below x (k + 1)
start_of_start x k =
    let wide = start_bounds x (k + 1) in
    let narrow = start_bounds x k in
    let aw = start_aligned x (k + 1) in
    let an = start_aligned x k in
    let low : multiple_below x (k + 1) ≤ multiple_below x k = (elim (lt_or_ge (multiple_below x k) (multiple_below x (k + 1))) [
      | inl l ↦ absurd (let t = aligned_step (multiple_below x k) (multiple_below x (k + 1)) (2 ^ k) (pow_pos k) an (coarser (multiple_below x (k + 1)) k (k + 1) (omega arith) aw) l in omega (arith, t, narrow.1, wide.0))
      | inr g ↦ g
    ]) in
    start_is (multiple_below x k) (multiple_below x (k + 1)) (k + 1) aw low (omega (arith, narrow.0, wide.1))
