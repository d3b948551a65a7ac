-- What holds of each of the 37 classes.
use Rattle.std.proofs.Common.{◌≡◌, ℕ, zero, suc, ◌+◌, ◌-◌, ◌*◌, ◌/◌, ◌%◌, ◌^◌, ◌<◌, ◌≤◌, inl, inr, Bool, true, false, eqb, ◌&&◌, List, [], ◌∷◌, get_or, refl, sym, ap, subst, ◌∙◌, arith}
use Rattle.std.specs.Prelude.{nat_le}
use Rattle.std.proofs.Math.Nat.{div-add-mod'}
use Rattle.std.proofs.lemmas.Nat.{pow_pos, pow-add, le-div, div_below, mod_below}
use lib.Pow.{pow_mono}
use Rattle.std.proofs.lemmas.Bool.{agree_below, agree_below_at}
use Rattle.std.proofs.lemmas.Bool.Decides.{leb_tells, eqb_tells}
use Rattle.common_lemmas.proofs.Orders.{lt_or_ge}
use Rattle.small_pools.specs.Classes.{size_of, order_of, capacity_of, IsClass, IsLeastClass}

and_true : (a b : Bool) → (a && b) ≡ true → (a ≡ true) × (b ≡ true)
and_true true b e = (refl, e)
and_true false b e = (e, absurd (let clash : false ≡ true = e in cc))

le_of : (a b : ℕ) → nat_le a b ≡ true → a ≤ b
le_of a b e = elim (leb_tells a b) [ inl h ↦ h.1 | inr h ↦ absurd (let clash : false ≡ true = sym h.0 ∙ e in cc) ]

eq_of : (a b : ℕ) → eqb a b ≡ true → a ≡ b
eq_of a b e = elim (eqb_tells a b) [ inl h ↦ h.1 | inr h ↦ absurd (let clash : false ≡ true = sym h.0 ∙ e in cc) ]

-- ---- bounds

in_bounds : ℕ → Bool
in_bounds c = nat_le 32 (size_of c) && (nat_le (size_of c) 16384 && (nat_le (order_of c) 4 && (nat_le 4 (capacity_of c) && (nat_le (capacity_of c) 128 && nat_le (capacity_of c * size_of c) (4096 * 2 ^ order_of c)))))

all_in_bounds : agree_below in_bounds (λ _. true) 37 ≡ true
unfolding in_bounds size_of order_of capacity_of
all_in_bounds = refl

-- ---- the tables of the code

abbrev pub orders : List ℕ
orders = 0 ∷ 0 ∷ 0 ∷ 0 ∷ 0 ∷ 0 ∷ 0 ∷ 0 ∷ 0 ∷ 0 ∷ 0 ∷ 0 ∷ 0 ∷ 0 ∷ 0 ∷ 0 ∷ 0 ∷ 0 ∷ 0 ∷ 0 ∷ 0 ∷ 1 ∷ 1 ∷ 1 ∷ 1 ∷ 2 ∷ 2 ∷ 2 ∷ 2 ∷ 3 ∷ 3 ∷ 3 ∷ 3 ∷ 4 ∷ 4 ∷ 4 ∷ 4 ∷ []

abbrev pub capacities : List ℕ
capacities =
    128 ∷ 102 ∷ 85 ∷ 73 ∷ 64 ∷ 51 ∷ 42 ∷ 36 ∷ 32 ∷ 25 ∷ 21 ∷ 18 ∷ 16 ∷ 12 ∷ 10 ∷ 9 ∷ 8 ∷ 6 ∷ 5 ∷ 4 ∷ 4
    ∷ 6 ∷ 5 ∷ 4 ∷ 4 ∷ 6 ∷ 5 ∷ 4 ∷ 4 ∷ 6 ∷ 5 ∷ 4 ∷ 4 ∷ 6 ∷ 5 ∷ 4 ∷ 4 ∷ []

orders_agree : agree_below (λ c. eqb (get_or orders c 0) (order_of c)) (λ _. true) 37 ≡ true
unfolding size_of order_of
orders_agree = refl

capacities_agree : agree_below (λ c. eqb (get_or capacities c 0) (capacity_of c)) (λ _. true) 37 ≡ true
unfolding size_of order_of capacity_of
capacities_agree = refl

pub order_at : (c : ℕ) → c < 37 → get_or orders c 0 ≡ order_of c
order_at c h = eq_of _ _ (agree_below_at (λ z. eqb (get_or orders z 0) (order_of z)) (λ _. true) 37 c orders_agree h)

pub capacity_at : (c : ℕ) → c < 37 → get_or capacities c 0 ≡ capacity_of c
capacity_at c h = eq_of _ _ (agree_below_at (λ z. eqb (get_or capacities z 0) (capacity_of z)) (λ _. true) 37 c capacities_agree h)

-- ---- the sizes

steps_agree : agree_below (λ k. eqb (size_of (suc k)) ((5 + k % 4) * 2 ^ (k / 4 + 3))) (λ _. true) 36 ≡ true
unfolding size_of
steps_agree = refl

-- the size of a class above the least
step_size : (k : ℕ) → k < 36 → size_of (k + 1) ≡ (5 + k % 4) * 2 ^ (k / 4 + 3)
step_size k h = (let e : k + 1 ≡ suc k = omega arith in ap size_of e) ∙ eq_of _ _ (agree_below_at (λ z. eqb (size_of (suc z)) ((5 + z % 4) * 2 ^ (z / 4 + 3))) (λ _. true) 36 k steps_agree h)

starts_agree : agree_below (λ k. eqb (size_of k) ((4 + k % 4) * 2 ^ (k / 4 + 3))) (λ _. true) 37 ≡ true
unfolding size_of
starts_agree = refl

start_size : (k : ℕ) → k < 37 → size_of k ≡ (4 + k % 4) * 2 ^ (k / 4 + 3)
start_size k h = eq_of _ _ (agree_below_at (λ z. eqb (size_of z) ((4 + z % 4) * 2 ^ (z / 4 + 3))) (λ _. true) 37 k starts_agree h)

rising_agree : agree_below (λ k. nat_le (suc (size_of k)) (size_of (suc k))) (λ _. true) 36 ≡ true
unfolding size_of
rising_agree = refl

pub sizes_rise : (c d : ℕ) → c < d → d < 37 → size_of c < size_of d
sizes_rise c zero h small = absurd (omega arith)
sizes_rise c (suc d) h small =
    let here = le_of _ _ (agree_below_at (λ z. nat_le (suc (size_of z)) (size_of (suc z))) (λ _. true) 36 d rising_agree (omega arith)) in
    elim (lt_or_ge c d) [
      | inl l ↦ (let below = sizes_rise c d l (omega arith) in omega (arith, below, here))
      | inr g ↦ (let e : c ≡ d = omega arith in subst (λ z. size_of z < size_of (suc d)) (sym e) (omega (arith, here)))
    ]

-- ---- what holds of each class

pub is_class : (c : ℕ) → c < 37 → IsClass c
unfolding in_bounds
is_class c h =
    let p0 = and_true _ _ (agree_below_at in_bounds (λ _. true) 37 c all_in_bounds h) in
    let p1 = and_true _ _ p0.1 in let p2 = and_true _ _ p1.1 in let p3 = and_true _ _ p2.1 in let p4 = and_true _ _ p3.1 in
    record {
      within = h;
      size_least = le_of _ _ p0.0;
      size_most = le_of _ _ p1.0;
      order_most = le_of _ _ p2.0;
      capacity_least = le_of _ _ p3.0;
      capacity_most = le_of _ _ p4.0;
      fits = le_of _ _ p4.1;
      above = λ smaller l. sizes_rise smaller c l h;
    }

-- ---- the least class of a size

-- a size between two classes that follow each other has the upper one
pub least_between : (size k : ℕ) → k < 36 → size_of k < size → size ≤ size_of (k + 1) → IsLeastClass size (k + 1)
least_between size k small above below = record {
  within = omega arith;
  holds = below;
  least = λ c h. elim (lt_or_ge c k) [
    | inl l ↦ (let s = sizes_rise c k l (omega arith) in omega (arith, s, above))
    | inr g ↦ (let e : c ≡ k = omega arith in subst (λ z. size_of z < size) (sym e) above)
  ];
}

-- a number with its highest bit at j lies between the class of its two next bits and the class behind
pub between_classes : (n j : ℕ) → 32 ≤ n → n < 16384 → 2 ^ j ≤ n → n < 2 ^ suc j
    → (5 ≤ j) × (4 * (j - 5) + n / 2 ^ (j - 2) % 4 < 36) × (size_of (4 * (j - 5) + n / 2 ^ (j - 2) % 4) ≤ n) × (n < size_of (4 * (j - 5) + n / 2 ^ (j - 2) % 4 + 1))
between_classes n j least most low high =
    let five : 5 ≤ j = (elim (lt_or_ge j 5) [ inr g ↦ g | inl l ↦ absurd (let p : 2 ^ suc j ≤ 2 ^ 5 = pow_mono {i = suc j} {j = 5} (omega arith) in omega (arith, p, high)) ]) in
    let thirteen : j ≤ 13 = (elim (lt_or_ge j 14) [ inl l ↦ omega arith | inr g ↦ absurd (let p : 2 ^ 14 ≤ 2 ^ j = pow_mono {i = 14} {j = j} g in omega (arith, p, low)) ]) in
    let unit = 2 ^ (j - 2) in
    let m = n / unit in
    let pos : 0 < unit = pow_pos (j - 2) in
    let e : (j - 2) + 2 ≡ j = omega arith in
    let four : 2 ^ j ≡ unit * 4 = subst (λ z. 2 ^ z ≡ unit * 4) e (pow-add 2 (j - 2) 2) in
    let e' : (j - 2) + 3 ≡ suc j = omega arith in
    let eight : 2 ^ suc j ≡ unit * 8 = subst (λ z. 2 ^ z ≡ unit * 8) e' (pow-add 2 (j - 2) 3) in
    let m_low : 4 ≤ m = le-div 4 n unit pos (omega (arith, four)) in
    let m_high : m < 8 = div_below n unit 8 pos (omega (arith, eight)) in
    let split = div-add-mod' n unit in
    let rest = mod_below n unit pos in
    let k = 4 * (j - 5) + m % 4 in
    let q : m % 4 + 4 ≡ m = omega arith in
    let small : k < 36 = omega arith in
    let k_mod : k % 4 ≡ m % 4 = omega arith in
    let k_div : k / 4 + 3 ≡ j - 2 = omega arith in
    let start : size_of k ≡ m * unit = start_size k (omega arith) ∙ ap (λ z. (4 + z) * 2 ^ (k / 4 + 3)) k_mod ∙ ap (λ z. (4 + m % 4) * 2 ^ z) k_div ∙ (let s : 4 + m % 4 ≡ m = omega arith in ap (λ z. z * unit) s) in
    let end : size_of (k + 1) ≡ (m + 1) * unit = step_size k small ∙ ap (λ z. (5 + z) * 2 ^ (k / 4 + 3)) k_mod ∙ ap (λ z. (5 + m % 4) * 2 ^ z) k_div ∙ (let s : 5 + m % 4 ≡ m + 1 = omega arith in ap (λ z. z * unit) s) in
    (five, small, omega (arith, start, split), omega (arith, end, split, rest))

pub least_class : (n j : ℕ) → 32 ≤ n → n < 16384 → 2 ^ j ≤ n → n < 2 ^ suc j → IsLeastClass (n + 1) (4 * (j - 5) + n / 2 ^ (j - 2) % 4 + 1)
least_class n j least most low high =
    let b = between_classes n j least most low high in
    let above = b.2 in let below = b.3 in
    least_between (n + 1) _ b.1 (omega (arith, above)) (omega (arith, below))

pub least_of_all : (size : ℕ) → size ≤ 32 → IsLeastClass size 0
least_of_all size h = record { within = omega arith; holds = (let b = (is_class 0 (omega arith)).size_least in omega (arith, b, h)); least = λ c l. absurd (omega arith) }
