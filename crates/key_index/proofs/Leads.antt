-- The first bytes of lists are in the order of the lists.
use Rattle.std.proofs.Common.{◌≡◌, ℕ, zero, suc, ◌+◌, ◌*◌, ◌^◌, ◌<◌, ◌≤◌, inl, inr, List}
use Rattle.std.proofs.Common.{[], ◌∷◌, refl, sym, subst, ◌∙◌, arith, Less, nat_cmp, get_or, take, drop}
use Rattle.std.proofs.lemmas.List.Elements.{All-head, All-tail, All-nil, All-cons}
use Rattle.std.specs.Cmp.Lexicographic.{slice_cmp}
use Rattle.std.proofs.lemmas.Bool.{cases_eq, cases_lt}
use Rattle.std.proofs.lemmas.Bool.Decides.{nat_tests}
use Rattle.key_index.specs.declared.entries.Entry.{Entry}
use Rattle.key_index.specs.Order.{Each}
use Rattle.key_index.specs.Lead.{first_bytes, rows_of}
use Rattle.key_index.specs.Lead.{AreBytes}
use Rattle.std.specs.Prelude.{All}

scaled : (b p : ℕ) → b < 256 → b * p + p ≤ 256 * p
scaled b p h = grind arith

power : (n : ℕ) → 256 ^ suc n ≡ 256 * 256 ^ n
power n = omega arith

positive : (n : ℕ) → 0 < 256 ^ n
positive zero = omega arith
positive (suc n) = let more = positive n in let p = power n in omega (arith, more, p)

pub first_below : (n : ℕ) (key : List ℕ) → AreBytes key → first_bytes n key < 256 ^ n
first_below zero key h = omega arith
first_below (suc n) [] h = positive (suc n)
first_below (suc n) (b ∷ key) h =
    let more = first_below n key h.1 in
    let s = scaled b (256 ^ n) h.0 in
    let p = power n in
    omega (arith, more, s, p)

-- a lower first byte makes a lower number
lower : (a b p x y : ℕ) → a < b → x < p → a * p + x < b * p + y
lower a b p x y h k = grind arith

pub head_less : (a b : ℕ) (xs ys : List ℕ) → a < b → slice_cmp nat_cmp (a ∷ xs) (b ∷ ys) ≡ Less
head_less a b xs ys h = grind (arith, nat_tests)

pub head_same : (a : ℕ) (xs ys : List ℕ) → slice_cmp nat_cmp (a ∷ xs) (a ∷ ys) ≡ slice_cmp nat_cmp xs ys
head_same a xs ys = grind (arith, nat_tests)

pub lead_less : (n : ℕ) (a b : List ℕ) → AreBytes a → AreBytes b → first_bytes n a < first_bytes n b → slice_cmp nat_cmp a b ≡ Less
lead_less zero a b f g h = absurd (omega arith)
lead_less (suc n) a [] f g h = absurd (omega arith)
lead_less (suc n) [] (y ∷ b) f g h = refl
lead_less (suc n) (x ∷ a) (y ∷ b) f g h =
    elim (cases_lt x y) [
      | inl l ↦ head_less x y a b l
      | inr m ↦ elim (cases_eq x y) [
        | inl e ↦ subst (λ z. slice_cmp nat_cmp (x ∷ a) (z ∷ b) ≡ Less) e (head_same x a b ∙ lead_less n a b f.1 g.1 (same_head x y (256 ^ n) (first_bytes n a) (first_bytes n b) e h))
        | inr d ↦ absurd (let more = lower y x (256 ^ n) (first_bytes n b) (first_bytes n a) (omega arith) (first_below n b g.1) in omega (arith, more, h))
      ]
    ]
  where
    same_head : (x y p u v : ℕ) → x ≡ y → x * p + u < y * p + v → u < v
    same_head x y p u v e h = let k : x * p + u < x * p + v = subst (λ z. x * p + u < z * p + v) (sym e) h in omega (arith, k)

-- the bytes of a slice
pub bytes_from : (key : List ℕ) → ((i : ℕ) → get_or key i 0 < 256) → AreBytes key
bytes_from [] h = tt
bytes_from (b ∷ key) h = (h 0, bytes_from key (λ i. h (suc i)))

-- ---- behind bytes that two lists share

pub behind : (n : ℕ) (a b : List ℕ) → take n a ≡ take n b → slice_cmp nat_cmp a b ≡ slice_cmp nat_cmp (drop n a) (drop n b)
behind zero a b e = refl
behind (suc n) [] [] e = refl
behind (suc n) [] (y ∷ b) e = cc
behind (suc n) (x ∷ a) [] e = cc
behind (suc n) (x ∷ a) (y ∷ b) e =
    let head : x ≡ y = cc in
    let tail : take n a ≡ take n b = cc in
    subst (λ z. slice_cmp nat_cmp (x ∷ a) (z ∷ b) ≡ slice_cmp nat_cmp (drop n a) (drop n b)) head (head_same x a b ∙ behind n a b tail)

pub bytes_drop : (n : ℕ) (a : List ℕ) → AreBytes a → AreBytes (drop n a)
bytes_drop zero a h = h
bytes_drop (suc n) [] h = h
bytes_drop (suc n) (x ∷ a) h = bytes_drop n a h.1

-- what holds of each row of some entries
pub each_from_all : (P : ℕ → Type 0) (es : List Entry) → All (λ e. P e.row) es → Each P (rows_of es)
each_from_all P [] all = tt
each_from_all P (e ∷ es) all = (All-head (λ (x : Entry). P x.row) e es all, each_from_all P es (All-tail (λ (x : Entry). P x.row) e es all))

pub all_from_each : (P : ℕ → Type 0) (es : List Entry) → Each P (rows_of es) → All (λ e. P e.row) es
all_from_each P [] each = All-nil (λ (x : Entry). P x.row)
all_from_each P (e ∷ es) each = All-cons (λ (x : Entry). P x.row) e es each.0 (all_from_each P es each.1)

pub all_same_rows : (P : ℕ → Type 0) (es fs : List Entry) → rows_of es ≡ rows_of fs → All (λ e. P e.row) fs → All (λ e. P e.row) es
all_same_rows P es fs same all = all_from_each P es (subst (Each P) (sym same) (each_from_all P fs all))
