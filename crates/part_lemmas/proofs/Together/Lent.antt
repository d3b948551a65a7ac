-- The blocks that a node lends, from what it does for each other shard.
use Rattle.std.proofs.Common.{◌≡◌, ◌≢◌, ℕ, zero, suc, ◌+◌, ◌^◌, ◌<◌, ◌==◌, ◌&&◌, Bool, true, false, not, cond, leb, ltb, List, [], ◌∷◌, arith, refl, sym, ap, ◌∙◌, inl, inr}
use Rattle.std.specs.List.{All, count_by, range_with_len, sum_by}
use Rattle.std.proofs.lemmas.Bool.{cases_eq, eq-eqb}
use Rattle.std.proofs.lemmas.Bool.Decides.{nat_tests}
use Rattle.std.proofs.lemmas.List.Elements.{All-head, All-tail}
use Rattle.std.proofs.lemmas.List.Sums.{sum_by-cons}
use Rattle.layout.specs.Counts.{raised}

sum-none : (xs : List ℕ) → sum_by (λ x. 0) xs ≡ 0
sum-none [] = refl
sum-none (x ∷ xs) = let first = sum_by-cons (λ (y : ℕ). 0) x xs in let rest = sum-none xs in omega (arith, first, rest)

sum-both : (f g : ℕ → ℕ) (xs : List ℕ) → sum_by (λ x. f x + g x) xs ≡ sum_by f xs + sum_by g xs
sum-both f g [] = refl
sum-both f g (x ∷ xs) =
    let all = sum_by-cons (λ y. f y + g y) x xs in
    let left = sum_by-cons f x xs in
    let right = sum_by-cons g x xs in
    let rest = sum-both f g xs in
    omega (arith, all, left, right, rest)

agree-in : (f g : ℕ → ℕ) (a k : ℕ) → ((q : ℕ) → q < a + k → f q ≡ g q) → sum_by f (range_with_len a k) ≡ sum_by g (range_with_len a k)
agree-in f g a zero same = refl
agree-in f g a (suc k) same =
    let left = sum_by-cons f a (range_with_len (a + 1) k) in
    let right = sum_by-cons g a (range_with_len (a + 1) k) in
    let here = same a (omega arith) in
    let rest = agree-in f g (a + 1) k (λ q below. same q (omega (arith, below))) in
    omega (arith, left, right, here, rest)

pub sum-agree : (f g : ℕ → ℕ) (n : ℕ) → ((q : ℕ) → q < n → f q ≡ g q) → sum_by f (range_with_len 0 n) ≡ sum_by g (range_with_len 0 n)
sum-agree f g n same = agree-in f g 0 n (λ q below. same q (omega (arith, below)))

-- a number in a range is there once, unless it is s, which is left out
once-in : (a k s key : ℕ) → sum_by (λ q. cond (q == s) 0 (cond (key == q) 1 0)) (range_with_len a k) ≡ cond (leb a key && ltb key (a + k)) (cond (key == s) 0 1) 0
once-in a zero s key = grind (arith, nat_tests)
once-in a (suc k) s key =
    sum_by-cons (λ q. cond (q == s) 0 (cond (key == q) 1 0)) a (range_with_len (a + 1) k) ∙ rw (once-in (a + 1) k s key) (grind (arith, nat_tests))

once : (n s key : ℕ) → key < n → sum_by (λ q. cond (q == s) 0 (cond (key == q) 1 0)) (range_with_len 0 n) ≡ cond (not (key == s)) 1 0
once n s key below = once-in 0 n s key ∙ grind (arith, nat_tests)

-- all elements that are not of s, counted shard by shard
pub counted-each : {X : Type 0} (key : X → ℕ) (n s : ℕ) (xs : List X) → All (λ x. key x < n) xs
    → count_by (λ x. not (key x == s)) xs ≡ sum_by (λ q. cond (q == s) 0 (count_by (λ x. key x == q) xs)) (range_with_len 0 n)
counted-each key n s [] below = sym (sum-agree (λ q. cond (q == s) 0 0) (λ q. 0) n (λ q less. none (q == s)) ∙ sum-none (range_with_len 0 n))
  where
    none : (b : Bool) → ◌≡◌ {A = ℕ} (cond b 0 0) 0
    none true = refl
    none false = refl
counted-each {X} key n s (x ∷ xs) below =
    let first = sum_by-cons (λ y. cond (not (key y == s)) 1 0) x xs in
    let rest = counted-each key n s xs (All-tail (λ y. key y < n) x xs below) in
    let here = once n s (key x) (All-head (λ y. key y < n) x xs below) in
    let both = sum-both (λ q. cond (q == s) 0 (cond (key x == q) 1 0)) (λ q. cond (q == s) 0 (count_by (λ y. key y == q) xs)) (range_with_len 0 n) in
    let all : sum_by (λ q. cond (q == s) 0 (count_by (λ y. key y == q) (x ∷ xs))) (range_with_len 0 n)
    ≡ sum_by (λ q. cond (q == s) 0 (cond (key x == q) 1 0) + cond (q == s) 0 (count_by (λ y. key y == q) xs)) (range_with_len 0 n) =
    sum-agree _ _ n (λ q less. go (q == s) _ _ _ (sum_by-cons (λ y. cond (key y == q) 1 0) x xs)) in
    omega (arith, first, rest, here, both, all)
  where
    go : (b : Bool) (m k j : ℕ) → m ≡ k + j → cond b 0 m ≡ cond b 0 k + cond b 0 j
    go true m k j is = refl
    go false m k j is = is

-- Where no block is out, as many came back as were lent.
pub all-back : (lends backs out : ℕ) → lends ≡ raised backs out → out ≡ 0 → backs < 2 ^ 64 → backs ≡ lends
all-back lends backs out is none small = grind (arith, is, none, small)

-- all shards but s
pub but-one : (q s m k : ℕ) → (q ≢ s → m ≡ k) → cond (q == s) 0 m ≡ cond (q == s) 0 k
but-one q s m k same = elim (cases_eq q s) [
  | inl is ↦ rw (eq-eqb q s is) refl
  | inr other ↦ ap (λ j. cond (q == s) 0 j) (same other)
]
