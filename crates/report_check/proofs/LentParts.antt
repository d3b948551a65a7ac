-- The blocks that a shard lends, from the parts that it issues and does.
use Rattle.std.proofs.Common.{◌≡◌, ℕ, zero, suc, ◌+◌, ◌<◌, ◌≤◌, ◌==◌, Bool, true, false, cond, length, arith, refl, ap, ◌∙◌}
use Rattle.std.specs.List.{range_with_len, sum_by}
use Rattle.std.proofs.lemmas.Bool.{eqb-true}
use Rattle.std.proofs.lemmas.Bool.Decides.{nat_tests}
use Rattle.std.proofs.lemmas.List.Sums.{sum_by-cons}
use Rattle.trace_text.specs.PartCounts.{done_at, issued}
use Rattle.trace_text.specs.Parts.{parts}
use Rattle.trace_text.specs.Trace.{Trace}
use Rattle.cache_model.specs.Report.{lent}

-- all but one
abbrev but : ℕ → (ℕ → ℕ) → ℕ → ℕ
but s f q = cond (q == s) 0 (f q)

but-none : (s : ℕ) (f : ℕ → ℕ) (a k : ℕ) → s < a → sum_by (but s f) (range_with_len a k) ≡ sum_by f (range_with_len a k)
but-none s f a zero above = refl
but-none s f a (suc k) above =
    let left = sum_by-cons (but s f) a (range_with_len (a + 1) k) in
    let right = sum_by-cons f a (range_with_len (a + 1) k) in
    let other : (a == s) ≡ false = grind (arith, nat_tests, above) in
    let here : but s f a ≡ f a = rw other refl in
    let rest = but-none s f (a + 1) k (omega (arith, above)) in
    omega (arith, left, right, here, rest)

but-one : (s : ℕ) (f : ℕ → ℕ) (a k : ℕ) → a ≤ s → s < a + k → sum_by (but s f) (range_with_len a k) + f s ≡ sum_by f (range_with_len a k)
but-one s f a zero low high = absurd (omega (arith, low, high))
but-one s f a (suc k) low high = go (a == s) refl (but-one s f (a + 1) k)
  where
    left : sum_by (but s f) (range_with_len a (suc k)) ≡ but s f a + sum_by (but s f) (range_with_len (a + 1) k)
    left = sum_by-cons (but s f) a (range_with_len (a + 1) k)

    right : sum_by f (range_with_len a (suc k)) ≡ f a + sum_by f (range_with_len (a + 1) k)
    right = sum_by-cons f a (range_with_len (a + 1) k)

    go : (b : Bool) → (a == s) ≡ b → (a + 1 ≤ s → s < a + 1 + k → sum_by (but s f) (range_with_len (a + 1) k) + f s ≡ sum_by f (range_with_len (a + 1) k))
        → sum_by (but s f) (range_with_len a (suc k)) + f s ≡ sum_by f (range_with_len a (suc k))
    go true is later =
        let same : a ≡ s = eqb-true a s is in
        let one = ap f same in
        let here : but s f a ≡ 0 = rw is refl in
        let rest = but-none s f (a + 1) k (omega (arith, same)) in
        let l = left in
        let r = right in
        omega (arith, l, r, one, here, rest)
    go false is later =
        let above : a + 1 ≤ s = grind (arith, nat_tests) in
        let here : but s f a ≡ f a = rw is refl in
        let rest = later above (omega (arith, high)) in
        let l = left in
        let r = right in
        omega (arith, l, r, here, rest)

-- the parts that a shard issues to itself are among those that it issues and among those that it does
lent-is : (trace : Trace) (n s : ℕ) → s < n → lent trace n s + (length (parts trace n s s) + length (parts trace n s s)) ≡ issued trace n s + done_at trace n s
lent-is trace n s below =
    let asked = but-one s (λ q. length (parts trace n s q)) 0 n (omega arith) (omega (arith, below)) in
    let served = but-one s (λ o. length (parts trace n o s)) 0 n (omega arith) (omega (arith, below)) in
    omega (arith, asked, served)

-- the same of numbers that were counted for as many shards
pub lent-counted : (trace : Trace) (m n s own here itself : ℕ) → m ≡ n → s < n → own ≡ issued trace m s → here ≡ done_at trace m s → itself ≡ length (parts trace n s s)
    → lent trace n s + (itself + itself) ≡ own + here
lent-counted trace m n s own here itself same below own-is here-is itself-is =
    let i : own ≡ issued trace n s = own-is ∙ ap (λ (k : ℕ). issued trace k s) same in
    let d : here ≡ done_at trace n s = here-is ∙ ap (λ (k : ℕ). done_at trace k s) same in
    let all = lent-is trace n s below in
    omega (arith, all, i, d, itself-is)
