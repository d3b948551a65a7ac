-- How many parts there are, by the lists of parts and command by command.
use Rattle.std.proofs.Common.{◌≡◌, ℕ, zero, suc, ◌+◌, ◌-◌, ◌<◌, ◌≤◌, ◌==◌, ◌&&◌, Bool, true, false, cond, leb, ltb, List, [], ◌∷◌, length, arith, refl, sym, ap, ◌∙◌}
use Rattle.std.specs.List.{count_by, sum_by, range_with_len}
use Rattle.std.proofs.lemmas.Bool.Decides.{nat_tests}
use Rattle.std.proofs.lemmas.List.{length-map}
use Rattle.std.proofs.lemmas.List.Sums.{length-filter, sum_by-cons}
use Rattle.std.proofs.Math.Nat.{mod-lt}
use Rattle.rows.specs.Operation.{Operation, is_scan}
use Rattle.trace_text.specs.Trace.{Trace}
use Rattle.trace_text.specs.Parts.{has_part, hash, origin, own_parts, owner, parts}
use Rattle.trace_text.specs.PartCounts.{done_at, here_parts, issued}

abbrev pub one_if : Bool → ℕ
one_if b = cond b 1 0

-- a sum of sums, in either order
sum_by-zero : (xs : List ℕ) → sum_by (λ x. 0) xs ≡ 0
sum_by-zero [] = refl
sum_by-zero (x ∷ xs) = rw (sum_by-cons (λ y. 0) x xs, sum_by-zero xs) (omega arith)

sum_by-add : (f g : ℕ → ℕ) (xs : List ℕ) → sum_by (λ x. f x + g x) xs ≡ sum_by f xs + sum_by g xs
sum_by-add f g [] = refl
sum_by-add f g (x ∷ xs) =
    rw (sum_by-cons (λ y. f y + g y) x xs, sum_by-cons f x xs, sum_by-cons g x xs, sum_by-add f g xs) (omega arith)

pub sum_by-cong : {X : Type 0} (f g : X → ℕ) (xs : List X) → ((x : X) → f x ≡ g x) → sum_by f xs ≡ sum_by g xs
sum_by-cong f g [] same = refl
sum_by-cong f g (x ∷ xs) same = rw (sum_by-cons f x xs, sum_by-cons g x xs, same x, sum_by-cong f g xs same) refl

sum_by-exchange : (f : ℕ → Operation → ℕ) (qs : List ℕ) (trace : List Operation)
    → sum_by (λ q. sum_by (f q) trace) qs ≡ sum_by (λ operation. sum_by (λ q. f q operation) qs) trace
sum_by-exchange f qs [] = sum_by-zero qs
sum_by-exchange f qs (operation ∷ trace) =
    sum_by-cong (λ q. sum_by (f q) (operation ∷ trace)) (λ q. f q operation + sum_by (f q) trace) qs (λ q. sum_by-cons (f q) operation trace)
    ∙ sum_by-add (λ q. f q operation) (λ q. sum_by (f q) trace) qs
    ∙ ap (λ rest. sum_by (λ q. f q operation) qs + rest) (sum_by-exchange f qs trace)
    ∙ sym (sum_by-cons (λ o. sum_by (λ q. f q o) qs) operation trace)

-- one number of a range is this one
count_in_range : (a k n : ℕ) → sum_by (λ q. one_if (n == q)) (range_with_len a k) ≡ one_if (leb a n && ltb n (a + k))
count_in_range a zero n = grind (arith, nat_tests)
count_in_range a (suc k) n = rw (sum_by-cons (λ q. one_if (n == q)) a (range_with_len (a + 1) k), count_in_range (a + 1) k n) (grind (arith, nat_tests))

one_in_range : (k n : ℕ) → n < k → sum_by (λ q. one_if (n == q)) (range_with_len 0 k) ≡ 1
one_in_range k n below = count_in_range 0 k n ∙ (grind (arith, nat_tests))

sum_by-one : (a k : ℕ) → sum_by (λ q. 1) (range_with_len a k) ≡ k
sum_by-one a zero = refl
sum_by-one a (suc k) = rw (sum_by-cons (λ q. 1) a (range_with_len (a + 1) k), sum_by-one (a + 1) k) (omega arith)

length-parts : (trace : Trace) (n o s : ℕ) → length (parts trace n o s) ≡ count_by (λ operation. origin operation.number n == o && has_part n s operation) trace.operations
length-parts trace n o s = length-map _ _ ∙ length-filter (λ operation. origin operation.number n == o && has_part n s operation) trace.operations

and-true : (b : Bool) → one_if (b && true) ≡ one_if b
and-true true = refl
and-true false = refl

and-false : (b : Bool) → one_if (b && false) ≡ 0
and-false true = refl
and-false false = refl

-- the shards that do a part of a command
takers : (mine scans : Bool) (n own : ℕ) → own < n
    → sum_by (λ q. one_if (mine && cond scans true (own == q))) (range_with_len 0 n) ≡ cond mine (cond scans n 1) 0
takers false scans n own below = sum_by-zero (range_with_len 0 n)
takers true true n own below = sum_by-one 0 n
takers true false n own below = one_in_range n own below

-- and the shards that issue one
issuers : (here : Bool) (n from : ℕ) → from < n → sum_by (λ o. one_if (from == o && here)) (range_with_len 0 n) ≡ one_if here
issuers true n from below = sum_by-cong (λ o. one_if (from == o && true)) (λ o. one_if (from == o)) (range_with_len 0 n) (λ o. and-true (from == o)) ∙ one_in_range n from below
issuers false n from below = sum_by-cong (λ o. one_if (from == o && false)) (λ o. 0) (range_with_len 0 n) (λ o. and-false (from == o)) ∙ sum_by-zero (range_with_len 0 n)

pub issued_is : (trace : Trace) (n s : ℕ) → 1 ≤ n → issued trace n s ≡ own_parts trace n s
issued_is trace n s some =
    sum_by-cong (λ q. length (parts trace n s q)) (λ q. count_by (λ operation. origin operation.number n == s && has_part n q operation) trace.operations) (range_with_len 0 n) (λ q. length-parts trace n s q)
    ∙ sum_by-exchange (λ q operation. one_if (origin operation.number n == s && has_part n q operation)) (range_with_len 0 n) trace.operations
    ∙ sum_by-cong _ _ trace.operations (λ operation. takers (origin operation.number n == s) (is_scan operation.kind) n (owner operation.key.bytes n) (mod-lt (hash operation.key.bytes) some))

pub done_is : (trace : Trace) (n s : ℕ) → 1 ≤ n → done_at trace n s ≡ here_parts trace n s
done_is trace n s some =
    sum_by-cong (λ o. length (parts trace n o s)) (λ o. count_by (λ operation. origin operation.number n == o && has_part n s operation) trace.operations) (range_with_len 0 n) (λ o. length-parts trace n o s)
    ∙ sum_by-exchange (λ o operation. one_if (origin operation.number n == o && has_part n s operation)) (range_with_len 0 n) trace.operations
    ∙ sum_by-cong _ _ trace.operations (λ operation. issuers (has_part n s operation) n (origin operation.number n) (mod-lt (operation.number - 1) some))
