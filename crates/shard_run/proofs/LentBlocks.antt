-- The blocks that a shard lends fit a u64.
use Rattle.std.proofs.Common.{◌≡◌, ℕ, zero, suc, ◌+◌, ◌*◌, ◌==◌, ◌≤◌, ◌&&◌, Bool, true, false, cond, List, [], ◌∷◌, length, arith}
use Rattle.std.specs.Prelude.{if◌then◌else◌}
use Rattle.std.specs.List.{filter, range_with_len, sum_by}
use Rattle.std.proofs.Math.Nat.{mul-le-mul}
use Rattle.std.proofs.lemmas.List.{length-map}
use Rattle.std.proofs.lemmas.List.Sums.{sum_by-cons}
use Rattle.rows.specs.Operation.{Operation}
use Rattle.trace_text.specs.Parts.{has_part, most_shards, origin, parts}
use Rattle.trace_text.specs.Reading.{most_commands}
use Rattle.trace_text.specs.Trace.{Trace}
use Rattle.cache_model.specs.Report.{lent}
use Rattle.layout.specs.Counts.{raised}

filter_is_shorter : {X : Type 0} (p : X → Bool) (xs : List X) → length (filter p xs) ≤ length xs
filter_is_shorter p [] = omega arith
filter_is_shorter {X} p (x ∷ xs) = go (p x) (filter_is_shorter p xs)
  where
    go : (b : Bool) → length (filter p xs) ≤ length xs → length (cond b (x ∷ filter p xs) (filter p xs)) ≤ length (x ∷ xs)
    go true less = omega (arith, less)
    go false less = omega (arith, less)

few_parts : (trace : Trace) (n o s : ℕ) → length (parts trace n o s) ≤ length trace.operations
few_parts trace n o s =
    let many = length-map (filter (λ (operation : Operation). origin operation.number n == o && has_part n s operation) trace.operations) (λ operation. operation.number) in
    let fewer = filter_is_shorter (λ (operation : Operation). origin operation.number n == o && has_part n s operation) trace.operations in
    omega (arith, many, fewer)

sum_is_bounded : (f : ℕ → ℕ) (m a k : ℕ) → ((q : ℕ) → f q ≤ m) → sum_by f (range_with_len a k) ≤ k * m
sum_is_bounded f m a zero each = omega arith
sum_is_bounded f m a (suc k) each =
    let first = sum_by-cons f a (range_with_len (a + 1) k) in
    let rest = sum_is_bounded f m (a + 1) k each in
    let here = each a in
    omega (arith, first, rest, here)

unless : (b : Bool) (x m : ℕ) → x ≤ m → (if b then 0 else x) ≤ m
unless true x m less = omega arith
unless false x m less = less

pub few_lent : (trace : Trace) (n s : ℕ) → n ≤ most_shards → length trace.operations ≤ most_commands → raised 0 (lent trace n s) ≡ lent trace n s
few_lent trace n s few short =
    let m = length trace.operations in
    let asked = sum_is_bounded (λ q. if q == s then 0 else length (parts trace n s q)) m 0 n (λ q. unless (q == s) (length (parts trace n s q)) m (few_parts trace n s q)) in
    let served = sum_is_bounded (λ o. if o == s then 0 else length (parts trace n o s)) m 0 n (λ o. unless (o == s) (length (parts trace n o s)) m (few_parts trace n o s)) in
    let most : n * m ≤ most_shards * most_commands = mul-le-mul few short in
    omega (arith, asked, served, most)
