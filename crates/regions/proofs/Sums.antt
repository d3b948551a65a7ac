-- The sums of the counts of a region.
use Rattle.std.proofs.Common.{◌≡◌, ℕ, zero, suc, ◌+◌, ◌<◌, List, length, replicate, refl, sym, ap, ◌∙◌, arith}
use Rattle.std.specs.Prelude.{Option, None, Some, IfSome, slice_index, slice_set}
use Rattle.std.specs.List.{sum}
use Rattle.std.proofs.lemmas.List.Sums.{sum_by-set, sum_by-cons}
use Rattle.regions.specs.Counts.{plus}
use Rattle.regions.specs.Contents.{Standing, size_of}

-- a count that grew
pub sum-plus : (xs : List ℕ) (n k : ℕ) → n < length xs → sum (plus n k xs) ≡ sum xs + k
sum-plus xs n k inside =
    let sums : sum (slice_set xs n (slice_index xs n + k)) + slice_index xs n ≡ sum xs + (slice_index xs n + k) = sum_by-set (λ x. x) xs n (slice_index xs n + k) 0 inside in omega (arith, sums)

-- a count that is zero now
pub sum-cleared : (xs : List ℕ) (n : ℕ) → n < length xs → sum (slice_set xs n 0) + slice_index xs n ≡ sum xs
sum-cleared xs n inside = let sums = sum_by-set (λ x. x) xs n 0 0 inside in omega (arith, sums)

-- a count that shrank by the size of the object there
pub sum-lost : (s : Option Standing) (n : ℕ) (old new : List ℕ) → n < length new → IfSome s (λ t. old ≡ plus n (size_of t.item) new) → IfSome s (λ t. sum new + size_of t.item ≡ sum old)
sum-lost None n old new inside e = e
sum-lost (Some t) n old new inside e = sym (ap sum e ∙ sum-plus new n (size_of t.item) inside)

pub sum-zeros : (k : ℕ) → sum (replicate k 0) ≡ 0
sum-zeros zero = refl
sum-zeros (suc k) = let step = sum_by-cons (λ x. x) 0 (replicate k 0) in let rest = sum-zeros k in omega (arith, step, rest)
