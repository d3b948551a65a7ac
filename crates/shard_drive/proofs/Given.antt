-- One entry more of a schedule.
use Rattle.std.proofs.Common.{◌≡◌, ◌≢◌, ℕ, suc, ◌≤◌, ◌==◌, List, [], ◌∷◌, ◌++◌, cond, arith, ap, sym, ◌∙◌}
use Rattle.std.proofs.lemmas.Bool.Decides.{nat_tests}
use Rattle.std.proofs.lemmas.List.Sums.{sum_by_push}
use Rattle.layout.specs.Counts.{counted, greatest_count, raised}
use Rattle.shard_drive.specs.Drives.{turns_given}

-- a count that is raised by none, and by one more
pub raised-none : (count : ℕ) → count ≤ greatest_count → count ≡ raised count 0
raised-none count few = grind (arith, few)

raised-more : (count more : ℕ) → raised count (suc more) ≡ counted (raised count more)
raised-more count more = grind arith

pub given-named : (schedule : List ℕ) (k : ℕ) → turns_given (schedule ++ k ∷ []) k ≡ suc (turns_given schedule k)
given-named schedule k = sum_by_push (λ entry. cond (entry == k) 1 0) schedule k ∙ grind (arith, nat_tests)

pub given-other : (schedule : List ℕ) (k j : ℕ) → j ≢ k → turns_given (schedule ++ k ∷ []) j ≡ turns_given schedule j
given-other schedule k j ne = sum_by_push (λ entry. cond (entry == j) 1 0) schedule k ∙ grind (arith, nat_tests)

-- the one that is named makes a turn, and each other one makes none
pub turn-named : (count turns : ℕ) (schedule : List ℕ) (k : ℕ) → turns ≡ raised count (turns_given schedule k)
    → counted turns ≡ raised count (turns_given (schedule ++ k ∷ []) k)
turn-named count turns schedule k so_far =
    ap counted so_far ∙ (sym (raised-more count (turns_given schedule k)) ∙ sym (ap (raised count) (given-named schedule k)))

pub turn-other : (count turns : ℕ) (schedule : List ℕ) (k j : ℕ) → j ≢ k → turns ≡ raised count (turns_given schedule j)
    → turns ≡ raised count (turns_given (schedule ++ k ∷ []) j)
turn-other count turns schedule k j ne so_far = so_far ∙ sym (ap (raised count) (given-other schedule k j ne))
