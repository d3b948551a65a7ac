-- The rule of a queue.
use Rattle.std.specs.Prelude.{◌≡◌, ℕ, ◌+◌, List, sum_by}
use Rattle.mailbox.specs.declared.rule.Hand.{Hand}

abbrev pub hand : List ℕ → List ℕ → Hand
hand pushed popped = record { pushed = pushed; popped = popped }

-- however messages are weighed, those that were pushed weigh as much as those that were popped and those that are left
abbrev pub IsConserved : List ℕ → List Hand → Type 0
IsConserved left hands =
    (weight : ℕ → ℕ) → sum_by (λ v. sum_by weight v.pushed) hands ≡ sum_by (λ v. sum_by weight v.popped) hands + sum_by weight left
