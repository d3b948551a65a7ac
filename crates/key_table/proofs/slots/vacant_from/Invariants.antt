use Rattle.std.proofs.Common.{ℕ, ◌<◌, ◌≤◌}
use Rattle.key_table.specs.inside.Slots.{IsHeld}
use Rattle.key_table.proofs.slots.vacant_from.Given as goal

abbrev pub invariant-loop-at : goal.invariant-loop-at
invariant-loop-at l = (k : ℕ) → l.home ≤ k → k < l.at → IsHeld l.slots.items k
