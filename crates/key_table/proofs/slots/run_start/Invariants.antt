use Rattle.std.proofs.Common.{ℕ, ◌<◌, ◌≤◌}
use Rattle.key_table.specs.inside.Slots.{IsHeld}
use Rattle.key_table.proofs.slots.run_start.Given as goal

abbrev pub invariant-loop-low : goal.invariant-loop-low
invariant-loop-low l = record {
  before : l.low ≤ l.home;
  between : (k : ℕ) → l.low ≤ k → k < l.home → IsHeld l.slots.items k;
}

abbrev pub decreases-loop-low : goal.decreases-loop-low
decreases-loop-low l = l.low
