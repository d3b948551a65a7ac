use Rattle.std.proofs.Common.{◌≢◌, ℕ, ◌<◌, ◌≤◌}
use Rattle.key_table.specs.inside.Slots.{home_of, slot_at, IsHeld}
use Rattle.key_table.proofs.slots.locate.Given as goal

abbrev pub invariant-loop-at : goal.invariant-loop-at
invariant-loop-at l = record {
  between : (k : ℕ) → home_of l.mask l.found.tag ≤ k → k < l.at → IsHeld l.slots.items k;
  others : (k : ℕ) → home_of l.mask l.found.tag ≤ k → k < l.at → (slot_at l.slots.items k).row ≢ l.found.row;
}
