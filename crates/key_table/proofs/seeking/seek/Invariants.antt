use Rattle.std.proofs.Common.{◌≡◌, ◌≢◌, ℕ, ◌<◌, ◌≤◌}
use Rattle.rows.specs.Key.{key_shown}
use Rattle.key_table.specs.inside.Slots.{home_of, slot_at, IsHeld}
use Rattle.key_table.proofs.seeking.seek.Given as goal

abbrev pub invariant-loop-at : goal.invariant-loop-at
invariant-loop-at g l = record {
  between : (k : ℕ) → home_of l.mask l.tag ≤ k → k < l.at → IsHeld l.slots.items k;
  others : (k : ℕ) → home_of l.mask l.tag ≤ k → k < l.at → (slot_at l.slots.items k).tag ≡ l.tag → g.K.Keys.key_of l.keys (slot_at l.slots.items k).row ≢ key_shown l.key;
}
