use Rattle.std.proofs.Common.{ℕ, ◌-◌, ◌<◌, length}
use Rattle.key_table.specs.inside.Slots.{home_of, slot_at}
use Rattle.key_table.proofs.slots.mover.Given as goal

abbrev pub invariant-loop-slot : goal.invariant-loop-slot
invariant-loop-slot l = record {
  inside : l.at < length l.slots.items;
  behind : l.hole < l.at;
  stay : (j : ℕ) → l.hole < j → j < l.at → l.hole < home_of l.mask (slot_at l.slots.items j).tag;
}

abbrev pub decreases-loop-slot : goal.decreases-loop-slot
decreases-loop-slot l = length l.slots.items - l.at
