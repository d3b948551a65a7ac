use Rattle.std.proofs.Common.{◌-◌, ◌≤◌, ◌∷◌, length}
use Rattle.key_table.specs.Table.{rows_of, AreSame}
use Rattle.key_table.specs.inside.Slots.{held, slot_at, IsHeld, AreProbed, Within}
use Rattle.std.specs.Vec.{vec_capacity}
use Rattle.key_table.proofs.slots.take_out.Given as goal

abbrev pub invariant-loop-next : goal.invariant-loop-next
invariant-loop-next l = record {
  probed : AreProbed l.mask l.slots.items;
  here : IsHeld l.slots.items l.hole;
  rows : AreSame ((slot_at l.slots.items l.hole).row ∷ rows_of (held l.fn.slots.items)) ((slot_at l.fn.slots.items l.at).row ∷ rows_of (held l.slots.items));
  within : Within l.fn.slots.items l.slots.items;
  capacity : vec_capacity l.fn.slots ≤ vec_capacity l.slots;
}

abbrev pub decreases-loop-next : goal.decreases-loop-next
decreases-loop-next l = length l.slots.items - l.hole
