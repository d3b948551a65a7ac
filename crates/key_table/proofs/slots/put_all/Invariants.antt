use Rattle.std.proofs.Common.{◌≤◌, take}
use Rattle.std.specs.Vec.{vec_capacity}
use Rattle.key_table.specs.Table.{rows_of, AreSame}
use Rattle.key_table.specs.inside.Slots.{held, AreProbed, Within}
use Rattle.key_table.proofs.slots.put_all.Given as goal

abbrev pub invariant-loop-at : goal.invariant-loop-at
invariant-loop-at l = record {
  probed : AreProbed l.mask l.slots.items;
  rows : AreSame (rows_of (held (take l.at l.from.items))) (rows_of (held l.slots.items));
  inside : Within l.from.items l.slots.items;
  capacity : vec_capacity l.fn.slots ≤ vec_capacity l.slots;
}
