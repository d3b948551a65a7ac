use Rattle.std.proofs.Common.{◌≡◌, ◌≤◌, replicate}
use Rattle.std.specs.Vec.{vec_capacity}
use Rattle.key_table.specs.inside.Slots.{nothing}
use Rattle.key_table.proofs.slots.clear.Given as goal

abbrev pub invariant-loop-made : goal.invariant-loop-made
invariant-loop-made l = record {
  slots : l.slots.items ≡ replicate l._made nothing;
  capacity : vec_capacity l.fn.slots ≤ vec_capacity l.slots;
}
