use Rattle.std.proofs.Common.{◌≡◌, None, replicate}
use Rattle.foreign_list.proofs.steps.empty_slots.Given as goal

abbrev pub invariant-loop : goal.invariant-loop
invariant-loop l = l.slots.items ≡ replicate l.counter None
