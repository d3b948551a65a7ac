use Rattle.std.proofs.Common.{ℕ, ◌<◌}
use Rattle.foreign_list.specs.OwnerSeats.{IsIdle}
use Rattle.part_examples.proofs.lent.close_idle.Given as goal

abbrev pub invariant-loop-ticket : goal.invariant-loop-ticket
invariant-loop-ticket l = (t : ℕ) → t < l.ticket → IsIdle l.seat t
