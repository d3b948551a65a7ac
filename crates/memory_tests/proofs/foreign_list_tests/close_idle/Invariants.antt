use Rattle.std.proofs.Common.{ℕ, ◌<◌}
use Rattle.foreign_list.specs.OwnerSeats.{IsIdle}
use Rattle.memory_tests.proofs.foreign_list_tests.close_idle.Given as goal

abbrev pub invariant-loop-ticket : goal.invariant-loop-ticket
invariant-loop-ticket g l = (t : ℕ) → t < l.ticket → IsIdle l.seat t
