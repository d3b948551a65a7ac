use Rattle.std.proofs.Common.{◌≡◌, []}
use Rattle.foreign_list.specs.OwnerSeats.{IsSeatOf}
use Rattle.memory_tests.proofs.foreign_list_tests.lend_half.Given as goal

abbrev pub invariant-loop-i : goal.invariant-loop-i
invariant-loop-i g l = IsSeatOf l.list l.seat × (l.seat.walk ≡ [])
