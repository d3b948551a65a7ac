use Rattle.std.proofs.Common.{length}
use Rattle.foreign_list.specs.OwnerSeats.{IsSeatOf}
use Rattle.part_examples.proofs.lent.take_back.Given as goal

abbrev pub invariant-loop-back : goal.invariant-loop-back
invariant-loop-back l = IsSeatOf l.list l.seat

abbrev pub decreases-loop-back : goal.decreases-loop-back
decreases-loop-back l = length l.seat.walk
