use Rattle.std.proofs.Common.{◌≡◌, ◌<◌, [], length}
use Rattle.foreign_list.specs.OwnerSeats.{IsSeatOf}
use Rattle.timed.proofs.blocks.passing.lend_out.Given as goal

abbrev pub invariant-loop : goal.invariant-loop
invariant-loop g l = IsSeatOf l.list l.seat × (l.seat.walk ≡ []) × (l.list.owner ≡ 3) × (0 < length l.rings)
