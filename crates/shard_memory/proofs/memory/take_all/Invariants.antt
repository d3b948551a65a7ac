use Rattle.std.proofs.Common.{◌≡◌, suc, length}
use Rattle.foreign_list.specs.OwnerSeats.{IsSeatOf}
use Rattle.shard_memory.specs.inside.Lending.{AreLent, ArePutBack}
use Rattle.shard_memory.proofs.memory.take_all.Given as goal

abbrev pub invariant-loop-count : goal.invariant-loop-count
invariant-loop-count l = record {
  seat : IsSeatOf l.home l.seat;
  lent : AreLent l.seat.lent l.own.home l.own.owner l.own.blocks;
  put_back : ArePutBack l.fn.seat.lent l.seat.lent l.fn.own l.own l.count;
  take_wholes : l.seat.take_wholes ≡ suc l.fn.seat.take_wholes;
}

abbrev pub decreases-loop-count : goal.decreases-loop-count
decreases-loop-count l = length l.seat.walk
