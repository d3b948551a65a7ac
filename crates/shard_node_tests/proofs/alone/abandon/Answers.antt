use Rattle.std.proofs.Common.{subst}
use Rattle.foreign_list.specs.OwnerSeats.{IsAtRest}
use Rattle.shard_node_tests.proofs.alone.abandon.Goals as goal

pub returns-in-Ok-clause-seat : goal.returns-in-Ok-clause-seat
returns-in-Ok-clause-seat g c = subst (λ list. IsAtRest list c.abandon.result.seat) c.in-Ok.ensures.list c.abandon.ensures.seat
