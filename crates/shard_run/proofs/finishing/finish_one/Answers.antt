use Rattle.std.proofs.Common.{subst}
use Rattle.foreign_list.specs.OwnerSeats.{IsAtRest}
use Rattle.shard_run.proofs.finishing.finish_one.Goals as goal

pub returns-clause-facts : goal.returns-clause-facts
returns-clause-facts g c = record { peers = c.finish-store.ensures.peers; counted = c.finish-store.ensures.counted }

pub returns-clause-leaves : goal.returns-clause-leaves
returns-clause-leaves g c = record {
  journals = c.finish-store.ensures.journals;
  logs = c.finish-store.ensures.logs;
  lines = c.finish-store.ensures.lines;
  row = c.finish-store.result.links;
  links = c.push_reserved.ensures.items;
  row_is = c.finish-store.ensures.links;
  seat = c.finish.result;
  seats = c.push_reserved-2.ensures.items;
  at_rest = subst (λ s. IsAtRest s.list c.finish.result) c.finish-store.ensures.store c.finish.ensures.seat;
}
