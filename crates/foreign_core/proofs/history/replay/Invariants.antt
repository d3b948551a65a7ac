-- What the events that are left make of the core is what they all make of the start.
use Rattle.std.proofs.Common.{◌≡◌, drop, length}
use Rattle.foreign_core.specs.Tickets.{start}
use Rattle.foreign_core.specs.Histories.{run}
use Rattle.foreign_core.proofs.history.replay.Given as goal

abbrev pub invariant-loop-event : goal.invariant-loop-event
invariant-loop-event l = record {
  rest : run l.core (drop l.event-index l.events) ≡ run (start l.fn.tickets) l.events;
  tickets : length l.core.states ≡ l.fn.tickets;
}
