-- The states up to the index are taken, and the others stand.
use Rattle.std.proofs.Common.{◌≡◌, ◌++◌, map, take, drop}
use Rattle.foreign_core.specs.Tickets.{taken}
use Rattle.foreign_core.proofs.list_core.take_listed.Given as goal

abbrev pub invariant-loop-state : goal.invariant-loop-state
invariant-loop-state l = l.states ≡ map taken (take l.state-index l.initial.states) ++ drop l.state-index l.initial.states
