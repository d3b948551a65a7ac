-- One more state is taken.
use Rattle.std.proofs.Common.{◌<◌, length, arith}
use Rattle.std.proofs.lemmas.List.{get_or_default}
use Rattle.std.proofs.lemmas.List.Edits.{map_over_more}
use Rattle.foreign_core.specs.Tickets.{taken}
use Rattle.foreign_core.proofs.list_core.take_listed.Goals as goal

pub loop-state-preserved : goal.loop-state-preserved
loop-state-preserved c =
    let within : c.loop-state.state-index < length c.loop-state.states = omega arith in
    rw (c.taken.ensures) (map_over_more taken c.args.states.now c.loop-state.states c.loop-state.state-index _ c.loop-state-test.true c.loop-state.invariant (get_or_default _ _ _ _ within))
