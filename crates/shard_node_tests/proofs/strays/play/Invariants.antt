use Rattle.std.proofs.Common.{◌≡◌}
use Rattle.shard_node_tests.proofs.strays.play.Given as goal

abbrev pub invariant-loop-step : goal.invariant-loop-step
invariant-loop-step l = l.node ≡ l.fn.node
