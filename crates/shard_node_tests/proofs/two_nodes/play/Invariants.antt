use Rattle.std.proofs.Common.{◌≡◌}
use Rattle.shard_node_tests.proofs.two_nodes.play.Given as goal

abbrev pub invariant-loop : goal.invariant-loop
invariant-loop l = (l.first ≡ l.fn.first) × (l.second ≡ l.fn.second)
