use Rattle.std.proofs.Common.{All, take}
use Rattle.shard_rings.specs.Links.{traffic_of}
use Rattle.shard_node.specs.Turns.{IsDone}
use Rattle.shardcache_tests.proofs.trace_run_tests.scheduled.are_done.Given as goal

-- those so far are done
abbrev pub invariant-loop-node : goal.invariant-loop-node
invariant-loop-node g l = All (IsDone traffic_of g.G.Gate.holds) (take l.node-index l.nodes)
