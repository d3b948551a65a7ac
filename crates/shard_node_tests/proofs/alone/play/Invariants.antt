use Rattle.std.specs.Prelude.{◌≡◌, []}
use Rattle.run_log.specs.Runs.{IsOfRun}
use Rattle.shard_node.specs.Standing.{InStanding}
use Rattle.shard_node_tests.proofs.alone.play.Given as goal

abbrev pub invariant-loop : goal.invariant-loop
invariant-loop g l =
    InStanding g.L.Link.traffic l.node
    × (l.node.shard ≡ 0)
    × IsOfRun l.node.trace l.node.shards l.node.pages l.ran
    × (l.ran.journals ≡ [])
