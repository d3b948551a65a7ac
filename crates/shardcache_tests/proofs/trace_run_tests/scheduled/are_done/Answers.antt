use Rattle.std.proofs.Common.{All, arith, subst, sym}
use Rattle.std.proofs.lemmas.List.{take_all}
use Rattle.std.proofs.lemmas.List.Elements.{All-more}
use Rattle.shard_rings.specs.Links.{traffic_of}
use Rattle.shard_node.specs.Standing.{InStanding}
use Rattle.shard_node.specs.Turns.{IsDone}
use Rattle.shardcache_tests.proofs.trace_run_tests.scheduled.are_done.Goals as goal

pub loop-node-preserved : goal.loop-node-preserved
loop-node-preserved g c =
    let at = c.loop-node.node-index in
    let within = c.loop-node-test.true in
    let stands = subst (InStanding traffic_of) (sym c.node-item.is) (c.requires at c.node-item.result within) in
    All-more (IsDone traffic_of g.G.Gate.holds) c.args.nodes.now at c.node-item.result within c.loop-node.invariant
    (subst (IsDone traffic_of g.G.Gate.holds) c.node-item.is ((c.is_done.ensures stands).0 c.if-not-is_done.false))

pub returns : goal.returns
returns g c =
    let test = c.loop-node-test.false in
    let same = c.loop-node.auto.node-index-end in
    λ _. subst (All (IsDone traffic_of g.G.Gate.holds)) (take_all c.loop-node.node-index c.args.nodes.now (omega (arith, test, same))) c.loop-node.invariant
