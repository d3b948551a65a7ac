use Rattle.std.proofs.Common.{sym, ◌∙◌}
use Rattle.shard_node.specs.inside.Shards.{node_state}
use Rattle.shard_node.proofs.Turning.AsksGate.{waiting_back}
use Rattle.shard_node.proofs.Turning.ThroughGate.{none_through}
use Rattle.shard_node.proofs.shard.Shard.go_on.Goals as goal

pub returns-then-is_some-clause-gate : goal.returns-then-is_some-clause-gate
returns-then-is_some-clause-gate g c = none_through g.G.Gate.lets (node_state c.args.self.now) (node_state c.send_request.new.self) c.send_request.ensures.own

pub returns-then-is_some-clause-held_back : goal.returns-then-is_some-clause-held_back
returns-then-is_some-clause-held_back g c unmet =
    waiting_back g.L.Link.traffic g.G.Gate.holds c.args.self.now c.send_request.new.self (sym c.if-is_some.true ∙ c.is_some.ensures) (c.send_request.ensures.held_up unmet)
