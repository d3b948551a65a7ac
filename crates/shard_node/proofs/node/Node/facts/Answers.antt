use Rattle.std.proofs.Common.{◌∙◌}
use Rattle.shard_node.proofs.Standing.SeenPeers.{of-peers}
use Rattle.shard_node.proofs.node.Node.facts.Goals as goal

pub returns-clause-counted : goal.returns-clause-counted
returns-clause-counted g c = rw (← c.self.view_is) c.self.invariant.consistent.counted.backs

pub returns-clause-peers : goal.returns-clause-peers
returns-clause-peers g c = rw (← c.self.view_is) (of-peers (λ peer. peer.shard) c.self.inside.shard.peers.items ∙ c.self.invariant.consistent.peers)
