use Rattle.std.proofs.Common.{sym, ◌∙◌}
use Rattle.shard_node.proofs.Standing.SeenPeers.{of-peers}
use Rattle.shard_node.proofs.node.Node.finish.Goals as goal

pub returns-clause-peers : goal.returns-clause-peers
returns-clause-peers g c = rw (← c.self.view_is) (of-peers (λ peer. peer.shard) c.self.inside.shard.peers.items ∙ c.self.invariant.consistent.peers)

pub returns-clause-counted : goal.returns-clause-counted
returns-clause-counted g c = rw (← c.self.view_is) c.self.invariant.consistent.counted.backs

pub returns-clause-links : goal.returns-clause-links
returns-clause-links g c = rw (← c.self.view_is) (c.links_of.ensures ∙ sym (of-peers (λ peer. peer.link) c.self.inside.shard.peers.items))
