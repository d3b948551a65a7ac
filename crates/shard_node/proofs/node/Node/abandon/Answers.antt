use Rattle.std.proofs.Common.{sym, ◌∙◌}
use Rattle.shard_node.proofs.Standing.SeenPeers.{of-peers}
use Rattle.shard_node.proofs.node.Node.abandon.Goals as goal

pub returns-clause-links : goal.returns-clause-links
returns-clause-links g c = rw (← c.self.view_is) (c.links_of.ensures ∙ sym (of-peers (λ peer. peer.link) c.self.inside.shard.peers.items))

pub finish-requires-clause-idle : goal.finish-requires-clause-idle
finish-requires-clause-idle g c = c.self.invariant.idle (rw (← c.self.view_is) at c.requires.new)
