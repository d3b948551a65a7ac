use Rattle.std.proofs.Common.{arith}
use Rattle.shard_node.specs.Nodes.{PeerState}
use Rattle.shard_node.proofs.Standing.SeenPeers.{as-many}
use Rattle.shard_node.proofs.node.Node.turn.Goals as goal

pub returns-clause-done : goal.returns-clause-done
returns-clause-done g c = rw (← c.self.view_is) c.turn.ensures.done

pub returns-clause-gate : goal.returns-clause-gate
returns-clause-gate g c = rw (← c.self.view_is) c.turn.ensures.gate

pub invariant_of-self : goal.invariant_of-self
invariant_of-self g c =
    let many = as-many (λ (peer : PeerState g.row.L.Denot). g.L.Link.end peer.link) c.turn.new.self.peers.items c.self.inside.shard.peers.items c.turn.ensures.same.ends in
    let room = c.self.invariant.room in
    let turns = c.turn.ensures.turns in
    record {
      consistent = c.turn.ensures.consistent;
      idle = λ none. absurd (omega (arith, none, turns));
      calm = c.turn.ensures.calm;
      none = c.self.invariant.none;
      room = omega (arith, many, room);
    }
