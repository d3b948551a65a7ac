-- The reply that waits for a peer.
use Rattle.std.proofs.Common.{arith, refl, sym, ap, ◌∙◌}
use Rattle.std.proofs.lemmas.List.{get_or_default}
use Rattle.shard_rings.specs.Lanes.{on}
use Rattle.shard_parts.specs.Peers.{peer_state}
use Rattle.shard_node.proofs.Standing.PeerPairs.{one_pair, set_elsewhere}
use Rattle.shard_node.proofs.Replies.Sends.{keeps_replies}
use Rattle.shard_node.proofs.Replies.SendsOne.{sends_one}
use Rattle.shard_node.proofs.Turning.PeerGoes.{goes_same, reply_goes}
use Rattle.shard_node.proofs.Turning.StepGoes.{no_more}
use Rattle.shard_node.proofs.shard.Shard.send_reply.Goals as goal

pub returns-clause-step : goal.returns-clause-step
returns-clause-step g c =
    let old = c.index_mut.result.now in
    sends_one g.L.Link.traffic g.L.Link.end c.args.self.now c.args.at old c.send_reply.new.self c.requires.peer
    (λ d. get_or_default c.args.self.now.peers.items c.args.at d old c.requires.peer ∙ sym c.index_mut.ensures.value) c.send_reply.ensures.sends c.requires.consistent

pub returns-clause-received : goal.returns-clause-received
returns-clause-received g c lane =
    let old = c.index_mut.result.now in
    one_pair peer_state _ c.args.self.now.peers.items c.args.at old c.send_reply.new.self c.requires.peer (sym c.index_mut.ensures.value) (λ k a apart. (refl, refl))
    (ap (λ p. p.shard) c.send_reply.ensures.sends.same, ap (on lane) (keeps_replies _ _ _ _ c.send_reply.ensures.sends.sends).received)

pub returns-clause-others : goal.returns-clause-others
returns-clause-others g c k apart = set_elsewhere peer_state c.args.self.now.peers.items c.args.at c.send_reply.new.self k apart

pub returns-clause-goes : goal.returns-clause-goes
returns-clause-goes g c =
    let self = c.args.self.now in
    let traffic = g.L.Link.traffic in
    record {
      peers = one_pair peer_state _ self.peers.items c.args.at c.index_mut.result.now c.send_reply.new.self c.requires.peer (sym c.index_mut.ensures.value) (λ k a apart. goes_same traffic (peer_state a))
          (reply_goes traffic g.L.Link.end _ _ c.send_reply.ensures.sends);
      done = omega arith;
      backs = omega arith;
      looks = omega arith;
      tally = no_more self.tally;
    }
