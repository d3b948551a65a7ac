use Rattle.std.proofs.Common.{refl, ◌≡◌, ◌<◌, ◌↔◌, IsTrue, arith, length, true≢false, subst, sym, ◌∙◌, ap}
use Rattle.shard_rings.specs.Lanes.{on}
use Rattle.std.specs.Vec.{with_items}
use Rattle.std.proofs.lemmas.List.{with_items_is}
use Rattle.shard_parts.specs.Peers.{Each, SendsReply}
use Rattle.shard_parts.specs.Peers.{peer_state}
use Rattle.shard_node.specs.inside.Shards.{node_state}
use Rattle.shard_node.proofs.Standing.PeerPairs.{pairs_same, seen_pairs}
use Rattle.shard_node.proofs.Turning.Calms.{none_to_send}
use Rattle.shard_node.proofs.Turning.Joins.{no_step}
use Rattle.shard_node.proofs.Replies.Sends.{keeps_replies}
use Rattle.shard_node.proofs.Turning.Steps.{sends_replies}
use Rattle.shard_node.specs.inside.Moves.{packets_by_all}
use Rattle.shard_node.proofs.Turning.PeerGoes.{goes_same, reply_goes}
use Rattle.shard_node.proofs.Turning.HeldUps.{reply_waits}
use Rattle.shard_node.proofs.Turning.StepGoes.{all_none, all_so, no_more}
use Rattle.shard_node.proofs.shard.Shard.send_replies.Goals as goal

pub returns-then-calm : goal.returns-then-calm
returns-then-calm g c =
    let traffic = g.L.Link.traffic in
    let self = c.args.self.now in
    record {
      step = no_step traffic g.L.Link.end self c.requires.consistent;
      received = λ lane. pairs_same _ _ (λ k a. (refl, refl));
      goes = record {
        peers = pairs_same _ _ (λ k a. goes_same traffic a);
        done = omega arith;
        backs = omega arith;
        looks = omega arith;
        tally = no_more self.tally;
      };
      own = (refl, refl);
      sent = (λ is. absurd (true≢false (sym is)), λ less. absurd (omega (arith, less)));
      held_up = λ quiet. record {
        request = refl;
        begun = refl;
        gate = refl;
        store = refl;
        done = refl;
        peers = none_to_send traffic (node_state self) (c.requires.calm c.if-calm.true);
      };
    }

pub returns : goal.returns
returns g c =
    let traffic = g.L.Link.traffic in
    let peers = c.send_replies.new.peers in
    let items = (with_items c.args.self.now.peers peers).items in
    let is : items ≡ peers = with_items_is c.args.self.now.peers peers (c.send_replies.auto.peers ∙ c.as_mut_slice.ensures.len) in
    let old = c.as_mut_slice.ensures.value in
    let sends : Each (SendsReply traffic g.L.Link.end) c.args.self.now.peers.items items =
    subst (Each (SendsReply traffic g.L.Link.end) c.args.self.now.peers.items) (sym is) (subst (λ ps. Each (SendsReply traffic g.L.Link.end) ps peers) old c.send_replies.ensures.each) in
    record {
      step = sends_replies g.L.Link.traffic g.L.Link.end c.args.self.now (with_items c.args.self.now.peers peers)
          (ap length is ∙ (c.send_replies.auto.peers ∙ ap length old))
          (subst (Each (SendsReply g.L.Link.traffic g.L.Link.end) c.args.self.now.peers.items) (sym is)
          (subst (λ ps. Each (SendsReply g.L.Link.traffic g.L.Link.end) ps peers) old c.send_replies.ensures.each))
          c.requires.consistent;
      received = λ lane. seen_pairs peer_state _ c.args.self.now.peers.items items (ap length is ∙ (c.send_replies.auto.peers ∙ ap length old))
          (λ k d below.
          let e = subst (Each (SendsReply traffic g.L.Link.end) c.args.self.now.peers.items) (sym is)
          (subst (λ ps. Each (SendsReply traffic g.L.Link.end) ps peers) old c.send_replies.ensures.each) k d below in
          (ap (λ p. p.shard) e.same, ap (on lane) (keeps_replies _ _ _ _ e.sends).received));
      goes = record {
        peers = seen_pairs peer_state _ c.args.self.now.peers.items items (ap length is ∙ (c.send_replies.auto.peers ∙ ap length old))
            (λ k d below.
            reply_goes traffic g.L.Link.end _ _ (subst (Each (SendsReply traffic g.L.Link.end) c.args.self.now.peers.items) (sym is)
            (subst (λ ps. Each (SendsReply traffic g.L.Link.end) ps peers) old c.send_replies.ensures.each) k d below));
        done = omega arith;
        backs = omega arith;
        looks = omega arith;
        tally = no_more c.args.self.now.tally;
      };
      own = (refl, refl);
      sent = all_so traffic _ c.args.self.now.peers.items items
          (subst (λ ps. IsTrue c.send_replies.result ↔ (packets_by_all traffic c.args.self.now.peers.items < packets_by_all traffic ps)) (sym is)
          (subst (λ ps. IsTrue c.send_replies.result ↔ (packets_by_all traffic ps < packets_by_all traffic peers)) old c.send_replies.ensures.sent));
      held_up = λ quiet. record {
        request = refl;
        begun = refl;
        gate = refl;
        store = refl;
        done = refl;
        peers = seen_pairs peer_state _ c.args.self.now.peers.items items (ap length is ∙ (c.send_replies.auto.peers ∙ ap length old))
            (λ k d below.
            reply_waits traffic g.L.Link.end _ _ (sends k d below)
            (all_none traffic c.args.self.now.peers.items items (ap length is ∙ (c.send_replies.auto.peers ∙ ap length old)) (λ k d below. (reply_goes traffic g.L.Link.end _ _ (sends k d below)).more) quiet k d below));
      };
    }
