use Rattle.std.proofs.Common.{refl, ◌≡◌, ◌<◌, ◌↔◌, IsTrue, arith, length, ap, sym, subst, ◌∙◌, IfNone}
use Rattle.shard_rings.specs.Lanes.{on}
use Rattle.std.specs.Vec.{with_items}
use Rattle.std.proofs.lemmas.List.{with_items_is}
use Rattle.shard_parts.specs.Own.{own_log}
use Rattle.shard_parts.specs.Peers.{Each, SaysBye}
use Rattle.shard_parts.specs.Peers.{peer_state}
use Rattle.shard_node.proofs.Standing.PeerPairs.{seen_pairs}
use Rattle.shard_node.proofs.Standing.Byes.{bye_received, is_none_so, says_byes, same_own_log}
use Rattle.shard_node.specs.inside.Moves.{packets_by_all}
use Rattle.shard_node.proofs.Turning.PeerGoes.{bye_goes}
use Rattle.shard_node.proofs.Turning.HeldUps.{bye_waits}
use Rattle.shard_node.proofs.Turning.StepGoes.{all_none, all_so, no_more}
use Rattle.cache_lemmas.proofs.Laws.{issued_parts_are_counted-peer}
use Rattle.shard_node.proofs.shard.Shard.say_byes.Goals as goal

pub returns-then-is_none-2 : goal.returns-then-is_none-2
returns-then-is_none-2 g c =
    let traffic = g.L.Link.traffic in
    let shard = c.args.self.now in
    let x = c.requires.consistent in
    let peers = c.say_byes.new.peers in
    let is : (with_items shard.peers peers).items ≡ peers = with_items_is shard.peers peers (c.say_byes.auto.peers ∙ c.as_mut_slice.ensures.len) in
    let old = c.as_mut_slice.ensures.value in
    let says : Each (SaysBye traffic g.L.Link.end) shard.peers.items (with_items shard.peers peers).items =
    subst (Each (SaysBye traffic g.L.Link.end) shard.peers.items) (sym is) (subst (λ ps. Each (SaysBye traffic g.L.Link.end) ps peers) old c.say_byes.ensures.each) in
    record {
      step = says_byes g.L.Link.traffic g.L.Link.end issued_parts_are_counted-peer shard (with_items shard.peers peers)
          (ap length is ∙ (c.say_byes.auto.peers ∙ ap length old))
          (subst (Each (SaysBye g.L.Link.traffic g.L.Link.end) shard.peers.items) (sym is)
          (subst (λ ps. Each (SaysBye g.L.Link.traffic g.L.Link.end) ps peers) old c.say_byes.ensures.each))
          (is_none_so shard.request c.if-is_none.ensures)
          (subst (λ r. IfNone r (shard.own.begun ≡ length (own_log shard.own))) (is_none_so c.next.result c.if-is_none-2.ensures) c.next.ensures.none ∙ ap length (same_own_log shard x))
          x;
      received = λ lane. seen_pairs peer_state _ shard.peers.items (with_items shard.peers peers).items (ap length is ∙ (c.say_byes.auto.peers ∙ ap length old))
          (λ k d below.
          let e = subst (Each (SaysBye traffic g.L.Link.end) shard.peers.items) (sym is)
          (subst (λ ps. Each (SaysBye traffic g.L.Link.end) ps peers) old c.say_byes.ensures.each) k d below in
          (ap (λ p. p.shard) e.same, ap (on lane) (bye_received _ _ _ _ e.tries)));
      goes = record {
        peers = seen_pairs peer_state _ shard.peers.items (with_items shard.peers peers).items (ap length is ∙ (c.say_byes.auto.peers ∙ ap length old))
            (λ k d below.
            bye_goes traffic g.L.Link.end _ _ (subst (Each (SaysBye traffic g.L.Link.end) shard.peers.items) (sym is)
            (subst (λ ps. Each (SaysBye traffic g.L.Link.end) ps peers) old c.say_byes.ensures.each) k d below));
        done = omega arith;
        backs = omega arith;
        looks = omega arith;
        tally = no_more shard.tally;
      };
      own = (refl, refl);
      sent = all_so traffic _ shard.peers.items (with_items shard.peers peers).items
          (subst (λ ps. IsTrue c.say_byes.result ↔ (packets_by_all traffic shard.peers.items < packets_by_all traffic ps)) (sym is)
          (subst (λ ps. IsTrue c.say_byes.result ↔ (packets_by_all traffic ps < packets_by_all traffic peers)) old c.say_byes.ensures.sent));
      held_up = λ quiet. record {
        request = refl;
        begun = refl;
        gate = refl;
        store = refl;
        done = refl;
        peers = seen_pairs peer_state _ shard.peers.items (with_items shard.peers peers).items (ap length is ∙ (c.say_byes.auto.peers ∙ ap length old))
            (λ k d below.
            let n = bye_waits traffic g.L.Link.end _ _ (says k d below)
            (all_none traffic shard.peers.items (with_items shard.peers peers).items (ap length is ∙ (c.say_byes.auto.peers ∙ ap length old)) (λ k d below. (bye_goes traffic g.L.Link.end _ _ (says k d below)).more) quiet k d below) in
            (n.0, λ all unsent. n.1 unsent));
      };
    }
