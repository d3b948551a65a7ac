use Rattle.std.specs.Prelude.{◌⊎◌}
use Rattle.std.proofs.Common.{◌<◌, ◌↔◌, IsTrue, inl, inr, arith, refl, sym, subst, ◌∙◌}
use Rattle.shard_rings.specs.declared.link.Lane.TheVariants.{Replies, Requests}
use Rattle.shard_node.specs.inside.Moves.{ReplyLacks, ReceivesOneStray, Tells, packets_of}
use Rattle.shard_node.specs.inside.Shards.{node_state}
use Rattle.shard_node.proofs.Turning.Joins.{no_step, steps_join}
use Rattle.shard_node.proofs.Turning.TellsStrays.{none_here, none_join, one_here, one_next, task_of, told_next, told_start}
use Rattle.shard_node.proofs.Turning.ThroughGate.{none_then_none}
use Rattle.shard_node.specs.inside.Seen.{has_come}
use Rattle.shard_node.proofs.Turning.StepGoes.{all_go, packets_rise, stays_goes, tries_so_far}
use Rattle.std.proofs.lemmas.List.{length-map}
use Rattle.shard_parts.specs.Peers.{peer_state}
use Rattle.shard_node.proofs.Turning.HeldUps.{held_next, held_start, reply_lacks_lasts}
use Rattle.shard_node.proofs.shard.Shard.take_replies.Goals as goal

pub loop-at-init : goal.loop-at-init
loop-at-init g c =
    let traffic = g.L.Link.traffic in
    let self = c.args.self.now in
    record {
      step = no_step traffic g.L.Link.end self c.requires.consistent;
      requests = none_here traffic g.G.Gate.holds Requests (node_state self);
      one = one_here traffic g.G.Gate.holds Replies (node_state self);
      goes = stays_goes traffic (node_state self);
      own = (refl, refl);
      moved = (λ is. inl is, λ so. elim so [ inl before ↦ before | inr less ↦ absurd (omega (arith, less)) ]);
      held_up = λ quiet. held_start traffic _ (node_state self) (λ k p below. absurd (omega (arith, below)));
      later = λ k from. refl;
      tells = λ stands. told_start traffic g.G.Gate.holds Replies (node_state self) c.args.seen.now.stray;
    }

pub loop-at-preserved : goal.loop-at-preserved
loop-at-preserved g c =
    let traffic = g.L.Link.traffic in
    let first = c.args.self.now in
    let old = c.loop-at.self in
    let new = c.take_reply.new.self in
    let at = c.loop-at.at in
    let so_far = c.loop-at.invariant in
    record {
      step = steps_join traffic g.L.Link.end first old new so_far.step c.take_reply.ensures.step;
      requests = none_join traffic g.G.Gate.holds Requests (node_state first) (node_state old) (node_state new) so_far.requests c.take_reply.ensures.requests;
      one = one_next traffic g.G.Gate.holds Replies (node_state first) (node_state old) (node_state new) at c.take_reply.ensures.others so_far.later so_far.one c.take_reply.ensures.one;
      goes = all_go traffic (node_state first) (node_state old) (node_state new) so_far.goes c.take_reply.ensures.goes;
      own = none_then_none (node_state first) (node_state old) (node_state new) so_far.own c.take_reply.ensures.own;
      moved = subst (λ m. IsTrue m ↔ (IsTrue c.args.seen.now.moved ⊎ (packets_of traffic (node_state first) < packets_of traffic (node_state new)))) (sym c.note_try.ensures.moved)
          (tries_so_far c.args.seen.now.moved c.loop-at.seen.moved (has_come c.take_reply.result) (packets_of traffic (node_state first)) (packets_of traffic (node_state old)) (packets_of traffic (node_state new))
          so_far.moved c.take_reply.ensures.moved (packets_rise traffic (node_state first) (node_state old) so_far.goes) (packets_rise traffic (node_state old) (node_state new) c.take_reply.ensures.goes));
      held_up = λ quiet.
          let low = packets_rise traffic (node_state first) (node_state old) so_far.goes in
          let high = packets_rise traffic (node_state old) (node_state new) c.take_reply.ensures.goes in
          held_next traffic (ReplyLacks traffic) (node_state first) (node_state old) (node_state new) at (reply_lacks_lasts traffic) so_far.goes c.take_reply.ensures.goes (omega (arith, quiet, high))
          (so_far.held_up (omega (arith, quiet, high))) (c.take_reply.ensures.held_up (omega (arith, quiet, low)));
      later = λ k from. c.take_reply.ensures.others k (λ e. omega (arith, e, from)) ∙ so_far.later k (omega (arith, from));
      tells = λ stands.
          subst (Tells (ReceivesOneStray traffic g.G.Gate.holds Replies (node_state first) (node_state new)) c.args.seen.now.stray) (sym c.note_try.ensures.stray)
          (told_next traffic g.G.Gate.holds Replies (node_state first) (node_state old) (node_state new) at c.take_reply.result c.args.seen.now.stray c.loop-at.seen.stray
          (task_of traffic g.G.Gate.holds g.L.Link.end (node_state first) (node_state old) so_far.step.same)
          c.take_reply.ensures.others so_far.later (c.take_reply.ensures.tells (so_far.step.standing stands)) (so_far.tells stands));
    }

pub returns-clause-held_up : goal.returns-clause-held_up
returns-clause-held_up g c quiet =
    let first = node_state c.args.self.now in
    let cur = node_state c.loop-at.self in
    let h = c.loop-at.invariant.held_up quiet in
    record {
      request = h.request;
      begun = h.begun;
      gate = h.gate;
      store = h.store;
      done = h.done;
      peers = record {
        long = h.peers.long;
        each = λ k d below.
            let e = h.peers.each k d below in
            let long = h.peers.long in
            let all = length-map c.loop-at.self.peers.items peer_state in
            let end = c.loop-at-test.false in
            (e.0, e.1 (omega (arith, below, long, all, end)));
      };
    }
