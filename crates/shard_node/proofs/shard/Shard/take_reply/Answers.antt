use Rattle.std.proofs.Common.{arith, true≢false, sym, ap, subst, ◌∙◌, refl, slice_set}
use Rattle.std.specs.Vec.{with_item}
use Rattle.std.proofs.lemmas.List.{set-get_or}
use Rattle.shard_rings.specs.declared.link.Lane.TheVariants.{Replies}
use Rattle.shard_parts.specs.Peers.{peer_state}
use Rattle.shard_node.specs.inside.Shards.{HasCursors, node_state}
use Rattle.shard_node.proofs.Turning.StraysCame.{nothing_came, one_reply, reply_alone, reply_tells}
use Rattle.shard_node.proofs.Standing.PeerPairs.{one_pair, seen_there, set_elsewhere, set_seen}
use Rattle.shard_node.proofs.Replies.TakesPackets.{stays_put, takes_reply}
use Rattle.shard_node.proofs.Replies.TakesReplies.{next_has_room, next_unanswered}
use Rattle.shard_node.proofs.Turning.PeerGoes.{goes_same, took_goes, took_more}
use Rattle.shard_node.proofs.Turning.HeldUps.{took_none}
use Rattle.shard_node.proofs.Turning.StepGoes.{no_more, one_none, one_so, took_tally}
use Rattle.shard_node.proofs.shard.Shard.take_reply.Goals as goal

pub take_reply-requires : goal.take_reply-requires
take_reply-requires g c k =
    let old = c.index_mut-peer.result.now in
    let x = c.requires.consistent in
    let here = sym c.index_mut-peer.ensures.value in (
      (refl, tt),
      (
        c.owes_reply.ensures.0 c.if-not-owes_reply.false,
        (
          (subst (HasCursors c.args.self.now) here (x.cursors c.args.at old c.requires.peer)).answers_trace,
          (
            x.longest,
            (
              λ d next. next_unanswered c.args.self.now x c.args.at old d c.requires.peer here (record { in_log = c.facts.ensures.in_log; before = c.facts.ensures.before; rest_is = c.facts.ensures.rest }) next,
              λ d next. next_has_room c.args.self.now x c.args.at old d c.requires.peer here next,
            ),
          ),
        ),
      ),
    )

pub returns-then-not-owes_reply-clause-step : goal.returns-then-not-owes_reply-clause-step
returns-then-not-owes_reply-clause-step g c =
    let peers = c.args.self.now.peers in
    stays_put g.L.Link.traffic g.L.Link.end c.args.self.now c.requires.consistent (with_item peers c.args.at c.index_mut-peer.result.now)
    (ap (λ p. slice_set peers.items c.args.at p) c.index_mut-peer.ensures.value ∙ set-get_or peers.items c.args.at c.index_mut-peer.result.now)

pub returns-clause-step : goal.returns-clause-step
returns-clause-step g c =
    takes_reply g.L.Link.traffic g.L.Link.end c.args.self.now c.requires.consistent
    (with_item c.args.self.now.peers c.args.at c.take_reply.new.self) c.take_reply.new.log c.take_reply.new.tally c.args.at c.index_mut-peer.result.now c.take_reply.new.self c.take_reply.result
    c.requires.peer (sym c.index_mut-peer.ensures.value) refl (record { in_log = c.facts.ensures.in_log; before = c.facts.ensures.before; rest_is = c.facts.ensures.rest })
    (c.owes_reply.ensures.0 c.if-not-owes_reply.false) c.take_reply.ensures

pub returns-then-not-owes_reply-clause-requests : goal.returns-then-not-owes_reply-clause-requests
returns-then-not-owes_reply-clause-requests g c =
    let old = c.index_mut-peer.result.now in
    one_pair peer_state _ c.args.self.now.peers.items c.args.at old old c.requires.peer (sym c.index_mut-peer.ensures.value) (λ k a apart. (refl, refl)) (refl, refl)

pub returns-then-not-owes_reply-clause-others : goal.returns-then-not-owes_reply-clause-others
returns-then-not-owes_reply-clause-others g c k apart = set_elsewhere peer_state c.args.self.now.peers.items c.args.at c.index_mut-peer.result.now k apart

pub returns-then-not-owes_reply-clause-tells : goal.returns-then-not-owes_reply-clause-tells
returns-then-not-owes_reply-clause-tells g c stands =
    let self = c.args.self.now in
    let old = c.index_mut-peer.result.now in
    nothing_came g.L.Link.traffic g.L.Link.end g.G.Gate.holds Replies
    (node_state self) (node_state (record self { peers = with_item self.peers c.args.at old })) c.args.at (peer_state old) (peer_state old)
    (seen_there peer_state self.peers.items c.args.at old c.requires.peer (sym c.index_mut-peer.ensures.value)) (set_seen peer_state self.peers.items c.args.at old c.requires.peer) refl

pub returns-clause-requests : goal.returns-clause-requests
returns-clause-requests g c =
    one_pair peer_state _ c.args.self.now.peers.items c.args.at c.index_mut-peer.result.now c.take_reply.new.self c.requires.peer (sym c.index_mut-peer.ensures.value) (λ k a apart. (refl, refl))
    (reply_alone g.L.Link.traffic g.L.Link.end g.G.Gate.holds _ _ _ _ _ _ _ c.take_reply.ensures)

pub returns-then-not-owes_reply-clause-one : goal.returns-then-not-owes_reply-clause-one
returns-then-not-owes_reply-clause-one g c =
    let old = c.index_mut-peer.result.now in
    one_pair peer_state _ c.args.self.now.peers.items c.args.at old old c.requires.peer (sym c.index_mut-peer.ensures.value) (λ k a apart. omega arith) (omega arith)

pub returns-clause-one : goal.returns-clause-one
returns-clause-one g c =
    one_pair peer_state _ c.args.self.now.peers.items c.args.at c.index_mut-peer.result.now c.take_reply.new.self c.requires.peer (sym c.index_mut-peer.ensures.value) (λ k a apart. omega arith)
    (one_reply g.L.Link.traffic g.L.Link.end g.G.Gate.holds _ _ _ _ _ _ _ c.take_reply.ensures)

pub returns-clause-others : goal.returns-clause-others
returns-clause-others g c k apart = set_elsewhere peer_state c.args.self.now.peers.items c.args.at c.take_reply.new.self k apart

pub returns-clause-tells : goal.returns-clause-tells
returns-clause-tells g c stands =
    let self = c.args.self.now in
    let old = c.index_mut-peer.result.now in
    let here = sym c.index_mut-peer.ensures.value in
    reply_tells g.L.Link.traffic g.L.Link.end g.G.Gate.holds self
    (node_state (record self { peers = with_item self.peers c.args.at c.take_reply.new.self; log = c.take_reply.new.log; tally = c.take_reply.new.tally })) c.args.at old c.take_reply.new.self
    (seen_there peer_state self.peers.items c.args.at old c.requires.peer here) (set_seen peer_state self.peers.items c.args.at c.take_reply.new.self c.requires.peer) stands
    self.log c.take_reply.new.log self.tally c.take_reply.new.tally c.take_reply.result
    (subst (HasCursors self) here (c.requires.consistent.cursors c.args.at old c.requires.peer)) c.take_reply.ensures

pub returns-then-not-owes_reply-clause-goes : goal.returns-then-not-owes_reply-clause-goes
returns-then-not-owes_reply-clause-goes g c =
    let self = c.args.self.now in
    let traffic = g.L.Link.traffic in
    let old = c.index_mut-peer.result.now in
    record {
      peers = one_pair peer_state _ self.peers.items c.args.at old old c.requires.peer (sym c.index_mut-peer.ensures.value) (λ k a apart. goes_same traffic (peer_state a)) (goes_same traffic (peer_state old));
      done = omega arith;
      backs = omega arith;
      looks = omega arith;
      tally = no_more self.tally;
    }

pub returns-then-not-owes_reply-clause-moved : goal.returns-then-not-owes_reply-clause-moved
returns-then-not-owes_reply-clause-moved g c =
    let old = c.index_mut-peer.result.now in
    one_so g.L.Link.traffic _ c.args.self.now.peers.items c.args.at old old c.requires.peer (sym c.index_mut-peer.ensures.value)
    (λ is. absurd (true≢false (sym is)), λ less. absurd (omega (arith, less)))

pub returns-clause-goes : goal.returns-clause-goes
returns-clause-goes g c =
    let self = c.args.self.now in
    let traffic = g.L.Link.traffic in
    record {
      peers = one_pair peer_state _ self.peers.items c.args.at c.index_mut-peer.result.now c.take_reply.new.self c.requires.peer (sym c.index_mut-peer.ensures.value) (λ k a apart. goes_same traffic (peer_state a))
          (took_goes traffic g.L.Link.end _ _ _ _ _ _ _ c.take_reply.ensures);
      done = omega arith;
      backs = omega arith;
      looks = omega arith;
      tally = took_tally traffic g.L.Link.end _ _ _ _ _ _ _ c.take_reply.ensures;
    }

pub returns-clause-moved : goal.returns-clause-moved
returns-clause-moved g c =
    let traffic = g.L.Link.traffic in
    one_so traffic _ c.args.self.now.peers.items c.args.at c.index_mut-peer.result.now c.take_reply.new.self c.requires.peer (sym c.index_mut-peer.ensures.value)
    (took_more traffic g.L.Link.end _ _ _ _ _ _ _ c.take_reply.ensures)

pub returns-then-not-owes_reply-clause-held_up : goal.returns-then-not-owes_reply-clause-held_up
returns-then-not-owes_reply-clause-held_up g c quiet =
    let self = c.args.self.now in
    let old = c.index_mut-peer.result.now in
    record {
      request = refl;
      begun = refl;
      gate = refl;
      store = refl;
      done = refl;
      peers = one_pair peer_state _ self.peers.items c.args.at old old c.requires.peer (sym c.index_mut-peer.ensures.value) (λ k a apart. (refl, λ is. absurd (apart is)))
          (refl, λ is owes none. absurd (true≢false (sym (c.owes_reply.ensures.1 (owes, none)) ∙ c.if-not-owes_reply.true)));
    }

pub returns-clause-held_up : goal.returns-clause-held_up
returns-clause-held_up g c quiet =
    let self = c.args.self.now in
    let traffic = g.L.Link.traffic in
    let old = c.index_mut-peer.result.now in
    let here = sym c.index_mut-peer.ensures.value in
    let n = took_none traffic g.L.Link.end _ _ _ _ _ _ _ c.take_reply.ensures (one_none traffic self.peers.items c.args.at old c.take_reply.new.self c.requires.peer here quiet) in
    record {
      request = refl;
      begun = refl;
      gate = refl;
      store = refl;
      done = refl;
      peers = one_pair peer_state _ self.peers.items c.args.at old c.take_reply.new.self c.requires.peer here (λ k a apart. (refl, λ is. absurd (apart is))) (n.0, λ is owes none. n.1);
    }
