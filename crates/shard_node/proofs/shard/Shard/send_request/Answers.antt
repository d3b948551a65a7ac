use Rattle.std.proofs.Common.{IsTrue, true, false, true≢false, inl, ◌≡◌, ◌+◌, length, Some, arith, refl, sym, ap, subst, ◌∙◌}
use Rattle.std.specs.Vec.{with_item}
use Rattle.trace_text.specs.Parsed.{trace_in}
use Rattle.shard_rings.specs.Lanes.{on}
use Rattle.shard_node.specs.Due.{operations_for}
use Rattle.shard_parts.specs.Peers.{peer_state}
use Rattle.shard_node.specs.inside.Shards.{HasCursors}
use Rattle.shard_node.specs.inside.Steps.{IsStep}
use Rattle.shard_node.proofs.OwnParts.OwnLog.{few-begun}
use Rattle.shard_node.proofs.Standing.PeerPairs.{one_pair, one_pair_in}
use Rattle.shard_node.proofs.Requests.SendsRequest.{at_place, few_owed, goes_elsewhere, request_sent, request_waits}
use Rattle.shard_node.proofs.Replies.TakesReplies.{same_all}
use Rattle.shard_rings.specs.declared.link.Lane.TheVariants.{Requests}
use Rattle.part_lemmas.proofs.Packets.Passed.{packets_same, packets_sent}
use Rattle.shard_node.proofs.Turning.PeerGoes.{asked_goes, goes_same, refused_goes}
use Rattle.shard_node.proofs.Turning.StepGoes.{never_so, no_more, one_so}
use Rattle.shard_node.specs.declared.waiting.Waiting.{Waiting}
use Rattle.shard_node.proofs.shard.Shard.send_request.Goals as goal

pub overflow_add-asked : goal.overflow_add-asked
overflow_add-asked g c =
    let self = c.args.self.now in
    let x = c.requires.consistent in
    let old = c.index_mut-asked.result.now in
    let waiting = c.in-Some.field-0 in
    let here = sym c.index_mut-asked.ensures.value in
    let is : self.request ≡ Some waiting = sym c.take.ensures.value ∙ c.in-Some.is in
    let at = at_place self x c.place_of-at.result waiting.peer old c.place_of-at.ensures in
    let same : waiting.peer ≡ old.shard = sym at.1 ∙ ap (λ p. p.shard) here in
    let cursors : HasCursors self old = subst (HasCursors self) here (x.cursors c.place_of-at.result old at.0) in
    let all = ap length (same_all self x old.answers cursors.answers_trace cursors.answers_origin ∙ ap (operations_for (trace_in self.trace.now) self.shards self.shard) cursors.answers_shard) in
    let before = c.facts.ensures.before in
    let owed = few_owed self x c.place_of-at.result old waiting at.0 here is same (omega (arith, all, before)) in
    let few = few-begun self x in
    omega (arith, owed, few)

pub returns-in-Some-send : goal.returns-in-Some-send
returns-in-Some-send g c =
    let self = c.args.self.now in
    let x = c.requires.consistent in
    let traffic = g.L.Link.traffic in
    let old = c.index_mut-asked.result.now in
    let waiting = c.in-Some.field-0 in
    let here = sym c.index_mut-asked.ensures.value in
    let is : self.request ≡ Some waiting = sym c.take.ensures.value ∙ c.in-Some.is in
    let at = at_place self x c.place_of-at.result waiting.peer old c.place_of-at.ensures in
    let same : waiting.peer ≡ old.shard = sym at.1 ∙ ap (λ p. p.shard) here in
    let vec = with_item self.peers c.place_of-at.result (record old { link = c.send.new.link }) in
    record {
      step = request_waits traffic g.L.Link.end self x vec c.place_of-at.result old c.send.new.link waiting at.0 here is same c.send.ensures.same_end c.in-Some-send.block refl c.in-Some-send.ensures.sends;
      received = λ lane. one_pair peer_state _ self.peers.items c.place_of-at.result old (record old { link = c.send.new.link }) at.0 here
          (λ k a apart. (refl, refl)) (refl, ap (on lane) c.in-Some-send.ensures.sends.1.received);
      goes = record {
        peers = one_pair peer_state _ self.peers.items c.place_of-at.result old (record old { link = c.send.new.link }) at.0 here (λ k a apart. goes_same traffic (peer_state a))
            (refused_goes traffic g.L.Link.end old c.send.new.link c.in-Some-send.ensures.sends.1);
        done = omega arith;
        backs = omega arith;
        looks = omega arith;
        tally = no_more self.tally;
      };
      own = (refl, refl);
      moved = never_so traffic (IsTrue false) self.peers.items c.place_of-at.result old (record old { link = c.send.new.link }) at.0 here (self.journal.entries)
          (λ is. true≢false (sym is)) (packets_same (traffic old.link) (traffic c.send.new.link) c.in-Some-send.ensures.sends.1.sent c.in-Some-send.ensures.sends.1.received);
      held_up = λ unmet. record {
        request = ap (λ b. let w : Waiting = record { peer = waiting.peer; block = b } in Some w) c.in-Some-send.ensures.sends.0 ∙ sym is;
        begun = refl;
        gate = refl;
        store = refl;
        done = refl;
        peers = one_pair_in peer_state _ self.peers.items c.place_of-at.result old (record old { link = c.send.new.link }) at.0 here
            (λ k d below apart. (refl, λ other there named. absurd (goes_elsewhere self x k c.place_of-at.result d old waiting other below at.0 apart here is there same named)))
            (refl, λ other there named. c.in-Some-send.ensures.sends.1.rose);
      };
    }

pub returns-in-None : goal.returns-in-None
returns-in-None g c =
    let self = c.args.self.now in
    let x = c.requires.consistent in
    let traffic = g.L.Link.traffic in
    let old = c.index_mut-asked.result.now in
    let waiting = c.in-Some.field-0 in
    let here = sym c.index_mut-asked.ensures.value in
    let is : self.request ≡ Some waiting = sym c.take.ensures.value ∙ c.in-Some.is in
    let at = at_place self x c.place_of-at.result waiting.peer old c.place_of-at.ensures in
    let same : waiting.peer ≡ old.shard = sym at.1 ∙ ap (λ p. p.shard) here in
    let vec = with_item self.peers c.place_of-at.result (record old { link = c.send.new.link; owed = old.owed + 1 }) in
    let sent = request_sent traffic g.L.Link.end self x vec c.place_of-at.result old c.send.new.link waiting at.0 here is same c.send.ensures.same_end refl c.in-None.ensures.sends in
    record {
      step = subst (λ r. IsStep traffic g.L.Link.end self (record self { peers = vec; request = r })) (sym c.take.ensures.after) sent;
      received = λ lane. one_pair peer_state _ self.peers.items c.place_of-at.result old (record old { link = c.send.new.link; owed = old.owed + 1 }) at.0 here
          (λ k a apart. (refl, refl)) (refl, ap (on lane) c.in-None.ensures.sends.received);
      goes = record {
        peers = one_pair peer_state _ self.peers.items c.place_of-at.result old (record old { link = c.send.new.link; owed = old.owed + 1 }) at.0 here (λ k a apart. goes_same traffic (peer_state a))
            (asked_goes traffic g.L.Link.end old c.send.new.link (old.owed + 1) _ c.in-None.ensures.sends);
        done = omega arith;
        backs = omega arith;
        looks = omega arith;
        tally = no_more self.tally;
      };
      own = (refl, refl);
      moved = (
        λ is. inl ((one_so traffic (IsTrue true) self.peers.items c.place_of-at.result old (record old { link = c.send.new.link; owed = old.owed + 1 }) at.0 here
            (λ so. let e = packets_sent Requests _ (traffic old.link) (traffic c.send.new.link) c.in-None.ensures.sends.sent c.in-None.ensures.sends.received in omega (arith, e), λ so. refl)).0 refl),
        λ so. refl,
      );
      held_up = λ unmet. absurd (true≢false unmet);
    }
