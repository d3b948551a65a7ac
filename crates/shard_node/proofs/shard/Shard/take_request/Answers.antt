-- A packet of a peer is received and done.
use Rattle.std.proofs.Common.{ap, arith, inl, length, ◌≡◌, get_or, refl, sym, subst, ◌∙◌}
use Rattle.shard_parts.specs.Peers.{peer_state}
use Rattle.shard_node.proofs.Turning.StraysCame.{one_request, request_alone, request_tells}
use Rattle.shard_node.proofs.Standing.PeerPairs.{one_pair, seen_there, set_elsewhere, set_seen}
use Rattle.std.proofs.lemmas.List.{get_or_default}
use Rattle.shard_parts.specs.declared.peer.Peer.{Peer}
use Rattle.shard_node.specs.inside.Serves.{MayAsk}
use Rattle.std.specs.Vec.{with_item}
use Rattle.shard_node.specs.inside.Shards.{HasCursors, node_state}
use Rattle.shard_node.proofs.Requests.ServesOne.{puts_room, serves_one, spare_room}
use Rattle.shard_node.proofs.Turning.PeerGoes.{goes_same, served_goes, served_more}
use Rattle.shard_node.proofs.Turning.HeldUps.{served_none}
use Rattle.shard_node.proofs.Turning.StepGoes.{one_none, one_so, served_rises, served_tally}
use Rattle.cache_model.specs.Legal.{done}
use Rattle.cache_lemmas.proofs.Laws.{a_journal_goes_on-leads, a_journal_goes_on-replied, a_journal_goes_on-evicts, evictions_in_turn_are_legal-legal, evictions_in_turn_are_legal-above, a_journal_goes_on-number, replies_hold_what_was_put-part}
use Rattle.row_lemmas.proofs.Laws.{evictions_are_counted-count}
use Rattle.shard_node.proofs.shard.Shard.take_request.Goals as goal

pub serve-requires : goal.serve-requires
serve-requires g c =
    let self = c.args.self.now in
    let old : Peer g.row.L.Denot = c.index_mut.result.now in
    let traffic = g.L.Link.traffic in
    let x = c.requires.consistent in
    let within = c.requires.peer in
    let here : (d : Peer g.row.L.Denot) → get_or self.peers.items c.args.at d ≡ old = λ d. get_or_default self.peers.items c.args.at d old within ∙ sym c.index_mut.ensures.value in
    let may : MayAsk old = subst (λ (p : Peer g.row.L.Denot). MayAsk p) (c.index.ensures ∙ here c.index.result.now) (c.may_ask.ensures.0 c.if-not-may_ask.false) in
    let cursors : HasCursors self old = subst (HasCursors self) (here old) (x.cursors c.args.at old within) in
    λ κs. (
      (refl, tt),
      (
        may,
        (
          cursors.asks_trace,
          (
            c.is_idle.ensures.idle.0 c.if-not-is_idle.false,
            (
              x.unguarded,
              (
                puts_room traffic g.L.Link.end self c.args.at old old within here x,
                (spare_room traffic g.L.Link.end self c.args.at old old within here x, (let rows = x.room.rows in omega (arith, rows))),
              ),
            ),
          ),
        ),
      ),
    )

pub returns-clause-step : goal.returns-clause-step
returns-clause-step g c =
    let self = c.args.self.now in
    let old : Peer g.row.L.Denot = c.index_mut.result.now in
    let within = c.requires.peer in
    let here : (d : Peer g.row.L.Denot) → get_or self.peers.items c.args.at d ≡ old = λ d. get_or_default self.peers.items c.args.at d old within ∙ sym c.index_mut.ensures.value in
    let may : MayAsk old = subst (λ (p : Peer g.row.L.Denot). MayAsk p) (c.index.ensures ∙ here c.index.result.now) (c.may_ask.ensures.0 c.if-not-may_ask.false) in
    serves_one g.L.Link.traffic g.L.Link.end self c.args.at old c.serve.new.peer within here c.requires.consistent
    (record {
      leads = a_journal_goes_on-leads;
      replied = a_journal_goes_on-replied;
      evicts = a_journal_goes_on-evicts;
      legal = evictions_in_turn_are_legal-legal;
      above = evictions_in_turn_are_legal-above;
    })
    a_journal_goes_on-number replies_hold_what_was_put-part evictions_are_counted-count
    c.requires.consistent.read.spelled.numbered c.requires.consistent.formed c.is_idle.ensures.tickets may
    c.serve.new.store c.serve.new.journal c.serve.new.tally c.serve.result c.serve.ensures

pub returns-clause-replies : goal.returns-clause-replies
returns-clause-replies g c =
    let self = c.args.self.now in
    let old : Peer g.row.L.Denot = c.index_mut.result.now in
    let traffic = g.L.Link.traffic in
    one_pair peer_state _ self.peers.items c.args.at old c.serve.new.peer c.requires.peer (sym c.index_mut.ensures.value) (λ k a apart. (refl, refl))
    (request_alone traffic g.L.Link.end g.G.Gate.holds _ _ _ _ _ _ _ _ _ c.serve.ensures)

pub returns-clause-one : goal.returns-clause-one
returns-clause-one g c =
    one_pair peer_state _ c.args.self.now.peers.items c.args.at c.index_mut.result.now c.serve.new.peer c.requires.peer (sym c.index_mut.ensures.value) (λ k a apart. omega arith)
    (one_request g.L.Link.traffic g.L.Link.end g.G.Gate.holds _ _ _ _ _ _ _ _ _ c.serve.ensures)

pub returns-clause-others : goal.returns-clause-others
returns-clause-others g c k apart = set_elsewhere peer_state c.args.self.now.peers.items c.args.at c.serve.new.peer k apart

pub returns-clause-tells : goal.returns-clause-tells
returns-clause-tells g c stands =
    let self = c.args.self.now in
    let old : Peer g.row.L.Denot = c.index_mut.result.now in
    let traffic = g.L.Link.traffic in
    let here : (d : Peer g.row.L.Denot) → get_or self.peers.items c.args.at d ≡ old = λ d. get_or_default self.peers.items c.args.at d old c.requires.peer ∙ sym c.index_mut.ensures.value in
    let may : MayAsk old = subst (λ (p : Peer g.row.L.Denot). MayAsk p) (c.index.ensures ∙ here c.index.result.now) (c.may_ask.ensures.0 c.if-not-may_ask.false) in
    request_tells traffic g.L.Link.end g.G.Gate.holds self
    (node_state (record self { peers = with_item self.peers c.args.at c.serve.new.peer; store = c.serve.new.store; journal = c.serve.new.journal; tally = c.serve.new.tally }))
    c.args.at old c.serve.new.peer
    (seen_there peer_state self.peers.items c.args.at old c.requires.peer (here old)) (set_seen peer_state self.peers.items c.args.at c.serve.new.peer c.requires.peer) stands
    self.store c.serve.new.store self.journal c.serve.new.journal self.tally c.serve.new.tally c.serve.result may c.serve.ensures

pub returns-clause-goes : goal.returns-clause-goes
returns-clause-goes g c =
    let self = c.args.self.now in
    let traffic = g.L.Link.traffic in
    let rises = served_rises traffic g.L.Link.end _ _ _ _ _ _ _ _ _ c.requires.consistent.counted.backs c.serve.ensures in
    record {
      peers = one_pair peer_state _ self.peers.items c.args.at c.index_mut.result.now c.serve.new.peer c.requires.peer (sym c.index_mut.ensures.value) (λ k a apart. goes_same traffic (peer_state a))
          (served_goes traffic g.L.Link.end _ _ _ _ _ _ _ _ _ c.serve.ensures);
      done = rises.2;
      backs = rises.0;
      looks = rises.1;
      tally = served_tally traffic g.L.Link.end _ _ _ _ _ _ _ _ _ c.serve.ensures;
    }

pub returns-clause-moved : goal.returns-clause-moved
returns-clause-moved g c =
    let traffic = g.L.Link.traffic in
    one_so traffic _ c.args.self.now.peers.items c.args.at c.index_mut.result.now c.serve.new.peer c.requires.peer (sym c.index_mut.ensures.value)
    (served_more traffic g.L.Link.end _ _ _ _ _ _ _ _ _ c.serve.ensures)

pub returns-clause-held_up : goal.returns-clause-held_up
returns-clause-held_up g c quiet =
    let self = c.args.self.now in
    let traffic = g.L.Link.traffic in
    let old = c.index_mut.result.now in
    let here = sym c.index_mut.ensures.value in
    let n = served_none traffic g.L.Link.end _ _ _ _ _ _ _ _ _ c.serve.ensures (one_none traffic self.peers.items c.args.at old c.serve.new.peer c.requires.peer here quiet) in
    record {
      request = refl;
      begun = refl;
      gate = refl;
      store = n.2;
      done = ap (λ j. length (done j.entries)) n.3;
      peers = one_pair peer_state _ self.peers.items c.args.at old c.serve.new.peer c.requires.peer here (λ k a apart. (refl, λ is. absurd (apart is))) (n.0, λ is unheard none replied. inl n.1);
    }
