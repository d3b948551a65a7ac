-- What came of a peer in one try of a lane was set aside exactly where the lists say so.
use Rattle.std.proofs.Common.{◌≡◌, ℕ, zero, suc, ◌+◌, ◌≤◌, List, [], ◌∷◌, ◌++◌, length, map, drop, slice_get, Option, Some, None, inl, inr, arith, refl, sym, ap, subst, ◌∙◌, true≢false}
use Rattle.std.specs.Option.{option_map}
use Rattle.std.proofs.lemmas.Bool.{cases_eq}
use Rattle.std.proofs.lemmas.List.{length-append, length-map, same_from_push}
use Rattle.std.proofs.lemmas.Option.{get_or_from_slice_get, slice_get_within, same_Some}
use Rattle.rows.specs.Operation.{Operation}
use Rattle.trace_text.specs.Parsed.{trace_in}
use Rattle.trace_text.specs.Trace.{Trace}
use Rattle.run_log.specs.JournalState.{JournalState}
use Rattle.run_log.specs.Replies.{Replies as ReplyLog}
use Rattle.shard_rings.specs.Lanes.{LinkEnd, Lanes, on, Traffic}
use Rattle.shard_rings.specs.Request.{request}
use Rattle.shard_rings.specs.declared.link.Lane.{Lane}
use Rattle.shard_rings.specs.declared.link.Lane.TheVariants.{Requests, Replies}
use Rattle.shard_rings.specs.declared.link.Packet.{Packet}
use Rattle.shard_store.specs.Stores.{StoreState}
use Rattle.shard_parts.specs.declared.stray_packet.StrayPacket.{StrayPacket}
use Rattle.shard_parts.specs.declared.stray_packet.Tried.{Tried}
use Rattle.shard_parts.specs.declared.stray_packet.Tried.TheVariants.{Nothing, Expected, Other}
use Rattle.shard_parts.specs.declared.peer.Peer.{Peer}
use Rattle.shard_node.specs.declared.shard.Shard.{Shard}
use Rattle.shard_node.specs.Nodes.{NodeState, PeerState}
use Rattle.shard_node.specs.Due.{Answers, AnswersNot, due, is_next, is_same, number_in, number_said, operations_for, requests_taken, said}
use Rattle.shard_node.specs.Standing.{InStanding}
use Rattle.shard_node.specs.Turns.{IsStray, expected_number, expected_said}
use Rattle.shard_node.specs.inside.Moves.{ReceivesOneStray, TriedSays}
use Rattle.shard_parts.specs.Peers.{peer_state}
use Rattle.shard_parts.specs.Receives.{IsNoReply, IsReply, TriesReply, next_answer}
use Rattle.shard_node.specs.inside.Serves.{IsNoRequest, MayAsk, TriesRequest, due_next}
use Rattle.shard_node.specs.inside.Shards.{HasCursors, node_state}
use Rattle.part_lemmas.proofs.Packets.DueNext.{due-next, due_for, taken-most}
use Rattle.shard_node.proofs.Standing.Peerwise.{StandsWith, each_stands}
use Rattle.shard_node.proofs.Replies.Logged.{get_first}
use Rattle.shard_node.proofs.Turning.TellsStrays.{one-more, takes_as_many}

-- the number of what is due next
due-said : (operations : List Operation) (taken : ℕ) → taken ≤ length operations
    → expected_said (slice_get (due_for operations) taken) ≡ number_said (option_map request (slice_get (drop taken operations) 0))
due-said [] zero within = refl
due-said [] (suc taken) within = absurd (omega (arith, within))
due-said (operation ∷ operations) zero within = refl
due-said (operation ∷ operations) (suc taken) within = due-said operations taken (omega (arith, within))

module _ {L G : Type 0} (traffic : L → Traffic) (end : L → LinkEnd) (holds : G → ℕ) where
  -- one packet came of a peer on the lane, and was set aside
  record OneCame (lane : Lane) (node : NodeState L G) (stray : StrayPacket) (a b : PeerState L) : Type 0 where
    packet : Packet
    came : on lane (traffic b.link).received ≡ on lane (traffic a.link).received ++ packet ∷ []
    is : IsStray traffic holds lane node a.shard (on lane (traffic a.link).received) packet stray

  one_came : (lane : Lane) (node now : NodeState L G) (k : ℕ) (a b : PeerState L) (stray : StrayPacket) → slice_get node.peers k ≡ Some a → slice_get now.peers k ≡ Some b
      → ReceivesOneStray traffic holds lane node now k stray → OneCame lane node stray a b
  one_came lane node now k a b stray here there has =
      subst (λ (p : PeerState L). OneCame lane node stray p b) (same_Some has.0 a (sym has.3 ∙ here))
      (subst (λ (p : PeerState L). OneCame lane node stray has.0 p) (same_Some has.1 b (sym has.4 ∙ there)) (record { packet = has.2; came = has.5; is = has.6 }))

  pub nothing_came : (lane : Lane) (node now : NodeState L G) (k : ℕ) (a b : PeerState L) → slice_get node.peers k ≡ Some a → slice_get now.peers k ≡ Some b
      → on lane (traffic b.link).received ≡ on lane (traffic a.link).received → TriedSays (ReceivesOneStray traffic holds lane node now k) Nothing
  nothing_came lane node now k a b here there same stray has =
      let one = one_came lane node now k a b stray here there has in one-more (on lane (traffic a.link).received) one.packet (sym same ∙ one.came)

  stands_there : (node : NodeState L G) (k : ℕ) (a : PeerState L) → InStanding traffic node → slice_get node.peers k ≡ Some a → StandsWith traffic node a
  stands_there node k a stands here =
      subst (λ (p : PeerState L). StandsWith traffic node p) (get_or_from_slice_get node.peers k a a here) (each_stands traffic node stands k a (slice_get_within node.peers k a here))

  -- on the other lane nothing came
  pub reply_alone : (old new : Peer L) (log logged : ReplyLog) (tally tally' : ℕ) (tried : Tried) → TriesReply traffic end old new log logged tally tally' tried
      → (new.shard ≡ old.shard) × ((traffic new.link).received.requests ≡ (traffic old.link).received.requests)
  reply_alone old new log logged tally tally' tried (inl none) =
      (ap (λ (p : Peer L). p.shard) none.0.same, ap (λ (ps : Lanes (List Packet)). ps.requests) none.0.came.received)
  reply_alone old new log logged tally tally' tried (inr takes) =
      (ap (λ (p : Peer L). p.shard) takes.same, ap (λ (ps : Lanes (List Packet)). ps.requests) takes.came.received)

  pub request_alone : (old new : Peer L) (store store' : StoreState) (journal journal' : JournalState) (tally tally' : ℕ) (tried : Tried)
      → TriesRequest traffic end old new store store' journal journal' tally tally' tried
      → (new.shard ≡ old.shard) × ((traffic new.link).received.replies ≡ (traffic old.link).received.replies)
  request_alone old new store store' journal journal' tally tally' tried (inl none) =
      (ap (λ (p : Peer L). p.shard) none.0.same, ap (λ (ps : Lanes (List Packet)). ps.replies) none.0.came.received)
  request_alone old new store store' journal journal' tally tally' tried (inr serves) =
      (ap (λ (p : Peer L). p.shard) serves.same, ap (λ (ps : Lanes (List Packet)). ps.replies) serves.came.received)

  -- on its own lane one packet came at most
  pub one_reply : (old new : Peer L) (log logged : ReplyLog) (tally tally' : ℕ) (tried : Tried) → TriesReply traffic end old new log logged tally tally' tried
      → length (traffic new.link).received.replies ≤ 1 + length (traffic old.link).received.replies
  one_reply old new log logged tally tally' tried (inl none) =
      let e = ap (λ (ps : Lanes (List Packet)). length ps.replies) none.0.came.received in omega (arith, e)
  one_reply old new log logged tally tally' tried (inr takes) =
      let e = ap (λ (ps : Lanes (List Packet)). length ps.replies) takes.came.received in
      let all = length-append (traffic old.link).received.replies (takes.packet ∷ []) in
      omega (arith, e, all)

  pub one_request : (old new : Peer L) (store store' : StoreState) (journal journal' : JournalState) (tally tally' : ℕ) (tried : Tried)
      → TriesRequest traffic end old new store store' journal journal' tally tally' tried
      → length (traffic new.link).received.requests ≤ 1 + length (traffic old.link).received.requests
  one_request old new store store' journal journal' tally tally' tried (inl none) =
      let e = ap (λ (ps : Lanes (List Packet)). length ps.requests) none.0.came.received in omega (arith, e)
  one_request old new store store' journal journal' tally tally' tried (inr serves) =
      let e = ap (λ (ps : Lanes (List Packet)). length ps.requests) serves.came.received in
      let all = length-append (traffic old.link).received.requests (serves.packet ∷ []) in
      omega (arith, e, all)

  module _ (shard : Shard L G) (now : NodeState L G) (k : ℕ) (old new : Peer L) (here : slice_get (node_state shard).peers k ≡ Some (peer_state old))
      (there : slice_get now.peers k ≡ Some (peer_state new)) (stands : InStanding traffic (node_state shard)) where
    abbrev node : NodeState L G
    node = node_state shard

    abbrev a : PeerState L
    a = peer_state old

    abbrev b : PeerState L
    b = peer_state new

    abbrev trace : Trace
    trace = trace_in shard.trace.now

    standing : StandsWith traffic node a
    standing = stands_there node k a stands here

    -- on the lane of replies
    abbrev answered : List Operation
    answered = operations_for trace shard.shards shard.shard old.shard

    next_is : next_answer old ≡ slice_get answered (length standing.logged.replies)
    next_is = ap (λ os. slice_get os 0) standing.logged.answers ∙ get_first answered (length standing.logged.replies)

    pub reply_tells : (log logged : ReplyLog) (tally tally' : ℕ) (tried : Tried) → HasCursors shard old
        → TriesReply traffic end old new log logged tally tally' tried → TriedSays (ReceivesOneStray traffic holds Replies node now k) tried
    reply_tells log logged tally tally' tried cursors (inl none) =
        subst (λ t. TriedSays (ReceivesOneStray traffic holds Replies node now k) t) (sym none.3)
        (nothing_came Replies node now k a b here there (ap (λ (ps : Lanes (List Packet)). ps.replies) none.0.came.received))
    reply_tells log logged tally tally' Nothing cursors (inr takes) = absurd takes.ends
    reply_tells log logged tally tally' (Other stray) cursors (inr takes) =
        let e : IsNoReply takes.packet old new log logged stray = takes.ends in
        let rs = standing.logged.replies in (
          a,
          b,
          takes.packet,
          here,
          there,
          ap (λ (ps : Lanes (List Packet)). ps.replies) takes.came.received,
          (
            rs,
            standing.logged.taken,
            subst (λ o. AnswersNot trace o takes.packet) next_is (subst (λ t. AnswersNot (trace_in t) (next_answer old) takes.packet) cursors.answers_trace e.none),
            e.stray ∙ ap (λ o. record { peer = old.shard; expected = expected_number o; found = number_in takes.packet }) next_is,
          ),
        )
    reply_tells log logged tally tally' Expected cursors (inr takes) = λ stray has.
        let e : IsReply takes.packet old new log logged = takes.ends in
        let one = one_came Replies node now k a b stray here there has in
        let is : IsStray traffic holds Replies node old.shard (traffic old.link).received.replies one.packet stray = one.is in
        let came : (traffic new.link).received.replies ≡ (traffic old.link).received.replies ++ takes.packet ∷ [] = ap (λ (ps : Lanes (List Packet)). ps.replies) takes.came.received in
        let same : one.packet ≡ takes.packet = (same_from_push (traffic old.link).received.replies (traffic old.link).received.replies one.packet takes.packet (sym one.came ∙ came)).1 in
        let many : length is.0 ≡ length standing.logged.replies = takes_as_many trace answered (traffic old.link).received.replies is.0 standing.logged.replies is.1 standing.logged.taken in
        let answers : Answers trace (next_answer old) takes.packet e.reply = subst (λ t. Answers (trace_in t) (next_answer old) takes.packet e.reply) cursors.answers_trace e.answers in
        is.2 e.reply
        (subst (λ p. Answers trace (slice_get answered (length is.0)) p e.reply) (sym same)
        (subst (λ o. Answers trace o takes.packet e.reply) (next_is ∙ ap (slice_get answered) (sym many)) answers))

    -- on the lane of requests
    abbrev asked : List Operation
    asked = operations_for trace shard.shards old.shard shard.shard

    abbrev dues : List (Option (List ℕ))
    dues = due trace shard.shards old.shard shard.shard

    abbrev taken : ℕ
    taken = requests_taken dues (traffic old.link).received.requests

    within : MayAsk old → taken ≤ length asked
    within may =
        let most = taken-most dues (traffic old.link).received.requests in
        let all = length-append (map (λ (o : Operation). Some (request o)) asked) (None ∷ []) in
        let many = length-map asked (λ (o : Operation). Some (request o)) in
        elim (cases_eq taken (length dues)) [
          | inl same ↦ absurd (true≢false (sym (standing.placed.heard.1 same) ∙ may.unheard))
          | inr other ↦ omega (arith, most, all, many, other)
        ]

    is_due : MayAsk old → (packet : Packet) → is_next dues taken packet ≡ is_same (due_next old) (said packet)
    is_due may packet = due-next asked taken packet (within may) ∙ ap (λ os. is_same (option_map request (slice_get os 0)) (said packet)) (sym standing.placed.asks)

    said_due : MayAsk old → expected_said (slice_get dues taken) ≡ number_said (due_next old)
    said_due may = due-said asked taken (within may) ∙ ap (λ os. number_said (option_map request (slice_get os 0))) (sym standing.placed.asks)

    pub request_tells : (store store' : StoreState) (journal journal' : JournalState) (tally tally' : ℕ) (tried : Tried) → MayAsk old
        → TriesRequest traffic end old new store store' journal journal' tally tally' tried → TriedSays (ReceivesOneStray traffic holds Requests node now k) tried
    request_tells store store' journal journal' tally tally' tried may (inl none) =
        subst (λ t. TriedSays (ReceivesOneStray traffic holds Requests node now k) t) (sym none.4)
        (nothing_came Requests node now k a b here there (ap (λ (ps : Lanes (List Packet)). ps.requests) none.0.came.received))
    request_tells store store' journal journal' tally tally' Nothing may (inr serves) = absurd serves.ends
    request_tells store store' journal journal' tally tally' (Other stray) may (inr serves) =
        let e : IsNoRequest serves.packet old new store store' journal journal' stray = serves.ends in (
          a,
          b,
          serves.packet,
          here,
          there,
          ap (λ (ps : Lanes (List Packet)). ps.requests) serves.came.received,
          (
            is_due may serves.packet ∙ e.other,
            e.stray ∙ ap (λ n. record { peer = old.shard; expected = n; found = number_in serves.packet }) (sym (said_due may)),
          ),
        )
    request_tells store store' journal journal' tally tally' Expected may (inr serves) = λ stray has.
        let one = one_came Requests node now k a b stray here there has in
        let is : IsStray traffic holds Requests node old.shard (traffic old.link).received.requests one.packet stray = one.is in
        let came : (traffic new.link).received.requests ≡ (traffic old.link).received.requests ++ serves.packet ∷ [] = ap (λ (ps : Lanes (List Packet)). ps.requests) serves.came.received in
        let same : one.packet ≡ serves.packet = (same_from_push (traffic old.link).received.requests (traffic old.link).received.requests one.packet serves.packet (sym one.came ∙ came)).1 in
        true≢false (sym (is_due may serves.packet ∙ serves.ends.0) ∙ (ap (is_next dues taken) (sym same) ∙ is.0))
