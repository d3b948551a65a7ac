-- A shard sends the request that waits, or it waits on.
use mathlib.Core.List.{IsPrefix}
use Rattle.std.proofs.Common.{◌≡◌, ◌≢◌, ◌↔◌, ◌==◌, ℕ, ◌+◌, ◌<◌, ◌≤◌, List, [], ◌∷◌, ◌++◌, length, map, take, drop}
use Rattle.std.proofs.Common.{get_or, slice_get, slice_set, sum_by, append-nil, arith, refl, true, sym, ap, subst, ◌∙◌, if◌then◌else◌, Option, Some, None, Vec}
use Rattle.std.specs.List.{All}
use Rattle.std.specs.declared.alloc.Global.{Global}
use Rattle.std.proofs.lemmas.Bool.{eq-eqb, ne_eqb}
use Rattle.std.proofs.lemmas.List.{get_or-map, length-append, length-map, length-set, length-take, length_push, map-set, map_push, same_from_push}
use Rattle.std.proofs.lemmas.List.Sums.{count_by-le-length, length-filter}
use Rattle.std.proofs.lemmas.Option.{get_or_from_slice_get, slice_get_within}
use Rattle.rows.specs.Operation.{Operation}
use Rattle.trace_text.specs.Parsed.{trace_in}
use Rattle.trace_text.specs.Parts.{parts}
use Rattle.cache_model.specs.Legal.{reply_at}
use Rattle.foreign_list.specs.Blocks.{Block}
use Rattle.shard_rings.specs.Lanes.{LinkEnd, Lanes, Traffic}
use Rattle.shard_rings.specs.Request.{request}
use Rattle.shard_rings.specs.declared.link.Lane.TheVariants as lanes
use Rattle.shard_rings.specs.declared.link.Packet.{Packet}
use Rattle.shard_rings.specs.declared.link.Packet.TheVariants.{Block as InBlock}
use Rattle.shard_parts.specs.declared.peer.Peer.{Peer}
use Rattle.shard_node.specs.declared.shard.Shard.{Shard}
use Rattle.shard_node.specs.declared.waiting.Waiting.{Waiting}
use Rattle.shard_node.specs.Nodes.{NodeState, PeerState, others}
use Rattle.shard_node.specs.Due.{Takes, due, operations_for, requests_taken, said}
use Rattle.shard_node.specs.Standing.{InStanding, AreReplies, ReleasesAll, blocks, done_for, one_if, waiting_reply, waiting_request}
use Rattle.shard_parts.specs.Peers.{peer_state}
use Rattle.part_lemmas.specs.Sends.{IsRefused, IsSent}
use Rattle.shard_node.specs.inside.Shards.{AreUnanswered, HasAsked, IsConsistent, issued_by, node_state}
use Rattle.shard_node.specs.inside.Steps.{IsStep}
use Rattle.part_lemmas.specs.Work.{bodies, puts_among}
use Rattle.shard_node.proofs.Standing.Strays.{stray_with}
use Rattle.shard_node.proofs.Standing.Consistent.{peers_differ}
use Rattle.shard_node.proofs.Standing.Peerwise.{StandsWith, all_but, all_stand, each_stands, receives_one, stays}
use Rattle.shard_node.proofs.Standing.Plans.{same_seen, seen_each}
use Rattle.shard_node.proofs.Standing.Stands.{sums-agree}
use Rattle.shard_node.proofs.Replies.TakesPackets.{one_more_block}
use Rattle.shard_node.proofs.Replies.TakesReplies.{at_set, peer_moved}

-- What a waiting request is, seen by the peers.

pub waits-for : (request : Option Waiting) (waiting : Waiting) (q : ℕ) → request ≡ Some waiting → waiting.peer ≡ q → waiting_request request q ≡ Some waiting.block.piece.bytes ∷ []
waits-for request waiting q is same =
    ap (λ r. waiting_request r q) is ∙ ap (λ b. if b then Some waiting.block.piece.bytes ∷ [] else []) (eq-eqb waiting.peer q same)

pub waits-not : (request : Option Waiting) (waiting : Waiting) (q : ℕ) → request ≡ Some waiting → waiting.peer ≢ q → waiting_request request q ≡ []
waits-not request waiting q is other =
    ap (λ r. waiting_request r q) is ∙ ap (λ b. if b then Some waiting.block.piece.bytes ∷ [] else []) (ne_eqb waiting.peer q other)

module _ {L G : Type 0} (traffic : L → Traffic) where
  -- the standing with the peer to which the request was sent
  pub sent_to : (node : NodeState L G) (peers : List (PeerState L)) (a : PeerState L) (link : L) (waiting : Waiting) → node.request ≡ Some waiting → waiting.peer ≡ a.shard
      → IsSent lanes.Requests (InBlock waiting.block) (traffic a.link) (traffic link) → StandsWith traffic node a
      → StandsWith traffic (record node { peers = peers; request = None }) (record a { link = link; keeps = record a.keeps { owed = a.keeps.owed + 1 } })
  sent_to node peers a link waiting is same sends x =
      let bytes : List ℕ = waiting.block.piece.bytes in
      let dues = due node.trace node.shards node.shard a.shard in
      let operations = operations_for node.trace node.shards node.shard a.shard in
      let sent = (traffic a.link).sent.requests in
      let sent_is : (traffic link).sent.requests ≡ sent ++ InBlock waiting.block ∷ [] = ap (λ (ps : Lanes (List Packet)). ps.requests) sends.sent in
      let replies_is : (traffic link).sent.replies ≡ (traffic a.link).sent.replies = ap (λ (ps : Lanes (List Packet)). ps.replies) sends.sent in
      let waits = waits-for node.request waiting a.shard is same in
      let said_now : map said (traffic link).sent.requests ≡ map said sent ++ Some bytes ∷ [] = ap (map said) sent_is ∙ map_push said sent (InBlock waiting.block) in
      let next : IsPrefix (map said sent ++ Some bytes ∷ []) dues = subst (λ ws. IsPrefix (map said sent ++ ws) dues) waits x.requests.next in
      let next_now : IsPrefix (map said (traffic link).sent.requests) dues = subst (λ ss. IsPrefix ss dues) (sym said_now) next in
      let one_more : blocks (traffic link).sent.requests ≡ blocks sent + 1 = ap blocks sent_is ∙ one_more_block sent (InBlock waiting.block) in
      let count = x.requests.count in
      let owed = x.logged.owed in
      let one = ap length waits in
      record {
        asked = next_now;
        served = x.served ∙ ap (λ (ps : Lanes (List Packet)). take (requests_taken (due node.trace node.shards a.shard node.shard) ps.requests) (parts node.trace node.shards a.shard node.shard)) (sym sends.received);
        replied = subst (λ ps. AreReplies (reply_at node.trace node.pages node.journal.entries) ps (done_for node.shards a.shard node.journal.entries)) (sym replies_is) x.replied;
        logged = record {
          replies = x.logged.replies;
          taken = subst (λ (ps : Lanes (List Packet)). Takes node.trace operations ps.replies x.logged.replies) (sym sends.received) x.logged.taken;
          logged = x.logged.logged;
          answers = x.logged.answers;
          owed = omega (arith, owed, one_more);
        };
        requests = record {
          count = omega (arith, count, one, one_more);
          next = subst (λ ss. IsPrefix ss dues) (sym (append-nil (map said (traffic link).sent.requests))) next_now;
        };
        replies = record {
          count = x.replies.count ∙ ap (λ (ps : List Packet). length ps + one_if a.reply) (sym replies_is);
          next = subst (λ ps. AreReplies (reply_at node.trace node.pages node.journal.entries) (ps ++ waiting_reply a.reply) (done_for node.shards a.shard node.journal.entries)) (sym replies_is) x.replies.next;
        };
        placed = record {
          asks = x.placed.asks ∙ ap (λ (ps : Lanes (List Packet)). drop (requests_taken (due node.trace node.shards a.shard node.shard) ps.requests) (operations_for node.trace node.shards a.shard node.shard)) (sym sends.received);
          heard = subst (λ (ps : Lanes (List Packet)). (a.keeps.has_heard_bye ≡ true) ↔ (requests_taken (due node.trace node.shards a.shard node.shard) ps.requests ≡ length (due node.trace node.shards a.shard node.shard))) (sym sends.received) x.placed.heard;
          told = (
            λ e.
                let all = ap length (x.placed.told.0 e) in
                let long = length_push (map said sent) (Some bytes) in
                let behind = length-append (map said sent ++ Some bytes ∷ []) next.0 in
                let both = ap length next.1 in
                absurd (omega (arith, all, long, behind, both)),
            λ e.
                let last : Some bytes ≡ None = (same_from_push (map said sent) (map (λ (o : Operation). Some (request o)) operations) (Some bytes) None (sym said_now ∙ e)).1 in
                absurd (cc),
          );
        };
      }

module _ {L G : Type 0} (shard : Shard L G) (x : IsConsistent shard) where
  -- the peer at a place among the others
  pub at_place : (k q : ℕ) (d : Peer L) → slice_get (others shard.shards shard.shard) k ≡ Some q → (k < length shard.peers.items) × ((get_or shard.peers.items k d).shard ≡ q)
  at_place k q d there =
      let within = slice_get_within (others shard.shards shard.shard) k q there in
      let many : length (others shard.shards shard.shard) ≡ length shard.peers.items = ap length (sym x.peers) ∙ length-map shard.peers.items (λ (peer : Peer L). peer.shard) in
      let inside : k < length shard.peers.items = omega (arith, within, many) in (
        inside,
        sym (get_or-map (λ (peer : Peer L). peer.shard) shard.peers.items k d 0 inside)
            ∙ (ap (λ qs. get_or qs k 0) x.peers ∙ get_or_from_slice_get (others shard.shards shard.shard) k q 0 there),
      )

  -- the request goes to no peer at another place
  pub goes_elsewhere : (k at : ℕ) (d old : Peer L) (waiting other : Waiting) → k < length shard.peers.items → at < length shard.peers.items → k ≢ at → get_or shard.peers.items at old ≡ old
      → shard.request ≡ Some waiting → shard.request ≡ Some other → waiting.peer ≡ old.shard → (get_or shard.peers.items k d).shard ≡ other.peer → ⊥
  goes_elsewhere k at d old waiting other below within apart here is there same named =
      let both : Some waiting ≡ Some other = sym is ∙ there in
      let one : waiting ≡ other = cc in
      peers_differ shard x k at d old below within apart (named ∙ (sym (ap (λ (w : Waiting). w.peer) one) ∙ (same ∙ sym (ap (λ (p : Peer L). p.shard) here))))

  -- the peer owes less than the most that there can be
  pub few_owed : (k : ℕ) (old : Peer L) (waiting : Waiting) → k < length shard.peers.items → get_or shard.peers.items k old ≡ old → shard.request ≡ Some waiting → waiting.peer ≡ old.shard
      → length old.answers.left ≤ length (operations_for (trace_in shard.trace.now) shard.shards shard.shard old.shard) → old.owed + 1 ≤ shard.own.begun
  few_owed k old waiting below here is same left =
      let asked = subst (HasAsked shard) here (x.asked k old below) in
      let one = ap length (waits-for shard.request waiting old.shard is same) in
      let front = take shard.own.begun (issued_by shard) in
      let a = length-filter (λ (part : ℕ × ℕ). part.1 == old.shard) front in
      let b = count_by-le-length (λ (part : ℕ × ℕ). part.1 == old.shard) front in
      let c = length-take shard.own.begun (issued_by shard) in
      omega (arith, asked, one, a, b, c, left)

module _ {L G : Type 0} (traffic : L → Traffic) (end : L → LinkEnd) (shard : Shard L G) (x : IsConsistent shard) (vec : Vec (Peer L) Global) (k : ℕ) (old : Peer L) (link : L) (waiting : Waiting)
    (below : k < length shard.peers.items) (here : get_or shard.peers.items k old ≡ old) (is : shard.request ≡ Some waiting) (same : waiting.peer ≡ old.shard) (same_end : end link ≡ end old.link) where
  -- the lane was full
  waits_on : vec.items ≡ slice_set shard.peers.items k (record old { link = link }) → IsRefused lanes.Requests (traffic old.link) (traffic link)
      → IsStep traffic end shard (record shard { peers = vec })
  waits_on now refused =
      let new : Peer L = record old { link = link } in
      let node = node_state shard in
      let trace = trace_in shard.trace.now in
      peer_moved traffic end shard x vec shard.log shard.tally k old new
      (record {
        below = below;
        here = here;
        now = now;
        number = refl;
        asks = refl;
        trace = refl;
        origin = refl;
        doer = refl;
        on = omega arith;
        owed = refl;
        bodies = omega arith;
        so_many = refl;
        others = λ j i doer at apart. refl;
        behind = λ j from. refl;
      })
      same_end (λ q apart. refl)
      (λ stands.
      let one = stray_with traffic node (peer_state old) link (peer_state old).held
      (record {
        sent = refused.sent;
        requests = ap (λ (ps : Lanes (List Packet)). requests_taken (due trace shard.shards old.shard shard.shard) ps.requests) refused.received;
        replies = λ rs left takes. subst (λ (ps : Lanes (List Packet)). Takes trace (operations_for trace shard.shards shard.shard old.shard) ps.replies rs) (sym refused.received) takes;
      }) stands in
      stays traffic node shard.store shard.journal shard.log (map peer_state vec.items) shard.own.begun shard.request shard.gate shard.tally (peer_state new) (λ i reply e. e)
      (record { done = refl; logged = refl; begun = refl; waiting = refl }) one)
      (receives_one traffic node (node_state (record shard { peers = vec })) k (peer_state old) (peer_state new) (peer_state old) 0 0 0
      (let long = length-map shard.peers.items (peer_state {L = L}) in omega (arith, long, below))
      (get_or-map peer_state shard.peers.items k old (peer_state old) below ∙ ap peer_state here)
      (ap (map peer_state) now ∙ map-set peer_state shard.peers.items k new)
      (let e = ap (λ (ps : Lanes (List Packet)). blocks ps.requests + blocks ps.replies) refused.received in omega (arith, e))
      refl
      (record { released = 0; all = refl; counts = λ most. omega (arith, most) }))

  pub request_waits : (block : Block) → vec.items ≡ slice_set shard.peers.items k (record old { link = link }) → (block ≡ waiting.block) × IsRefused lanes.Requests (traffic old.link) (traffic link)
      → IsStep traffic end shard (record shard { peers = vec; request = Some (record { peer = waiting.peer; block = block }) })
  request_waits block now refused =
      let again : shard.request ≡ Some (record { peer = waiting.peer; block = block }) =
      is ∙ ap (λ b. let w : Waiting = record { peer = waiting.peer; block = b } in Some w) (sym refused.0) in
      subst (λ r. IsStep traffic end shard (record shard { peers = vec; request = r })) again (waits_on now refused.1)

  -- it was sent
  module _ (now : vec.items ≡ slice_set shard.peers.items k (record old { link = link; owed = old.owed + 1 })) where
    abbrev new : Peer L
    new = record old { link = link; owed = old.owed + 1 }

    abbrev after : Shard L G
    after = record shard { peers = vec; request = None }

    abbrev items : List (Peer L)
    items = shard.peers.items

    many : length vec.items ≡ length items
    many = ap length now ∙ length-set items k new

    each : (R : Peer L → Peer L → Type 0) (j : ℕ) (d : Peer L) → ((p : Peer L) → R p p) → R old new → R (get_or items j d) (get_or vec.items j d)
    each R j d stay change = subst (λ ps. R (get_or items j d) (get_or ps j d)) (sym now) (at_set R items k old new d j below here stay change)

    apart : (j : ℕ) (d : Peer L) → j < length items → j ≢ k → waiting.peer ≢ (get_or items j d).shard
    apart j d inside other e = peers_differ shard x j k d old inside below other (sym e ∙ (same ∙ ap (λ (p : Peer L). p.shard) (sym here)))

    consistent : IsConsistent after
    consistent =
        let inside : (j : ℕ) → j < length vec.items → j < length items = λ j less. (let e = many in omega (arith, less, e)) in
        let puts : sum_by (λ (p : Peer L). puts_among p.asks.left) vec.items ≡ sum_by (λ (p : Peer L). puts_among p.asks.left) items =
        sums-agree (λ (p : Peer L). puts_among p.asks.left) items vec.items many (λ j d less. each (λ a b. puts_among b.asks.left ≡ puts_among a.asks.left) j d (λ p. refl) refl) in
        let parts : sum_by (λ (p : Peer L). length p.asks.left) vec.items ≡ sum_by (λ (p : Peer L). length p.asks.left) items =
        sums-agree (λ (p : Peer L). length p.asks.left) items vec.items many (λ j d less. each (λ a b. length b.asks.left ≡ length a.asks.left) j d (λ p. refl) refl) in
        let most : sum_by (λ (p : Peer L). bodies (trace_in shard.trace.now) p.answers.left) vec.items ≡ sum_by (λ (p : Peer L). bodies (trace_in shard.trace.now) p.answers.left) items =
        sums-agree (λ (p : Peer L). bodies (trace_in shard.trace.now) p.answers.left) items vec.items many (λ j d less. each (λ a b. bodies (trace_in shard.trace.now) b.answers.left ≡ bodies (trace_in shard.trace.now) a.answers.left) j d (λ p. refl) refl) in
        let a = x.room.rows in
        let b = x.room.spare in
        let c = x.room.bodies in
        record {
          read = x.read;
          formed = x.formed;
          parsed_for = x.parsed_for;
          within = x.within;
          of_shard = x.of_shard;
          pages = x.pages;
          of_regions = x.of_regions;
          unguarded = x.unguarded;
          counted = x.counted;
          longest = x.longest;
          peers = same_seen (λ (p : Peer L). p.shard) items vec.items many (λ j d less. each (λ a b. b.shard ≡ a.shard) j d (λ p. refl) refl) ∙ x.peers;
          cursors = λ j d less.
              let c = x.cursors j d (inside j less) in
              let asks = each (λ a b. b.asks ≡ a.asks) j d (λ p. refl) refl in
              let answers = each (λ a b. b.answers ≡ a.answers) j d (λ p. refl) refl in
              let number = each (λ a b. b.shard ≡ a.shard) j d (λ p. refl) refl in
              record {
                asks_trace = ap (λ a. a.trace) asks ∙ c.asks_trace;
                asks_origin = ap (λ a. a.origin) asks ∙ (c.asks_origin ∙ sym number);
                asks_shard = ap (λ a. a.shard) asks ∙ c.asks_shard;
                answers_trace = ap (λ a. a.trace) answers ∙ c.answers_trace;
                answers_origin = ap (λ a. a.origin) answers ∙ c.answers_origin;
                answers_shard = ap (λ a. a.shard) answers ∙ (c.answers_shard ∙ sym number);
              };
          own = record {
            own_trace = x.own.own_trace;
            own_shard = x.own.own_shard;
            here_trace = x.own.here_trace;
            here_origin = x.own.here_origin;
            here_shard = x.own.here_shard;
            here = x.own.here;
          };
          begun = x.begun;
          waits = λ other none. absurd (cc);
          asked = subst (All (HasAsked after)) (sym now)
              (all_but (HasAsked shard) (HasAsked after) items k new below x.asked
              (let asked = subst (HasAsked shard) here (x.asked k old below) in
              let one = ap length (waits-for shard.request waiting old.shard is same) in
              omega (arith, asked, one))
              (λ j d less other asked.
              let none = ap length (waits-not shard.request waiting (get_or items j d).shard is (apart j d less other)) in
              omega (arith, asked, none)));
          room = record { rows = omega (arith, a, puts); spare = omega (arith, b, puts, parts); bodies = omega (arith, c, most); keys = x.room.keys };
          short = x.short;
          one_each = x.one_each;
          own_unanswered = x.own_unanswered;
          unanswered = subst (All (λ (p : Peer L). AreUnanswered after p.shard p.answers.part)) (sym now)
              (all_but (λ (p : Peer L). AreUnanswered shard p.shard p.answers.part) (λ (p : Peer L). AreUnanswered after p.shard p.answers.part) items k new below x.unanswered
              (subst (λ (p : Peer L). AreUnanswered shard p.shard p.answers.part) here (x.unanswered k old below))
              (λ j d less other unanswered. unanswered));
        }

    received : IsSent lanes.Requests (InBlock waiting.block) (traffic old.link) (traffic link) → ReleasesAll traffic (node_state shard) → ReleasesAll traffic (node_state after)
    received sent =
        receives_one traffic (node_state shard) (node_state after) k (peer_state old) (peer_state new) (peer_state old) 0 0 0
        (let long = length-map items (peer_state {L = L}) in omega (arith, long, below))
        (get_or-map peer_state items k old (peer_state old) below ∙ ap peer_state here)
        (ap (map peer_state) now ∙ map-set peer_state items k new)
        (let e = ap (λ (ps : Lanes (List Packet)). blocks ps.requests + blocks ps.replies) sent.received in omega (arith, e))
        refl
        (record { released = 0; all = refl; counts = λ most. omega (arith, most) })

    standing : IsSent lanes.Requests (InBlock waiting.block) (traffic old.link) (traffic link) → InStanding traffic (node_state shard) → InStanding traffic (node_state after)
    standing sent stands =
        let node = node_state shard in
        let before : All (λ (p : Peer L). StandsWith traffic node (peer_state p)) items =
        λ j d less. subst (StandsWith traffic node) (get_or-map peer_state items j d (peer_state d) less)
        (each_stands traffic node stands j (peer_state d) (let e = length-map items (peer_state {L = L}) in omega (arith, e, less))) in
        let all : All (λ (p : Peer L). StandsWith traffic (node_state after) (peer_state p)) (slice_set items k new) =
        all_but (λ (p : Peer L). StandsWith traffic node (peer_state p)) (λ (p : Peer L). StandsWith traffic (node_state after) (peer_state p)) items k new below before
        (sent_to traffic node (map peer_state vec.items) (peer_state old) link waiting is same sent
        (subst (λ (p : Peer L). StandsWith traffic node (peer_state p)) here (before k old below)))
        (λ j d less other one. stays traffic node shard.store shard.journal shard.log (map peer_state vec.items) shard.own.begun None shard.gate shard.tally (peer_state (get_or items j d)) (λ i reply e. e)
        (record { done = refl; logged = refl; begun = refl; waiting = sym (waits-not shard.request waiting (get_or items j d).shard is (apart j d less other)) }) one) in
        all_stand traffic (node_state after) (record {
          journal = record { legal = stands.journal.legal; pressure = stands.journal.pressure };
          own = stands.own;
          one_each = stands.logged.one_each;
          logged = stands.logged.own;
          lent = record { lends = stands.lent.lends; out = stands.lent.out };
          received = received sent stands.kept.received;
        }) (λ j d less.
        let inside : j < length vec.items = (let e = length-map vec.items (peer_state {L = L}) in omega (arith, e, less)) in
        let known : All (λ (p : Peer L). StandsWith traffic (node_state after) (peer_state p)) vec.items = subst (All (λ (p : Peer L). StandsWith traffic (node_state after) (peer_state p))) (sym now) all in
        subst (StandsWith traffic (node_state after)) (sym (get_or-map peer_state vec.items j old d inside)) (known j old inside))

    pub request_sent : IsSent lanes.Requests (InBlock waiting.block) (traffic old.link) (traffic link) → IsStep traffic end shard after
    request_sent sent = record {
      consistent = consistent;
      standing = standing sent;
      same = record {
        shard = refl;
        shards = refl;
        pages = refl;
        trace = refl;
        home = refl;
        ends = same_seen (λ (p : PeerState L). end p.link) (map peer_state items) (map peer_state vec.items)
            (let a = length-map items (peer_state {L = L}) in let b = length-map vec.items (peer_state {L = L}) in let m = many in omega (arith, a, b, m))
            (seen_each peer_state (λ (a b : PeerState L). end b.link ≡ end a.link) items vec.items many
            (λ j d less. each (λ a b. end b.link ≡ end a.link) j d (λ p. refl) same_end));
      };
      turns = refl;
    }
