-- A node stays in standing as it says Bye to a peer.
use Rattle.std.proofs.Common.{◌≡◌, ◌≢◌, ◌↔◌, ℕ, ◌+◌, ◌<◌, ◌≤◌, List, [], ◌∷◌, ◌++◌, length, map, take, drop, get_or, append-nil, arith, refl, true, false, true≢false, sym, ap, subst, ◌∙◌, Bool, Option, Some, None, Vec, is_some, count_by, ◌==◌}
use Rattle.std.proofs.lemmas.List.{length-append, length-map, map-append, take_all}
use Rattle.std.proofs.lemmas.List.Sums.{count_by-le-length, length-filter}
use Rattle.rows.specs.Operation.{Operation}
use Rattle.trace_text.specs.Parts.{parts}
use Rattle.cache_model.specs.Legal.{reply_at}
use Rattle.std.specs.declared.alloc.Global.{Global}
use Rattle.shard_rings.specs.Lanes.{LinkEnd, Lanes, Traffic}
use Rattle.shard_rings.specs.Request.{request}
use Rattle.shard_rings.specs.declared.link.Packet.{Packet}
use Rattle.shard_rings.specs.declared.link.Packet.TheVariants.{Bye}
use Rattle.shard_node.specs.Nodes.{NodeState, PeerState}
use Rattle.shard_node.specs.Due.{Takes, due, operations_for, requests_taken, said}
use Rattle.shard_node.specs.Standing.{InStanding, AreReplies, blocks, begun_at, done_for, held_of, is_block, one_if, received_from, waiting_reply, waiting_request}
use Rattle.part_lemmas.specs.Sends.{TriesBye}
use Rattle.shard_parts.specs.declared.peer.Peer.{Peer}
use Rattle.shard_node.specs.declared.shard.Shard.{Shard}
use Rattle.trace_text.specs.Parsed.{trace_in}
use Rattle.cache_model.specs.OwnParts.{issued_parts}
use Rattle.shard_parts.specs.Own.{own_log}
use Rattle.shard_parts.specs.Peers.{Each, SaysBye, peer_state}
use Rattle.shard_node.specs.inside.Shards.{IsConsistent, issued_by, node_state}
use Rattle.shard_node.specs.inside.Steps.{IsStep}
use Rattle.part_lemmas.proofs.OwnParts.BegunParts.{count-issued}
use Rattle.part_lemmas.proofs.OwnParts.IssuedParts.{AreOfPeers}
use Rattle.shard_node.proofs.Standing.Consistent.{peer_below}
use Rattle.shard_node.proofs.Standing.Plans.{plans_same, same_seen, seen_each}
use Rattle.shard_node.proofs.Standing.Strays.{stray_with}
use Rattle.shard_node.proofs.Standing.Peerwise.{StandsWith, all_stand, each_stands, stays}
use Rattle.shard_node.proofs.Standing.Stands.{sums-agree}
use Rattle.shard_node.proofs.Replies.TakesPackets.{one_more_block}

-- Lists that are the same but for their last elements.
same_front : {X : Type 0} (xs ys : List X) (a b : X) → xs ++ a ∷ [] ≡ ys ++ b ∷ [] → xs ≡ ys
same_front [] [] a b e = refl
same_front {X} [] (y ∷ ys) a b e = let f = length-append ys (b ∷ []) in let g : length (a ∷ []) ≡ length (y ∷ (ys ++ b ∷ [])) = ap length e in absurd (omega (arith, f, g))
same_front {X} (x ∷ xs) [] a b e = let f = length-append xs (a ∷ []) in let g : length (x ∷ (xs ++ a ∷ [])) ≡ length (b ∷ []) = ap length e in absurd (omega (arith, f, g))
same_front {X} (x ∷ xs) (y ∷ ys) a b e =
    let first : x ≡ y = cc in
    let rest : xs ++ a ∷ [] ≡ ys ++ b ∷ [] = cc in
    ap (λ z. z ∷ xs) first ∙ ap (λ zs. y ∷ zs) (same_front xs ys a b rest)

all_but_last : {X : Type 0} (front rest all : List X) (last : X) → front ++ rest ≡ all ++ last ∷ [] → length all ≤ length front → front ≢ all ++ last ∷ [] → front ≡ all
all_but_last front [] all last is long other = absurd (other (sym (append-nil front) ∙ is))
all_but_last front (z ∷ []) all last is long other = same_front front all z last is
all_but_last front (z ∷ y ∷ rest) all last is long other =
    let a = length-append front (z ∷ y ∷ rest) in
    let b = length-append all (last ∷ []) in
    let e = ap length is in
    absurd (omega (arith, a, b, e, long))

few_blocks : (packets : List Packet) → blocks packets ≤ length packets
few_blocks packets = count_by-le-length is_block packets

pub is_none_so : {A : Type 0} (option : Option A) → is_some option ≡ false → option ≡ None
is_none_so None is = refl
is_none_so (Some a) is = absurd (true≢false is)

pub bye_received : (before after : Bool) (old new : Traffic) → TriesBye before after old new → new.received ≡ old.received
bye_received true after old new tries = ap (λ (t : Traffic). t.received) tries.1
bye_received false true old new tries = tries.received
bye_received false false old new tries = tries.received

module _ {L G : Type 0} (traffic : L → Traffic) where
  -- nothing went over the link
  quiet : (node : NodeState L G) (a : PeerState L) (link : L) → (traffic link).sent ≡ (traffic a.link).sent → (traffic link).received ≡ (traffic a.link).received
      → StandsWith traffic node a → StandsWith traffic node (record a { link = link })
  quiet node a link sent received x = stray_with traffic node a link a.held (record {
    sent = sent;
    requests = ap (λ (ps : Lanes (List Packet)). requests_taken (due node.trace node.shards a.shard node.shard) ps.requests) received;
    replies = λ rs left taken. subst (λ (ps : Lanes (List Packet)). Takes node.trace (operations_for node.trace node.shards node.shard a.shard) ps.replies rs) (sym received) taken;
  }) x

  pub told_with : (node : NodeState L G) (a : PeerState L) (link : L) (before after : Bool) → node.request ≡ None
      → length (begun_at node a.shard) ≡ length (operations_for node.trace node.shards node.shard a.shard)
      → a.keeps.has_sent_bye ≡ before → TriesBye before after (traffic a.link) (traffic link)
      → StandsWith traffic node a → StandsWith traffic node (record a { link = link; keeps = record a.keeps { has_sent_bye = after } })
  told_with node a link true after none all was tries x =
      let one = quiet node a link (ap (λ (t : Traffic). t.sent) tries.1) (ap (λ (t : Traffic). t.received) tries.1) x in
      subst (λ b. StandsWith traffic node (record a { link = link; keeps = record a.keeps { has_sent_bye = b } })) (was ∙ sym tries.0) one
  told_with node a link false false none all was tries x =
      let one = quiet node a link tries.sent tries.received x in
      subst (λ b. StandsWith traffic node (record a { link = link; keeps = record a.keeps { has_sent_bye = b } })) was one
  told_with node a link false true none all was tries x =
      let operations = operations_for node.trace node.shards node.shard a.shard in
      let requests = map (λ (o : Operation). Some (request o)) operations in
      let dues = due node.trace node.shards node.shard a.shard in
      let sent = (traffic a.link).sent.requests in
      let sent_is : (traffic link).sent.requests ≡ sent ++ Bye ∷ [] = ap (λ (ps : Lanes (List Packet)). ps.requests) tries.sent in
      let replies_is : (traffic link).sent.replies ≡ (traffic a.link).sent.replies = ap (λ (ps : Lanes (List Packet)). ps.replies) tries.sent in
      let waits : waiting_request node.request a.shard ≡ [] = ap (λ r. waiting_request r a.shard) none in
      let count = x.requests.count in
      let no_waiting = ap length waits in
      let few = few_blocks sent in
      let long = length-map sent said in
      let long_requests = length-map operations (λ (o : Operation). Some (request o)) in
      let said_before : map said sent ≡ requests =
      all_but_last (map said sent) x.asked.0 requests None x.asked.1 (omega (arith, count, no_waiting, few, long, long_requests, all))
      (λ e. true≢false (sym (x.placed.told.1 e) ∙ was)) in
      let said_now : map said (traffic link).sent.requests ≡ dues = ap (map said) sent_is ∙ (map-append said sent (Bye ∷ []) ∙ ap (λ ss. ss ++ None ∷ []) said_before) in
      let same_blocks : blocks (traffic link).sent.requests ≡ blocks sent = (let e = ap blocks sent_is in let f = one_more_block sent Bye in omega (arith, e, f)) in
      record {
        asked = ([], append-nil (map said (traffic link).sent.requests) ∙ said_now);
        served = x.served ∙ ap (λ (ps : Lanes (List Packet)). take (requests_taken (due node.trace node.shards a.shard node.shard) ps.requests) (parts node.trace node.shards a.shard node.shard)) (sym tries.received);
        replied = subst (λ ps. AreReplies (reply_at node.trace node.pages node.journal.entries) ps (done_for node.shards a.shard node.journal.entries)) (sym replies_is) x.replied;
        logged = record {
          replies = x.logged.replies;
          taken = subst (λ (ps : Lanes (List Packet)). Takes node.trace operations ps.replies x.logged.replies) (sym tries.received) x.logged.taken;
          logged = x.logged.logged;
          answers = x.logged.answers;
          owed = x.logged.owed ∙ sym same_blocks;
        };
        requests = record {
          count = x.requests.count ∙ ap (λ n. n + length (waiting_request node.request a.shard)) (sym same_blocks);
          next = (
            [],
            append-nil (map said (traffic link).sent.requests ++ waiting_request node.request a.shard)
                ∙ (ap (λ ws. map said (traffic link).sent.requests ++ ws) waits ∙ (append-nil (map said (traffic link).sent.requests) ∙ said_now)),
          );
        };
        replies = record {
          count = x.replies.count ∙ ap (λ (ps : List Packet). length ps + one_if a.reply) (sym replies_is);
          next = subst (λ ps. AreReplies (reply_at node.trace node.pages node.journal.entries) (ps ++ waiting_reply a.reply) (done_for node.shards a.shard node.journal.entries)) (sym replies_is) x.replies.next;
        };
        placed = record {
          asks = x.placed.asks ∙ ap (λ (ps : Lanes (List Packet)). drop (requests_taken (due node.trace node.shards a.shard node.shard) ps.requests) (operations_for node.trace node.shards a.shard node.shard)) (sym tries.received);
          heard = subst (λ (ps : Lanes (List Packet)). (a.keeps.has_heard_bye ≡ true) ↔ (requests_taken (due node.trace node.shards a.shard node.shard) ps.requests ≡ length (due node.trace node.shards a.shard node.shard))) (sym tries.received) x.placed.heard;
          told = (λ e. said_now, λ e. refl);
        };
      }

  -- Bye was tried at each peer
  pub byes_said : (node : NodeState L G) (peers : List (PeerState L)) → length peers ≡ length node.peers
      → ((k : ℕ) (d : PeerState L) → k < length node.peers → StandsWith traffic node (get_or node.peers k d) → StandsWith traffic node (get_or peers k d))
      → ((k : ℕ) (d : PeerState L) → k < length node.peers → received_from traffic node (get_or peers k d) ≡ received_from traffic node (get_or node.peers k d))
      → ((k : ℕ) (d : PeerState L) → k < length node.peers → held_of traffic node (get_or peers k d) ≡ held_of traffic node (get_or node.peers k d))
      → InStanding traffic node → InStanding traffic (record node { peers = peers })
  byes_said node peers same each received_each held_each stands =
      let now : NodeState L G = record node { peers = peers } in
      let received = sums-agree (received_from traffic node) node.peers peers same received_each in
      let held = sums-agree (held_of traffic node) node.peers peers same held_each in
      let all = stands.kept.received.all in
      all_stand traffic now (record {
        journal = record { legal = stands.journal.legal; pressure = stands.journal.pressure };
        own = stands.own;
        one_each = stands.logged.one_each;
        logged = stands.logged.own;
        lent = record { lends = stands.lent.lends; out = stands.lent.out };
        received = record { released = stands.kept.received.released; all = omega (arith, received, held, all); counted = stands.kept.received.counted };
      }) (λ k d below.
      let inside : k < length node.peers = omega (arith, below, same) in
      stays traffic node node.store node.journal node.log peers node.begun node.request node.gate node.tally (get_or peers k d) (λ i reply e. e) (record { done = refl; logged = refl; begun = refl; waiting = refl })
      (each k d inside (each_stands traffic node stands k d inside)))

-- the parts that the shard issues
pub same_own_log : {L G : Type 0} (shard : Shard L G) → IsConsistent shard → own_log shard.own ≡ issued_by shard
same_own_log shard x =
    ap (λ t. issued_parts (trace_in t) t.shards shard.own.shard) x.own.own_trace
    ∙ (ap (issued_parts (trace_in shard.trace.now) shard.trace.now.shards) x.own.own_shard ∙ ap (λ n. issued_parts (trace_in shard.trace.now) n shard.shard) (sym x.parsed_for))

module _ {L G : Type 0} (traffic : L → Traffic) (end : L → LinkEnd) where
  pub says_byes : AreOfPeers → (shard : Shard L G) (vec : Vec (Peer L) Global) → length vec.items ≡ length shard.peers.items → Each (SaysBye traffic end) shard.peers.items vec.items
      → shard.request ≡ None → shard.own.begun ≡ length (issued_by shard)
      → IsConsistent shard → IsStep traffic end shard (record shard { peers = vec })
  says_byes law shard vec same each none all x =
      let items = shard.peers.items in
      let node = node_state shard in
      let longer = length-map items (peer_state {L = L}) in
      let longer_now = length-map vec.items (peer_state {L = L}) in
      let begun : (k : ℕ) (d : Peer L) → k < length items → length (begun_at node (get_or items k d).shard) ≡ length (operations_for node.trace shard.shards shard.shard (get_or items k d).shard) =
      λ k d below.
      let q = (get_or items k d).shard in
      length-filter (λ (part : ℕ × ℕ). part.1 == q) (take shard.own.begun (issued_by shard))
      ∙ (ap (λ n. count_by (λ (part : ℕ × ℕ). part.1 == q) (take n (issued_by shard))) all
      ∙ (ap (count_by (λ (part : ℕ × ℕ). part.1 == q)) (take_all (length (issued_by shard)) (issued_by shard) (omega arith))
      ∙ count-issued law node.trace shard.shards shard.shard q (peer_below shard x k d below))) in
      let R : PeerState L → PeerState L → Type 0 = λ a b. StandsWith traffic node a → StandsWith traffic node b in
      record {
        consistent = plans_same shard vec shard.tally same
            (λ k d below. let e = (each k d below).same in record { shard = ap (λ (p : Peer L). p.shard) e; asks = ap (λ (p : Peer L). p.asks) e; answers = ap (λ (p : Peer L). p.answers) e; owed = ap (λ (p : Peer L). p.owed) e }) x;
        standing = byes_said traffic node (map peer_state vec.items) (omega (arith, longer, longer_now, same))
            (seen_each peer_state R items vec.items same (λ k d below one.
            let e = each k d below in
            subst (λ (p : Peer L). StandsWith traffic node (peer_state p)) (sym e.same)
            (told_with traffic node (peer_state (get_or items k d)) (get_or vec.items k d).link (get_or items k d).has_sent_bye (get_or vec.items k d).has_sent_bye none (begun k d below) refl e.tries one)))
            (seen_each peer_state (λ (a b : PeerState L). received_from traffic node b ≡ received_from traffic node a) items vec.items same
            (λ k d below. ap (λ (ps : Lanes (List Packet)). blocks ps.requests + blocks ps.replies) (bye_received _ _ _ _ (each k d below).tries)))
            (seen_each peer_state (λ (a b : PeerState L). held_of traffic node b ≡ held_of traffic node a) items vec.items same
            (λ k d below. ap (λ (p : Peer L). held_of traffic node (peer_state p)) (each k d below).same));
        same = record {
          shard = refl;
          shards = refl;
          pages = refl;
          trace = refl;
          home = refl;
          ends = same_seen (λ (p : PeerState L). end p.link) (map peer_state items) (map peer_state vec.items) (omega (arith, longer, longer_now, same))
              (seen_each peer_state (λ (a b : PeerState L). end b.link ≡ end a.link) items vec.items same (λ k d below. (each k d below).same_end));
        };
        turns = refl;
      }
