-- A node stays in standing as replies that wait are sent.
use mathlib.Core.List.{IsPrefix}
use Rattle.std.proofs.Common.{◌≡◌, ◌↔◌, ℕ, ◌+◌, ◌<◌, List, [], ◌∷◌, ◌++◌, length, map, take, drop, get_or, append-nil, arith, refl, true, sym, ap, subst, ◌∙◌, sum_by, Option, Some, None}
use Rattle.std.proofs.lemmas.List.{length-append}
use Rattle.trace_text.specs.Parts.{parts}
use Rattle.rows.specs.Apply.{Reply}
use Rattle.cache_model.specs.Legal.{reply_at}
use Rattle.foreign_list.specs.Blocks.{Block}
use Rattle.shard_rings.specs.Lanes.{Lanes, Traffic}
use Rattle.shard_rings.specs.declared.link.Lane.TheVariants.{Replies}
use Rattle.shard_rings.specs.declared.link.Packet.{Packet}
use Rattle.shard_rings.specs.declared.link.Packet.TheVariants.{Block as InBlock, Bye}
use Rattle.shard_node.specs.Nodes.{NodeState, PeerState}
use Rattle.shard_node.specs.Due.{Takes, due, operations_for, requests_taken, said}
use Rattle.shard_node.specs.Standing.{InStanding, AreReplies, blocks, done_for, held_of, one_if, received_from, waiting_reply, waiting_request}
use Rattle.part_lemmas.specs.Sends.{SendsHeld}
use Rattle.shard_node.proofs.Standing.Peerwise.{StandsWith, all_stand, each_stands, stays}
use Rattle.shard_node.proofs.Standing.Stands.{sums-agree}

-- what a try of the reply that waits leaves as it was
pub record KeepsReplies (a b : Option Block) (old new : Traffic) : Type 0 where
  pub requests : new.sent.requests ≡ old.sent.requests
  pub received : new.received ≡ old.received
  pub replies : new.sent.replies ++ waiting_reply b ≡ old.sent.replies ++ waiting_reply a
  pub count : length new.sent.replies + one_if b ≡ length old.sent.replies + one_if a

pub keeps_replies : (a b : Option Block) (old new : Traffic) → SendsHeld Replies a b old new → KeepsReplies a b old new
keeps_replies None (Some later) old new sends = absurd (let e = sends.0 in cc)
keeps_replies None None old new sends = record {
  requests = ap (λ (t : Traffic). t.sent.requests) sends.1;
  received = ap (λ (t : Traffic). t.received) sends.1;
  replies = ap (λ (t : Traffic). t.sent.replies ++ []) sends.1;
  count = ap (λ (t : Traffic). length t.sent.replies + 0) sends.1;
}
keeps_replies (Some block) None old new sends =
    let replies : new.sent.replies ≡ old.sent.replies ++ InBlock block ∷ [] = ap (λ (l : Lanes (List Packet)). l.replies) sends.sent in
    let longer : length (old.sent.replies ++ InBlock block ∷ []) ≡ length old.sent.replies + 1 = length-append old.sent.replies (InBlock block ∷ []) in
    let same = ap length replies in
    record {
      requests = ap (λ (l : Lanes (List Packet)). l.requests) sends.sent;
      received = sends.received;
      replies = append-nil new.sent.replies ∙ replies;
      count = omega (arith, longer, same);
    }
keeps_replies (Some block) (Some later) old new sends = record {
  requests = ap (λ (l : Lanes (List Packet)). l.requests) sends.1.sent;
  received = sends.1.received;
  replies = ap (λ (t : List Packet). t ++ InBlock later ∷ []) (ap (λ (l : Lanes (List Packet)). l.replies) sends.1.sent)
      ∙ ap (λ b. old.sent.replies ++ InBlock b ∷ []) sends.0;
  count = ap (λ (l : Lanes (List Packet)). length l.replies + 1) sends.1.sent;
}

-- the first of some replies
pub first_replies : (reply : ℕ → Option Reply) (packets others : List Packet) (numbers : List ℕ) → AreReplies reply (packets ++ others) numbers → AreReplies reply packets numbers
first_replies reply [] others numbers are = tt
first_replies reply (InBlock block ∷ packets) others (i ∷ numbers) are = (are.0, first_replies reply packets others numbers are.1)
first_replies reply (InBlock block ∷ packets) others [] are = are
first_replies reply (Bye ∷ packets) others numbers are = are

module _ {L : Type 0} (traffic : L → Traffic) where
  -- the reply that waited was tried, and nothing else of the peer has changed
  pub record SentReply (old new : PeerState L) : Type 0 where
    pub same : new ≡ record old { link = new.link; reply = new.reply }
    pub keeps : KeepsReplies old.reply new.reply (traffic old.link) (traffic new.link)

module _ {L G : Type 0} (traffic : L → Traffic) where
  pub sent_with : (node : NodeState L G) (a : PeerState L) (link : L) (reply : Option Block) → KeepsReplies a.reply reply (traffic a.link) (traffic link)
      → StandsWith traffic node a → StandsWith traffic node (record a { link = link; reply = reply })
  sent_with node a link reply keeps x =
      let next : AreReplies (reply_at node.trace node.pages node.journal.entries) ((traffic link).sent.replies ++ waiting_reply reply) (done_for node.shards a.shard node.journal.entries) =
      subst (λ ps. AreReplies (reply_at node.trace node.pages node.journal.entries) ps (done_for node.shards a.shard node.journal.entries)) (sym keeps.replies) x.replies.next in
      record {
        asked = subst (λ ps. IsPrefix (map said ps) (due node.trace node.shards node.shard a.shard)) (sym keeps.requests) x.asked;
        served = x.served ∙ ap (λ (ps : Lanes (List Packet)). take (requests_taken (due node.trace node.shards a.shard node.shard) ps.requests) (parts node.trace node.shards a.shard node.shard)) (sym keeps.received);
        replied = first_replies (reply_at node.trace node.pages node.journal.entries) _ _ _ next;
        logged = record {
          replies = x.logged.replies;
          taken = subst (λ (ps : Lanes (List Packet)). Takes node.trace (operations_for node.trace node.shards node.shard a.shard) ps.replies x.logged.replies) (sym keeps.received) x.logged.taken;
          logged = x.logged.logged;
          answers = x.logged.answers;
          owed = x.logged.owed ∙ ap blocks (sym keeps.requests);
        };
        requests = record {
          count = x.requests.count ∙ ap (λ ps. blocks ps + length (waiting_request node.request a.shard)) (sym keeps.requests);
          next = subst (λ ps. IsPrefix (map said ps ++ waiting_request node.request a.shard) (due node.trace node.shards node.shard a.shard)) (sym keeps.requests) x.requests.next;
        };
        replies = record { count = x.replies.count ∙ sym keeps.count; next = next };
        placed = record {
          asks = x.placed.asks
              ∙ ap (λ (ps : Lanes (List Packet)). drop (requests_taken (due node.trace node.shards a.shard node.shard) ps.requests) (operations_for node.trace node.shards a.shard node.shard)) (sym keeps.received);
          heard = subst (λ (ps : Lanes (List Packet)). (a.keeps.has_heard_bye ≡ true) ↔ (requests_taken (due node.trace node.shards a.shard node.shard) ps.requests ≡ length (due node.trace node.shards a.shard node.shard)))
              (sym keeps.received) x.placed.heard;
          told = subst (λ ps. (a.keeps.has_sent_bye ≡ true) ↔ (map said ps ≡ due node.trace node.shards node.shard a.shard)) (sym keeps.requests) x.placed.told;
        };
      }

  pub replies_sent : (node : NodeState L G) (peers : List (PeerState L)) → length peers ≡ length node.peers
      → ((k : ℕ) (d : PeerState L) → k < length node.peers → SentReply traffic (get_or node.peers k d) (get_or peers k d))
      → InStanding traffic node → InStanding traffic (record node { peers = peers })
  replies_sent node peers same each stands =
      let now : NodeState L G = record node { peers = peers } in
      let received : sum_by (received_from traffic node) peers ≡ sum_by (received_from traffic node) node.peers =
      sums-agree (received_from traffic node) node.peers peers same (λ k d below. ap (λ (ps : Lanes (List Packet)). blocks ps.requests + blocks ps.replies) (each k d below).keeps.received) in
      let held : sum_by (held_of traffic node) peers ≡ sum_by (held_of traffic node) node.peers =
      sums-agree (held_of traffic node) node.peers peers same (λ k d below. ap (held_of traffic node) (each k d below).same) in
      let all = stands.kept.received.all in
      all_stand traffic now (record {
        journal = record { legal = stands.journal.legal; pressure = stands.journal.pressure };
        own = stands.own;
        one_each = stands.logged.one_each;
        logged = stands.logged.own;
        lent = record { lends = stands.lent.lends; out = stands.lent.out };
        received = record { released = stands.kept.received.released; all = omega (arith, received, held, all); counted = stands.kept.received.counted };
      }) (λ k d below.
      let inside : k < length node.peers = omega (arith, below, same) in
      let one = each k d inside in
      let a = get_or node.peers k d in
      let b = get_or peers k d in
      stays traffic node node.store node.journal node.log peers node.begun node.request node.gate node.tally b (λ i reply e. e) (record { done = refl; logged = refl; begun = refl; waiting = refl })
      (subst (StandsWith traffic node) (sym one.same) (sent_with node a b.link b.reply one.keeps (each_stands traffic node stands k d inside))))
