-- A node stays in standing as packets are set aside that it did not expect.
use mathlib.Core.List.{IsPrefix}
use Rattle.std.proofs.Common.{◌≡◌, ◌↔◌, ℕ, ◌+◌, List, [], ◌∷◌, ◌++◌, length, map, take, drop, sym, ap, subst, ◌∙◌, Option, if◌then◌else◌, true, false}
use Rattle.foreign_list.specs.Blocks.{Block}
use Rattle.trace_text.specs.Parts.{parts}
use Rattle.rows.specs.Apply.{Reply}
use Rattle.cache_model.specs.Legal.{reply_at}
use Rattle.shard_rings.specs.Lanes.{Lanes, Traffic}
use Rattle.shard_rings.specs.declared.link.Packet.{Packet}
use Rattle.shard_node.specs.Nodes.{NodeState, PeerState}
use Rattle.shard_node.specs.Due.{Takes, due, is_next, operations_for, requests_taken, said}
use Rattle.shard_node.specs.Standing.{AreReplies, blocks, done_for, one_if, waiting_reply, waiting_request}
use Rattle.shard_node.proofs.Standing.Peerwise.{StandsWith}
use Rattle.part_lemmas.proofs.Packets.Taken.{requests_more}

-- a packet more on the lane of requests that is not the next one: as many were taken as before
pub none-taken : (due : List (Option (List ℕ))) (packets : List Packet) (packet : Packet) → is_next due (requests_taken due packets) packet ≡ false
    → requests_taken due (packets ++ packet ∷ []) ≡ requests_taken due packets
none-taken due packets packet other =
    requests_more due packets packet ∙ ap (λ b. if b then requests_taken due packets + 1 else requests_taken due packets) other

module _ {L G : Type 0} (traffic : L → Traffic) where
  -- What came of the peer is set aside: what was taken is what was, and nothing was sent.
  pub record ReceivesStray (node : NodeState L G) (a : PeerState L) (link : L) : Type 0 where
    pub sent : (traffic link).sent ≡ (traffic a.link).sent
    pub requests : requests_taken (due node.trace node.shards a.shard node.shard) (traffic link).received.requests
        ≡ requests_taken (due node.trace node.shards a.shard node.shard) (traffic a.link).received.requests
    pub replies : (replies : List Reply) → a.keeps.answers ≡ drop (length replies) (operations_for node.trace node.shards node.shard a.shard)
        → Takes node.trace (operations_for node.trace node.shards node.shard a.shard) (traffic a.link).received.replies replies
        → Takes node.trace (operations_for node.trace node.shards node.shard a.shard) (traffic link).received.replies replies

  pub stray_with : (node : NodeState L G) (a : PeerState L) (link : L) (held : Lanes (Option Block)) → ReceivesStray node a link
      → StandsWith traffic node a → StandsWith traffic node (record a { link = link; held = held })
  stray_with node a link held stray x =
      let requests = ap (λ (ps : Lanes (List Packet)). ps.requests) stray.sent in
      let replies = ap (λ (ps : Lanes (List Packet)). ps.replies) stray.sent in
      record {
        asked = subst (λ ps. IsPrefix (map said ps) (due node.trace node.shards node.shard a.shard)) (sym requests) x.asked;
        served = x.served ∙ ap (λ n. take n (parts node.trace node.shards a.shard node.shard)) (sym stray.requests);
        replied = subst (λ ps. AreReplies (reply_at node.trace node.pages node.journal.entries) ps (done_for node.shards a.shard node.journal.entries)) (sym replies) x.replied;
        logged = record {
          replies = x.logged.replies;
          taken = stray.replies x.logged.replies x.logged.answers x.logged.taken;
          logged = x.logged.logged;
          answers = x.logged.answers;
          owed = x.logged.owed ∙ ap blocks (sym requests);
        };
        requests = record {
          count = x.requests.count ∙ ap (λ ps. blocks ps + length (waiting_request node.request a.shard)) (sym requests);
          next = subst (λ ps. IsPrefix (map said ps ++ waiting_request node.request a.shard) (due node.trace node.shards node.shard a.shard)) (sym requests) x.requests.next;
        };
        replies = record {
          count = x.replies.count ∙ ap (λ (ps : List Packet). length ps + one_if a.reply) (sym replies);
          next = subst (λ ps. AreReplies (reply_at node.trace node.pages node.journal.entries) (ps ++ waiting_reply a.reply) (done_for node.shards a.shard node.journal.entries)) (sym replies) x.replies.next;
        };
        placed = record {
          asks = x.placed.asks ∙ ap (λ n. drop n (operations_for node.trace node.shards a.shard node.shard)) (sym stray.requests);
          heard = subst (λ n. (a.keeps.has_heard_bye ≡ true) ↔ (n ≡ length (due node.trace node.shards a.shard node.shard))) (sym stray.requests) x.placed.heard;
          told = subst (λ ps. (a.keeps.has_sent_bye ≡ true) ↔ (map said ps ≡ due node.trace node.shards node.shard a.shard)) (sym requests) x.placed.told;
        };
      }
