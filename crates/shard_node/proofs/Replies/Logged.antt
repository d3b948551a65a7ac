-- A node stays in standing as it takes a reply.
use mathlib.Core.List.{IsPrefix}
use Rattle.std.proofs.Common.{◌≡◌, ◌↔◌, ℕ, zero, suc, ◌+◌, ◌-◌, List, [], ◌∷◌, ◌++◌, length, map, take, drop, replicate, slice_get, arith, refl, true, sym, ap, subst, ◌∙◌, Option, Some, None}
use Rattle.std.proofs.lemmas.List.{length-append}
use Rattle.rows.specs.Operation.{Operation}
use Rattle.trace_text.specs.Parts.{parts}
use Rattle.rows.specs.Apply.{Reply}
use Rattle.cache_model.specs.Legal.{reply_at}
use Rattle.rows.specs.Spelled.{spelled}
use Rattle.foreign_list.specs.Blocks.{Block}
use Rattle.run_log.specs.Replies.{Replies}
use Rattle.shard_rings.specs.Lanes.{Lanes, adds, Traffic}
use Rattle.shard_rings.specs.declared.link.Lane.TheVariants as lanes
use Rattle.shard_rings.specs.declared.link.Packet.{Packet}
use Rattle.shard_node.specs.Nodes.{NodeState, PeerState}
use Rattle.shard_node.specs.Due.{Answers, Takes, due, operations_for, requests_taken, said}
use Rattle.shard_node.specs.Standing.{AreReplies, blocks, done_for, logged_at, one_if, waiting_reply, waiting_request}
use Rattle.shard_node.proofs.Standing.Peerwise.{StandsWith, later}
use Rattle.part_lemmas.proofs.Packets.Taken.{takes_one}

pub get_first : {X : Type 0} (xs : List X) (n : ℕ) → slice_get (drop n xs) 0 ≡ slice_get xs n
get_first [] zero = refl
get_first [] (suc n) = refl
get_first (x ∷ xs) zero = refl
get_first (x ∷ xs) (suc n) = get_first xs n

pub drop_one_more : {X : Type 0} (xs : List X) (n : ℕ) → drop 1 (drop n xs) ≡ drop (n + 1) xs
drop_one_more [] zero = refl
drop_one_more {X} [] (suc n) = let e : suc (n + 1) ≡ suc n + 1 = omega arith in ap (λ m. drop m []) e
drop_one_more (x ∷ xs) zero = refl
drop_one_more (x ∷ xs) (suc n) = let e : suc (n + 1) ≡ suc n + 1 = omega arith in drop_one_more xs n ∙ ap (λ m. drop m (x ∷ xs)) e

module _ {L G : Type 0} (traffic : L → Traffic) where
  -- one reply more came over a peer's link, which answers the first of the commands that it still will answer
  pub record TookReply (node : NodeState L G) (a : PeerState L) (link : L) (answers : List Operation) (owed : ℕ) (packet : Packet) (reply : Reply) : Type 0 where
    pub sent : (traffic link).sent ≡ (traffic a.link).sent
    pub received : (traffic link).received ≡ adds lanes.Replies packet (traffic a.link).received
    pub answered : Answers node.trace (slice_get a.keeps.answers 0) packet reply
    pub left : answers ≡ drop 1 a.keeps.answers
    pub fewer : owed + 1 ≡ a.keeps.owed

  -- what the peer's standing is where one reply more was taken of it, and logged
  pub taken_with : (node : NodeState L G) (a : PeerState L) (peers : List (PeerState L)) (link : L) (held : Lanes (Option Block)) (log : Replies) (tally : ℕ) (answers : List Operation) (owed : ℕ)
      (packet : Packet) (reply : Reply)
      → TookReply node a link answers owed packet reply
      → (x : StandsWith traffic node a)
      → logged_at (later traffic node node.store node.journal log peers node.begun node.request node.gate tally) a.shard
      ≡ map (λ reply. Some (spelled reply)) (x.logged.replies ++ reply ∷ [])
      ++ replicate (length (parts node.trace node.shards node.shard a.shard) - length (x.logged.replies ++ reply ∷ [])) None
      → StandsWith traffic (later traffic node node.store node.journal log peers node.begun node.request node.gate tally)
      (record a { link = link; held = held; keeps = record a.keeps { answers = answers; owed = owed } })
  taken_with node a peers link held log tally answers owed packet reply took x logged =
      let now = later traffic node node.store node.journal log peers node.begun node.request node.gate tally in
      let requests = ap (λ (ps : Lanes (List Packet)). ps.requests) took.sent in
      let replies = ap (λ (ps : Lanes (List Packet)). ps.replies) took.sent in
      let came : (traffic link).received.requests ≡ (traffic a.link).received.requests = ap (λ (ps : Lanes (List Packet)). ps.requests) took.received in
      let came_here : (traffic link).received.replies ≡ (traffic a.link).received.replies ++ packet ∷ [] = ap (λ (ps : Lanes (List Packet)). ps.replies) took.received in
      let operations = operations_for node.trace node.shards node.shard a.shard in
      let n = length x.logged.replies in
      let front : slice_get (drop n operations) 0 ≡ slice_get operations n = get_first operations n in
      let answers_here : Answers node.trace (slice_get operations n) packet reply =
      subst (λ o. Answers node.trace o packet reply) (ap (λ os. slice_get os 0) x.logged.answers ∙ front) took.answered in
      let longer = length-append x.logged.replies (reply ∷ []) in
      let owes = x.logged.owed in
      let blocks_same = ap blocks requests in
      record {
        asked = subst (λ ps. IsPrefix (map said ps) (due node.trace node.shards node.shard a.shard)) (sym requests) x.asked;
        served = x.served ∙ ap (λ ps. take (requests_taken (due node.trace node.shards a.shard node.shard) ps) (parts node.trace node.shards a.shard node.shard)) (sym came);
        replied = subst (λ ps. AreReplies (reply_at node.trace node.pages node.journal.entries) ps (done_for node.shards a.shard node.journal.entries)) (sym replies) x.replied;
        logged = record {
          replies = x.logged.replies ++ reply ∷ [];
          taken = subst (λ ps. Takes node.trace operations ps (x.logged.replies ++ reply ∷ [])) (sym came_here) (takes_one node.trace operations _ x.logged.replies packet reply x.logged.taken answers_here);
          logged = logged;
          answers = took.left ∙ (ap (drop 1) x.logged.answers ∙ (drop_one_more operations n ∙ ap (λ m. drop m operations) (let e : n + 1 ≡ length (x.logged.replies ++ reply ∷ []) = omega (arith, longer) in e)));
          owed = let fewer = took.fewer in omega (arith, longer, owes, blocks_same, fewer);
        };
        requests = record {
          count = x.requests.count ∙ ap (λ ps. blocks ps + length (waiting_request node.request a.shard)) (sym requests);
          next = subst (λ ps. IsPrefix (map said ps ++ waiting_request node.request a.shard) (due node.trace node.shards node.shard a.shard)) (sym requests) x.requests.next;
        };
        replies = record {
          count = x.replies.count ∙ ap (λ (ps : List Packet). length ps + one_if a.reply) (sym replies);
          next = subst (λ ps. AreReplies (reply_at node.trace node.pages node.journal.entries) (ps ++ waiting_reply a.reply) (done_for node.shards a.shard node.journal.entries)) (sym replies) x.replies.next;
        };
        placed = record {
          asks = x.placed.asks ∙ ap (λ ps. drop (requests_taken (due node.trace node.shards a.shard node.shard) ps) (operations_for node.trace node.shards a.shard node.shard)) (sym came);
          heard = subst (λ ps. (a.keeps.has_heard_bye ≡ true) ↔ (requests_taken (due node.trace node.shards a.shard node.shard) ps ≡ length (due node.trace node.shards a.shard node.shard))) (sym came) x.placed.heard;
          told = subst (λ ps. (a.keeps.has_sent_bye ≡ true) ↔ (map said ps ≡ due node.trace node.shards node.shard a.shard)) (sym requests) x.placed.told;
        };
      }
