-- A packet on a lane of replies is taken or set aside.
use Rattle.std.proofs.Common.{◌≡◌, ℕ, ◌+◌, ◌<◌, ◌≤◌, List, [], ◌∷◌, ◌++◌, length, map, take, drop, get_or, slice_get, slice_set, inl, inr, arith, refl, sym, ap, subst, ◌∙◌, Option, Some, None, Vec, cond, count_by, ◌==◌}
use Rattle.std.specs.declared.alloc.Global.{Global}
use Rattle.std.proofs.lemmas.List.{length-map, length-set, length-drop, map-set, get_or-map}
use Rattle.std.proofs.lemmas.List.Sums.{sum_by-cons}
use Rattle.rows.specs.Operation.{Operation}
use Rattle.trace_text.specs.Parsed.{trace_in}
use Rattle.trace_text.specs.Parts.{longest_value, parts}
use Rattle.trace_text.specs.Trace.{Trace}
use Rattle.rows.specs.Bodies.{most_of_body}
use Rattle.rows.specs.Apply.{Reply}
use Rattle.rows.specs.Spelled.{spelled}
use Rattle.foreign_list.specs.Blocks.{Block}
use Rattle.run_log.specs.Replies.{Replies}
use Rattle.shard_rings.specs.Lanes.{LinkEnd, Lanes, Traffic}
use Rattle.shard_rings.specs.declared.link.Packet.{Packet}
use Rattle.shard_rings.specs.declared.link.Packet.TheVariants.{Block as InBlock, Bye}
use Rattle.shard_parts.specs.declared.stray_packet.Tried.{Tried}
use Rattle.shard_parts.specs.declared.stray_packet.Tried.TheVariants.{Nothing, Expected, Other}
use Rattle.shard_parts.specs.declared.peer.Peer.{Peer}
use Rattle.shard_node.specs.declared.shard.Shard.{Shard}
use Rattle.shard_node.specs.Nodes.{PeerState}
use Rattle.shard_node.specs.Due.{Answers, AnswersNot, Takes, due, operations_for, requests_taken}
use Rattle.shard_node.specs.Standing.{InStanding, ReleasesAll, blocks, is_block, logged_at, one_if, received_from}
use Rattle.shard_parts.specs.Peers.{peer_state}
use Rattle.shard_parts.specs.Receives.{IsReply, IsNoReply, OwesReply, TriesReply, block_of, next_answer}
use Rattle.part_lemmas.specs.Releases.{Releases, Tries}
use Rattle.part_lemmas.specs.Rest.{all_of, log_of}
use Rattle.shard_node.specs.inside.Shards.{HasCursors, IsConsistent, issued_by, node_state}
use Rattle.shard_node.specs.inside.Steps.{IsStep}
use Rattle.part_lemmas.specs.Work.{bodies}
use Rattle.shard_node.proofs.Standing.Strays.{ReceivesStray, stray_with}
use Rattle.part_lemmas.proofs.OwnParts.LogPlaces.{at_shard, place_at, reply-logged, set-other}
use Rattle.shard_node.proofs.Standing.Peerwise.{StandsWith, receives_one, stays}
use Rattle.shard_node.proofs.Standing.Plans.{plans_same}
use Rattle.part_lemmas.proofs.Packets.Releases.{one_try}
use Rattle.part_lemmas.proofs.Packets.BodyLengths.{fits_short}
use Rattle.part_lemmas.proofs.OwnParts.WorkLeft.{bodies-cons}
use Rattle.shard_node.proofs.Replies.Logged.{get_first, taken_with}
use Rattle.part_lemmas.proofs.Packets.Taken.{takes_none}
use Rattle.shard_node.proofs.Replies.TakesReplies.{IsPlaced, MovesOn, first_is, get_set_other, peer_moved, same_all, same_log}

-- a packet more, and its block
pub one_more_block : (packets : List Packet) (packet : Packet) → blocks (packets ++ packet ∷ []) ≡ blocks packets + one_if (block_of packet)
one_more_block [] (InBlock block) = refl
one_more_block [] Bye = refl
one_more_block (first ∷ packets) packet =
    let e = one_more_block packets packet in
    let a = sum_by-cons (λ p. cond (is_block p) 1 0) first packets in
    let b = sum_by-cons (λ p. cond (is_block p) 1 0) first (packets ++ packet ∷ []) in
    omega (arith, e, a, b)

-- a block that came, where none waited
pub from_none : (block held : Option Block) (tally tally' : ℕ) → Tries block held tally tally' → Releases (0 + one_if block) (one_if held) tally tally'
from_none block held tally tally' tries = let e : one_if block ≡ 0 + one_if block = omega arith in subst (λ n. Releases n (one_if held) tally tally') e (one_try block held tally tally' tries)

-- a packet answers some command, and its reply is no longer than its command's may be
is_some_next : (trace : Trace) (next : Option Operation) (packet : Packet) (reply : Reply) → Answers trace next packet reply → (d : Operation) × (next ≡ Some d)
is_some_next trace (Some d) packet reply answers = (d, refl)
is_some_next trace None packet reply answers = absurd answers

answer_fits : (trace : Trace) (d : Operation) (packet : Packet) (reply : Reply) → Answers trace (Some d) packet reply → length (spelled reply).1 ≤ most_of_body (longest_value trace) d
answer_fits trace d (InBlock block) reply answers = fits_short d.kind (longest_value trace) d.key d.count reply answers.1
answer_fits trace d Bye reply answers = absurd answers

some_doer : {i j a b : ℕ} → ◌≡◌ {A = Option (ℕ × ℕ)} (Some (i, a)) (Some (j, b)) → a ≡ b
some_doer {i} {j} {a} {b} e = let f : ◌≡◌ {A = ℕ × ℕ} (i, a) (j, b) = cc in ap (λ (p : ℕ × ℕ). p.1) f

module _ {L G : Type 0} (traffic : L → Traffic) (end : L → LinkEnd) (shard : Shard L G) (x : IsConsistent shard) where
  -- the shard is as it was
  pub stays_put : (vec : Vec (Peer L) Global) → vec.items ≡ shard.peers.items → IsStep traffic end shard (record shard { peers = vec })
  stays_put vec same = record {
    consistent = plans_same shard vec shard.tally (ap length same)
        (λ k d below. record { shard = ap (λ ps. (get_or ps k d).shard) same; asks = ap (λ ps. (get_or ps k d).asks) same; answers = ap (λ ps. (get_or ps k d).answers) same; owed = ap (λ ps. (get_or ps k d).owed) same }) x;
    standing = subst (λ ps. InStanding traffic (record (node_state shard) { peers = map peer_state ps })) (sym same);
    same = record { shard = refl; shards = refl; pages = refl; trace = refl; home = refl; ends = ap (λ ps. map (λ (p : PeerState L). end p.link) (map peer_state ps)) same };
    turns = refl;
  }

  -- what the peer's standing is where a packet was set aside, or none came
  keeps_stray : (vec : Vec (Peer L) Global) (log : Replies) (tally : ℕ) (old new : Peer L) → log ≡ shard.log
      → new ≡ record old { link = new.link; held_reply = new.held_reply } → ReceivesStray traffic (node_state shard) (peer_state old) new.link
      → StandsWith traffic (node_state shard) (peer_state old)
      → StandsWith traffic (node_state (record shard { peers = vec; log = log; tally = tally })) (peer_state new)
  keeps_stray vec log tally old new same is stray stands =
      let now = node_state (record shard { peers = vec; log = log; tally = tally }) in
      let one = stray_with traffic (node_state shard) (peer_state old) new.link (record { requests = old.held_request; replies = new.held_reply }) stray stands in
      subst (λ (p : Peer L). StandsWith traffic now (peer_state p)) (sym is)
      (stays traffic (node_state shard) shard.store shard.journal log (map peer_state vec.items) shard.own.begun shard.request shard.gate tally _ (λ i reply e. e)
      (record { done = refl; logged = ap (λ (l : Replies). logged_at (node_state (record shard { log = l })) old.shard) same; begun = refl; waiting = refl }) one)

  -- what of the blocks is counted
  counts_blocks : (vec : Vec (Peer L) Global) (log : Replies) (tally k came after : ℕ) (old new : Peer L) → MovesOn shard vec log k old new
      → received_from traffic (node_state shard) (peer_state new) ≡ received_from traffic (node_state shard) (peer_state old) + came
      → old.held_reply ≡ None → new.held_request ≡ old.held_request → one_if new.held_reply ≡ after
      → Releases (0 + came) after shard.tally tally
      → ReleasesAll traffic (node_state shard) → ReleasesAll traffic (node_state (record shard { peers = vec; log = log; tally = tally }))
  counts_blocks vec log tally k came after old new m more none request reply freed =
      let items = shard.peers.items in
      let d = peer_state old in
      let long = length-map items (peer_state {L = L}) in
      let below = m.below in
      let held = ap one_if none in
      let held_request = ap one_if request in
      receives_one traffic (node_state shard) (node_state (record shard { peers = vec; log = log; tally = tally })) k (peer_state old) (peer_state new) d came 0 after (omega (arith, long, below))
      (get_or-map peer_state items k old d m.below ∙ ap peer_state m.here) (ap (map peer_state) m.now ∙ map-set peer_state items k new) more
      (omega (arith, held, held_request, reply)) freed

  -- nothing is taken of a peer, and nothing logged
  moves_stray : (vec : Vec (Peer L) Global) (log : Replies) (k : ℕ) (old new : Peer L)
      → k < length shard.peers.items → get_or shard.peers.items k old ≡ old → vec.items ≡ slice_set shard.peers.items k new → log ≡ shard.log
      → new.shard ≡ old.shard → new.asks ≡ old.asks → new.answers ≡ old.answers → new.owed ≡ old.owed → MovesOn shard vec log k old new
  moves_stray vec log k old new below here now log_is number asks answers owed = record {
    below = below;
    here = here;
    now = now;
    number = number;
    asks = asks;
    trace = ap (λ a. a.trace) answers;
    origin = ap (λ a. a.origin) answers;
    doer = ap (λ a. a.shard) answers;
    on = let e = ap (λ a. a.part) answers in omega (arith, e);
    owed = let e = ap (λ a. length a.left) answers in omega (arith, e, owed);
    bodies = let e = ap (λ a. bodies (trace_in shard.trace.now) a.left) answers in let r = ap (λ (l : Replies). l.room) log_is in omega (arith, e, r);
    so_many = ap (λ (l : Replies). length l.replies) log_is;
    others = λ j i doer at apart. ap (λ (l : Replies). slice_get l.replies j) log_is;
    behind = λ j from. ap (λ (l : Replies). slice_get l.replies j) log_is;
  }

  -- a packet came on the lane of replies of a peer that owes one, or none came
  pub takes_reply : (vec : Vec (Peer L) Global) (log : Replies) (tally k : ℕ) (old new : Peer L) (tried : Tried)
      → k < length shard.peers.items → get_or shard.peers.items k old ≡ old → vec.items ≡ slice_set shard.peers.items k new → IsPlaced old.answers
      → OwesReply old → TriesReply traffic end old new shard.log log shard.tally tally tried
      → IsStep traffic end shard (record shard { peers = vec; log = log; tally = tally })
  takes_reply vec log tally k old new tried below here now placed owes (inl none) =
      let is = none.0.same in
      let came = none.0.came in
      let log_is : log ≡ shard.log = none.1 in
      let m = moves_stray vec log k old new below here now log_is (ap (λ (p : Peer L). p.shard) is) (ap (λ (p : Peer L). p.asks) is) (ap (λ (p : Peer L). p.answers) is) (ap (λ (p : Peer L). p.owed) is) in
      let held : new.held_reply ≡ old.held_reply = ap (λ (p : Peer L). p.held_reply) is in
      peer_moved traffic end shard x vec log tally k old new m came.same_end
      (λ q apart. ap (λ (l : Replies). logged_at (node_state (record shard { log = l })) q) log_is)
      (keeps_stray vec log tally old new log_is (is ∙ ap (λ h. let p : Peer L = record old { link = new.link; held_reply = h } in p) (sym held))
      (record {
        sent = came.sent;
        requests = ap (λ (ps : Lanes (List Packet)). requests_taken (due (trace_in shard.trace.now) shard.shards old.shard shard.shard) ps.requests) came.received;
        replies = λ rs left takes. subst (λ (ps : Lanes (List Packet)). Takes (trace_in shard.trace.now) (operations_for (trace_in shard.trace.now) shard.shards shard.shard old.shard) ps.replies rs) (sym came.received) takes;
      }))
      (counts_blocks vec log tally k 0 0 old new m
      (let e = ap (λ (ps : Lanes (List Packet)). blocks ps.requests + blocks ps.replies) came.received in omega (arith, e))
      owes.1 (ap (λ (p : Peer L). p.held_request) is) (ap one_if (held ∙ owes.1))
      (record { released = 0; all = refl; counts = λ most. let e : tally ≡ shard.tally = none.2 in omega (arith, e, most) }))
  takes_reply vec log tally k old new Nothing below here now placed owes (inr takes) = absurd takes.ends
  takes_reply vec log tally k old new (Other stray) below here now placed owes (inr takes) =
      let e : IsNoReply takes.packet old new shard.log log stray = takes.ends in
      let came = takes.came in
      let is : new ≡ record old { link = new.link; held_reply = new.held_reply } =
      takes.same ∙ (ap (λ a. let p : Peer L = record old { link = new.link; held_reply = new.held_reply; answers = a; owed = new.owed } in p) e.answers
      ∙ ap (λ n. let p : Peer L = record old { link = new.link; held_reply = new.held_reply; owed = n } in p) e.owed) in
      let log_is = e.not_logged in
      let trace_is : old.answers.trace ≡ shard.trace.now = (subst (HasCursors shard) here (x.cursors k old below)).answers_trace in
      let trace = trace_in shard.trace.now in
      let m = moves_stray vec log k old new below here now log_is (ap (λ (p : Peer L). p.shard) is) (ap (λ (p : Peer L). p.asks) is) (ap (λ (p : Peer L). p.answers) is) (ap (λ (p : Peer L). p.owed) is) in
      peer_moved traffic end shard x vec log tally k old new m came.same_end
      (λ q apart. ap (λ (l : Replies). logged_at (node_state (record shard { log = l })) q) log_is)
      (keeps_stray vec log tally old new log_is is
      (record {
        sent = came.sent;
        requests = ap (λ (ps : Lanes (List Packet)). requests_taken (due trace shard.shards old.shard shard.shard) ps.requests) came.received;
        replies = λ rs left taken.
            let operations = operations_for trace shard.shards shard.shard old.shard in
            let next : next_answer old ≡ slice_get operations (length rs) = ap (λ os. slice_get os 0) left ∙ get_first operations (length rs) in
            subst (λ (ps : Lanes (List Packet)). Takes trace operations ps.replies rs) (sym came.received)
            (takes_none trace operations (traffic old.link).received.replies rs takes.packet taken
            (subst (λ o. AnswersNot trace o takes.packet) next (subst (λ t. AnswersNot (trace_in t) (next_answer old) takes.packet) trace_is e.none)));
      }))
      (counts_blocks vec log tally k (one_if (block_of takes.packet)) (one_if new.held_reply) old new m
      (let f = ap (λ (ps : Lanes (List Packet)). blocks ps.requests + blocks ps.replies) came.received in
      let more = one_more_block (traffic old.link).received.replies takes.packet in omega (arith, f, more))
      owes.1 (ap (λ (p : Peer L). p.held_request) is) refl
      (from_none (block_of takes.packet) new.held_reply shard.tally tally takes.tries))
  takes_reply vec log tally k old new Expected below here now placed owes (inr takes) =
      let e : IsReply takes.packet old new shard.log log = takes.ends in
      let came = takes.came in
      let c : HasCursors shard old = subst (HasCursors shard) here (x.cursors k old below) in
      let trace = trace_in shard.trace.now in
      let operations = operations_for trace shard.shards shard.shard old.shard in
      let some = is_some_next (trace_in old.answers.trace) (next_answer old) takes.packet e.reply e.answers in
      let d = some.0 in
      let next : next_answer old ≡ Some d = some.1 in
      let first : old.answers.left ≡ d ∷ drop 1 old.answers.left = first_is old.answers.left d next in
      let at : slice_get (issued_by shard) old.answers.part ≡ Some (d.number, old.shard) =
      subst (λ l. slice_get l old.answers.part ≡ Some (d.number, old.shard)) (same_log shard x old.answers c.answers_trace c.answers_origin)
      (placed.in_log d (drop 1 old.answers.left) first ∙ ap (λ q. Some (d.number, q)) c.answers_shard) in
      let answers : Answers trace (next_answer old) takes.packet e.reply = subst (λ t. Answers (trace_in t) (next_answer old) takes.packet e.reply) c.answers_trace e.answers in
      let short : length (spelled e.reply).1 ≤ most_of_body (longest_value trace) d =
      answer_fits trace d takes.packet e.reply (subst (λ o. Answers trace o takes.packet e.reply) next answers) in
      let m : MovesOn shard vec log k old new = record {
        below = below;
        here = here;
        now = now;
        number = ap (λ (p : Peer L). p.shard) takes.same;
        asks = ap (λ (p : Peer L). p.asks) takes.same;
        trace = e.trace;
        origin = e.origin;
        doer = e.shard;
        on = let r = e.rises in omega (arith, r);
        owed = let g = ap length first in let f = ap length e.left in let o = e.owed in omega (arith, g, f, o);
        bodies =
            let left = ap (bodies trace) first in
            let cons = bodies-cons trace d (drop 1 old.answers.left) in
            let fewer = ap (bodies trace) e.left in
            let room = e.room in
            omega (arith, left, cons, fewer, room, short);
        so_many = ap length e.replies ∙ length-set shard.log.replies old.answers.part (Some (spelled e.reply));
        others = λ j i doer there apart.
            ap (λ rs. slice_get rs j) e.replies ∙ get_set_other shard.log.replies old.answers.part j (Some (spelled e.reply))
            (λ same. apart (some_doer (sym there ∙ (ap (slice_get (issued_by shard)) same ∙ at))));
        behind = λ j from. ap (λ rs. slice_get rs j) e.replies ∙ get_set_other shard.log.replies old.answers.part j (Some (spelled e.reply)) (λ same. let r = e.rises in omega (arith, same, r, from));
      } in
      peer_moved traffic end shard x vec log tally k old new m came.same_end
      (λ q apart. ap (λ rs. at_shard q (issued_by shard) rs) e.replies ∙ set-other old.shard q (issued_by shard) shard.log.replies old.answers.part d.number (Some (spelled e.reply)) at apart)
      (λ stands.
      let n = length stands.logged.replies in
      let left = ap length stands.logged.answers ∙ length-drop n operations in
      let all : all_of old.answers ≡ operations = same_all shard x old.answers c.answers_trace c.answers_origin ∙ ap (operations_for trace shard.shards shard.shard) c.answers_shard in
      let so_many = ap length all in
      let log_is = same_log shard x old.answers c.answers_trace c.answers_origin in
      let count : count_by (λ (part : ℕ × ℕ). part.1 == old.answers.shard) (take old.answers.part (log_of old.answers)) ≡ place_at old.shard (issued_by shard) old.answers.part =
      ap (λ s. count_by (λ (part : ℕ × ℕ). part.1 == s) (take old.answers.part (log_of old.answers))) c.answers_shard ∙ ap (λ l. place_at old.shard l old.answers.part) log_is in
      let before = placed.before in
      let some_left = ap length first in
      let numbers = length-map operations (λ (o : Operation). o.number) in
      let one = taken_with traffic (node_state shard) (peer_state old) (map peer_state vec.items) new.link (record { requests = old.held_request; replies = new.held_reply }) log tally new.answers.left new.owed takes.packet e.reply
      (record { sent = came.sent; received = came.received; answered = answers; left = e.left; fewer = e.owed }) stands
      (ap (λ rs. at_shard old.shard (issued_by shard) rs) e.replies
      ∙ reply-logged old.shard (issued_by shard) shard.log.replies old.answers.part d.number (length (parts trace shard.shards shard.shard old.shard)) stands.logged.replies e.reply x.one_each at
      (omega (arith, left, so_many, count, before, some_left)) (omega (arith, left, some_left, numbers)) stands.logged.logged) in
      subst (λ (p : Peer L). StandsWith traffic (node_state (record shard { peers = vec; log = log; tally = tally })) (peer_state p)) (sym takes.same) one)
      (counts_blocks vec log tally k (one_if (block_of takes.packet)) (one_if new.held_reply) old new m
      (let f = ap (λ (ps : Lanes (List Packet)). blocks ps.requests + blocks ps.replies) came.received in
      let more = one_more_block (traffic old.link).received.replies takes.packet in omega (arith, f, more))
      owes.1 (ap (λ (p : Peer L). p.held_request) takes.same) refl
      (from_none (block_of takes.packet) new.held_reply shard.tally tally takes.tries))
