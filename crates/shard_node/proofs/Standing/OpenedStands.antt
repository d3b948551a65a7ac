-- A shard that is opened is in standing: nothing was done, nothing was sent or received, and the log has no reply.
use mathlib.Core.List.{IsPrefix}
use Rattle.std.proofs.Common.{◌≡◌, ℕ, suc, ◌+◌, ◌-◌, ◌<◌, ◌==◌, Bool, true, false, not, cond, List, [], ◌∷◌, ◌++◌, length, map, take, drop, filter, replicate, get_or}
use Rattle.std.proofs.Common.{Option, Some, None, arith, refl, sym, ap, subst, ◌∙◌, true≢false}
use Rattle.std.specs.List.{All, count_by, sum_by, zip}
use Rattle.std.specs.Option.{option_map}
use Rattle.std.proofs.lemmas.List.{length-map, length_push}
use Rattle.std.proofs.lemmas.List.Elements.{All-map}
use Rattle.std.proofs.lemmas.List.Sums.{sum_by-cons}
use Rattle.rows.specs.Operation.{Operation}
use Rattle.trace_text.specs.Parsed.{IsWellFormed, trace_in}
use Rattle.trace_text.specs.Parts.{origin, parts}
use Rattle.cache_model.specs.declared.entry.Entry.{Entry}
use Rattle.cache_model.specs.declared.entry.Entry.TheVariants.{Evicted}
use Rattle.rows.specs.declared.reply_kind.ReplyKind.{ReplyKind}
use Rattle.cache_model.specs.Legal.{cache_after, done, reply_at}
use Rattle.rows.specs.Spelled.{spelled}
use Rattle.shard_rings.specs.Lanes.{Lanes, Traffic}
use Rattle.shard_rings.specs.Request.{request}
use Rattle.shard_rings.specs.declared.link.Packet.{Packet}
use Rattle.shard_parts.specs.declared.peer.Peer.{Peer}
use Rattle.shard_node.specs.declared.shard.Shard.{Shard}
use Rattle.shard_node.specs.Due.{Takes, due, operations_for, requests_taken, said}
use Rattle.shard_node.specs.Standing.{AreReplies, InStanding, asked_of_others, blocks, done_for, done_for_others, held_of, logged_at, one_if, received_from, waiting_reply, waiting_request}
use Rattle.shard_node.specs.Links.{IsUnused}
use Rattle.shard_parts.specs.Opening.{IsNewPeer}
use Rattle.shard_parts.specs.Peers.{peer_state}
use Rattle.shard_node.specs.inside.Shards.{issued_by, node_state}
use Rattle.part_lemmas.proofs.OwnParts.BegunParts.{count-issued}
use Rattle.shard_node.proofs.Standing.Consistent.{peer_below}
use Rattle.part_lemmas.proofs.OwnParts.IssuedParts.{AreCounted, AreOfPeers}
use Rattle.shard_node.proofs.Standing.Opened.{IsOpened, none-begun, opens-consistent, so-many, waiting-none}
use Rattle.shard_node.proofs.Standing.Peerwise.{StandsItself, StandsWith, all_stand}

-- A log without replies.

at-none : {A : Type 0} (q : ℕ) (log : List (ℕ × ℕ)) → map (λ entry. entry.1) (filter (λ entry. entry.0.1 == q) (zip log (replicate {A = Option A} (length log) None)))
    ≡ replicate (count_by (λ part. part.1 == q) log) None
at-none q [] = refl
at-none {A} q (part ∷ log) =
    go (part.1 == q) (filter (λ (entry : (ℕ × ℕ) × Option A). entry.0.1 == q) (zip log (replicate (length log) None))) (at-none q log)
    ∙ ap (λ n. replicate n None) (sym (sum_by-cons (λ (p : ℕ × ℕ). cond (p.1 == q) 1 0) part log))
  where
    go : (b : Bool) (rest : List ((ℕ × ℕ) × Option A)) → map (λ (entry : (ℕ × ℕ) × Option A). entry.1) rest ≡ replicate (count_by (λ (p : ℕ × ℕ). p.1 == q) log) None
        → map (λ (entry : (ℕ × ℕ) × Option A). entry.1) (cond b ((part, None) ∷ rest) rest) ≡ replicate (cond b 1 0 + count_by (λ (p : ℕ × ℕ). p.1 == q) log) None
    go true rest so = ap (λ more. None ∷ more) so ∙ (let e : 1 + count_by (λ (p : ℕ × ℕ). p.1 == q) log ≡ suc (count_by (λ (p : ℕ × ℕ). p.1 == q) log) = omega arith in ap (λ n. replicate n None) (sym e))
    go false rest so = so ∙ (let e : 0 + count_by (λ (p : ℕ × ℕ). p.1 == q) log ≡ count_by (λ (p : ℕ × ℕ). p.1 == q) log = omega arith in ap (λ n. replicate n None) (sym e))

no-replies : {X A : Type 0} (xs : List X) → map {B = Option A} (λ x. None) xs ≡ replicate (length xs) None
no-replies [] = refl
no-replies {X} {A} (x ∷ xs) = ap (λ (more : List (Option A)). None ∷ more) (no-replies {A = A} xs)

no-entry : (before later : List Entry) (q : ℕ) → [] ≡ before ++ Evicted q ∷ later → ⊥
no-entry [] later q e = cc
no-entry (entry ∷ before) later q e = cc

sum-none : {X : Type 0} (f : X → ℕ) (xs : List X) → All (λ x. f x ≡ 0) xs → sum_by f xs ≡ 0
sum-none f [] none = refl
sum-none f (x ∷ xs) none =
    let first = sum_by-cons f x xs in
    let here : f x ≡ 0 = none 0 x (omega arith) in
    let rest = sum-none f xs (λ k d below. none (suc k) d (omega (arith, below))) in
    omega (arith, first, here, rest)

-- something is due to each peer: Bye at least
some-due : (operations : List Operation) → length (map (λ operation. Some (request operation)) operations ++ None ∷ []) ≡ length (map (λ operation. Some (request operation)) operations) + 1
some-due operations = length_push (map (λ operation. Some (request operation)) operations) None

module _ {L G : Type 0} (traffic : L → Traffic) (shard : Shard L G) (x : IsOpened traffic shard) (counted : AreCounted) (of_peers : AreOfPeers) (formed : All IsWellFormed (trace_in shard.trace.now).operations) where
  none-done : shard.journal.entries ≡ []
  none-done = ap (λ journal. journal.entries) x.journal

  done-none : (q : ℕ) → done_for shard.shards q shard.journal.entries ≡ []
  done-none q = ap (done_for shard.shards q) none-done

  logged-none : (q : ℕ) → q < shard.shards → logged_at (node_state shard) q ≡ replicate (length (parts (trace_in shard.trace.now) shard.shards shard.shard q)) None
  logged-none q below =
      ap (λ log. map (λ entry. entry.1) (filter (λ entry. entry.0.1 == q) (zip (issued_by shard) log.replies))) x.log
      ∙ ap (λ m. map (λ entry. entry.1) (filter (λ entry. entry.0.1 == q) (zip (issued_by shard) (replicate m None)))) (sym (counted (trace_in shard.trace.now) shard.shards shard.shard))
      ∙ at-none q (issued_by shard)
      ∙ ap (λ m. replicate m None) (count-issued of_peers (trace_in shard.trace.now) shard.shards shard.shard q below
      ∙ sym (length-map (operations_for (trace_in shard.trace.now) shard.shards shard.shard q) (λ operation. operation.number)))

  itself : StandsItself traffic (node_state shard)
  itself =
      let own = parts (trace_in shard.trace.now) shard.shards shard.shard shard.shard in
      record {
        journal = record {
          legal = ap (cache_after (trace_in shard.trace.now) shard.pages) none-done ∙ sym (ap Some x.rows);
          pressure = λ one before later q cache e leads. absurd (no-entry before later q (sym none-done ∙ e));
        };
        own = done-none shard.shard ∙ sym (ap (λ b. take (length b) own) (none-begun traffic shard x counted of_peers formed shard.shard));
        one_each = so-many traffic shard x counted of_peers formed;
        logged = logged-none shard.shard x.within ∙ sym (ap (λ es. map (λ i. option_map spelled (reply_at (trace_in shard.trace.now) shard.pages es i)) own) none-done ∙ no-replies {A = ReplyKind × List ℕ} own);
        lent =
            let asked : asked_of_others traffic (node_state shard) ≡ 0 = ap (λ b. count_by (λ part. not (part.1 == shard.shard)) (take b (issued_by shard))) x.begun in
            let did : done_for_others traffic (node_state shard) ≡ 0 = ap (λ es. count_by (λ i. not (origin i shard.shards == shard.shard)) (done es)) none-done in
            let lends = x.lends in
            let backs = x.backs in
            let idle = x.idle in
            record { lends = omega (arith, lends, asked, did); out = omega (arith, lends, backs, idle) };
        received =
            let held = sum-none (held_of traffic (node_state shard)) (map peer_state shard.peers.items) (All-map (λ p. held_of traffic (node_state shard) p ≡ 0) peer_state shard.peers.items (λ k d below.
            let requests = ap one_if (x.new k d below).held_request in
            let replies = ap one_if (x.new k d below).held_reply in
            omega (arith, requests, replies))) in
            let came = sum-none (received_from traffic (node_state shard)) (map peer_state shard.peers.items) (All-map (λ p. received_from traffic (node_state shard) p ≡ 0) peer_state shard.peers.items (λ k d below.
            ap (λ (lanes : Lanes (List Packet)). blocks lanes.requests + blocks lanes.replies) (x.unused k d below).received)) in
            let tally = x.tally in
            record { released = 0; all = omega (arith, held, came); counted = omega (arith, tally) };
      }

  stands_with : (peer : Peer L) → peer.shard < shard.shards → IsNewPeer shard.trace.now shard.shards shard.shard peer → IsUnused traffic peer.link → StandsWith traffic (node_state shard) (peer_state peer)
  stands_with peer below new unused =
      let q = peer.shard in
      let trace = trace_in shard.trace.now in
      let asks = due trace shard.shards q shard.shard in
      let asked = due trace shard.shards shard.shard q in
      let reply = reply_at trace shard.pages shard.journal.entries in
      let numbers = done_for shard.shards q shard.journal.entries in
      let theirs = parts trace shard.shards shard.shard q in
      let begun = ap length (none-begun traffic shard x counted of_peers formed q) in
      let waits = waiting-none traffic shard x counted of_peers formed q in
      let sent = ap (λ (lanes : Lanes (List Packet)). blocks lanes.requests) unused.sent in
      let so_long = ap (λ (lanes : Lanes (List Packet)). length (map said lanes.requests)) unused.sent in
      let replies_sent = ap (λ (lanes : Lanes (List Packet)). length lanes.replies) unused.sent in
      let taken : requests_taken asks (traffic peer.link).received.requests ≡ 0 = ap (λ (lanes : Lanes (List Packet)). requests_taken asks lanes.requests) unused.received in
      let did = ap length (done-none q) in
      let owed = new.owed in
      let empty = ap one_if new.reply in
      let bye_in = some-due (operations_for trace shard.shards q shard.shard) in
      let bye_out = some-due (operations_for trace shard.shards shard.shard q) in
      record {
        asked = subst (λ (lanes : Lanes (List Packet)). IsPrefix (map said lanes.requests) asked) (sym unused.sent) (asked, refl);
        served = done-none q ∙ sym (ap (λ k. take k (parts trace shard.shards q shard.shard)) taken);
        replied = subst (λ (lanes : Lanes (List Packet)). AreReplies reply lanes.replies numbers) (sym unused.sent) tt;
        logged = record {
          replies = [];
          taken = subst (λ (lanes : Lanes (List Packet)). Takes trace (operations_for trace shard.shards shard.shard q) lanes.replies []) (sym unused.received) refl;
          logged = logged-none q below ∙ (let e : length theirs ≡ length theirs - 0 = omega arith in ap (λ m. replicate m None) e);
          answers = new.answers;
          owed = omega (arith, owed, sent);
        };
        requests = record {
          count = omega (arith, begun, sent, waits);
          next = subst (λ (lanes : Lanes (List Packet)). IsPrefix (map said lanes.requests ++ waiting_request shard.request q) asked) (sym unused.sent)
              (subst (λ r. IsPrefix (waiting_request r q) asked) (sym x.request) (asked, refl));
        };
        replies = record {
          count = omega (arith, did, replies_sent, empty);
          next = subst (λ (lanes : Lanes (List Packet)). AreReplies reply (lanes.replies ++ waiting_reply peer.reply) numbers) (sym unused.sent)
              (subst (λ r. AreReplies reply (waiting_reply r) numbers) (sym new.reply) tt);
        };
        placed = record {
          asks = new.asks ∙ sym (ap (λ k. drop k (operations_for trace shard.shards q shard.shard)) taken);
          heard = (λ is. absurd (true≢false (sym is ∙ new.has_heard_bye)), λ is. absurd (omega (arith, is, taken, bye_in)));
          told = (λ is. absurd (true≢false (sym is ∙ new.has_sent_bye)), λ is. absurd (let same = ap length is in omega (arith, same, so_long, bye_out)));
        };
      }

  pub opens-standing : InStanding traffic (node_state shard)
  opens-standing =
      all_stand traffic (node_state shard) itself
      (All-map (StandsWith traffic (node_state shard)) peer_state shard.peers.items (λ k d below.
      stands_with (get_or shard.peers.items k d) (peer_below shard (opens-consistent traffic shard x counted of_peers formed) k d below) (x.new k d below) (x.unused k d below)))
