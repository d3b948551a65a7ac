-- A shard takes a packet on a lane of replies.
use Rattle.std.proofs.Common.{◌≡◌, ◌≢◌, ◌==◌, ℕ, zero, suc, ◌+◌, ◌-◌, ◌<◌, ◌≤◌, List, [], ◌∷◌, length, map, take, drop, count_by, get_or, slice_get, slice_set, sum_by, inl, inr, arith, refl, sym, ap, subst, ◌∙◌, Some, None, Vec}
use Rattle.std.specs.List.{All}
use Rattle.std.specs.declared.alloc.Global.{Global}
use Rattle.std.proofs.lemmas.Bool.{cases_order}
use Rattle.std.proofs.lemmas.List.{length-map, length-set, get_or-map, get_or-set_same, get_or-set_other, get_or_default}
use Rattle.std.proofs.lemmas.List.Sums.{sum_by-cons, sum_by-set}
use Rattle.rows.specs.Operation.{Operation}
use Rattle.trace_text.specs.Parsed.{trace_in}
use Rattle.rows.specs.Bodies.{most_of_body}
use Rattle.cache_model.specs.OwnParts.{issued_parts}
use Rattle.run_log.specs.Replies.{Replies}
use Rattle.shard_rings.specs.Lanes.{LinkEnd, Traffic}
use Rattle.shard_parts.specs.declared.peer.Peer.{Peer}
use Rattle.shard_node.specs.declared.shard.Shard.{Shard}
use Rattle.shard_node.specs.Nodes.{PeerState}
use Rattle.shard_node.specs.Due.{operations_for}
use Rattle.shard_parts.specs.Peers.{peer_state}
use Rattle.shard_parts.specs.Receives.{next_answer}
use Rattle.part_lemmas.specs.Rest.{RestState, all_of, log_of}
use Rattle.shard_node.specs.inside.Shards.{AreUnanswered, HasCursors, IsConsistent, issued_by, node_state}
use Rattle.part_lemmas.specs.Work.{bodies, puts_among}
use Rattle.shard_node.proofs.Standing.Consistent.{peer_is_other, peers_differ}
use Rattle.shard_node.specs.Standing.{ReleasesAll, begun_at, logged_at, waiting_request}
use Rattle.shard_node.specs.inside.Steps.{IsStep}
use Rattle.shard_node.proofs.Standing.Peerwise.{StandsWith, all_but, all_stand, each_stands, stays}
use Rattle.shard_node.proofs.Standing.Plans.{same_seen, seen_each}
use Rattle.shard_node.proofs.Standing.Stands.{sums-agree}
use Rattle.part_lemmas.proofs.OwnParts.WorkLeft.{bodies-cons}

-- what the cursor of a peer's answers says of its place in the log
pub record IsPlaced (rest : RestState) : Type 0 where
  pub in_log : (operation : Operation) (others : List Operation) → rest.left ≡ operation ∷ others → slice_get (log_of rest) rest.part ≡ Some (operation.number, rest.shard)
  pub before : count_by (λ part. part.1 == rest.shard) (take rest.part (log_of rest)) + length rest.left ≡ length (all_of rest)
  pub rest_is : rest.left ≡ drop (length (all_of rest) - length rest.left) (all_of rest)

pub first_is : {X : Type 0} (xs : List X) (x : X) → slice_get xs 0 ≡ Some x → xs ≡ x ∷ drop 1 xs
first_is [] x is = absurd (let e : None ≡ Some x = is in cc)
first_is (y ∷ ys) x is = let e : Some y ≡ Some x = is in let f : y ≡ x = cc in ap (λ z. z ∷ ys) f

-- one of a sum is no more than the sum
one_of_sum : {X : Type 0} (f : X → ℕ) (xs : List X) (k : ℕ) (d : X) → k < length xs → f (get_or xs k d) ≤ sum_by f xs
one_of_sum f [] k d below = absurd (omega (arith, below))
one_of_sum f (x ∷ xs) zero d below = let e = sum_by-cons f x xs in omega (arith, e)
one_of_sum f (x ∷ xs) (suc k) d below = let e = sum_by-cons f x xs in let rest = one_of_sum f xs k d (omega (arith, below)) in omega (arith, e, rest)

pub get_set_other : {X : Type 0} (xs : List X) (i j : ℕ) (x : X) → j ≢ i → slice_get (slice_set xs i x) j ≡ slice_get xs j
get_set_other [] i j x apart = refl
get_set_other (y ∷ ys) zero zero x apart = absurd (apart refl)
get_set_other (y ∷ ys) zero (suc j) x apart = refl
get_set_other (y ∷ ys) (suc i) zero x apart = refl
get_set_other (y ∷ ys) (suc i) (suc j) x apart = get_set_other ys i j x (λ e. apart (ap suc e))

module _ {L G : Type 0} (shard : Shard L G) (x : IsConsistent shard) where
  -- the log of a peer's answers is that of the shard
  pub same_log : (rest : RestState) → rest.trace ≡ shard.trace.now → rest.origin ≡ shard.shard → log_of rest ≡ issued_by shard
  same_log rest trace origin =
      ap (λ t. issued_parts (trace_in t) t.shards rest.origin) trace
      ∙ (ap (λ o. issued_parts (trace_in shard.trace.now) shard.trace.now.shards o) origin ∙ ap (λ n. issued_parts (trace_in shard.trace.now) n shard.shard) (sym x.parsed_for))

  pub same_all : (rest : RestState) → rest.trace ≡ shard.trace.now → rest.origin ≡ shard.shard → all_of rest ≡ operations_for (trace_in shard.trace.now) shard.shards shard.shard rest.shard
  same_all rest trace origin =
      ap (λ t. operations_for (trace_in t) t.shards rest.origin rest.shard) trace
      ∙ (ap (λ o. operations_for (trace_in shard.trace.now) shard.trace.now.shards o rest.shard) origin ∙ ap (λ n. operations_for (trace_in shard.trace.now) n shard.shard rest.shard) (sym x.parsed_for))

  -- the reply of the next command may be recorded
  pub next_unanswered : (k : ℕ) (old : Peer L) (d : Operation) → k < length shard.peers.items → get_or shard.peers.items k old ≡ old → IsPlaced old.answers
      → next_answer old ≡ Some d → slice_get shard.log.replies old.answers.part ≡ Some None
  next_unanswered k old d below here placed next =
      let c : HasCursors shard old = subst (HasCursors shard) here (x.cursors k old below) in
      let first : old.answers.left ≡ d ∷ drop 1 old.answers.left = first_is old.answers.left d next in
      let at : slice_get (issued_by shard) old.answers.part ≡ Some (d.number, old.shard) =
      subst (λ l. slice_get l old.answers.part ≡ Some (d.number, old.shard)) (same_log old.answers c.answers_trace c.answers_origin)
      (placed.in_log d (drop 1 old.answers.left) first ∙ ap (λ q. Some (d.number, q)) c.answers_shard) in
      subst (λ (p : Peer L). AreUnanswered shard p.shard p.answers.part) here (x.unanswered k old below) old.answers.part d.number (omega arith) at

  -- and there is room for its body
  pub next_has_room : (k : ℕ) (old : Peer L) (d : Operation) → k < length shard.peers.items → get_or shard.peers.items k old ≡ old
      → next_answer old ≡ Some d → most_of_body shard.longest d ≤ shard.log.room
  next_has_room k old d below here next =
      let first : old.answers.left ≡ d ∷ drop 1 old.answers.left = first_is old.answers.left d next in
      let trace = trace_in shard.trace.now in
      let f : Peer L → ℕ = λ peer. bodies trace peer.answers.left in
      let here_left : f (get_or shard.peers.items k old) ≡ bodies trace (d ∷ drop 1 old.answers.left) = ap f here ∙ ap (bodies trace) first in
      let cons = bodies-cons trace d (drop 1 old.answers.left) in
      let one = one_of_sum f shard.peers.items k old below in
      let room = x.room.bodies in
      let longest = ap (λ n. most_of_body n d) x.longest in
      omega (arith, here_left, cons, one, room, longest)

-- a change of one place, seen place by place
pub at_set : {X : Type 0} (R : X → X → Type 0) (xs : List X) (k : ℕ) (old new d : X) (j : ℕ) → k < length xs → get_or xs k old ≡ old → ((x : X) → R x x) → R old new
    → R (get_or xs j d) (get_or (slice_set xs k new) j d)
at_set {X} R xs k old new d j below here same change = elim (cases_order j k) [
  | inl is ↦
      let now : get_or (slice_set xs k new) j d ≡ new = ap (λ i. get_or (slice_set xs k new) i d) is ∙ get_or-set_same xs k new d below in
      let was : get_or xs j d ≡ old = ap (λ i. get_or xs i d) is ∙ (get_or_default xs k d old below ∙ here) in
      subst (λ (y : X). R (get_or xs j d) y) (sym now) (subst (λ (y : X). R y new) (sym was) change)
  | inr (inl less) ↦ subst (λ (y : X). R (get_or xs j d) y) (sym (get_or-set_other xs k j new d (λ e. omega (arith, e, less)))) (same (get_or xs j d))
  | inr (inr more) ↦ subst (λ (y : X). R (get_or xs j d) y) (sym (get_or-set_other xs k j new d (λ e. omega (arith, e, more)))) (same (get_or xs j d))
]

module _ {L G : Type 0} (shard : Shard L G) where
  -- One peer moves on with what it answers, and the log with it.
  pub record MovesOn (vec : Vec (Peer L) Global) (log : Replies) (k : ℕ) (old new : Peer L) : Type 0 where
    pub below : k < length shard.peers.items
    pub here : get_or shard.peers.items k old ≡ old
    pub now : vec.items ≡ slice_set shard.peers.items k new
    pub number : new.shard ≡ old.shard
    pub asks : new.asks ≡ old.asks
    pub trace : new.answers.trace ≡ old.answers.trace
    pub origin : new.answers.origin ≡ old.answers.origin
    pub doer : new.answers.shard ≡ old.answers.shard
    pub on : old.answers.part ≤ new.answers.part
    pub owed : length new.answers.left + old.owed ≡ length old.answers.left + new.owed
    pub bodies : bodies (trace_in shard.trace.now) new.answers.left + shard.log.room ≤ bodies (trace_in shard.trace.now) old.answers.left + log.room
    pub so_many : length log.replies ≡ length shard.log.replies
    pub others : (j i doer : ℕ) → slice_get (issued_by shard) j ≡ Some (i, doer) → doer ≢ old.shard → slice_get log.replies j ≡ slice_get shard.log.replies j
    pub behind : (j : ℕ) → new.answers.part ≤ j → slice_get log.replies j ≡ slice_get shard.log.replies j

  pub moves_on : (vec : Vec (Peer L) Global) (log : Replies) (tally k : ℕ) (old new : Peer L) → MovesOn vec log k old new
      → IsConsistent shard → IsConsistent (record shard { peers = vec; log = log; tally = tally })
  moves_on vec log tally k old new m x =
      let items = shard.peers.items in
      let many : length vec.items ≡ length items = ap length m.now ∙ length-set items k new in
      let each : (R : Peer L → Peer L → Type 0) (j : ℕ) (d : Peer L) → ((p : Peer L) → R p p) → R old new → R (get_or items j d) (get_or vec.items j d) =
      λ R j d same change. subst (λ ps. R (get_or items j d) (get_or ps j d)) (sym m.now) (at_set R items k old new d j m.below m.here same change) in
      let inside : (j : ℕ) → j < length vec.items → j < length items = λ j below. omega (arith, below, many) in
      let puts : sum_by (λ (p : Peer L). puts_among p.asks.left) vec.items ≡ sum_by (λ (p : Peer L). puts_among p.asks.left) items =
      sums-agree (λ (p : Peer L). puts_among p.asks.left) items vec.items many (λ j d below. each (λ a b. puts_among b.asks.left ≡ puts_among a.asks.left) j d (λ p. refl) (ap (λ a. puts_among a.left) m.asks)) in
      let parts : sum_by (λ (p : Peer L). length p.asks.left) vec.items ≡ sum_by (λ (p : Peer L). length p.asks.left) items =
      sums-agree (λ (p : Peer L). length p.asks.left) items vec.items many (λ j d below. each (λ a b. length b.asks.left ≡ length a.asks.left) j d (λ p. refl) (ap (λ a. length a.left) m.asks)) in
      let most : Peer L → ℕ = λ p. bodies (trace_in shard.trace.now) p.answers.left in
      let sum = sum_by-set most items k new old m.below in
      let sum_now = ap (sum_by most) m.now in
      let sum_here = ap most m.here in
      let fewer = m.bodies in
      let a = x.room.rows in
      let b = x.room.spare in
      let c = x.room.bodies in
      record {
        read = x.read;
        formed = x.formed;
        parsed_for = x.parsed_for;
        within = x.within;
        of_shard = x.of_shard;
        pages = x.pages;
        of_regions = x.of_regions;
        unguarded = x.unguarded;
        counted = x.counted;
        longest = x.longest;
        peers = same_seen (λ (p : Peer L). p.shard) items vec.items many (λ j d below. each (λ a b. b.shard ≡ a.shard) j d (λ p. refl) m.number) ∙ x.peers;
        cursors = λ j d below.
            let c = x.cursors j d (inside j below) in
            let asks = each (λ a b. b.asks ≡ a.asks) j d (λ p. refl) m.asks in
            let number = each (λ a b. b.shard ≡ a.shard) j d (λ p. refl) m.number in
            record {
              asks_trace = ap (λ a. a.trace) asks ∙ c.asks_trace;
              asks_origin = ap (λ a. a.origin) asks ∙ (c.asks_origin ∙ sym number);
              asks_shard = ap (λ a. a.shard) asks ∙ c.asks_shard;
              answers_trace = each (λ a b. b.answers.trace ≡ a.answers.trace) j d (λ p. refl) m.trace ∙ c.answers_trace;
              answers_origin = each (λ a b. b.answers.origin ≡ a.answers.origin) j d (λ p. refl) m.origin ∙ c.answers_origin;
              answers_shard = each (λ a b. b.answers.shard ≡ a.answers.shard) j d (λ p. refl) m.doer ∙ (c.answers_shard ∙ sym number);
            };
        own = record {
          own_trace = x.own.own_trace;
          own_shard = x.own.own_shard;
          here_trace = x.own.here_trace;
          here_origin = x.own.here_origin;
          here_shard = x.own.here_shard;
          here = x.own.here;
        };
        begun = x.begun;
        waits = x.waits;
        asked = λ j d below.
            let asked = x.asked j d (inside j below) in
            let owed = each (λ a b. length b.answers.left + a.owed ≡ length a.answers.left + b.owed) j d (λ p. refl) m.owed in
            let number = each (λ a b. b.shard ≡ a.shard) j d (λ p. refl) m.number in
            let begun = ap (λ q. length (begun_at (node_state shard) q)) number in
            let all = ap (λ q. length (operations_for (trace_in shard.trace.now) shard.shards shard.shard q)) number in
            let waiting = ap (λ q. length (waiting_request shard.request q)) number in
            omega (arith, asked, owed, begun, all, waiting);
        room = record { rows = omega (arith, a, puts); spare = omega (arith, b, puts, parts); bodies = omega (arith, c, sum, sum_now, sum_here, fewer); keys = x.room.keys };
        short = x.short;
        one_each = m.so_many ∙ x.one_each;
        own_unanswered = λ j i from is. m.others j i shard.shard is (λ e. peer_is_other shard x k old m.below (ap (λ (p : Peer L). p.shard) m.here ∙ sym e)) ∙ x.own_unanswered j i from is;
        unanswered = subst (All (λ (p : Peer L). AreUnanswered (record shard { peers = vec; log = log; tally = tally }) p.shard p.answers.part)) (sym m.now)
            (all_but (λ (p : Peer L). AreUnanswered shard p.shard p.answers.part) (λ (p : Peer L). AreUnanswered (record shard { peers = vec; log = log; tally = tally }) p.shard p.answers.part) items k new m.below x.unanswered
            (λ j i from is.
            m.behind j from ∙ subst (λ (p : Peer L). AreUnanswered shard p.shard p.answers.part) m.here (x.unanswered k old m.below) j i (let on = m.on in omega (arith, from, on))
            (subst (λ q. slice_get (issued_by shard) j ≡ Some (i, q)) m.number is))
            (λ place d inside apart before j i from is.
            m.others j i (get_or items place d).shard is (λ e. peers_differ shard x place k d old inside m.below apart (e ∙ ap (λ (p : Peer L). p.shard) (sym m.here))) ∙ before j i from is));
      }

module _ {L G : Type 0} (traffic : L → Traffic) (end : L → LinkEnd) (shard : Shard L G) (x : IsConsistent shard) where
  -- One peer of the shard moves on, with its log and its tally.
  pub peer_moved : (vec : Vec (Peer L) Global) (log : Replies) (tally k : ℕ) (old new : Peer L) → MovesOn shard vec log k old new
      → end new.link ≡ end old.link
      → ((q : ℕ) → q ≢ old.shard → logged_at (node_state (record shard { log = log })) q ≡ logged_at (node_state shard) q)
      → (StandsWith traffic (node_state shard) (peer_state old) → StandsWith traffic (node_state (record shard { peers = vec; log = log; tally = tally })) (peer_state new))
      → (ReleasesAll traffic (node_state shard) → ReleasesAll traffic (node_state (record shard { peers = vec; log = log; tally = tally })))
      → IsStep traffic end shard (record shard { peers = vec; log = log; tally = tally })
  peer_moved vec log tally k old new m ends others here received =
      let items = shard.peers.items in
      let node = node_state shard in
      let now = node_state (record shard { peers = vec; log = log; tally = tally }) in
      let many : length vec.items ≡ length items = ap length m.now ∙ length-set items k new in
      record {
        consistent = moves_on shard vec log tally k old new m x;
        standing = λ stands.
            let before : All (λ (p : Peer L). StandsWith traffic node (peer_state p)) items =
            λ j d below. subst (StandsWith traffic node) (get_or-map peer_state items j d (peer_state d) below)
            (each_stands traffic node stands j (peer_state d) (let e = length-map items (peer_state {L = L}) in omega (arith, e, below))) in
            let after : All (λ (p : Peer L). StandsWith traffic now (peer_state p)) (slice_set items k new) =
            all_but (λ (p : Peer L). StandsWith traffic node (peer_state p)) (λ (p : Peer L). StandsWith traffic now (peer_state p)) items k new m.below before
            (here (subst (λ (p : Peer L). StandsWith traffic node (peer_state p)) m.here (before k old m.below)))
            (λ j d inside apart one. stays traffic node shard.store shard.journal log (map peer_state vec.items) shard.own.begun shard.request shard.gate tally (peer_state (get_or items j d)) (λ i reply e. e)
            (record { done = refl; logged = others (get_or items j d).shard (λ e. peers_differ shard x j k d old inside m.below apart (e ∙ ap (λ (p : Peer L). p.shard) (sym m.here))); begun = refl; waiting = refl }) one) in
            let own : shard.shard ≢ old.shard = λ e. peer_is_other shard x k old m.below (ap (λ (p : Peer L). p.shard) m.here ∙ sym e) in
            all_stand traffic now (record {
              journal = record { legal = stands.journal.legal; pressure = stands.journal.pressure };
              own = stands.own;
              one_each = m.so_many ∙ stands.logged.one_each;
              logged = others shard.shard own ∙ stands.logged.own;
              lent = record { lends = stands.lent.lends; out = stands.lent.out };
              received = received stands.kept.received;
            }) (λ j d below.
            let inside : j < length vec.items = (let e = length-map vec.items (peer_state {L = L}) in omega (arith, e, below)) in
            let known : All (λ (p : Peer L). StandsWith traffic now (peer_state p)) vec.items = subst (All (λ (p : Peer L). StandsWith traffic now (peer_state p))) (sym m.now) after in
            subst (StandsWith traffic now) (sym (get_or-map peer_state vec.items j old d inside)) (known j old inside));
        same = record {
          shard = refl;
          shards = refl;
          pages = refl;
          trace = refl;
          home = refl;
          ends = same_seen (λ (p : PeerState L). end p.link) (map peer_state items) (map peer_state vec.items)
              (let a = length-map items (peer_state {L = L}) in let b = length-map vec.items (peer_state {L = L}) in omega (arith, a, b, many))
              (seen_each peer_state (λ (a b : PeerState L). end b.link ≡ end a.link) items vec.items many
              (λ j d below. subst (λ ps. end (get_or ps j d).link ≡ end (get_or items j d).link) (sym m.now)
              (at_set (λ (a b : Peer L). end b.link ≡ end a.link) items k old new d j m.below m.here (λ p. refl) ends)));
        };
        turns = refl;
      }
