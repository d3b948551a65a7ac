-- What holds a node up toward a peer, where no packet goes over the link.
use Rattle.std.proofs.Common.{◌≡◌, ℕ, zero, suc, ◌+◌, ◌<◌, ◌≤◌, Bool, true, false, true≢false, List, [], ◌∷◌, ◌++◌, length, map, get_or, Option, Some, None, IsSome}
use Rattle.std.proofs.Common.{cond, inl, inr, arith, refl, sym, ap, ◌∙◌}
use Rattle.std.proofs.lemmas.Bool.{cases_order}
use Rattle.std.proofs.lemmas.List.Sums.{sum_by-cons}
use Rattle.rows.specs.Operation.{Operation}
use Rattle.foreign_list.specs.Blocks.{Block}
use Rattle.run_log.specs.JournalState.{JournalState}
use Rattle.run_log.specs.Replies.{Replies as ReplyLog}
use Rattle.shard_memory.specs.Tickets.{Tickets}
use Rattle.shard_store.specs.Stores.{StoreState}
use Rattle.layout.specs.Counts.{Rose}
use Rattle.shard_rings.specs.Lanes.{LinkEnd, Lanes, Traffic}
use Rattle.shard_rings.specs.Request.{request}
use Rattle.shard_rings.specs.declared.link.Lane.TheVariants.{Requests, Replies}
use Rattle.shard_rings.specs.declared.link.Packet.{Packet}
use Rattle.shard_rings.specs.declared.link.Packet.TheVariants.{Block as InBlock, Bye}
use Rattle.shard_parts.specs.declared.stray_packet.Tried.{Tried}
use Rattle.shard_parts.specs.declared.peer.Peer.{Peer}
use Rattle.shard_node.specs.Nodes.{NodeState, PeerState}
use Rattle.shard_node.specs.Due.{said}
use Rattle.shard_node.specs.Standing.{blocks, is_block}
use Rattle.shard_node.specs.inside.Moves.{Goes, GoesOn, HeldUp, NonePassed, Pairs, ReplyLacks, ReplyWaits, RequestLacks, SameWith, packets, packets_with}
use Rattle.shard_parts.specs.Peers.{SaysBye, SendsReply, held, peer_state}
use Rattle.shard_parts.specs.Receives.{TriesReply}
use Rattle.part_lemmas.specs.Sends.{SendsHeld, TriesBye}
use Rattle.shard_node.specs.inside.Serves.{TriesRequest}
use Rattle.part_lemmas.proofs.Packets.Passed.{packets_came, packets_sent, sums_still}

-- a count that rose, in a while in which it never fell
pub rose-on : (a b c d : ℕ) → a ≤ b → Rose b c → c ≤ d → Rose a d
rose-on a b c d low (inl less) high = inl (omega (arith, low, less, high))
rose-on a b c d low (inr most) high = elim (cases_order a d) [
  | inl same ↦ let x = most.0 in let y = most.1 in inr (omega (arith, low, high, same, x, y), omega (arith, low, high, same, x, y))
  | inr (inl less) ↦ inl less
  | inr (inr fell) ↦ let x = most.0 in let y = most.1 in absurd (omega (arith, low, high, fell, x, y))
]

module _ {L : Type 0} (traffic : L → Traffic) (end : L → LinkEnd) where
  reply_so : (x y : Option Block) (old new : Traffic) → SendsHeld Replies x y old new → packets new ≤ packets old → IsSome x → Rose old.full.replies new.full.replies
  reply_so None y old new sends quiet some = absurd (true≢false (sym some))
  reply_so (Some block) None old new sends quiet some = let e = packets_sent Replies _ old new sends.sent sends.received in absurd (omega (arith, e, quiet))
  reply_so (Some block) (Some later) old new sends quiet some = sends.1.rose

  pub reply_waits : (a b : Peer L) → SendsReply traffic end a b → packets (traffic b.link) ≤ packets (traffic a.link) → (held b ≡ held a) × ReplyWaits traffic (peer_state a) (peer_state b)
  reply_waits a b sends quiet = (ap (λ (p : Peer L). held p) sends.same, reply_so a.reply b.reply (traffic a.link) (traffic b.link) sends.sends quiet)

  bye_so : (x y : Bool) (old new : Traffic) → TriesBye x y old new → packets new ≤ packets old → x ≡ false → Rose old.full.requests new.full.requests
  bye_so true y old new tries quiet none = absurd (true≢false none)
  bye_so false true old new tries quiet none = let e = packets_sent Requests _ old new tries.sent tries.received in absurd (omega (arith, e, quiet))
  bye_so false false old new tries quiet none = tries.rose

  pub bye_waits : (a b : Peer L) → SaysBye traffic end a b → packets (traffic b.link) ≤ packets (traffic a.link)
      → (held b ≡ held a) × (a.has_sent_bye ≡ false → Rose (traffic a.link).full.requests (traffic b.link).full.requests)
  bye_waits a b says quiet = (ap (λ (p : Peer L). held p) says.same, bye_so a.has_sent_bye b.has_sent_bye (traffic a.link) (traffic b.link) says.tries quiet)

  pub took_none : (a b : Peer L) (log logged : ReplyLog) (tally tally' : ℕ) (tried : Tried) → TriesReply traffic end a b log logged tally tally' tried
      → packets (traffic b.link) ≤ packets (traffic a.link) → (held b ≡ held a) × Rose (traffic a.link).empty.replies (traffic b.link).empty.replies
  took_none a b log logged tally tally' tried (inl none) quiet = (ap (λ (p : Peer L). held p) none.0.same, none.0.came.rose)
  took_none a b log logged tally tally' tried (inr takes) quiet =
      let e = packets_came Replies takes.packet (traffic a.link) (traffic b.link) takes.came.received takes.came.sent in absurd (omega (arith, e, quiet))

  pub served_none : (a b : Peer L) (store store' : StoreState) (journal journal' : JournalState) (tally tally' : ℕ) (tried : Tried)
      → TriesRequest traffic end a b store store' journal journal' tally tally' tried → packets (traffic b.link) ≤ packets (traffic a.link)
      → (held b ≡ held a) × Rose (traffic a.link).empty.requests (traffic b.link).empty.requests × (store' ≡ store) × (journal' ≡ journal)
  served_none a b store store' journal journal' tally tally' tried (inl none) quiet = (ap (λ (p : Peer L). held p) none.0.same, none.0.came.rose, none.1, none.2)
  served_none a b store store' journal journal' tally tally' tried (inr serves) quiet =
      let e = packets_came Requests serves.packet (traffic a.link) (traffic b.link) serves.came.received serves.came.sent in absurd (omega (arith, e, quiet))

-- What holds up stays what holds up where nothing passes before, and anything happens behind.
module _ {L : Type 0} (traffic : L → Traffic) where
  pub record Lasts (Q : PeerState L → PeerState L → Type 0) : Type 0 where
    pub before : (a b c : PeerState L) → SameWith traffic a b → b.held ≡ a.held → GoesOn traffic a b → Q b c → Q a c
    pub behind : (a b c : PeerState L) → Q a b → GoesOn traffic b c → Q a c

  pub reply_lacks_lasts : Lasts (ReplyLacks traffic)
  reply_lacks_lasts = record {
    before = λ a b c same held goes q owes none.
        let f = goes.empty in
        let owed = ap (λ k. k.owed) same.keeps in
        rose-on _ _ _ _ (omega (arith, f)) (q (omega (arith, owes, owed)) (ap (λ (h : Lanes (Option Block)). h.replies) held ∙ none)) (omega arith);
    behind = λ a b c q goes owes none. let f = goes.empty in rose-on _ _ _ _ (omega arith) (q owes none) (omega (arith, f));
  }

  pub request_lacks_lasts : (lent : Tickets) → Lasts (RequestLacks traffic lent)
  request_lacks_lasts lent = record {
    before = λ a b c same held goes q unheard none replied.
        let f = goes.empty in
        elim (q (ap (λ k. k.has_heard_bye) same.keeps ∙ unheard) (ap (λ (h : Lanes (Option Block)). h.requests) held ∙ none) (same.reply ∙ replied)) [
          | inl rose ↦ inl (rose-on _ _ _ _ (omega (arith, f)) rose (omega arith))
          | inr idle ↦ inr idle
        ];
    behind = λ a b c q goes unheard none replied.
        let f = goes.empty in
        elim (q unheard none replied) [
          | inl rose ↦ inl (rose-on _ _ _ _ (omega arith) rose (omega (arith, f)))
          | inr idle ↦ inr idle
        ];
  }

module _ {L G : Type 0} (traffic : L → Traffic) where
  -- where no packet passed, none passed at any peer
  pub none_at : (a b : NodeState L G) → Goes traffic a b → NonePassed traffic a b → (k : ℕ) (d : PeerState L) → k < length a.peers
      → packets_with traffic (get_or b.peers k d) ≤ packets_with traffic (get_or a.peers k d)
  none_at a b goes quiet = sums_still (packets_with traffic) a.peers b.peers goes.peers.long (λ k d below. (goes.peers.each k d below).more) quiet

  pub same_pairs : (a b : NodeState L G) → Goes traffic a b → NonePassed traffic a b → Pairs (λ k. SameWith traffic) a.peers b.peers
  same_pairs a b goes quiet = record { long = goes.peers.long; each = λ k d below. (goes.peers.each k d below).same (none_at a b goes quiet k d below) }

  pub held_start : (R : ℕ → PeerState L → PeerState L → Type 0) (a : NodeState L G) → ((k : ℕ) (p : PeerState L) → R k p p) → HeldUp traffic R a a
  held_start R a r = record { request = refl; begun = refl; gate = refl; store = refl; done = refl; peers = record { long = refl; each = λ k d below. (refl, r k (get_or a.peers k d)) } }

  -- one place more of a pass over the peers
  pub held_next : (Q : PeerState L → PeerState L → Type 0) (a b c : NodeState L G) (at : ℕ) → Lasts traffic Q → Goes traffic a b → Goes traffic b c → NonePassed traffic a b
      → HeldUp traffic (λ k x y. k < at → Q x y) a b → HeldUp traffic (λ k x y. k ≡ at → Q x y) b c → HeldUp traffic (λ k x y. k < at + 1 → Q x y) a c
  held_next Q a b c at lasts first second quiet one two = record {
    request = two.request ∙ one.request;
    begun = two.begun ∙ one.begun;
    gate = two.gate ∙ one.gate;
    store = two.store ∙ one.store;
    done = two.done ∙ one.done;
    peers = record {
      long = second.peers.long ∙ first.peers.long;
      each = λ k d below.
          let long = first.peers.long in
          let inside : k < length b.peers = omega (arith, below, long) in
          let x = get_or a.peers k d in
          let y = get_or b.peers k d in
          let z = get_or c.peers k d in
          let h = one.peers.each k d below in
          let i = two.peers.each k d inside in
          let g = first.peers.each k d below in
          let f = second.peers.each k d inside in
          let same = (same_pairs a b first quiet).each k d below in (
            i.0 ∙ h.0,
            λ less. elim (cases_order k at) [
              | inl is ↦ lasts.before x y z same h.0 g (i.1 is)
              | inr (inl fewer) ↦ lasts.behind x y z (h.1 fewer) f
              | inr (inr more) ↦ absurd (omega (arith, more, less))
            ],
          );
    };
  }

one_block : (block : Block) (packets : List Packet) → blocks (InBlock block ∷ packets) ≡ 1 + blocks packets
one_block block packets = sum_by-cons (λ p. cond (is_block p) 1 0) (InBlock block) packets

-- fewer replies than packets were sent and than there are commands: fewer than blocks were sent
pub fewer_blocks : (sent : List Packet) (operations : List Operation) (rest : List (Option (List ℕ))) (n : ℕ)
    → map said sent ++ rest ≡ map (λ operation. Some (request operation)) operations ++ None ∷ [] → n < length sent → n < length operations → n < blocks sent
fewer_blocks [] operations rest n is less few = absurd (omega (arith, less))
fewer_blocks (packet ∷ sent) [] rest n is less few = absurd (omega (arith, few))
fewer_blocks (Bye ∷ sent) (operation ∷ operations) rest n is less few = absurd (cc)
fewer_blocks (InBlock block ∷ sent) (operation ∷ operations) rest zero is less few = let e = one_block block sent in omega (arith, e)
fewer_blocks (InBlock block ∷ sent) (operation ∷ operations) rest (suc n) is less few =
    let later : map said sent ++ rest ≡ map (λ (o : Operation). Some (request o)) operations ++ None ∷ [] = cc in
    let e = one_block block sent in
    let f = fewer_blocks sent operations rest n later (omega (arith, less)) (omega (arith, few)) in
    omega (arith, e, f)
