-- What the steps of a turn do to the peers, place by place.
use Rattle.std.specs.Prelude.{◌≡◌, ℕ, ◌+◌, ◌<◌, ◌≤◌, ◌⊎◌, false, List, [], ◌∷◌, ◌++◌, length, sum_by, slice_index_or, Option, Some, None, IsSome}
use Rattle.std.specs.List.{slice_get}
use Rattle.cache_model.specs.Legal.{done}
use Rattle.shard_memory.specs.Tickets.{HasIdle, Tickets}
use Rattle.shard_memory.specs.declared.share.Share.TheVariants.{Reply as ReplyShare}
use Rattle.layout.specs.Counts.{Rose}
use Rattle.shard_rings.specs.Lanes.{NoneFell, on, Traffic}
use Rattle.shard_rings.specs.declared.link.Lane.{Lane}
use Rattle.shard_rings.specs.declared.link.Packet.{Packet}
use Rattle.shard_parts.specs.declared.stray_packet.StrayPacket.{StrayPacket}
use Rattle.shard_parts.specs.declared.stray_packet.Tried.{Tried}
use Rattle.shard_parts.specs.declared.stray_packet.Tried.TheVariants.{Nothing, Expected, Other}
use Rattle.shard_node.specs.Nodes.{NodeState, PeerState}
use Rattle.shard_node.specs.declared.waiting.Waiting.{Waiting}
use Rattle.shard_node.specs.Standing.{InStanding}
use Rattle.shard_node.specs.Turns.{ForSome, HasBegunAll, HasReleased, IsStray, IsEmpty, IsFirstStray, IsHeldBack, NoneStray, Raced}
use Rattle.part_lemmas.specs.Releases.{CountsOn}
pub use Rattle.part_lemmas.specs.Exchange.{packets}
pub use Rattle.shard_parts.specs.Peers.{packets_by_all}

-- two lists are as long, and so with the two elements at each place
pub record Pairs {X : Type 0} (R : ℕ → X → X → Type 0) (xs ys : List X) : Type 0 where
  pub long : length ys ≡ length xs
  pub each : (k : ℕ) (d : X) → k < length xs → R k (slice_index_or xs k d) (slice_index_or ys k d)

module _ {L : Type 0} (traffic : L → Traffic) where
  abbrev pub packets_with : PeerState L → ℕ
  packets_with peer = packets (traffic peer.link)

  -- nothing went over the link, and what the node keeps of the peer is as it was
  pub record SameWith (old new : PeerState L) : Type 0 where
    pub sent : (traffic new.link).sent ≡ (traffic old.link).sent
    pub received : (traffic new.link).received ≡ (traffic old.link).received
    pub reply : new.reply ≡ old.reply
    pub keeps : new.keeps ≡ old.keeps

  -- A peer, later in a turn. Packets and counts are no fewer; where no packet went over the link, it is as it was; and where no
  -- block waited on a lane, none waits, or a packet went over the link.
  pub record GoesOn (old new : PeerState L) : Type 0 where
    pub shard : new.shard ≡ old.shard
    pub more : packets_with old ≤ packets_with new
    pub full : NoneFell (traffic old.link).full (traffic new.link).full
    pub empty : NoneFell (traffic old.link).empty (traffic new.link).empty
    pub same : packets_with new ≤ packets_with old → SameWith old new
    pub held : (lane : Lane) → IsEmpty (on lane old.held) → IsEmpty (on lane new.held) ⊎ (packets_with old < packets_with new)

  -- What held the node up toward a peer.

  -- the reply that waits met a full lane
  abbrev pub ReplyWaits : PeerState L → PeerState L → Type 0
  ReplyWaits old new = IsSome old.reply → Rose (traffic old.link).full.replies (traffic new.link).full.replies

  -- no reply was there, where the peer owes one and none waits to be released
  abbrev pub ReplyLacks : PeerState L → PeerState L → Type 0
  ReplyLacks old new = 0 < old.keeps.owed → IsEmpty old.held.replies → Rose (traffic old.link).empty.replies (traffic new.link).empty.replies

  -- no request was there, or no ticket of a reply was idle
  abbrev pub RequestLacks : Tickets → PeerState L → PeerState L → Type 0
  RequestLacks lent old new = old.keeps.has_heard_bye ≡ false → IsEmpty old.held.requests → IsEmpty old.reply
      → Rose (traffic old.link).empty.requests (traffic new.link).empty.requests ⊎ ¬ HasIdle lent ReplyShare

module _ {L G : Type 0} where
  -- no own part was begun, and the gate was left alone
  abbrev pub BeginsNone : NodeState L G → NodeState L G → Type 0
  BeginsNone old new = (new.begun ≡ old.begun) × (new.gate ≡ old.gate)

  -- at most one was, and the gate was left alone
  abbrev pub BeginsOne : NodeState L G → NodeState L G → Type 0
  BeginsOne old new = (old.begun ≤ new.begun) × (new.begun ≤ old.begun + 1) × (new.gate ≡ old.gate)

module _ {L G : Type 0} (traffic : L → Traffic) where
  abbrev pub packets_of : NodeState L G → ℕ
  packets_of node = sum_by (packets_with traffic) node.peers

  abbrev pub done_in : NodeState L G → ℕ
  done_in node = length (done node.journal.entries)

  -- a packet was sent or received, or a part was done
  abbrev pub Rises : NodeState L G → NodeState L G → Type 0
  Rises old new = (packets_of old < packets_of new) ⊎ (done_in old < done_in new)

  -- A node, later in a turn.
  pub record Goes (old new : NodeState L G) : Type 0 where
    pub peers : Pairs (λ k. GoesOn traffic) old.peers new.peers
    pub done : done_in old ≤ done_in new
    pub backs : old.store.backs ≤ new.store.backs
    pub looks : old.store.looks ≤ new.store.looks
    pub tally : (more : ℕ) × CountsOn more old.tally new.tally

  -- Where no packet went over a link, nothing was done, the store and the own parts are as they were, no block that waits was
  -- touched, and R says what held the node up toward a peer.
  pub record HeldUp (R : ℕ → PeerState L → PeerState L → Type 0) (old new : NodeState L G) : Type 0 where
    pub request : new.request ≡ old.request
    pub begun : new.begun ≡ old.begun
    pub gate : new.gate ≡ old.gate
    pub store : new.store ≡ old.store
    pub done : done_in new ≡ done_in old
    pub peers : Pairs (λ k a b. (b.held ≡ a.held) × R k a b) old.peers new.peers

  abbrev pub NonePassed : NodeState L G → NodeState L G → Type 0
  NonePassed old new = packets_of new ≤ packets_of old

module _ {L G : Type 0} (traffic : L → Traffic) (holds : G → ℕ) where
  -- Bye met a full lane, where it is what is left to send
  abbrev pub ByeWaits : NodeState L G → PeerState L → PeerState L → Type 0
  ByeWaits node old new = HasBegunAll traffic holds node → old.keeps.has_sent_bye ≡ false → Rose (traffic old.link).full.requests (traffic new.link).full.requests

  -- no block that waited was released: each was raced
  pub record RacesAll (old new : NodeState L G) : Type 0 where
    pub request : new.request ≡ old.request
    pub begun : new.begun ≡ old.begun
    pub gate : new.gate ≡ old.gate
    pub store : new.store ≡ old.store
    pub done : done_in traffic new ≡ done_in traffic old
    pub peers : Pairs (λ k a b. SameWith traffic a b
        × Raced traffic holds a.held.requests b.held.requests × Raced traffic holds a.held.replies b.held.replies) old.peers new.peers

  -- what held the own parts back, where no request was sent and none was done
  pub record HoldsBack (old new : NodeState L G) : Type 0 where
    pub held : Pairs (λ k a b. b.held ≡ a.held) old.peers new.peers
    pub request : (waiting : Waiting) → (old.request ≡ Some waiting) ⊎ (new.request ≡ Some waiting)
        → Pairs (λ k a b. a.shard ≡ waiting.peer → Rose (traffic a.link).full.requests (traffic b.link).full.requests) old.peers new.peers
    pub own : IsEmpty new.request → IsHeldBack traffic holds old new
    pub all : HasBegunAll traffic holds old → HasBegunAll traffic holds new
    pub idle : InStanding traffic old → new.store.backs ≡ old.store.backs → HasIdle new.store.lent ReplyShare → HasIdle old.store.lent ReplyShare
    -- but for the block of a request that was made, the store is as it was
    pub store : new.request ≡ old.request → new.store ≡ old.store

  -- a block that waited was released, and counted
  pub record Frees (old new : NodeState L G) : Type 0 where
    pub some : ForSome traffic holds (HasReleased traffic holds) old new
    pub more : ℕ
    pub counts : CountsOn (1 + more) old.tally new.tally

-- Says k stray: at place k this packet was set aside.

-- what one try of a lane says of its place
abbrev pub TriedSays : (StrayPacket → Type 0) → Tried → Type 0
TriedSays Says (Other stray) = Says stray
TriedSays Says Nothing = (stray : StrayPacket) → Says stray → ⊥
TriedSays Says Expected = (stray : StrayPacket) → Says stray → ⊥

-- what was told before stays; where nothing was, the first that is said of the places is told
abbrev pub Tells : (ℕ → StrayPacket → Type 0) → Option StrayPacket → Option StrayPacket → Type 0
Tells Says (Some before) now = now ≡ Some before
Tells Says None None = (k : ℕ) (stray : StrayPacket) → Says k stray → ⊥
Tells Says None (Some stray) = (k : ℕ) × Says k stray × ((j : ℕ) → j < k → (other : StrayPacket) → Says j other → ⊥)

module _ {L G : Type 0} (traffic : L → Traffic) where
  -- each peer is the one that it was, and nothing was received of it on the lane
  abbrev pub ReceivesNone : Lane → NodeState L G → NodeState L G → Type 0
  ReceivesNone lane old new = Pairs (λ k a b. (b.shard ≡ a.shard) × (on lane (traffic b.link).received ≡ on lane (traffic a.link).received)) old.peers new.peers

  -- at most one packet was received of each peer on the lane
  abbrev pub ReceivesOne : Lane → NodeState L G → NodeState L G → Type 0
  ReceivesOne lane old new = Pairs (λ k a b. length (on lane (traffic b.link).received) ≤ 1 + length (on lane (traffic a.link).received)) old.peers new.peers

module _ {L G : Type 0} (traffic : L → Traffic) (holds : G → ℕ) where
  -- one packet was received of the peer at place k, and set aside
  abbrev pub ReceivesOneStray : Lane → NodeState L G → NodeState L G → ℕ → StrayPacket → Type 0
  ReceivesOneStray lane old new k stray = (a b : PeerState L) × (packet : Packet)
      × (slice_get old.peers k ≡ Some a) × (slice_get new.peers k ≡ Some b)
      × (on lane (traffic b.link).received ≡ on lane (traffic a.link).received ++ packet ∷ [])
      × IsStray traffic holds lane old a.shard (on lane (traffic a.link).received) packet stray

  -- what a turn tells of the packets that were not expected
  abbrev pub TellsFirst : Option StrayPacket → NodeState L G → NodeState L G → Type 0
  TellsFirst None old new = NoneStray traffic holds old new
  TellsFirst (Some stray) old new = IsFirstStray traffic holds old new stray
