-- What a turn answers, and exactly when.
use Rattle.std.specs.Prelude.{◌≡◌, ◌≢◌, ℕ, ◌+◌, ◌-◌, ◌<◌, ◌≤◌, ◌⊎◌, false, List, ◌∷◌, ◌++◌, length, map, All, Option, Some, None, IsSome}
use Rattle.std.specs.List.{slice_get}
use Rattle.rows.specs.Apply.{Reply}
use Rattle.cache_model.specs.Legal.{done}
use Rattle.cache_model.specs.OwnParts.{issued_parts}
use Rattle.foreign_list.specs.Blocks.{Block}
use Rattle.shard_memory.specs.Tickets.{HasIdle, tickets_out}
use Rattle.shard_memory.specs.declared.share.Share.TheVariants.{Request, Reply as ReplyShare}
use Rattle.layout.specs.Counts.{Rose}
use Rattle.shard_store.specs.Lending.{LooksOnce}
use Rattle.shard_rings.specs.Lanes.{on, Traffic}
use Rattle.shard_rings.specs.declared.link.Lane.{Lane}
use Rattle.shard_rings.specs.declared.link.Lane.TheVariants.{Requests, Replies}
use Rattle.shard_rings.specs.declared.link.Packet.{Packet}
use Rattle.shard_parts.specs.declared.stray_packet.StrayPacket.{StrayPacket}
use Rattle.shard_node.specs.declared.turn.Turn.{Turn}
use Rattle.shard_node.specs.declared.turn.Turn.TheVariants.{Moved, Idle, Done, Stray}
use Rattle.shard_node.specs.Nodes.{NodeState, PeerState}
use Rattle.shard_node.specs.declared.waiting.Waiting.{Waiting}
pub use Rattle.part_lemmas.specs.Due.{expected_number, expected_said}
pub use Rattle.part_lemmas.specs.Exchange.{IsEmpty}
use Rattle.shard_node.specs.Due.{AnswersNot, Takes, due, is_next, number_in, operations_for, requests_taken, said}

-- the place k of two lists
abbrev pub AtPlace : {A : Type 0} → List A → List A → ℕ → (A → A → Type 0) → Type 0
AtPlace {A} old new k R = (a b : A) → slice_get old k ≡ Some a → slice_get new k ≡ Some b → R a b

-- the own part k is the first of its command
abbrev pub IsFirst : {L G : Type 0} → NodeState L G → ℕ → ℕ × ℕ → Type 0
IsFirst node k part = (k ≡ 0) ⊎ ((before : ℕ × ℕ) × (slice_get (issued_parts node.trace node.shards node.shard) (k - 1) ≡ Some before) × (before.0 ≢ part.0))

-- the part is the next own one, and the first of its command
abbrev pub IsNextFirst : {L G : Type 0} → NodeState L G → ℕ × ℕ → Type 0
IsNextFirst node part = (slice_get (issued_parts node.trace node.shards node.shard) node.begun ≡ Some part) × IsFirst node node.begun part

-- One node's turn, from `old` to `new`. Its links tell what went over them and what they counted, and its gate how often it
-- held.
module _ {L G : Type 0} (traffic : L → Traffic) (holds : G → ℕ) where
  -- Done.

  -- no more comes of the peer and nothing is left to send to it
  pub record HasParted (node : NodeState L G) (peer : PeerState L) : Type 0 where
    pub heard : requests_taken (due node.trace node.shards peer.shard node.shard) (traffic peer.link).received.requests
        ≡ length (due node.trace node.shards peer.shard node.shard)
    pub told : map said (traffic peer.link).sent.requests ≡ due node.trace node.shards node.shard peer.shard
    pub released_requests : IsEmpty peer.held.requests
    pub released_replies : IsEmpty peer.held.replies
    pub replied : IsEmpty peer.reply

  -- all own parts are answered, each Bye came and the own ones went, nothing waits, and all tickets are idle
  pub record IsDone (node : NodeState L G) : Type 0 where
    pub answered : All (λ reply. IsSome reply) node.log.replies
    pub parted : All (HasParted node) node.peers
    pub asked : IsEmpty node.request
    pub idle : tickets_out node.store.lent ≡ 0

  -- Stray.

  -- the packet comes from shard `peer` behind these others of the lane, and is not the one that is expected once they were gone
  -- through in order
  abbrev pub IsStray : Lane → NodeState L G → ℕ → List Packet → Packet → StrayPacket → Type 0
  IsStray Replies node peer before packet stray = (replies : List Reply)
      × Takes node.trace (operations_for node.trace node.shards node.shard peer) before replies
      × AnswersNot node.trace (slice_get (operations_for node.trace node.shards node.shard peer) (length replies)) packet
      × (stray ≡ record { peer = peer; expected = expected_number (slice_get (operations_for node.trace node.shards node.shard peer) (length replies)); found = number_in packet })
  IsStray Requests node peer before packet stray =
      (is_next (due node.trace node.shards peer node.shard) (requests_taken (due node.trace node.shards peer node.shard) before) packet ≡ false)
      × (stray ≡ record {
        peer = peer;
        expected = expected_said (slice_get (due node.trace node.shards peer node.shard) (requests_taken (due node.trace node.shards peer node.shard) before));
        found = number_in packet;
      })

  -- so it is with a packet of the turn: of the peer at place k, and with m others of the turn before it on its lane
  abbrev pub HasStray : Lane → NodeState L G → NodeState L G → ℕ → ℕ → StrayPacket → Type 0
  HasStray lane old new k m stray = (a b : PeerState L) × (before behind : List Packet) × (packet : Packet)
      × (slice_get old.peers k ≡ Some a) × (slice_get new.peers k ≡ Some b) × (length before ≡ m)
      × (on lane (traffic b.link).received ≡ on lane (traffic a.link).received ++ before ++ packet ∷ behind)
      × IsStray lane old a.shard (on lane (traffic a.link).received ++ before) packet stray

  abbrev pub HasNone : Lane → NodeState L G → NodeState L G → ℕ → ℕ → Type 0
  HasNone lane old new k m = (stray : StrayPacket) → HasStray lane old new k m stray → ⊥

  -- on the lanes of one kind the peers are served in rising order, and the packets of each in the order in which they came
  abbrev pub IsFirstOf : Lane → NodeState L G → NodeState L G → StrayPacket → Type 0
  IsFirstOf lane old new stray = (k m : ℕ) × HasStray lane old new k m stray
      × ((j i : ℕ) → (j < k) ⊎ ((j ≡ k) × (i < m)) → HasNone lane old new j i)

  abbrev pub NoneOf : Lane → NodeState L G → NodeState L G → Type 0
  NoneOf lane old new = (k m : ℕ) → HasNone lane old new k m

  -- the first packet of the turn that was not the expected one: all lanes of replies come before the lanes of requests
  abbrev pub IsFirstStray : NodeState L G → NodeState L G → StrayPacket → Type 0
  IsFirstStray old new stray = IsFirstOf Replies old new stray ⊎ (IsFirstOf Requests old new stray × NoneOf Replies old new)

  abbrev pub NoneStray : NodeState L G → NodeState L G → Type 0
  NoneStray old new = (lane : Lane) → NoneOf lane old new

  -- Moved.

  -- a packet was sent to the peer, or received from it
  abbrev pub HasMoved : PeerState L → PeerState L → Type 0
  HasMoved old new = ((traffic new.link).sent ≢ (traffic old.link).sent) ⊎ ((traffic new.link).received ≢ (traffic old.link).received)

  -- a block that waited to be released waits no more
  abbrev pub HasReleased : PeerState L → PeerState L → Type 0
  HasReleased old new = (lane : Lane) × IsSome (on lane old.held) × IsEmpty (on lane new.held)

  -- so for some peer
  abbrev pub ForSome : (PeerState L → PeerState L → Type 0) → NodeState L G → NodeState L G → Type 0
  ForSome R old new = (k : ℕ) × (a b : PeerState L) × (slice_get old.peers k ≡ Some a) × (slice_get new.peers k ≡ Some b) × R a b

  -- a block came back, a packet was sent or received, a part was done, or a block that waited was released
  abbrev pub HasCause : NodeState L G → NodeState L G → Type 0
  HasCause old new =
      (old.store.backs < new.store.backs)
      ⊎ ForSome HasMoved old new
      ⊎ (length (done old.journal.entries) < length (done new.journal.entries))
      ⊎ (ForSome HasReleased old new × Rose old.tally new.tally)

  -- Idle.

  -- the block waits still, and has seen the head of its list change since
  abbrev pub Raced : Option Block → Option Block → Type 0
  Raced None new = Unit {0}
  Raced (Some block) None = ⊥
  Raced (Some block) (Some later) = (later.pass ≡ block.pass) × (block.seen < later.seen)

  abbrev pub IsFull : Lane → PeerState L → PeerState L → Type 0
  IsFull lane old new = Rose (on lane (traffic old.link).full) (on lane (traffic new.link).full)

  abbrev pub WasEmpty : Lane → PeerState L → PeerState L → Type 0
  WasEmpty lane old new = Rose (on lane (traffic old.link).empty) (on lane (traffic new.link).empty)

  -- all own parts were begun, and none waits: Bye is what is left to send on the lanes of requests
  abbrev pub HasBegunAll : NodeState L G → Type 0
  HasBegunAll node = (node.begun ≡ length (issued_parts node.trace node.shards node.shard)) × IsEmpty node.request

  -- the peer has requests without a reply: fewer replies were taken of it than requests were sent to it
  abbrev pub Owes : NodeState L G → PeerState L → Type 0
  Owes node peer = (replies : List Reply)
      × Takes node.trace (operations_for node.trace node.shards node.shard peer.shard) (traffic peer.link).received.replies replies
      × (length replies < length (traffic peer.link).sent.requests)
      × (length replies < length (operations_for node.trace node.shards node.shard peer.shard))

  abbrev pub HasHeardBye : NodeState L G → PeerState L → Type 0
  HasHeardBye node peer = requests_taken (due node.trace node.shards peer.shard node.shard) (traffic peer.link).received.requests
      ≡ length (due node.trace node.shards peer.shard node.shard)

  abbrev pub HasSentBye : NodeState L G → PeerState L → Type 0
  HasSentBye node peer = map said (traffic peer.link).sent.requests ≡ due node.trace node.shards node.shard peer.shard

  -- what held a node up toward one peer
  pub record IsHeldUp (node later : NodeState L G) (old new : PeerState L) : Type 0 where
    pub requests_raced : Raced old.held.requests new.held.requests
    pub replies_raced : Raced old.held.replies new.held.replies
    pub reply : IsSome old.reply → IsFull Replies old new
    pub bye : HasBegunAll node → (HasSentBye node old → ⊥) → IsFull Requests old new
    pub no_reply : Owes node old → IsEmpty old.held.replies → WasEmpty Replies old new
    pub no_request : (HasHeardBye node old → ⊥) → IsEmpty old.held.requests → IsEmpty old.reply
        → WasEmpty Requests old new ⊎ ¬ HasIdle later.store.lent ReplyShare

  -- what held the next own part up: the gate, or that no ticket of a request is idle
  abbrev pub IsHeldBack : NodeState L G → NodeState L G → Type 0
  IsHeldBack old new = (part : ℕ × ℕ) → slice_get (issued_parts old.trace old.shards old.shard) old.begun ≡ Some part
      → (IsFirst old old.begun part × (holds old.gate < holds new.gate))
      ⊎ ((part.1 ≢ old.shard) × ¬ HasIdle new.store.lent Request)

  pub record IsIdle (old new : NodeState L G) : Type 0 where
    pub nothing : HasCause old new → ⊥
    pub peers : (k : ℕ) → AtPlace old.peers new.peers k (IsHeldUp old new)
    -- a request that waits, one that was made in this turn too
    pub request : (waiting : Waiting) (k : ℕ) → (old.request ≡ Some waiting) ⊎ (new.request ≡ Some waiting)
        → AtPlace old.peers new.peers k (λ a b. a.shard ≡ waiting.peer → IsFull Requests a b)
    pub own : IsEmpty new.request → IsHeldBack old new
    -- where a block was out, the list was looked at for those that came home: once, but that it may have been looked at again for
    -- the room of a request that was made in this turn
    pub looked : 0 < tickets_out old.store.lent → old.store.looks < new.store.looks
    pub looked_once : new.request ≡ old.request → LooksOnce old.store new.store

  -- The answer of a turn.
  abbrev pub IsAnswer : Turn → NodeState L G → NodeState L G → Type 0
  IsAnswer Done old new = IsDone new
  IsAnswer (Stray peer expected found) old new = (IsDone new → ⊥) × IsFirstStray old new (record { peer = peer; expected = expected; found = found })
  IsAnswer Moved old new = (IsDone new → ⊥) × NoneStray old new × HasCause old new
  IsAnswer Idle old new = (IsDone new → ⊥) × NoneStray old new × IsIdle old new

-- What becomes of the own parts in a turn. `lets` says how a gate stands once it let a command through.
module _ {L G : Type 0} (lets : G → ℕ → ℕ → G → Type 0) where
  -- At most one own part was begun. Where it was the first of its command, the gate let that command through; where no first
  -- part was next, the gate was left alone.
  pub record GoesThroughGate (old new : NodeState L G) : Type 0 where
    pub never_falls : old.begun ≤ new.begun
    pub one : new.begun ≤ old.begun + 1
    pub let_through : (part : ℕ × ℕ) → IsNextFirst old part → old.begun < new.begun → lets old.gate old.shard part.0 new.gate
    pub left_alone : ((part : ℕ × ℕ) → IsNextFirst old part → ⊥) → new.gate ≡ old.gate

-- What no turn changes.
pub record IsSameNode {L G E : Type 0} (end : L → E) (old new : NodeState L G) : Type 0 where
  pub shard : new.shard ≡ old.shard
  pub shards : new.shards ≡ old.shards
  pub pages : new.pages ≡ old.pages
  pub trace : new.trace ≡ old.trace
  pub home : new.store.list ≡ old.store.list
  pub ends : map (λ peer. end peer.link) new.peers ≡ map (λ peer. end peer.link) old.peers
