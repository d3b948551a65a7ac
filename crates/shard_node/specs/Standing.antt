-- A node in good standing: what holds of it after each turn, whatever its links and its gate answer.
use Rattle.std.specs.Prelude.{◌≡◌, ℕ, ◌+◌, ◌-◌, ◌==◌, ◌↔◌, true, not, List, [], ◌∷◌, ◌++◌, length, map, filter, take, drop, replicate, count_by, sum_by, min, All, if◌then◌else◌, Option, Some, None}
use Rattle.std.specs.List.{zip}
use Rattle.std.specs.Option.{option_map}
use mathlib.Core.List.{IsPrefix}
use Rattle.layout.specs.Sizes.{dense}
use Rattle.trace_text.specs.Parts.{origin, parts}
use Rattle.trace_text.specs.Trace.{regions}
use Rattle.rows.specs.declared.reply_kind.ReplyKind.{ReplyKind}
use Rattle.rows.specs.Apply.{Reply}
use Rattle.cache_model.specs.Legal.{EvictsAbove, cache_after, done, reply_at}
use Rattle.cache_model.specs.OwnParts.{issued_parts}
use Rattle.rows.specs.Row.{tight_floor}
use Rattle.rows.specs.Spelled.{spelled}
use Rattle.foreign_list.specs.Blocks.{Block}
use Rattle.layout.specs.Counts.{raised, greatest_count}
use Rattle.shard_memory.specs.Tickets.{tickets_out}
use Rattle.shard_rings.specs.declared.link.Packet.{Packet}
use Rattle.shard_rings.specs.declared.link.Packet.TheVariants.{Block as InBlock}
use Rattle.shard_rings.specs.Lanes.{Traffic}
use Rattle.shard_node.specs.Nodes.{NodeState, PeerState}
use Rattle.shard_node.specs.declared.waiting.Waiting.{Waiting}
use Rattle.shard_node.specs.Due.{Takes, due, operations_for, requests_taken, said}
pub use Rattle.part_lemmas.specs.Exchange.{AreReplies, blocks, done_for, is_block, one_if}

-- the parts of its own that the node began so far, and those of them that another shard does
abbrev pub begun_parts : {L G : Type 0} → NodeState L G → List (ℕ × ℕ)
begun_parts node = take node.begun (issued_parts node.trace node.shards node.shard)

abbrev pub begun_at : {L G : Type 0} → NodeState L G → ℕ → List (ℕ × ℕ)
begun_at node q = filter (λ part. part.1 == q) (begun_parts node)

-- what the log has of the parts that shard q does, in order
abbrev pub logged_at : {L G : Type 0} → NodeState L G → ℕ → List (Option (ReplyKind × List ℕ))
logged_at node q = map (λ entry. entry.1) (filter (λ entry. entry.0.1 == q) (zip (issued_parts node.trace node.shards node.shard) node.log.replies))

-- the reply that waits to be sent to a peer, as a list of at most one packet
abbrev pub waiting_reply : Option Block → List Packet
waiting_reply None = []
waiting_reply (Some block) = InBlock block ∷ []

-- what the request that waits to be sent to shard q says, as a list of at most one
abbrev pub waiting_request : Option Waiting → ℕ → List (Option (List ℕ))
waiting_request None q = []
waiting_request (Some waiting) q = if waiting.peer == q then Some waiting.block.piece.bytes ∷ [] else []

module _ {L G : Type 0} (traffic : L → Traffic) (node : NodeState L G) where
  -- the journal is legal, and the cache has the rows that it leads to; with one shard nothing is evicted but under pressure
  pub record LeadsToItsRows : Type 0 where
    pub legal : cache_after node.trace node.pages node.journal.entries ≡ Some node.store.rows
    pub pressure : node.shards ≡ 1 → EvictsAbove node.trace node.pages (tight_floor node.pages 0 (regions node.trace) + dense) node.journal.entries

  -- what was sent to a peer on the lane of requests is the first of what is due to it
  abbrev pub AsksInOrder : PeerState L → Type 0
  AsksInOrder peer = IsPrefix (map said (traffic peer.link).sent.requests) (due node.trace node.shards node.shard peer.shard)

  -- what was done for a peer is what was taken of its requests, in order
  abbrev pub ServesInOrder : PeerState L → Type 0
  ServesInOrder peer = done_for node.shards peer.shard node.journal.entries
      ≡ take (requests_taken (due node.trace node.shards peer.shard node.shard) (traffic peer.link).received.requests)
      (parts node.trace node.shards peer.shard node.shard)

  -- its own parts that it does itself are done as they are begun, in order
  abbrev pub DoesItsOwnInOrder : Type 0
  DoesItsOwnInOrder = done_for node.shards node.shard node.journal.entries
      ≡ take (length (begun_at node node.shard)) (parts node.trace node.shards node.shard node.shard)

  -- what was sent to a peer on the lane of replies are the journal's replies to what was done for it, in order
  abbrev pub RepliesInOrder : PeerState L → Type 0
  RepliesInOrder peer = AreReplies (reply_at node.trace node.pages node.journal.entries) (traffic peer.link).sent.replies
      (done_for node.shards peer.shard node.journal.entries)

  -- the log has the journal's replies to the own parts that were done here
  abbrev pub LogsItsOwn : Type 0
  LogsItsOwn = logged_at node node.shard
      ≡ map (λ i. option_map spelled (reply_at node.trace node.pages node.journal.entries i)) (parts node.trace node.shards node.shard node.shard)

  -- and to the parts that a peer does the replies that were taken of it, in order; it still will answer the others, of which it
  -- was asked some
  pub record LogsWhatCame (peer : PeerState L) : Type 0 where
    pub replies : List Reply
    pub taken : Takes node.trace (operations_for node.trace node.shards node.shard peer.shard) (traffic peer.link).received.replies replies
    pub logged : logged_at node peer.shard
        ≡ map (λ reply. Some (spelled reply)) replies
        ++ replicate (length (parts node.trace node.shards node.shard peer.shard) - length replies) None
    pub answers : peer.keeps.answers ≡ drop (length replies) (operations_for node.trace node.shards node.shard peer.shard)
    pub owed : peer.keeps.owed + length replies ≡ blocks (traffic peer.link).sent.requests

  pub record Logs : Type 0 where
    pub one_each : length node.log.replies ≡ length (issued_parts node.trace node.shards node.shard)
    pub own : LogsItsOwn
    pub others : All LogsWhatCame node.peers

  -- the parts that it began for other shards to do, and those that it did for others
  abbrev pub asked_of_others : ℕ
  asked_of_others = count_by (λ part. not (part.1 == node.shard)) (begun_parts node)

  abbrev pub done_for_others : ℕ
  done_for_others = count_by (λ i. not (origin i node.shards == node.shard)) (done node.journal.entries)

  -- a block was lent for each of them, and those that did not come back are the tickets that are out
  pub record LendsOneEach : Type 0 where
    pub lends : node.store.lends ≡ raised 0 (asked_of_others + done_for_others)
    pub out : node.store.lends ≡ raised node.store.backs (tickets_out node.store.lent)

  -- how many blocks came over both lanes of a peer, and how many of them wait to be released
  abbrev pub received_from : PeerState L → ℕ
  received_from peer = blocks (traffic peer.link).received.requests + blocks (traffic peer.link).received.replies

  abbrev pub held_of : PeerState L → ℕ
  held_of peer = one_if peer.held.requests + one_if peer.held.replies

  -- each block that was received was released, or waits for it
  pub record ReleasesAll : Type 0 where
    pub released : ℕ
    pub all : released + sum_by held_of node.peers ≡ sum_by received_from node.peers
    pub counted : node.tally ≡ min released greatest_count

  -- the requests begun for a peer are those that were sent and the one that waits, if there is one
  pub record SendsEachRequest (peer : PeerState L) : Type 0 where
    pub count : length (begun_at node peer.shard) ≡ blocks (traffic peer.link).sent.requests + length (waiting_request node.request peer.shard)
    pub next : IsPrefix (map said (traffic peer.link).sent.requests ++ waiting_request node.request peer.shard) (due node.trace node.shards node.shard peer.shard)

  -- the parts done for a peer are the replies that were sent and the one that waits, if there is one
  pub record SendsEachReply (peer : PeerState L) : Type 0 where
    pub count : length (done_for node.shards peer.shard node.journal.entries) ≡ length (traffic peer.link).sent.replies + one_if peer.reply
    pub next : AreReplies (reply_at node.trace node.pages node.journal.entries) ((traffic peer.link).sent.replies ++ waiting_reply peer.reply)
        (done_for node.shards peer.shard node.journal.entries)

  -- no block is lost
  pub record LosesNone : Type 0 where
    pub received : ReleasesAll
    pub requests : All SendsEachRequest node.peers
    pub replies : All SendsEachReply node.peers

  -- it knows how far a peer is with its requests: what it still will ask stands behind what was taken of it
  pub record KnowsItsPlace (peer : PeerState L) : Type 0 where
    pub asks : peer.keeps.asks
        ≡ drop (requests_taken (due node.trace node.shards peer.shard node.shard) (traffic peer.link).received.requests) (operations_for node.trace node.shards peer.shard node.shard)
    pub heard : (peer.keeps.has_heard_bye ≡ true)
        ↔ (requests_taken (due node.trace node.shards peer.shard node.shard) (traffic peer.link).received.requests ≡ length (due node.trace node.shards peer.shard node.shard))
    pub told : (peer.keeps.has_sent_bye ≡ true) ↔ (map said (traffic peer.link).sent.requests ≡ due node.trace node.shards node.shard peer.shard)

  pub record InStanding : Type 0 where
    -- the journal is legal, and the cache is the one that it leads to
    pub journal : LeadsToItsRows
    -- to each peer the requests of its parts were sent, in order, and Bye only behind the last
    pub asked : All AsksInOrder node.peers
    -- what was done for each peer is what was taken of it, in order
    pub served : All ServesInOrder node.peers
    -- the parts that the shard issues to itself were done in order
    pub own : DoesItsOwnInOrder
    -- each peer was sent the replies that the journal has to its parts, in order
    pub replied : All RepliesInOrder node.peers
    -- the log has the replies to the shard's own parts, those that came of peers as they came
    pub logged : Logs
    -- a block was lent for each part that goes to or comes from another shard; those not back are the tickets out
    pub lent : LendsOneEach
    -- each block that was received or made was passed on, or waits for it
    pub kept : LosesNone
    -- it knows how far each peer is with its requests
    pub placed : All KnowsItsPlace node.peers
