-- The nodes of one run: what each that is done says alone, and what they say together once all of them are.
use Rattle.std.specs.Prelude.{◌≡◌, ℕ, ◌<◌, ◌^◌, List, length, map, All, Contains, Option, Some, IsSome}
use Rattle.std.specs.List.{slice_get, slice_index_or}
use Rattle.trace_text.specs.Parts.{parts}
use Rattle.trace_text.specs.Trace.{Trace}
use Rattle.cache_model.specs.declared.entry.Entry.{Entry}
use Rattle.rows.specs.declared.reply_kind.ReplyKind.{ReplyKind}
use Rattle.cache_model.specs.Legal.{IsComplete, IsLegal, cache_after, reply_at}
use Rattle.cache_model.specs.OwnParts.{HoldsReplies, part_reply, parts_of}
use Rattle.cache_model.specs.Report.{lent}
use Rattle.layout.specs.Counts.{raised}
use Rattle.shard_rings.specs.Lanes.{ArePrefixes, Traffic}
use Rattle.shard_node.specs.Nodes.{NodeState, PeerState, others}
use Rattle.shard_node.specs.Standing.{AreReplies, InStanding}
use Rattle.shard_node.specs.Turns.{IsDone}

module _ {L G : Type 0} where
  -- the journals of nodes, and their logs
  abbrev pub journals_of : List (NodeState L G) → List (List Entry)
  journals_of nodes = map (λ node. node.journal.entries) nodes

  abbrev pub logs_of : List (NodeState L G) → List (List (Option (ReplyKind × List ℕ)))
  logs_of nodes = map (λ node. node.log.replies) nodes

  -- what node a keeps of node b
  pub record IsPeer (nodes : List (NodeState L G)) (a b : ℕ) (peer : PeerState L) : Type 0 where
    pub node : NodeState L G
    pub of_node : slice_get nodes a ≡ Some node
    pub among : Contains node.peers peer
    pub toward : peer.shard ≡ b

module _ {L G : Type 0} (traffic : L → Traffic) (holds : G → ℕ) (trace : Trace) (n pages : ℕ) where
  -- node s of the run is shard s of n, at work on this trace. It is in standing, and done.
  pub record IsDoneNode (s : ℕ) (node : NodeState L G) : Type 0 where
    pub number : node.shard ≡ s
    pub of_shards : node.shards ≡ n
    pub of_pages : node.pages ≡ pages
    pub of_trace : node.trace ≡ trace
    -- its peers are the other shards, in rising order
    pub peers : map (λ peer. peer.shard) node.peers ≡ others n s
    pub standing : InStanding traffic node
    pub done : IsDone traffic holds node
    -- its count of the blocks that came back is a u64
    pub counted : node.store.backs < 2 ^ 64

  -- Each of n nodes is so; and between each two of them, what one received is a prefix of what the other sent, on each lane.
  pub record AreTogether (nodes : List (NodeState L G)) : Type 0 where
    pub count : length nodes ≡ n
    pub each : (s : ℕ) (node : NodeState L G) → slice_get nodes s ≡ Some node → IsDoneNode s node
    pub met : (a b : ℕ) (p q : PeerState L) → IsPeer nodes a b p → IsPeer nodes b a q → ArePrefixes (traffic p.link).received (traffic q.link).sent

-- What node s says alone of a trace, with n shards of so many pages each, whatever its links brought.
module _ {L G : Type 0} (traffic : L → Traffic) (trace : Trace) (n pages s : ℕ) (node : NodeState L G) where
  -- the peer was sent the journal's replies to all parts that its shard issues and this one does, in order, and no more
  pub record SentAllReplies (peer : PeerState L) : Type 0 where
    pub count : length (traffic peer.link).sent.replies ≡ length (parts trace n peer.shard s)
    pub replies : AreReplies (reply_at trace pages node.journal.entries) (traffic peer.link).sent.replies (parts trace n peer.shard s)

  -- its journal is legal, and has the parts of its shard, neither more nor fewer; and each peer has its replies
  pub record IsCompleteNode : Type 0 where
    pub legal : IsLegal trace pages node.journal.entries
    pub complete : IsComplete trace n s node.journal.entries
    pub replied : All SentAllReplies node.peers

-- What they say together of a trace, with n shards of so many pages each.
module _ {L G : Type 0} (traffic : L → Traffic) (trace : Trace) (n pages : ℕ) where
  pub record Agree (nodes : List (NodeState L G)) : Type 0 where
    -- there is a journal of each shard; each is legal, and has the parts of its shard, neither more nor fewer
    pub shards : length (journals_of nodes) ≡ n
    pub legal : All (IsLegal trace pages) (journals_of nodes)
    pub complete : (s : ℕ) (d : List Entry) → s < n → IsComplete trace n s (slice_index_or (journals_of nodes) s d)
    -- each part of each command has a reply there, and the logs hold these replies
    pub replied : All (λ operation. All (λ part. IsSome (part_reply trace pages (journals_of nodes) part)) (parts_of n operation)) trace.operations
    pub logged : (o : ℕ) (d : List (Option (ReplyKind × List ℕ))) → o < n
        → HoldsReplies trace n o (part_reply trace pages (journals_of nodes)) (slice_index_or (logs_of nodes) o d)
    -- each node lent as many blocks as the report says, and all of them came back
    pub occupied : (s : ℕ) (node : NodeState L G) → slice_get nodes s ≡ Some node
        → (node.store.lends ≡ raised 0 (lent trace n s)) × (node.store.backs ≡ raised 0 (lent trace n s))
    -- no packet is on its way: on each lane all that was sent was received
    pub exchanged : (a b : ℕ) (p q : PeerState L) → IsPeer nodes a b p → IsPeer nodes b a q → (traffic p.link).received ≡ (traffic q.link).sent
    -- each cache is the one that its node's journal leads to
    pub cache : (s : ℕ) (node : NodeState L G) → slice_get nodes s ≡ Some node → cache_after trace pages node.journal.entries ≡ Some node.store.rows
