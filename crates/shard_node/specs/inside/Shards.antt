-- What a caller sees of a shard at work, and what holds of it between the steps of a turn, whatever its links say.
use Rattle.std.specs.Prelude.{◌≡◌, ℕ, ◌+◌, ◌*◌, ◌^◌, ◌==◌, ◌<◌, ◌≤◌, nat_le, List, length, map, sum_by, count_by, drop, take, vec_len, All, Contains, Some, None}
use Rattle.std.specs.List.{slice_get}
use Rattle.layout.specs.Counts.{raised}
use Rattle.layout.specs.Sizes.{greatest_key, key_room, most_keys}
use Rattle.trace_text.specs.Parsed.{IsConsistent as IsReadTrace, IsWellFormed, trace_in}
use Rattle.trace_text.specs.Parts.{longest_value}
use Rattle.trace_text.specs.Trace.{regions}
use Rattle.rows.specs.Holds.{RowsHold}
use Rattle.cache_model.specs.OwnParts.{issued_parts}
use Rattle.shard_memory.specs.Tickets.{tickets_out}
use Rattle.shard_store.specs.Stores.{IsUnguarded, StoreState}
use Rattle.shard_parts.specs.declared.peer.Peer.{Peer}
use Rattle.shard_node.specs.declared.shard.Shard.{Shard}
use Rattle.shard_node.specs.declared.waiting.Waiting.{Waiting}
use Rattle.shard_node.specs.Due.{operations_for}
use Rattle.shard_node.specs.Nodes.{NodeState, others}
use Rattle.shard_node.specs.Standing.{begun_at, waiting_request}
use Rattle.shard_parts.specs.Peers.{peer_state}
use Rattle.part_lemmas.specs.Work.{bodies, puts_among}

-- as many blocks were lent as came home and are out, while they can be counted
pub record IsCounted (store : StoreState) : Type 0 where
  pub lends : store.lends ≡ raised store.backs (tickets_out store.lent)
  pub backs : store.backs < 2 ^ 64

module _ {L G : Type 0} where
  abbrev pub node_state : Shard L G → NodeState L G
  node_state shard = record {
    shard = shard.shard;
    shards = shard.shards;
    pages = shard.pages;
    trace = trace_in shard.trace.now;
    store = shard.store;
    journal = shard.journal;
    log = shard.log;
    peers = map peer_state shard.peers.items;
    begun = shard.own.begun;
    request = shard.request;
    gate = shard.gate;
    tally = shard.tally;
    turns = shard.turns;
  }

  -- the commands that a peer will ask and will answer are those of this trace between the two
  pub record HasCursors (shard : Shard L G) (peer : Peer L) : Type 0 where
    pub asks_trace : peer.asks.trace ≡ shard.trace.now
    pub asks_origin : peer.asks.origin ≡ peer.shard
    pub asks_shard : peer.asks.shard ≡ shard.shard
    pub answers_trace : peer.answers.trace ≡ shard.trace.now
    pub answers_origin : peer.answers.origin ≡ shard.shard
    pub answers_shard : peer.answers.shard ≡ peer.shard

  -- the puts and the parts that are left to do here: those that the peers will ask, and the own ones
  abbrev pub puts_left : Shard L G → ℕ
  puts_left shard = puts_among shard.here.left + sum_by (λ peer. puts_among peer.asks.left) shard.peers.items

  abbrev pub parts_left : Shard L G → ℕ
  parts_left shard = length shard.here.left + sum_by (λ peer. length peer.asks.left) shard.peers.items

  -- the most bytes of the replies that will come
  abbrev pub bodies_left : Shard L G → ℕ
  bodies_left shard = bodies (trace_in shard.trace.now) shard.here.left + sum_by (λ peer. bodies (trace_in shard.trace.now) peer.answers.left) shard.peers.items

  -- There is room for what is left: a row for each put; in the journal an entry for each part and one for the eviction of each row;
  -- in the log the body of each reply.
  pub record HasRoom (shard : Shard L G) : Type 0 where
    pub rows : length shard.store.rows + puts_left shard ≤ shard.store.room
    pub spare : length shard.store.rows + puts_left shard + parts_left shard ≤ shard.journal.spare
    pub bodies : bodies_left shard ≤ shard.log.room
    pub keys : vec_len shard.keys ≡ key_room * most_keys

  -- no row is longer than the puts of the trace can make one
  abbrev pub HasShortRows : Shard L G → Type 0
  HasShortRows shard = RowsHold (λ key. nat_le (length key.bytes) greatest_key) (λ value. nat_le (length value) shard.longest) shard.store.rows

  abbrev pub issued_by : Shard L G → List (ℕ × ℕ)
  issued_by shard = issued_parts (trace_in shard.trace.now) shard.shards shard.shard

  -- the log has no reply yet to the parts of this shard from place `from` on
  abbrev pub AreUnanswered : Shard L G → ℕ → ℕ → Type 0
  AreUnanswered shard doer from = (k i : ℕ) → from ≤ k → slice_get (issued_by shard) k ≡ Some (i, doer) → slice_get shard.log.replies k ≡ Some None

  -- the parts that were begun for a peer: those that it answered, those that it owes, and the one whose request waits
  abbrev pub HasAsked : Shard L G → Peer L → Type 0
  HasAsked shard peer = length (begun_at (node_state shard) peer.shard) + length peer.answers.left
      ≡ length (operations_for (trace_in shard.trace.now) shard.shards shard.shard peer.shard) + peer.owed + length (waiting_request shard.request peer.shard)

  -- the own parts that it does itself stand where the next own part does
  pub record HasOwn (shard : Shard L G) : Type 0 where
    pub own_trace : shard.own.trace ≡ shard.trace.now
    pub own_shard : shard.own.shard ≡ shard.shard
    pub here_trace : shard.here.trace ≡ shard.trace.now
    pub here_origin : shard.here.origin ≡ shard.shard
    pub here_shard : shard.here.shard ≡ shard.shard
    pub here : shard.here.left
        ≡ drop (count_by (λ part. part.1 == shard.shard) (take shard.own.begun (issued_by shard))) (operations_for (trace_in shard.trace.now) shard.shards shard.shard shard.shard)

  pub record IsConsistent (shard : Shard L G) : Type 0 where
    pub read : IsReadTrace shard.trace.now
    pub formed : All IsWellFormed (trace_in shard.trace.now).operations
    pub parsed_for : shard.shards ≡ shard.trace.now.shards
    pub within : shard.shard < shard.shards
    pub of_shard : shard.store.shard ≡ shard.shard
    pub pages : shard.store.pages ≡ shard.pages
    pub of_regions : shard.store.regions ≡ regions (trace_in shard.trace.now)
    pub unguarded : IsUnguarded shard.store
    pub counted : IsCounted shard.store
    pub longest : shard.longest ≡ longest_value (trace_in shard.trace.now)
    pub peers : map (λ peer. peer.shard) shard.peers.items ≡ others shard.shards shard.shard
    pub cursors : All (HasCursors shard) shard.peers.items
    pub own : HasOwn shard
    pub begun : shard.own.begun ≤ length (issued_by shard)
    pub waits : (waiting : Waiting) → shard.request ≡ Some waiting → Contains (others shard.shards shard.shard) waiting.peer
    pub asked : All (HasAsked shard) shard.peers.items
    pub room : HasRoom shard
    pub short : HasShortRows shard
    pub one_each : length shard.log.replies ≡ length (issued_by shard)
    pub own_unanswered : AreUnanswered shard shard.shard shard.own.begun
    pub unanswered : All (λ peer. AreUnanswered shard peer.shard peer.answers.part) shard.peers.items
