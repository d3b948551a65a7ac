-- What a peer asks, and what becomes of it.
use Rattle.std.specs.Prelude.{◌≡◌, ℕ, ◌⊎◌, true, false, drop, Contains, Option, Some, None}
use Rattle.rows.specs.Operation.{Operation}
use Rattle.trace_text.specs.Parsed.{trace_in}
use Rattle.rows.specs.Apply.{Reply}
use Rattle.foreign_list.specs.Blocks.{Block}
use Rattle.run_log.specs.JournalState.{JournalState}
use Rattle.shard_memory.specs.declared.share.Share.TheVariants as shares
use Rattle.shard_rings.specs.Lanes.{LinkEnd, Traffic}
use Rattle.shard_rings.specs.Reply.{HoldsReply}
use Rattle.shard_rings.specs.declared.link.Lane.TheVariants as lanes
use Rattle.shard_rings.specs.declared.link.Packet.{Packet}
use Rattle.shard_store.specs.Stores.{StoreState}
use Rattle.shard_store.specs.Lending.{LendsBlock}
use Rattle.shard_store.specs.Works.{floor_of}
use Rattle.shard_node.specs.inside.Did.{DoesAbove}
use Rattle.shard_parts.specs.declared.stray_packet.StrayPacket.{StrayPacket}
use Rattle.shard_parts.specs.declared.stray_packet.Tried.{Tried}
use Rattle.shard_parts.specs.declared.stray_packet.Tried.TheVariants.{Nothing, Expected, Other}
use Rattle.shard_parts.specs.declared.peer.Peer.{Peer}
use Rattle.shard_node.specs.Due.{is_same, number_in, number_said, said}
use Rattle.shard_parts.specs.Receives.{Came, TakesNone, block_of, next_ask}
pub use Rattle.shard_parts.specs.Receives.{MayAsk, due_next}
use Rattle.part_lemmas.specs.Releases.{Tries}

module _ {L : Type 0} where
  -- The next request came and was done: its reply waits to be sent.
  pub record IsDoneFor (operation : Operation) (old new : Peer L) (store store' : StoreState) (journal journal' : JournalState) : Type 0 where
    pub of_trace : Contains (trace_in old.asks.trace).operations operation
    pub reply : Block
    pub answer : Reply
    pub waits : new.reply ≡ Some reply
    pub holds : HoldsReply reply.piece.bytes operation.number answer
    pub does : DoesAbove (floor_of store.pages store.lent store.regions) operation answer store store' journal journal'
    pub lends : LendsBlock shares.Reply store store' reply
    pub left : new.asks.left ≡ drop 1 old.asks.left
    pub trace : new.asks.trace ≡ old.asks.trace
    pub origin : new.asks.origin ≡ old.asks.origin
    pub shard : new.asks.shard ≡ old.asks.shard
    pub heard : new.has_heard_bye ≡ old.has_heard_bye

  -- Bye came behind the last request
  pub record HearsBye (old new : Peer L) (store store' : StoreState) (journal journal' : JournalState) : Type 0 where
    pub heard : new.has_heard_bye ≡ true
    pub asks : new.asks ≡ old.asks
    pub reply : new.reply ≡ old.reply
    pub same_store : store' ≡ store
    pub same_journal : journal' ≡ journal

  abbrev pub EndsExpected : Option Operation → Peer L → Peer L → StoreState → StoreState → JournalState → JournalState → Type 0
  EndsExpected (Some operation) old new store store' journal journal' = IsDoneFor operation old new store store' journal journal'
  EndsExpected None old new store store' journal journal' = HearsBye old new store store' journal journal'

  -- another packet is set aside
  pub record IsNoRequest (packet : Packet) (old new : Peer L) (store store' : StoreState) (journal journal' : JournalState) (set_aside : StrayPacket) : Type 0 where
    pub other : is_same (due_next old) (said packet) ≡ false
    pub asks : new.asks ≡ old.asks
    pub heard : new.has_heard_bye ≡ old.has_heard_bye
    pub reply : new.reply ≡ old.reply
    pub same_store : store' ≡ store
    pub same_journal : journal' ≡ journal
    pub stray : set_aside ≡ record { peer = old.shard; expected = number_said (due_next old); found = number_in packet }

  abbrev pub EndsRequest : Packet → Peer L → Peer L → StoreState → StoreState → JournalState → JournalState → Tried → Type 0
  EndsRequest packet old new store store' journal journal' Nothing = ⊥
  EndsRequest packet old new store store' journal journal' Expected =
      (is_same (due_next old) (said packet) ≡ true) × EndsExpected (next_ask old) old new store store' journal journal'
  EndsRequest packet old new store store' journal journal' (Other stray) = IsNoRequest packet old new store store' journal journal' stray

module _ {L : Type 0} (traffic : L → Traffic) (end : L → LinkEnd) where
  -- a packet came on the lane of requests, and its block was tried once
  pub record Serves (old new : Peer L) (store store' : StoreState) (journal journal' : JournalState) (tally tally' : ℕ) (result : Tried) : Type 0 where
    pub packet : Packet
    pub came : Came traffic end lanes.Requests packet old.link new.link
    pub tries : Tries (block_of packet) new.held_request tally tally'
    pub ends : EndsRequest packet old new store store' journal journal' result
    pub same : new ≡ record old { link = new.link; held_request = new.held_request; reply = new.reply; asks = new.asks; has_heard_bye = new.has_heard_bye }

  abbrev pub TriesRequest : Peer L → Peer L → StoreState → StoreState → JournalState → JournalState → ℕ → ℕ → Tried → Type 0
  TriesRequest old new store store' journal journal' tally tally' result =
      (TakesNone traffic end lanes.Requests old new × (store' ≡ store) × (journal' ≡ journal) × (tally' ≡ tally) × (result ≡ Nothing))
      ⊎ Serves old new store store' journal journal' tally tally' result
