-- A shard as it is opened.
use Rattle.std.specs.Prelude.{◌≡◌, ℕ, false, None}
use Rattle.trace_text.specs.Parsed.{Parsed, trace_in}
use Rattle.shard_parts.specs.declared.peer.Peer.{Peer}
use Rattle.part_lemmas.specs.Due.{operations_for}

module _ {L : Type 0} where
  -- Nothing came of the peer of shard s of n, nothing waits, and all commands of the trace between the two are left.
  pub record IsNewPeer (trace : Parsed) (n s : ℕ) (peer : Peer L) : Type 0 where
    pub held_request : peer.held_request ≡ None
    pub held_reply : peer.held_reply ≡ None
    pub reply : peer.reply ≡ None
    pub has_heard_bye : peer.has_heard_bye ≡ false
    pub has_sent_bye : peer.has_sent_bye ≡ false
    pub owed : peer.owed ≡ 0
    pub asks_trace : peer.asks.trace ≡ trace
    pub asks_origin : peer.asks.origin ≡ peer.shard
    pub asks_shard : peer.asks.shard ≡ s
    pub asks : peer.asks.left ≡ operations_for (trace_in trace) n peer.shard s
    pub answers_trace : peer.answers.trace ≡ trace
    pub answers_origin : peer.answers.origin ≡ s
    pub answers_shard : peer.answers.shard ≡ peer.shard
    pub answers : peer.answers.left ≡ operations_for (trace_in trace) n s peer.shard
