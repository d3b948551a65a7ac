-- What comes of a peer, and what becomes of it.
use Rattle.std.specs.Prelude.{◌≡◌, ℕ, ◌+◌, ◌<◌, ◌⊎◌, length, drop, true, false, List, Option, Some, None, slice_set, []}
use Rattle.std.specs.List.{slice_get}
use Rattle.std.specs.Option.{option_map}
use Rattle.rows.specs.Operation.{Operation}
use Rattle.trace_text.specs.Parsed.{trace_in}
use Rattle.rows.specs.Apply.{Reply}
use Rattle.rows.specs.Spelled.{spelled}
use Rattle.foreign_list.specs.Blocks.{Block}
use Rattle.run_log.specs.Replies.{Replies}
use Rattle.layout.specs.Counts.{Rose}
use Rattle.shard_rings.specs.Lanes.{LinkEnd, NoneFell, adds, on, Traffic}
use Rattle.shard_rings.specs.Request.{request}
use Rattle.shard_rings.specs.declared.link.Lane.{Lane}
use Rattle.shard_rings.specs.declared.link.Lane.TheVariants as lanes
use Rattle.shard_rings.specs.declared.link.Packet.{Packet}
use Rattle.shard_rings.specs.declared.link.Packet.TheVariants.{Block as InBlock, Bye}
use Rattle.shard_parts.specs.declared.stray_packet.StrayPacket.{StrayPacket}
use Rattle.shard_parts.specs.declared.stray_packet.Tried.{Tried}
use Rattle.shard_parts.specs.declared.stray_packet.Tried.TheVariants.{Nothing, Expected, Other}
use Rattle.shard_parts.specs.declared.peer.Peer.{Peer}
use Rattle.part_lemmas.specs.Due.{Answers, AnswersNot, number_in}
use Rattle.part_lemmas.specs.Due.{expected_number}
use Rattle.part_lemmas.specs.Exchange.{IsEmpty}
use Rattle.part_lemmas.specs.Releases.{Tries}

-- the block of a packet
abbrev pub block_of : Packet → Option Block
block_of (InBlock block) = Some block
block_of Bye = None

-- the command that a peer answers next, and the one that it asks next
abbrev pub next_answer : {L : Type 0} → Peer L → Option Operation
next_answer peer = slice_get peer.answers.left 0

abbrev pub next_ask : {L : Type 0} → Peer L → Option Operation
next_ask peer = slice_get peer.asks.left 0

module _ {L : Type 0} where
  -- what the next packet of the peer should say: the request of the next command, or Bye where none is left
  abbrev pub due_next : Peer L → Option (List ℕ)
  due_next peer = option_map request (next_ask peer)

  -- more requests may come, no block of theirs waits to be released, and no reply waits to be sent
  pub record MayAsk (peer : Peer L) : Type 0 where
    pub unheard : peer.has_heard_bye ≡ false
    pub released : IsEmpty peer.held_request
    pub replied : IsEmpty peer.reply

  -- The packet is the reply that was expected: it went into the log, and the peer owes one fewer.
  pub record IsReply (packet : Packet) (old new : Peer L) (log logged : Replies) : Type 0 where
    pub reply : Reply
    pub answers : Answers (trace_in old.answers.trace) (next_answer old) packet reply
    pub replies : logged.replies ≡ slice_set log.replies old.answers.part (Some (spelled reply))
    pub room : logged.room + length (spelled reply).1 ≡ log.room
    pub left : new.answers.left ≡ drop 1 old.answers.left
    pub trace : new.answers.trace ≡ old.answers.trace
    pub origin : new.answers.origin ≡ old.answers.origin
    pub shard : new.answers.shard ≡ old.answers.shard
    pub rises : old.answers.part < new.answers.part
    pub owed : new.owed + 1 ≡ old.owed

  -- another packet is set aside
  pub record IsNoReply (packet : Packet) (old new : Peer L) (log logged : Replies) (set_aside : StrayPacket) : Type 0 where
    pub none : AnswersNot (trace_in old.answers.trace) (next_answer old) packet
    pub not_logged : logged ≡ log
    pub answers : new.answers ≡ old.answers
    pub owed : new.owed ≡ old.owed
    pub stray : set_aside ≡ record { peer = old.shard; expected = expected_number (next_answer old); found = number_in packet }

  abbrev pub EndsReply : Packet → Peer L → Peer L → Replies → Replies → Tried → Type 0
  EndsReply packet old new log logged Nothing = ⊥
  EndsReply packet old new log logged Expected = IsReply packet old new log logged
  EndsReply packet old new log logged (Other stray) = IsNoReply packet old new log logged stray

  -- the peer owes a reply, and none waits to be released
  abbrev pub OwesReply : Peer L → Type 0
  OwesReply peer = (0 < peer.owed) × IsEmpty peer.held_reply

-- no more comes of the peer, it has answered all, and nothing is left to send to it
pub record HasEnded {L : Type 0} (peer : Peer L) : Type 0 where
  pub heard : peer.has_heard_bye ≡ true
  pub told : peer.has_sent_bye ≡ true
  pub released_request : IsEmpty peer.held_request
  pub released_reply : IsEmpty peer.held_reply
  pub replied : IsEmpty peer.reply
  pub answered : peer.answers.left ≡ []

module _ {L : Type 0} (traffic : L → Traffic) (end : L → LinkEnd) where
  -- a packet came over a lane of the link
  pub record Came (lane : Lane) (packet : Packet) (old new : L) : Type 0 where
    pub received : (traffic new).received ≡ adds lane packet (traffic old).received
    pub sent : (traffic new).sent ≡ (traffic old).sent
    pub full : NoneFell (traffic old).full (traffic new).full
    pub empty : NoneFell (traffic old).empty (traffic new).empty
    pub same_end : end new ≡ end old

  -- nothing was there
  pub record CameNone (lane : Lane) (old new : L) : Type 0 where
    pub received : (traffic new).received ≡ (traffic old).received
    pub sent : (traffic new).sent ≡ (traffic old).sent
    pub rose : Rose (on lane (traffic old).empty) (on lane (traffic new).empty)
    pub full : NoneFell (traffic old).full (traffic new).full
    pub empty : NoneFell (traffic old).empty (traffic new).empty
    pub same_end : end new ≡ end old

  -- a packet came on the lane of replies, and its block was tried once
  pub record TakesReply (old new : Peer L) (log logged : Replies) (tally tally' : ℕ) (result : Tried) : Type 0 where
    pub packet : Packet
    pub came : Came lanes.Replies packet old.link new.link
    pub tries : Tries (block_of packet) new.held_reply tally tally'
    pub ends : EndsReply packet old new log logged result
    pub same : new ≡ record old { link = new.link; held_reply = new.held_reply; answers = new.answers; owed = new.owed }

  -- none came
  pub record TakesNone (lane : Lane) (old new : Peer L) : Type 0 where
    pub came : CameNone lane old.link new.link
    pub same : new ≡ record old { link = new.link }

  -- a reply was expected of the peer, and its lane was tried
  abbrev pub TriesReply : Peer L → Peer L → Replies → Replies → ℕ → ℕ → Tried → Type 0
  TriesReply old new log logged tally tally' result =
      (TakesNone lanes.Replies old new × (logged ≡ log) × (tally' ≡ tally) × (result ≡ Nothing)) ⊎ TakesReply old new log logged tally tally' result
