-- What callers see of a peer, and what a step of a turn does to one.
use Rattle.std.specs.Prelude.{◌≡◌, ℕ, ◌<◌, List, Option, length, slice_index_or, sum_by}
use Rattle.foreign_list.specs.Blocks.{Block}
use Rattle.shard_rings.specs.Lanes.{Lanes, LinkEnd, Traffic}
use Rattle.shard_rings.specs.declared.link.Lane.TheVariants.{Replies}
use Rattle.shard_parts.specs.declared.peer.Peer.{Peer}
use Rattle.part_lemmas.specs.Exchange.{IsEmpty, Keeping, PeerState, packets}
use Rattle.part_lemmas.specs.Releases.{TriesBoth, held_count}
use Rattle.part_lemmas.specs.Sends.{SendsHeld, TriesBye}

-- how many packets went over the links toward the peers, either way
abbrev pub packets_by_all : {L : Type 0} → (L → Traffic) → List (Peer L) → ℕ
packets_by_all traffic peers = sum_by (λ peer. packets (traffic peer.link)) peers

module _ {L : Type 0} where
  -- the blocks that wait to be released
  abbrev pub held : Peer L → Lanes (Option Block)
  held peer = record { requests = peer.held_request; replies = peer.held_reply }

  abbrev pub keeps : Peer L → Keeping
  keeps peer = record {
    asks = peer.asks.left;
    has_heard_bye = peer.has_heard_bye;
    answers = peer.answers.left;
    owed = peer.owed;
    has_sent_bye = peer.has_sent_bye;
  }

  abbrev pub peer_state : Peer L → PeerState L
  peer_state peer = record { shard = peer.shard; link = peer.link; held = held peer; reply = peer.reply; keeps = keeps peer }

  -- no block of the peer's waits to be released, and no reply to be sent to it
  pub record WaitsNone (peer : PeerState L) : Type 0 where
    pub released_request : IsEmpty peer.held.requests
    pub released_reply : IsEmpty peer.held.replies
    pub replied : IsEmpty peer.reply

  abbrev pub HasNoneWaiting : Peer L → Type 0
  HasNoneWaiting peer = WaitsNone (peer_state peer)

  -- the blocks of all peers that wait to be released
  abbrev pub held_by_all : List (Peer L) → ℕ
  held_by_all peers = sum_by (λ peer. held_count (held peer)) peers

  -- of a peer only that has changed
  abbrev pub HoldsOther : Peer L → Peer L → Type 0
  HoldsOther old new = new ≡ record old { held_request = new.held_request; held_reply = new.held_reply }

  -- each block of a peer that waited was tried once, whatever the tally; nothing else of it has changed
  pub record TriesHeld (old new : Peer L) : Type 0 where
    pub before : ℕ
    pub after : ℕ
    pub tries : TriesBoth (held old) (held new) before after
    pub same : HoldsOther old new

  -- a change of each peer
  abbrev pub Each : (Peer L → Peer L → Type 0) → List (Peer L) → List (Peer L) → Type 0
  Each R old new = (k : ℕ) (d : Peer L) → k < length old → R (slice_index_or old k d) (slice_index_or new k d)

  -- the reply that waited was tried once, and nothing else of the peer has changed
  pub record SendsReply (traffic : L → Traffic) (end : L → LinkEnd) (old new : Peer L) : Type 0 where
    pub sends : SendsHeld Replies old.reply new.reply (traffic old.link) (traffic new.link)
    pub same_end : end new.link ≡ end old.link
    pub same : new ≡ record old { link = new.link; reply = new.reply }

  -- Bye was tried once, where it had not been sent, and nothing else of the peer has changed
  pub record SaysBye (traffic : L → Traffic) (end : L → LinkEnd) (old new : Peer L) : Type 0 where
    pub tries : TriesBye old.has_sent_bye new.has_sent_bye (traffic old.link) (traffic new.link)
    pub same_end : end new.link ≡ end old.link
    pub same : new ≡ record old { link = new.link; has_sent_bye = new.has_sent_bye }
