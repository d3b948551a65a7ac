-- What shards have done for each other, and sent to each other, and what one keeps of another.
use Rattle.std.specs.Prelude.{◌≡◌, ℕ, ◌+◌, ◌==◌, Bool, true, false, not, List, [], ◌∷◌, filter, length, count_by, Option, Some, None}
use Rattle.std.specs.List.{range_with_len}
use Rattle.rows.specs.Operation.{Operation}
use Rattle.trace_text.specs.Parts.{origin}
use Rattle.cache_model.specs.declared.entry.Entry.{Entry}
use Rattle.rows.specs.Apply.{Reply}
use Rattle.cache_model.specs.Legal.{done}
use Rattle.foreign_list.specs.Blocks.{Block}
use Rattle.shard_rings.specs.Lanes.{Lanes, Traffic}
use Rattle.shard_rings.specs.Reply.{HoldsReply}
use Rattle.shard_rings.specs.declared.link.Packet.{Packet}
use Rattle.shard_rings.specs.declared.link.Packet.TheVariants.{Block as InBlock, Bye}

-- the shards of n other than s, in rising order
abbrev pub others : ℕ → ℕ → List ℕ
others n s = filter (λ q. not (q == s)) (range_with_len 0 n)

-- the commands of one origin that a journal has done, in order
abbrev pub done_for : ℕ → ℕ → List Entry → List ℕ
done_for n o journal = filter (λ i. origin i n == o) (done journal)

-- Blocks.

abbrev pub IsEmpty : {A : Type 0} → Option A → Type 0
IsEmpty option = option ≡ None

abbrev pub is_block : Packet → Bool
is_block (InBlock block) = true
is_block Bye = false

abbrev pub blocks : List Packet → ℕ
blocks packets = count_by is_block packets

abbrev pub one_if : {A : Type 0} → Option A → ℕ
one_if None = 0
one_if (Some a) = 1

-- the packets are the replies to the first of these commands, each in its block
abbrev pub AreReplies : (ℕ → Option Reply) → List Packet → List ℕ → Type 0
AreReplies reply [] numbers = Unit {0}
AreReplies reply (InBlock block ∷ packets) (i ∷ numbers) =
    ((answer : Reply) × (reply i ≡ Some answer) × HoldsReply block.piece.bytes i answer) × AreReplies reply packets numbers
AreReplies reply (packet ∷ packets) numbers = ⊥

-- how many packets went over a link, either way
abbrev pub packets : Traffic → ℕ
packets t = (length t.sent.requests + length t.sent.replies) + (length t.received.requests + length t.received.replies)

-- What a node keeps of a peer in place of whole lists: it tells how far the two are with each other.
pub record Keeping : Type 0 where
  -- what the peer still will ask, and whether its Bye came
  pub asks : List Operation
  pub has_heard_bye : Bool
  -- what it still will answer, how many of these it was asked, and whether Bye went to it
  pub answers : List Operation
  pub owed : ℕ
  pub has_sent_bye : Bool

-- another shard, as a node deals with it
pub record PeerState (L : Type 0) : Type 0 where
  -- its number
  pub shard : ℕ
  pub link : L
  -- the block that came over each lane and waits to be released
  pub held : Lanes (Option Block)
  -- the reply that waits to be sent
  pub reply : Option Block
  pub keeps : Keeping
