-- A link's lanes: the rings that it sends and receives on, and what went over them.
use Rattle.std.specs.Prelude.{◌≡◌, ℕ, ◌≤◌, List, [], ◌∷◌, ◌++◌}
use mathlib.Core.List.{IsPrefix}
use Rattle.layout.specs.Counts.{counted}
use denote.RawPtr.{Ptr}
use Rattle.std.specs.declared.alloc.Global.{Global}
use Rattle.rtrb.specs.Shared.{Names}
use Rattle.shard_rings.specs.declared.link.Lane.{Lane}
use Rattle.shard_rings.specs.declared.link.Lane.TheVariants.{Requests, Replies}
use Rattle.shard_rings.specs.declared.link.Packet.{Packet}

-- one for each lane
pub record Lanes (A : Type 0) : Type 0 where
  pub requests : A
  pub replies : A

abbrev pub on : {A : Type 0} → Lane → Lanes A → A
on Requests lanes = lanes.requests
on Replies lanes = lanes.replies

abbrev pub each_lane : {A : Type 0} → A → Lanes A
each_lane a = record { requests = a; replies = a }

-- this packet more, at the end of one lane's list
abbrev pub adds : Lane → Packet → Lanes (List Packet) → Lanes (List Packet)
adds Requests packet lists = record lists { requests = lists.requests ++ packet ∷ [] }
adds Replies packet lists = record lists { replies = lists.replies ++ packet ∷ [] }

-- what went over a link, and how often a send was refused and nothing was there to receive
pub record Traffic : Type 0 where
  pub sent : Lanes (List Packet)
  pub received : Lanes (List Packet)
  pub full : Lanes ℕ
  pub empty : Lanes ℕ

-- on each lane the one is a prefix of the other
abbrev pub ArePrefixes : Lanes (List Packet) → Lanes (List Packet) → Type 0
ArePrefixes a b = IsPrefix a.requests b.requests × IsPrefix a.replies b.replies

-- Counts.

abbrev pub counts : Lane → Lanes ℕ → Lanes ℕ
counts Requests numbers = record numbers { requests = counted numbers.requests }
counts Replies numbers = record numbers { replies = counted numbers.replies }

-- on no lane did the count fall
abbrev pub NoneFell : Lanes ℕ → Lanes ℕ → Type 0
NoneFell old new = (old.requests ≤ new.requests) × (old.replies ≤ new.replies)

-- Ends.

-- tells a ring from each other one; nothing else is read of it
pub record RingId : Type 0 where
  pub words : Ptr
  pub slots : Ptr
  pub names : Names
  pub heap : Global

-- which end of which pair a link is: the rings that it sends on, and those that it receives on
pub record LinkEnd : Type 0 where
  pub out : Lanes RingId
  pub into : Lanes RingId

-- the other end of the pair
abbrev pub other_end : LinkEnd → LinkEnd
other_end end = record { out = end.into; into = end.out }

abbrev pub ArePair : LinkEnd → LinkEnd → Type 0
ArePair a b = b ≡ other_end a
