-- A ring's end in a link.
use Rattle.std.specs.Prelude.{◌≡◌, ℕ, List, length, min}
use Rattle.std.specs.declared.alloc.Global.{Global}
use Rattle.rtrb.specs.declared.producer.Producer.{Producer}
use Rattle.rtrb.specs.declared.consumer.Consumer.{Consumer}
use Rattle.shard_rings.specs.declared.link.Packet.{Packet}
use Rattle.layout.specs.Counts.{greatest_count}
use Rattle.shard_rings.specs.Lanes.{RingId}
use Rattle.shard_rings.specs.Links.{Outgoing, Incoming}

module _ {P : Type 0} where
  abbrev pub sent_on : Producer Packet Global P → RingId
  sent_on p = record { words = p.end.words; slots = p.end.slots; names = p.end.names; heap = p.end.heap }

  abbrev pub received_on : Consumer Packet Global P → RingId
  received_on c = record { words = c.end.words; slots = c.end.slots; names = c.end.names; heap = c.end.heap }

-- the list's length, up to the greatest count
abbrev pub Counts : ℕ → List Packet → Type 0
Counts n packets = n ≡ min (length packets) greatest_count

-- One ring's ends.

pub record Sending : Type 0 where
  pub ring : RingId
  pub sent : List Packet
  pub full : ℕ

pub record Receiving : Type 0 where
  pub ring : RingId
  pub received : List Packet
  pub empty : ℕ

-- the ends of both lanes

abbrev pub outgoing : Sending → Sending → Outgoing
outgoing a b = record {
  rings = record { requests = a.ring; replies = b.ring };
  sent = record { requests = a.sent; replies = b.sent };
  full = record { requests = a.full; replies = b.full };
}

abbrev pub incoming : Receiving → Receiving → Incoming
incoming a b = record {
  rings = record { requests = a.ring; replies = b.ring };
  received = record { requests = a.received; replies = b.received };
  empty = record { requests = a.empty; replies = b.empty };
}
