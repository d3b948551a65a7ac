-- The links, as contracts see them.
use Rattle.std.specs.Prelude.{◌≡◌, ℕ, List, [], Option, Result, OnOk, OnErr, IfErr, OnSome, IfSome, IfNone}
use Rattle.shard_rings.specs.declared.link.Packet.{Packet}
use Rattle.shard_rings.specs.declared.link.Lane.{Lane}
use Rattle.layout.specs.Counts.{Rose}
use Rattle.shard_rings.specs.Lanes.{Lanes, NoneFell, RingId, LinkEnd, Traffic, adds, counts, each_lane, on}

-- the sending ends of two rings: what was sent, and how many sends were refused
pub record Outgoing : Type 0 where
  pub rings : Lanes RingId
  pub sent : Lanes (List Packet)
  pub full : Lanes ℕ

-- the receiving ends of two rings: what was received, and how often nothing was there
pub record Incoming : Type 0 where
  pub rings : Lanes RingId
  pub received : Lanes (List Packet)
  pub empty : Lanes ℕ

-- What a send on a lane does: the packet is behind those that were sent; or it is handed back, and the lane's count of
-- refused sends is one more.
pub record Sends {T : Type 0} (lane : Lane) (packet : Packet) (result : Result T Packet) (old new : Outgoing) : Type 0 where
  pub same_end : new.rings ≡ old.rings
  pub sent : OnOk result (new.sent ≡ adds lane packet old.sent)
  pub back : IfErr result (λ back. back ≡ packet)
  pub not_sent : OnErr result (new.sent ≡ old.sent)
  pub full : OnErr result (Rose (on lane old.full) (on lane new.full))
  pub never_falls : NoneFell old.full new.full
  pub counted : OnErr result (new.full ≡ counts lane old.full)
  pub not_counted : OnOk result (new.full ≡ old.full)

-- What a receive on a lane does: its packet is behind those that were received; or there is none, and the lane's count of
-- these is one more.
pub record Receives (lane : Lane) (result : Option Packet) (old new : Incoming) : Type 0 where
  pub same_end : new.rings ≡ old.rings
  pub received : IfSome result (λ packet. new.received ≡ adds lane packet old.received)
  pub not_received : IfNone result (new.received ≡ old.received)
  pub empty : IfNone result (Rose (on lane old.empty) (on lane new.empty))
  pub never_falls : NoneFell old.empty new.empty
  pub counted : IfNone result (new.empty ≡ counts lane old.empty)
  pub not_counted : OnSome result (new.empty ≡ old.empty)

-- one node's end toward one peer
pub record LinkState : Type 0 where
  pub out : Outgoing
  pub into : Incoming

abbrev pub end_of : LinkState → LinkEnd
end_of link = record { out = link.out.rings; into = link.into.rings }

abbrev pub traffic_of : LinkState → Traffic
traffic_of link = record { sent = link.out.sent; received = link.into.received; full = link.out.full; empty = link.into.empty }

-- nothing was sent or received, or tried
abbrev pub none_sent : Lanes RingId → Outgoing
none_sent rings = record { rings = rings; sent = each_lane []; full = each_lane 0 }

abbrev pub none_received : Lanes RingId → Incoming
none_received rings = record { rings = rings; received = each_lane []; empty = each_lane 0 }

abbrev pub IsUnused : LinkState → Type 0
IsUnused link = (link.out ≡ none_sent link.out.rings) × (link.into ≡ none_received link.into.rings)

-- A link with the other end of its pair: what was offered to the node, and what was taken of what it sent.
pub record MemoryLinkState : Type 0 where
  pub link : LinkState
  pub offered : Outgoing
  pub taken : Incoming

abbrev pub memory_traffic : MemoryLinkState → Traffic
memory_traffic link = traffic_of link.link
