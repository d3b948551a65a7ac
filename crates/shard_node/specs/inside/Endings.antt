-- When a shard is at its end, as its fields tell.
use Rattle.std.specs.Prelude.{◌≡◌, length, All}
use Rattle.shard_memory.specs.Tickets.{tickets_out}
use Rattle.shard_node.specs.declared.shard.Shard.{Shard}
use Rattle.shard_node.specs.Turns.{IsEmpty}
use Rattle.shard_parts.specs.Own.{own_log}
pub use Rattle.shard_parts.specs.Receives.{HasEnded}

-- no request waits, no own part is left to begin, all tickets are idle, and each peer has ended
pub record IsAtEnd {L G : Type 0} (shard : Shard L G) : Type 0 where
  pub asked : IsEmpty shard.request
  pub begun : shard.own.begun ≡ length (own_log shard.own)
  pub idle : tickets_out shard.store.lent ≡ 0
  pub peers : All HasEnded shard.peers.items
