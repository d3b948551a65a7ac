-- What holds of a node between its turns.
use Rattle.std.specs.Prelude.{◌≡◌, ◌≤◌, Bool, [], length, vec_capacity, Vec}
use Rattle.std.specs.declared.alloc.Global.{Global}
use Rattle.shard_memory.specs.Tickets.{tickets_out}
use Rattle.shard_node.specs.declared.shard.Shard.{Shard}
use Rattle.shard_node.specs.inside.Calm.{IsCalm}
use Rattle.shard_node.specs.inside.Shards.{IsConsistent, node_state}

-- Its shard is consistent, has no block out before its first turn, and is as calm as it is marked. The links will be handed
-- back in a vector that is there from the beginning: it is empty, and has room for them.
pub record IsConsistentNode {L G : Type 0} (shard : Shard L G) (links : Vec L Global) (marked : Bool) : Type 0 where
  pub consistent : IsConsistent shard
  pub idle : shard.turns ≡ 0 → tickets_out shard.store.lent ≡ 0
  pub calm : IsCalm marked (node_state shard)
  pub none : links.items ≡ []
  pub room : length shard.peers.items ≤ vec_capacity links
