-- A step of a turn.
use Rattle.std.specs.Prelude.{◌≡◌}
use Rattle.shard_rings.specs.Lanes.{LinkEnd, Traffic}
use Rattle.shard_node.specs.declared.shard.Shard.{Shard}
use Rattle.shard_node.specs.Standing.{InStanding}
use Rattle.shard_node.specs.Turns.{IsSameNode}
use Rattle.shard_node.specs.inside.Shards.{node_state, IsConsistent}

-- the shard is as consistent, and in standing where it was; no step counts turns
pub record IsStep {L G : Type 0} (traffic : L → Traffic) (end : L → LinkEnd) (old new : Shard L G) : Type 0 where
  pub consistent : IsConsistent new
  pub standing : InStanding traffic (node_state old) → InStanding traffic (node_state new)
  pub same : IsSameNode end (node_state old) (node_state new)
  pub turns : new.turns ≡ old.turns
