-- What links tell of themselves, and those with which a node is opened.
use Rattle.std.specs.Prelude.{◌≡◌, []}
use Rattle.shard_rings.specs.Lanes.{each_lane, Traffic}

-- nothing was sent or received on the link
pub record IsUnused {L : Type 0} (traffic : L → Traffic) (link : L) : Type 0 where
  pub sent : (traffic link).sent ≡ each_lane []
  pub received : (traffic link).received ≡ each_lane []
