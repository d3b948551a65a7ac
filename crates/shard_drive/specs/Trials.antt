-- What the tests open their nodes with.
use Rattle.std.specs.Prelude.{◌≡◌, ℕ, ◌+◌, ◌<◌, List, Vec, length, All}
use Rattle.std.specs.List.{slice_index_or}
use Rattle.std.specs.declared.alloc.Global.{Global}
use Rattle.foreign_list.specs.Lists.{OwnedList}
use Rattle.foreign_list.specs.OwnerSeats.{OwnerState, IsAtRest}
use Rattle.shard_rings.specs.Links.{LinkState, traffic_of}
use Rattle.shard_node.specs.Links.{IsUnused}

-- list k is that of shard k, and seat k its owner's, at rest
pub record IsReady (k : ℕ) (home : OwnedList) (seat : OwnerState) : Type 0 where
  pub owner : home.owner ≡ k
  pub at_rest : IsAtRest home seat

abbrev pub AreReady : List OwnedList → List OwnerState → Type 0
AreReady homes seats = (k : ℕ) (d : OwnedList) (e : OwnerState) → k < length seats → IsReady k (slice_index_or homes k d) (slice_index_or seats k e)

-- a link to each of the others of n shards, on which nothing was sent
pub record AreUnused (n : ℕ) (own : Vec LinkState Global) : Type 0 where
  pub one_each : length own.items + 1 ≡ n
  pub unused : All (IsUnused traffic_of) own.items
