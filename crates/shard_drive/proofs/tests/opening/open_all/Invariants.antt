use Rattle.std.proofs.Common.{◌≡◌, ◌+◌, length, vec_len}
use Rattle.std.specs.List.{All}
use Rattle.shard_rings.specs.Links.{traffic_of}
use Rattle.shard_node.specs.Standing.{InStanding}
use Rattle.shard_drive.specs.Trials.{AreReady, AreUnused}
use Rattle.shard_drive.proofs.tests.opening.open_all.Given as goal

abbrev pub invariant-loop-seat : goal.invariant-loop-seat
invariant-loop-seat g l = record {
  places : length l.seats.items + length l.nodes.items ≡ l.shards;
  links : length l.links.items ≡ length l.seats.items;
  unused : All (AreUnused l.shards) l.links.items;
  ready : AreReady l.homes l.seats.items;
  standing : All (InStanding traffic_of) l.nodes.items;
}

abbrev pub decreases-loop-seat : goal.decreases-loop-seat
decreases-loop-seat g l = vec_len l.seats
