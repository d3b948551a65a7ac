use Rattle.std.proofs.Common.{◌≡◌, length}
use Rattle.shard_drive.specs.Trials.{AreReady}
use Rattle.shard_drive.proofs.tests.opening.lists.Given as goal

abbrev pub invariant-loop-shard : goal.invariant-loop-shard
invariant-loop-shard l = record {
  homes : length l.homes.items ≡ l.shard;
  seats : length l.seats.items ≡ l.shard;
  ready : AreReady l.homes.items l.seats.items;
}
