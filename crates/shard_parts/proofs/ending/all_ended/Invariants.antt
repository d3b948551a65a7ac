use Rattle.std.proofs.Common.{All, take}
use Rattle.shard_parts.specs.Receives.{HasEnded}
use Rattle.shard_parts.proofs.ending.all_ended.Given as goal

abbrev pub invariant-loop-peer : goal.invariant-loop-peer
invariant-loop-peer g l = All HasEnded (take l.peer-index l.peers)
