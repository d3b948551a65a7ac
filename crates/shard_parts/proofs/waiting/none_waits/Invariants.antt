use Rattle.std.proofs.Common.{All, take}
use Rattle.shard_parts.specs.Peers.{HasNoneWaiting}
use Rattle.shard_parts.proofs.waiting.none_waits.Given as goal

abbrev pub invariant-loop-peer : goal.invariant-loop-peer
invariant-loop-peer g l = All HasNoneWaiting (take l.peer-index l.peers)
