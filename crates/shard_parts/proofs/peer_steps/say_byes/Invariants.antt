use Rattle.std.proofs.Common.{◌<◌, ◌≤◌, ◌↔◌, IsTrue}
use Rattle.shard_parts.specs.Peers.{packets_by_all}
use Rattle.shard_parts.specs.Peers.{SaysBye}
use Rattle.shard_parts.proofs.Each.{ChangesOnce}
use Rattle.shard_parts.proofs.peer_steps.say_byes.Given as goal

abbrev pub invariant-loop-peer : goal.invariant-loop-peer
invariant-loop-peer g l = record {
  each : ChangesOnce (SaysBye g.L.Link.traffic g.L.Link.end) l.initial.peers l.peers l.peer-index;
  sent : IsTrue l.moved ↔ (packets_by_all g.L.Link.traffic l.initial.peers < packets_by_all g.L.Link.traffic l.peers);
  low : packets_by_all g.L.Link.traffic l.initial.peers ≤ packets_by_all g.L.Link.traffic l.peers;
}
