use Rattle.std.proofs.Common.{◌<◌, ◌↔◌, IsTrue}
use Rattle.shard_parts.specs.Peers.{held_by_all, TriesHeld}
use Rattle.part_lemmas.specs.Releases.{Releases}
use Rattle.shard_parts.proofs.Each.{ChangesOnce}
use Rattle.shard_parts.proofs.peer_steps.release_all.Given as goal

abbrev pub invariant-loop-peer : goal.invariant-loop-peer
invariant-loop-peer g l = record {
  releases : Releases (held_by_all l.initial.peers) (held_by_all l.peers) l.initial.tally l.tally;
  each : ChangesOnce TriesHeld l.initial.peers l.peers l.peer-index;
  released : IsTrue l.moved ↔ (held_by_all l.peers < held_by_all l.initial.peers);
}
