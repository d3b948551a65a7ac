-- So many shards have met.
use Rattle.shard_rings.proofs.Meshes.{MeetTo}
use Rattle.shard_rings.proofs.mesh.meet.Given as goal

abbrev pub invariant-loop-shard : goal.invariant-loop-shard
invariant-loop-shard l = MeetTo l.shard-index l.initial.links l.links l.own.items
