use Rattle.std.proofs.Common.{◌≡◌, length}
use Rattle.shard_rings.specs.Mesh.{IsMesh}
use Rattle.shard_rings.proofs.mesh.ring_links.Given as goal

abbrev pub invariant-loop : goal.invariant-loop
invariant-loop l = (length l.links.items ≡ l.counter) × IsMesh l.links.items
