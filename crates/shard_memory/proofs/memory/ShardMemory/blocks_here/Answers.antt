use Rattle.std.proofs.Common.{length, ap, ◌∙◌}
use Rattle.shard_memory.specs.Shards.{MemoryState}
use Rattle.shard_memory.proofs.memory.ShardMemory.blocks_here.Goals as goal

pub returns : goal.returns
returns c = c.self.invariant.here_is ∙ ap (λ (s : MemoryState). length s.blocks) c.self.view_is
