-- All counts are 0.
use Rattle.trace_text.proofs.ShardCounts.{zeros}
use Rattle.trace_text.proofs.shard_counts.ShardCounts.new.Goals as goal

pub returns : goal.returns
returns c at = zeros 64 at
