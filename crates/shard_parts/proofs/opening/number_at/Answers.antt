use Rattle.std.proofs.Common.{arith}
use Rattle.part_lemmas.proofs.Cursors.OtherPlaces.{at-above, at-below}
use Rattle.shard_parts.proofs.opening.number_at.Goals as goal

pub returns-then-at-shard-clause-place : goal.returns-then-at-shard-clause-place
returns-then-at-shard-clause-place c = at-below c.args.shards c.args.shard c.args.at c.if-at-shard.true (omega (arith, c.requires.at))

pub returns-else-at-shard-clause-place : goal.returns-else-at-shard-clause-place
returns-else-at-shard-clause-place c = at-above c.args.shards c.args.shard c.args.at (omega (arith, c.if-at-shard.false)) c.requires.at
