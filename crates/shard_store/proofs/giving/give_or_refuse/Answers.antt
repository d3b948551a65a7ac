use Rattle.shard_store.proofs.Holding.{keeps-same}
use Rattle.shard_store.proofs.giving.give_or_refuse.Goals as goal

pub returns-in-Ok-clause-consistent : goal.returns-in-Ok-clause-consistent
returns-in-Ok-clause-consistent c shard pages regions h = c.give_at_once.ensures.consistent shard pages regions c.args.cache.now.region h

pub returns-in-Err-NoSpan-clause-consistent : goal.returns-in-Err-NoSpan-clause-consistent
returns-in-Err-NoSpan-clause-consistent c shard pages regions h = c.give_squeezed.ensures.leaves.consistent shard pages regions (c.give_at_once.ensures.consistent shard pages regions c.args.cache.now.region h)

pub returns-in-Err-NoSpan-clause-guards : goal.returns-in-Err-NoSpan-clause-guards
returns-in-Err-NoSpan-clause-guards c = c.give_squeezed.ensures.leaves.guards

pub returns-in-Ok-clause-keeps : goal.returns-in-Ok-clause-keeps
returns-in-Ok-clause-keeps c = keeps-same c.args.cache.now

pub returns-in-Err-NoSpan-clause-keeps : goal.returns-in-Err-NoSpan-clause-keeps
returns-in-Err-NoSpan-clause-keeps c = c.give_squeezed.ensures.leaves.keeps

pub returns-in-Err-clause-keeps : goal.returns-in-Err-clause-keeps
returns-in-Err-clause-keeps c = keeps-same c.args.cache.now
