use Rattle.shard_store.proofs.giving.give_surely.Goals as goal

pub returns-clause-consistent : goal.returns-clause-consistent
returns-clause-consistent c = c.give_at_once.ensures.consistent
