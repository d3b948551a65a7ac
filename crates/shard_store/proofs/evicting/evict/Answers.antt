use Rattle.shard_store.proofs.evicting.evict.Goals as goal

pub returns-clause-spare : goal.returns-clause-spare
returns-clause-spare g c = g.met.E.Evictions.takes_one c.args.evictions.now c.evicted.new.self c.in-Some.tag c.evicted.ensures
