use Rattle.shard_store.proofs.Holding.{leaves-same}
use Rattle.shard_store.proofs.giving.give_uncompacted.Goals as goal

pub returns-in-Err-clause-leaves : goal.returns-in-Err-clause-leaves
returns-in-Err-clause-leaves c =
    let f = c.give_squeezed.ensures.leaves in
    record {
      rows = f.rows;
      keeps = f.keeps;
      guards = f.guards;
      consistent = λ shard pages regions h. f.consistent shard pages regions (c.give_at_once.ensures.consistent shard pages regions c.args.cache.now.region h);
    }

pub returns-in-Ok-clause-leaves : goal.returns-in-Ok-clause-leaves
returns-in-Ok-clause-leaves c = leaves-same c.args.memory.now c.give_at_once.new.memory c.args.cache.now (λ shard pages regions h. c.give_at_once.ensures.consistent shard pages regions c.args.cache.now.region h)
