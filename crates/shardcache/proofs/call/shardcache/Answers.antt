-- The call is the one with gates that never hold.
use Rattle.shardcache.proofs.call.shardcache.Goals as goal

pub returns : goal.returns
returns g c = record {
  headline = c.shardcache_gated.ensures.headline;
  read_fault = c.shardcache_gated.ensures.read_fault;
  write_fault = c.shardcache_gated.ensures.write_fault;
  usage = c.shardcache_gated.ensures.usage;
  accepted = c.shardcache_gated.ensures.accepted;
  refused = c.shardcache_gated.ensures.refused;
}
