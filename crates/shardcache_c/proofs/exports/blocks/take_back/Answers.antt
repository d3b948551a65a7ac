use Rattle.std.proofs.Common.{refl, ap}
use Rattle.embedded_cache.specs.States.{EmbeddedState}
use Rattle.shardcache_c.specs.Handles.{cache_over}
use Rattle.shardcache_c.proofs.exports.blocks.take_back.Goals as goal

pub returns-clause-done : goal.returns-clause-done
returns-clause-done c = λ done. (
  c.in-Some.opened.cache,
  c.take_back.new.self,
  ap cache_over c.in-Some.is,
  refl,
  ap (λ (s : EmbeddedState). s.store.rows) c.take_back.ensures.same,
  c.take_back.ensures.count,
)
