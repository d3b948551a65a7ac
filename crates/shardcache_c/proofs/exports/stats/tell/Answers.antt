use Rattle.std.proofs.Common.{ap, refl}
use Rattle.shardcache_c.specs.Handles.{cache_over}
use Rattle.shardcache_c.proofs.exports.stats.tell.Goals as goal

pub returns-then-is_guarded : goal.returns-then-is_guarded
returns-then-is_guarded c = let told = c.stats-told.ensures in record {
  done = λ done. (c.in-Some.opened.cache, ap cache_over c.in-Some.is, told.rows.0, told.live.0, told.live.1, told.counts.0, told.counts.1, told.counts.2);
  why = λ not. absurd (not refl);
}

pub returns-else-is_guarded : goal.returns-else-is_guarded
returns-else-is_guarded c = let told = c.stats-told.ensures in record {
  done = λ done. (c.in-Some.opened.cache, ap cache_over c.in-Some.is, told.rows.0, told.live.0, told.live.1, told.counts.0, told.counts.1, told.counts.2);
  why = λ not. absurd (not refl);
}
