use Rattle.std.proofs.Common.{refl, ap, inr}
use Rattle.shardcache_c.specs.Handles.{cache_over}
use Rattle.shardcache_c.proofs.Opens.{stays}
use Rattle.shardcache_c.proofs.exports.guards.compact.Goals as goal

pub returns-in-Guarded-clause-refused : goal.returns-in-Guarded-clause-refused
returns-in-Guarded-clause-refused c = λ guarded.
    stays c.args.shard.now c.in-Some.opened _ c.in-Some.is refl (c.compact.ensures.unchanged c.in-Guarded.is)

pub returns-in_default-compact : goal.returns-in_default-compact
returns-in_default-compact c = record {
  done = λ done. (c.in-Some.opened.cache, c.compact.new.self, ap cache_over c.in-Some.is, refl, c.compact.ensures.rows);
  refused = λ not. absurd (not refl);
  why = λ not. absurd (not refl);
}

pub returns-in-Guarded-clause-why : goal.returns-in-Guarded-clause-why
returns-in-Guarded-clause-why c = λ no.
    inr (refl, c.in-Some.opened.cache, ap cache_over c.in-Some.is, c.compact.ensures.guarded.0 c.in-Guarded.is)
