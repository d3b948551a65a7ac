use Rattle.std.proofs.Common.{refl, ap, inl, inr, sym, subst}
use Rattle.shardcache_c.specs.Handles.{cache_over}
use Rattle.shardcache_c.proofs.Refused.{guarded}
use Rattle.std.specs.Prelude.{Option, length}
use Rattle.embedded_cache.specs.States.{EmbeddedState}
use Rattle.shardcache_c.specs.Refusals.{RefusesRead}
use Rattle.shardcache_c.proofs.exports.looks.read.Goals as goal

pub returns-clause-done : goal.returns-clause-done
returns-clause-done c = λ done. let row = c.copy.ensures.done done in
    (c.in-Some.opened.cache, c.copy.new.cache, ap cache_over c.in-Some.is, refl, c.copy.ensures.rows, row.0, row.1, row.2, row.3)

pub returns-clause-short : goal.returns-clause-short
returns-clause-short c = λ short. let row = c.copy.ensures.short short in
    (c.in-Some.opened.cache, ap cache_over c.in-Some.is, row.0, row.1, row.2, row.3)

pub returns-clause-missing : goal.returns-clause-missing
returns-clause-missing c = λ missing. (c.in-Some.opened.cache, ap cache_over c.in-Some.is, c.copy.ensures.missing missing)

pub returns-then-is_guarded-clause-why : goal.returns-then-is_guarded-clause-why
returns-then-is_guarded-clause-why c = λ no. inr (inr (inr (inl (guarded c.args.shard.now c.in-Some.is c.is_guarded.ensures c.if-is_guarded.true))))

pub returns-clause-why : goal.returns-clause-why
returns-clause-why c = λ no. subst (λ (cache : Option EmbeddedState). RefusesRead c.copy.result c.args.table c.args.key.now (length c.args.into.now) cache)
    (sym (ap cache_over c.in-Some.is)) (c.copy.ensures.why no)
