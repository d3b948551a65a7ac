use Rattle.std.proofs.Common.{refl, ap, arith, inr, sym, ◌∙◌}
use Rattle.shardcache_c.specs.Handles.{cache_over}
use Rattle.shardcache_c.proofs.exports.guards.unguard.Goals as goal

pub returns-clause-done : goal.returns-clause-done
returns-clause-done c = λ done.
    (c.in-Some.opened.cache, c.unguard.new.self, ap cache_over c.in-Some.is, refl, c.unguard.ensures.guards, (let is = c.guards.ensures in let not = c.if-guards-eq0.false in omega (arith, is, not)))

pub returns-then-guards-eq0-clause-why : goal.returns-then-guards-eq0-clause-why
returns-then-guards-eq0-clause-why c = λ no.
    inr (inr (refl, c.in-Some.opened.cache, ap cache_over c.in-Some.is, sym c.guards.ensures ∙ c.if-guards-eq0.true))
