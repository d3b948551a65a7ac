use Rattle.std.proofs.Common.{refl, ap, inr, arith}
use Rattle.shardcache_c.specs.Handles.{cache_over}
use Rattle.shardcache_c.proofs.exports.guards.guard.Goals as goal

pub returns-clause-done : goal.returns-clause-done
returns-clause-done c = λ done. (c.in-Some.opened.cache, c.guard.new.self, ap cache_over c.in-Some.is, refl, c.guard.ensures.guards)

pub returns-then-guards-ge-MOST_GUARDS-clause-why : goal.returns-then-guards-ge-MOST_GUARDS-clause-why
returns-then-guards-ge-MOST_GUARDS-clause-why c = λ no.
    inr (inr (refl, c.in-Some.opened.cache, ap cache_over c.in-Some.is, omega (arith, c.guards.ensures, c.if-guards-ge-MOST_GUARDS.true)))
