use Rattle.std.proofs.Common.{refl, ap, inl, inr}
use Rattle.shardcache_c.specs.Handles.{cache_over}
use Rattle.shardcache_c.proofs.Opens.{stays}
use Rattle.shardcache_c.proofs.Refused.{guarded, missing}
use Rattle.shardcache_c.proofs.exports.storing.patch.Goals as goal

pub returns-in-Patched-clause-done : goal.returns-in-Patched-clause-done
returns-in-Patched-clause-done c = λ done.
    (c.in-Some.opened.cache, c.patch.new.self, ap cache_over c.in-Some.is, refl, c.in-Patched.ensures.patched.3)

pub returns-in-Missing-clause-refused : goal.returns-in-Missing-clause-refused
returns-in-Missing-clause-refused c = λ refused.
    stays c.args.shard.now c.in-Some.opened _ c.in-Some.is refl (c.in-Missing.ensures.unchanged (λ clash. cc))

pub returns-in-Short-clause-refused : goal.returns-in-Short-clause-refused
returns-in-Short-clause-refused c = λ refused.
    stays c.args.shard.now c.in-Some.opened _ c.in-Some.is refl (c.in-Short.ensures.unchanged (λ clash. cc))

pub returns-then-is_guarded-clause-why : goal.returns-then-is_guarded-clause-why
returns-then-is_guarded-clause-why c = λ no. inr (inr (inr (inl (guarded c.args.shard.now c.in-Some.is c.is_guarded.ensures c.if-is_guarded.true))))

pub returns-in-Missing-clause-why : goal.returns-in-Missing-clause-why
returns-in-Missing-clause-why c = λ no. inr (inr (inr (inr (missing c.args.shard.now _ c.in-Some.is c.in-Missing.ensures.patched.0))))

pub returns-in-Short-clause-why : goal.returns-in-Short-clause-why
returns-in-Short-clause-why c = λ no. let row = c.in-Short.ensures.patched in
    inl (refl, c.in-Some.opened.cache, row.0, ap cache_over c.in-Some.is, row.1, row.2)
