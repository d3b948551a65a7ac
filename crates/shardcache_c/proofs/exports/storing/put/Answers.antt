use Rattle.std.proofs.Common.{refl, ap, inr}
use Rattle.shardcache_c.specs.Handles.{cache_over}
use Rattle.shardcache_c.proofs.Refused.{guarded}
use Rattle.shardcache_c.proofs.exports.storing.put.Goals as goal

pub returns-clause-done : goal.returns-clause-done
returns-clause-done c = λ done.
    (c.in-Some.opened.cache, c.put-answer.new.self, ap cache_over c.in-Some.is, refl, (c.put-answer.result, c.put-answer.ensures.put, refl, c.is_replaced.ensures))

pub returns-then-is_guarded-clause-why : goal.returns-then-is_guarded-clause-why
returns-then-is_guarded-clause-why c = λ no. inr (inr (inr (inr (guarded c.args.shard.now c.in-Some.is c.is_guarded.ensures c.if-is_guarded.true))))
