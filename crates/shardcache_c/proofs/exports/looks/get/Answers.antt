use Rattle.std.proofs.Common.{refl, ap, inl, inr}
use Rattle.shardcache_c.specs.Handles.{cache_over}
use Rattle.shardcache_c.proofs.Refused.{guarded, missing}
use Rattle.shardcache_c.proofs.exports.looks.get.Goals as goal

pub returns-then-find-clause-found : goal.returns-then-find-clause-found
returns-then-find-clause-found c = λ found. let row = c.find.ensures.found c.if-find.true in
    (c.in-Some.opened.cache, c.find.new.cache, ap cache_over c.in-Some.is, refl, c.find.ensures.rows, row.0, row.1, row.2, row.3)

pub returns-else-find-clause-missing : goal.returns-else-find-clause-missing
returns-else-find-clause-missing c = λ missing. (c.in-Some.opened.cache, ap cache_over c.in-Some.is, c.find.ensures.missing c.if-find.false)

pub returns-then-is_guarded-clause-why : goal.returns-then-is_guarded-clause-why
returns-then-is_guarded-clause-why c = λ no. inr (inr (inl (guarded c.args.shard.now c.in-Some.is c.is_guarded.ensures c.if-is_guarded.true)))

pub returns-else-find-clause-why : goal.returns-else-find-clause-why
returns-else-find-clause-why c = λ no. inr (inr (inr (missing c.args.shard.now _ c.in-Some.is (c.find.ensures.missing c.if-find.false))))
