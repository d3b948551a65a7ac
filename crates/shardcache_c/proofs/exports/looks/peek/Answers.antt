use Rattle.std.proofs.Common.{length, ap, inr}
use Rattle.shardcache_c.specs.Handles.{cache_over}
use Rattle.shardcache_c.proofs.Refused.{missing}
use Rattle.shardcache_c.proofs.exports.looks.peek.Goals as goal

pub returns-in_default-peek-clause-missing : goal.returns-in_default-peek-clause-missing
returns-in_default-peek-clause-missing c = λ missing. (c.in-Some.opened.cache, ap cache_over c.in-Some.is, c.in_default-peek.ensures)

pub returns-then-not-is_empty-clause-found : goal.returns-then-not-is_empty-clause-found
returns-then-not-is_empty-clause-found c = λ found. let row = c.in-Some-peek.ensures in
    (c.in-Some.opened.cache, ap cache_over c.in-Some.is, row.0, row.1, ap length row.2, row.3)

pub returns-else-not-is_empty-clause-found : goal.returns-else-not-is_empty-clause-found
returns-else-not-is_empty-clause-found c = λ found. let row = c.in-Some-peek.ensures in
    (c.in-Some.opened.cache, ap cache_over c.in-Some.is, row.0, row.1, ap length row.2, row.3)

pub returns-in_default-peek-clause-why : goal.returns-in_default-peek-clause-why
returns-in_default-peek-clause-why c = λ no. inr (inr (missing c.args.shard.now _ c.in-Some.is c.in_default-peek.ensures))
