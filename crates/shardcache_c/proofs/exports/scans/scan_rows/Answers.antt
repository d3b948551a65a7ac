use Rattle.std.proofs.Common.{refl, ap, inr}
use Rattle.shardcache_c.specs.Handles.{cache_over}
use Rattle.shardcache_c.proofs.Opens.{stays}
use Rattle.shardcache_c.proofs.Refused.{guarded}
use Rattle.shardcache_c.proofs.exports.scans.scan_rows.Goals as goal

pub returns-clause-done : goal.returns-clause-done
returns-clause-done c = λ done. let e = c.scan_rows-scanned.ensures in (
  c.in-Some.opened.cache,
  ap cache_over c.in-Some.is,
  record {
    found = e.rows.0;
    are = e.rows.1;
    spelled = e.rows.2;
    within = e.within;
    behind = e.behind;
    all = e.all;
    short = e.short;
  },
)

pub returns-clause-unchanged : goal.returns-clause-unchanged
returns-clause-unchanged c = stays c.args.shard.now c.in-Some.opened _ c.in-Some.is refl c.scan_rows-scanned.ensures.unchanged

pub returns-then-is_guarded-clause-why : goal.returns-then-is_guarded-clause-why
returns-then-is_guarded-clause-why c = λ no. inr (inr (inr (guarded c.args.shard.now c.in-Some.is c.is_guarded.ensures c.if-is_guarded.true)))
